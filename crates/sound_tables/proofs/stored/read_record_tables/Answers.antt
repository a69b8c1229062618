use Rattle.std.proofs.Common.{Ok, Err}
use Rattle.sound_tables.specs.Checks.{TellsTopics}
use Rattle.sound_tables.proofs.LookLemmas.{reads_both, reads_failed, reads_first, since}
use Rattle.sound_tables.proofs.VersionLemmas.{readable_own}
use Rattle.sound_tables.proofs.stored.read_record_tables.Goals as goal

pub returns-in_err-deliveries : goal.returns-in_err-deliveries
returns-in_err-deliveries g c = reads_first g.S.Store _ _ (readable_own c.args.version) c.in_err-deliveries.ensures _
    c.from_residual.result c.from_residual.ensures.1

pub returns-in_err-topics : goal.returns-in_err-topics
returns-in_err-topics g c =
    let own = readable_own c.args.version in
    let first = c.in_ok-deliveries.ensures in
    let later = c.in_err-topics.ensures in
    let told = c.from_residual-in_err-topics in
    reads_failed g.S.Store _ _ _ own first
    (since g.S.Store _ _ _ own first (TellsTopics c.args.version) (Err c.in_err-topics.field-0.0) later.looks
    later.found later.same later.fault) _ told.result told.ensures.1

pub returns : goal.returns
returns g c =
    let own = readable_own c.args.version in
    let first = c.in_ok-deliveries.ensures in
    let later = c.in_ok-topics.ensures in
    reads_both g.S.Store _ _ _ own first
    (since g.S.Store _ _ _ own first (TellsTopics c.args.version) (Ok c.in_ok-topics.topics) later.looks later.found
    later.same later.fault) _ _ (λ db events topics. (events, topics))
