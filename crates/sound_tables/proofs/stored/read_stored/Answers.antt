use Rattle.sound_tables.proofs.LookLemmas.{reads_both, reads_failed, reads_first}
use Rattle.sound_tables.proofs.VersionLemmas.{readable_own}
use Rattle.sound_tables.proofs.stored.read_stored.Goals as goal

pub returns-in_err-endpoints : goal.returns-in_err-endpoints
returns-in_err-endpoints g c = reads_first g.S.Store _ _ (readable_own c.args.version) c.in_err-endpoints.ensures _
    c.from_residual.result c.from_residual.ensures.1

pub returns-in_err-deliveries : goal.returns-in_err-deliveries
returns-in_err-deliveries g c =
    let told = c.from_residual-in_err-deliveries in
    reads_failed g.S.Store _ _ _ (readable_own c.args.version) c.in_ok-endpoints.ensures c.in_err-deliveries.ensures _
    told.result told.ensures.1

pub returns : goal.returns
returns g c =
    reads_both g.S.Store _ _ _ (readable_own c.args.version) c.in_ok-endpoints.ensures c.in_ok-deliveries.ensures _ _
    (λ db endpoints later. c.all_of.ensures c.args.version db endpoints later.0 later.1)
