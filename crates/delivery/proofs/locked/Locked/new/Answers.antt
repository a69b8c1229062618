use Rattle.std.proofs.Common.{sym, ◌∙◌, ap, subst, List, ◌++◌}
use Rattle.relay_types.specs.declared.record.Record.{Record}
use Rattle.relay_types.specs.Records.{records_of}
use Rattle.delivery.specs.Logs.{HasRecords}
use Rattle.delivery.proofs.SettledLaws.{begun, followed}
use Rattle.delivery.proofs.locked.Locked.new.Goals as goal

pub invariant_of-result : goal.invariant_of-result
invariant_of-result g c =
    let I = g.I.LogId in
    let waits = c.args.prefix ++ records_of c.args.desk.waiting.waiting in
    let all = c.follow.ensures ∙ ap (λ (s : List Record). followed s waits) c.new-staged.ensures in
    subst (λ (s : List Record). HasRecords I.is_base I.start c.args.desk c.args.prefix s) (sym all)
    (begun I.is_base I.start c.args.desk c.args.prefix c.requires.settled)
