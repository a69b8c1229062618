use Rattle.std.proofs.Common.{sym, subst, List}
use Rattle.relay_types.specs.declared.record.Record.{Record}
use Rattle.delivery.specs.Logs.{HasRecords}
use Rattle.delivery.proofs.SettledLaws.{spent}
use Rattle.delivery.proofs.locked.Locked.spend.Goals as goal

pub invariant_of-self : goal.invariant_of-self
invariant_of-self g c =
    let self = c.self.inside in
    let I = g.I.LogId in
    subst (λ (s : List Record). HasRecords I.is_base I.start c.spend.new.self self.prefix s) (sym c.follow.ensures)
    (spent I.is_base I.start self.desk c.spend.new.self self.prefix self.staged c.self.invariant
    (Unit {0}) _ c.args.post c.args.now c.in-Ok.spent c.in-Ok.ensures.moves)
