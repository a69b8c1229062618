use Rattle.std.proofs.Common.{sym, subst, List}
use Rattle.run_log.specs.Prefixes.{Agree}
use Rattle.relay_types.specs.declared.record.Record.{Record}
use Rattle.delivery.specs.Logs.{HasRecords}
use Rattle.delivery.proofs.SettledLaws.{settled}
use Rattle.delivery.proofs.locked.Locked.settle.Goals as goal

pub invariant_of-self : goal.invariant_of-self
invariant_of-self g c =
    let committed = c.committed.inside in
    let self = c.self.inside in
    let I = g.I.LogId in
    let agree : Agree committed.prefix self.prefix =
    subst (λ (s : List Record). Agree committed.prefix s) c.copy-seen.ensures.copy c.compare.ensures.agree in
    subst (λ (p : List Record). HasRecords I.is_base I.start c.settle.new.self p self.staged)
    (sym c.compare.ensures.same)
    (settled (Unit {0}) I.is_base I.start self.desk c.settle.new.self self.prefix self.staged self.desk.waiting.mark
    committed.receipt committed.prefix c.in-Ok.settled c.self.invariant c.committed.invariant agree
    c.in-Ok.ensures.moves)
