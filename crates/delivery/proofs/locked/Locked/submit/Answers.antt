use Rattle.std.proofs.Common.{sym, subst, List}
use Rattle.relay_types.specs.declared.record.Record.{Record}
use Rattle.delivery.specs.Logs.{HasRecords}
use Rattle.delivery.proofs.SettledLaws.{submitted}
use Rattle.delivery.proofs.locked.Locked.submit.Goals as goal

pub invariant_of-self : goal.invariant_of-self
invariant_of-self g c =
    let self = c.self.inside in
    let I = g.I.LogId in
    subst (λ (s : List Record). HasRecords I.is_base I.start c.submit.new.self self.prefix s) (sym c.follow.ensures)
    (submitted I.is_base I.start self.desk c.submit.new.self self.prefix self.staged c.self.invariant
    c.args.now c.args.name c.args.id c.args.body _ c.in-Ok.ensures.moves)

pub returns-in-Err-clause-moves : goal.returns-in-Err-clause-moves
returns-in-Err-clause-moves g c = rw (← c.self.view_is) (λ not_closing. c.in-Err.ensures.moves)
