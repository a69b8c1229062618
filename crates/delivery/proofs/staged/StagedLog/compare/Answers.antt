use Rattle.std.proofs.Common.{subst, List}
use mathlib.Core.List.{IsPrefix}
use Rattle.relay_types.specs.declared.record.Record.{Record}
use Rattle.delivery.specs.Logs.{change_of}
use Rattle.delivery.proofs.SettledLaws.{change_longer}
use Rattle.delivery.proofs.staged.StagedLog.compare.Goals as goal

pub returns-clause-has : goal.returns-clause-has
returns-clause-has g c =
    let change = c.change.inside in
    let staged = c.self.inside.writer in
    rw (← c.self.view_is)
    (rw (← c.change.view_is) (change_longer g.I.LogId.is_base (change_of change.ticket change.prefix) change.prefix
    staged
    (subst (λ (prefix : List Record). IsPrefix prefix staged) c.copy-copy.ensures.copy c.compare.ensures.begins)
    c.change.invariant))
