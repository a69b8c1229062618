use Rattle.std.proofs.Common.{◌<◌, ◌∙◌, ℕ, List, ap, refl, subst, sym}
use Rattle.relay_types.specs.declared.record.Record.{Record}
use Rattle.desk.specs.Desks.{DeskValue}
use Rattle.delivery.specs.Logs.{ChangeValue, HasChange}
use Rattle.delivery.specs.LockedState.{LockedValue}
use Rattle.intake_shed.proofs.confirmed.Confirmed.of.Goals as goal

pub invariant_of-result : goal.invariant_of-result
invariant_of-result g c =
    let is_base = g.I.LogId.is_base in
    let settled = c.args.locked.now.desk.waiting.settled in
    let below : c.args.change.seq < settled =
    subst (λ (n : ℕ). n < settled) c.ticket.ensures
    (subst (λ (d : DeskValue). c.ticket.result.seq < d.waiting.settled) c.desk.ensures
    (c.if-not-is_settled.ensures.0 refl)) in
    let prefix = c.settled_prefix-prefix.ensures.prefix ∙ ap (λ (l : LockedValue). l.prefix) c.compare.ensures.same in
    subst (λ (v : ChangeValue). HasChange is_base v c.settled_prefix-prefix.result) (sym c.compare.ensures.change)
    (subst (λ (p : List Record). HasChange is_base c.args.change p) (sym prefix) (c.compare.ensures.logged below))
