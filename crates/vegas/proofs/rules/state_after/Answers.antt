use Rattle.std.proofs.Common.{◌≡◌, ◌≤◌, ◌<◌, inl, inr, subst}
use Rattle.std.specs.Prelude.{◌⊎◌}
use Rattle.vegas.proofs.VegasLaws.{probe-follows, low-follows, other-follows}
use Rattle.vegas.proofs.rules.state_after.Goals as goal
use Rattle.vegas.proofs.rules.state_after.Goals.{then-before-eq0-via-then-before-eq0}
use Rattle.vegas.proofs.rules.state_after.Goals.{then-before-eq0-via-else-before-eq0+then-round_trip-before}

pub returns-then-before-count-clause-follows : goal.returns-then-before-count-clause-follows
returns-then-before-count-clause-follows c = λ xs s.
    rw c.clamp-round_trip.ensures (probe-follows c.args.maximum c.args.before xs c.args.sample s c.if-before-count.true)

pub returns-then-before-eq0-clause-follows : goal.returns-then-before-eq0-clause-follows
returns-then-before-eq0-clause-follows c = λ xs s.
    let lower : (c.args.before.noload ≡ 0) ⊎ (c.clamp-round_trip.result < c.args.before.noload) =
    elim c.then-before-eq0.branch [
      | then-before-eq0-via-then-before-eq0 w ↦ inl w.if-before-eq0.true
      | then-before-eq0-via-else-before-eq0+then-round_trip-before w ↦ inr w.if-round_trip-before.true
    ] in
    rw c.clamp-round_trip.ensures
    (low-follows c.args.maximum c.args.before xs c.args.sample s c.if-before-count.false
    (subst (λ r. (c.args.before.noload ≡ 0) ⊎ (r < c.args.before.noload)) c.clamp-round_trip.ensures lower))

pub returns-clause-follows : goal.returns-clause-follows
returns-clause-follows c = λ xs s.
    rw (
      c.clamp.ensures,
      c.moved-limit.ensures.value,
      c.queue-waiting.ensures.value,
      c.clamp-round_trip.ensures,
      c.get.ensures.number,
    )
    (other-follows c.args.maximum c.args.before xs c.args.sample s c.if-before-count.false c.if-before-eq0.false
    (subst (λ r. c.args.before.noload ≤ r) c.clamp-round_trip.ensures c.if-round_trip-before.false))
