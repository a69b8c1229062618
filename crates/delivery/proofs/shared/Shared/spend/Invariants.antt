use Rattle.std.specs.Prelude.{◌≡◌}
use Rattle.delivery.proofs.shared.Shared.spend.Given as goal

-- what is handed in is the permit still
abbrev pub invariant-loop : goal.invariant-loop
invariant-loop g l = record {
  next : (goal.iterator-loop g).can_next l.iterator';
  finite : (goal.iterator-loop g).is_finite l.iterator';
  held : l.held ≡ l.initial.held;
}
