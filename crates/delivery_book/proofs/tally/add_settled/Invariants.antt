use Rattle.std.proofs.Common.{◌≡◌, ℕ, ◌+◌, true, List, Option, take}
use Rattle.std.specs.Prelude.{count_by}
use Rattle.relay_types.specs.declared.state.State.{State}
use Rattle.delivery_book.specs.Fields.{in_state, counts_for, has_room, is_counted}
use Rattle.delivery_book.proofs.tally.add_settled.Given as goal

abbrev pub invariant-loop-entry : goal.invariant-loop-entry
invariant-loop-entry l = record {
  more : (those : Option (List ℕ)) (asked : State) → in_state asked (counts_for l.tally those) ≡ in_state asked
      (counts_for l.initial.tally those) + count_by (is_counted (λ e. e.settled) those asked)
      (take l.entry-index l.entries);
  stays : (asked : List ℕ) → has_room l.initial.tally asked ≡ true → has_room l.tally asked ≡ true;
}
