use Rattle.std.proofs.Common.{◌≡◌, ◌∙◌, [], None, ap, arith, refl, subst, sym, deque_capacity}
use Rattle.relay_types.specs.declared.state.State.{State}
use Rattle.relay_types.specs.declared.state.State.TheVariants.{Pending, Delivered, Exhausted}
use Rattle.delivery_book.specs.Fields.{IsBook, in_state, no_counts}
use Rattle.delivery_book.proofs.book.DeliveryBook.new.Goals as goal

none : (state : State) → in_state state no_counts ≡ 0
none Pending = refl
none Delivered = refl
none Exhausted = refl

pub invariant_of-result : goal.invariant_of-result
invariant_of-result c =
    subst
    (λ es. IsBook es c.new-2.result c.new-5.result c.new-6.result c.new-4.result.items (deque_capacity c.new-4.result)
    0 0 0 None)
    (sym c.new.ensures.items)
    (subst
    (λ us. IsBook [] c.new-2.result c.new-5.result c.new-6.result us (deque_capacity c.new-4.result) 0 0 0 None)
    (sym c.new-4.ensures.items)
    (record {
      keyed = record {
        ascending = λ i j d lt m. absurd (omega (arith, m));
        numbered = refl;
        settled_next = omega arith;
        indexed = c.new-2.ensures;
        settled_within = omega arith;
        settled_below = λ k d m. absurd (omega (arith, m));
        settled_above = λ k d from m. absurd (omega (arith, m));
      };
      latest = λ those asked. ap (in_state asked) (c.new-5.ensures those) ∙ none asked;
      settled = λ those asked. ap (in_state asked) (c.new-6.ensures those) ∙ none asked;
      opened = refl;
      queue = record { later = refl; counted = omega arith; caught_up = tt; in_turn = refl; room = omega arith };
      order = record { rising = λ i j d lt m. absurd (omega (arith, m)); below = refl };
      marks = record { apart = λ i j d lt m. absurd (omega (arith, m)); taken = refl; first = refl; named = tt };
    }))
