use Rattle.std.proofs.Common.{◌*◌, ◌∙◌, arith, refl, sym}
use Rattle.std.proofs.lemmas.Bool.{ltb-true}
use Rattle.delivery_book.proofs.book.give_back.Goals as goal

pub returns-then-is_much : goal.returns-then-is_much
returns-then-is_much c = record {
  items = c.shrink_to.ensures.items;
  room = omega arith;
  kept = λ few.
      let much = ltb-true (4 * c.args.places) c.capacity.result (sym c.is_much.ensures ∙ c.if-is_much.true) in
      absurd (omega (arith, few, much));
}

pub returns-else-is_much : goal.returns-else-is_much
returns-else-is_much c = record { items = refl; room = omega arith; kept = λ few. refl }
