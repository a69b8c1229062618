use Rattle.std.proofs.Common.{◌≡◌, true, ◌∙◌, ap, sym, subst}
use Rattle.std.specs.List.{list_all}
use Rattle.delivery_book.specs.Entries.{BookValue, with_settled}
use Rattle.delivery_book.specs.Fields.{is_not_before}
use Rattle.delivery_book.specs.Book.{StandsFor}
use Rattle.delivery_book.proofs.Settling.{stepped_on, all_settled, looped, swept, unswept}
use Rattle.delivery_book.proofs.Laws.{stands_settled}
use Rattle.delivery_book.proofs.book.DeliveryBook.settle_to.Goals as goal
use Rattle.delivery_book.proofs.book.DeliveryBook.settle_to.Goals.{then-is_below, else-is_below}

pub loop-preserved : goal.loop-preserved
loop-preserved c = (stepped_on c.loop.self c.settle_outcome.new.self (sym c.settle_outcome.ensures.told
    ∙ c.loop-test.true) c.settle_outcome.ensures.value).0 ∙ c.loop.invariant

pub loop-smaller : goal.loop-smaller
loop-smaller c = (stepped_on c.loop.self c.settle_outcome.new.self (sym c.settle_outcome.ensures.told
    ∙ c.loop-test.true) c.settle_outcome.ensures.value).1

pub give_up_taken-requires : goal.give_up_taken-requires
give_up_taken-requires c =
    record {
      settled = ap (λ (b : BookValue). b.unsettled)
          (all_settled c.loop.self c.settle_outcome.new.self (sym c.settle_outcome.ensures.told ∙ c.loop-test.false)
          c.settle_outcome.ensures.value);
    }

pub returns : goal.returns
returns c =
    let settled = looped c.args.self.now c.settle_events.new.self c.loop.self c.settle_outcome.new.self c.args.seq
    c.settle_events.ensures c.loop.invariant (sym c.settle_outcome.ensures.told ∙ c.loop-test.false)
    c.settle_outcome.ensures.value in
    let value : c.give_back_places.new.self ≡ with_settled c.args.self.now c.args.seq =
    c.give_back_places.ensures ∙ elim c.if-is_below.branch [
      | then-is_below w ↦
          w.self-is ∙ w.give_up_taken.ensures ∙ swept c.args.self.now c.settle_outcome.new.self c.args.seq settled
      | else-is_below w ↦
          w.self-is
          ∙ unswept c.args.self.now c.settle_outcome.new.self c.args.seq c.self.inside.next_purge settled
          (sym c.is_below.ensures ∙ w.if-is_below.false)
          (subst (λ (b : BookValue). list_all (is_not_before c.self.inside.next_purge) b.entries ≡ true) c.self.view_is
          c.self.invariant.marks.first)
    ] in
    record {
      value = value;
      stands = λ records settled h l. subst (λ b. StandsFor b records c.args.seq) (sym value)
          (stands_settled c.args.self.now records settled c.args.seq h c.requires l);
    }
