use Rattle.std.proofs.Common.{◌≡◌, false, ◌∙◌, ap, sym, take}
use Rattle.std.proofs.lemmas.Bool.{and_left, and_right}
use Rattle.relay_types.proofs.KnownLaws.{and_both}
use Rattle.delivery_book.specs.contracts.book.DeliveryBook.{the_view}
use Rattle.delivery_book.specs.Entries.{BookValue, is_entry_as, is_left, known_settled_in}
use Rattle.delivery_book.proofs.Entries.{first_below}
use Rattle.delivery_book.proofs.Known.{is_left_as, taken_here, taken_none, find-more}
use Rattle.delivery_book.proofs.book.DeliveryBook.find_taken.Goals as goal
use Rattle.delivery_book.proofs.book.DeliveryBook.find_taken.Goals.{else-is_event-via-then-is_event+else-is_left}
use Rattle.delivery_book.proofs.book.DeliveryBook.find_taken.Goals.{else-is_event-via-else-is_event}

pub loop-entry-preserved : goal.loop-entry-preserved
loop-entry-preserved c =
    let fails : is_left_as c.args.name c.args.id.now c.self.inside.settled_seq c.entry-item.result ≡ false =
    elim c.else-is_event.branch [
      | else-is_event-via-then-is_event+else-is_left w ↦ and_right
          (is_entry_as c.args.name c.args.id.now c.entry-item.result) _ (sym w.is_left.ensures ∙ w.if-is_left.false)
      | else-is_event-via-else-is_event w ↦ and_left _ (is_left c.self.inside.settled_seq c.entry-item.result)
          (sym c.is_event.ensures ∙ w.if-is_event.false)
    ] in
    find-more (is_left_as c.args.name c.args.id.now c.self.inside.settled_seq)
    (take c.self.inside.settled_entries c.deref.result.now) c.loop-entry.entry-index c.entry-item.result
    c.loop-entry-test.true c.entry-item.is c.loop-entry.invariant fails

pub returns-then-is_left : goal.returns-then-is_left
returns-then-is_left c =
    taken_here (the_view c.self.inside) c.args.name c.args.id.now c.self.inside.settled_entries c.loop-entry.entry-index
    (take c.self.inside.settled_entries c.deref.result.now) c.entry-item.result
    (ap (take c.self.inside.settled_entries) c.deref.ensures.value)
    (first_below _ _ _ c.self.invariant.keyed.settled_within c.self.invariant.keyed.settled_below
    c.self.invariant.keyed.settled_above)
    c.loop-entry-test.true c.entry-item.is c.loop-entry.invariant
    (and_both _ _ (sym c.is_event.ensures ∙ c.if-is_event.true) (sym c.is_left.ensures ∙ c.if-is_left.true))
    ∙ ap (λ (b : BookValue). known_settled_in b c.args.name c.args.id.now) c.self.view_is

pub returns : goal.returns
returns c =
    taken_none (the_view c.self.inside) c.args.name c.args.id.now c.self.inside.settled_entries c.loop-entry.entry-index
    (take c.self.inside.settled_entries c.deref.result.now)
    (ap (take c.self.inside.settled_entries) c.deref.ensures.value)
    (first_below _ _ _ c.self.invariant.keyed.settled_within c.self.invariant.keyed.settled_below
    c.self.invariant.keyed.settled_above)
    c.loop-entry-test.false c.loop-entry.invariant
    ∙ ap (λ (b : BookValue). known_settled_in b c.args.name c.args.id.now) c.self.view_is
