use Rattle.std.proofs.Common.{◌≡◌, ◌∷◌, ◌+◌, ◌<◌, ◌∙◌, take, set, refl, ap, arith, sym, subst, deque_capacity}
use Rattle.std.specs.Prelude.{unwrap_or}
use Rattle.std.specs.List.{list_all}
use Rattle.std.proofs.lemmas.List.{length-take-le, get_or-take}
use Rattle.delivery_book.specs.Entries.{BookValue, with_latest_settled, settle_first, state_in}
use Rattle.delivery_book.specs.Fields.{IsBook, in_state, counts_for, one_of, is_later}
use Rattle.delivery_book.proofs.Updates.{found_in, set_is, counted_there, room_after}
use Rattle.delivery_book.proofs.Outcomes.{book-settle, front_is, first_settled}
use Rattle.delivery_book.proofs.Settling.{settle_first_is}
use Rattle.delivery_book.proofs.book.DeliveryBook.settle_outcome.Goals as goal

pub remove-requires : goal.remove-requires
remove-requires c =
    let b = c.self.inside in
    let i = c.index_of-index.result in
    let o = c.in-Some.outcome.now in
    let x = c.index_mut-entry.result.now in
    let found = c.index_of-index.ensures in
    let there = found_in c.deref.result.now b.entries.items i o.delivery x c.deref.ensures.value found.within
    (λ d. found.found d) (λ d. found.number d) c.index_mut-entry.ensures.value in
    let front : b.unsettled.items ≡ o ∷ c.pop_front.new.self.items = front_is b.unsettled.items
    c.pop_front.new.self.items o c.pop_front.result c.pop_front.ensures.items
    (c.pop_front.ensures.value o (c.in-Some.ensures.variant.0 refl)) c.in-Some.ensures.lookup in
    let first : i < b.settled_entries = first_settled b.entries.items b.index o c.pop_front.new.self.items b.next_seq
    b.settled_seq b.settled_entries i x c.self.invariant.keyed (ap (list_all (is_later b.entries.items)) (sym front)
    ∙ c.self.invariant.queue.later) c.if-outcome-self.true there.0 c.index_mut-entry.ensures.value there.1 in
    record {
      known = λ those among. subst (λ state. 0 < in_state state (counts_for b.settled_tally those))
          (sym c.state-before.ensures)
          (counted_there b.settled_tally (λ e. e.settled) (take b.settled_entries b.entries.items) i x those
          (omega (
            arith,
            first,
            length-take-le b.settled_entries b.entries.items
                c.self.invariant.keyed.settled_within,
          ))
          (c.index_mut-entry.ensures.value ∙ sym (get_or-take b.settled_entries b.entries.items i x first))
          c.self.invariant.settled among);
    }

pub add-requires-clause-room : goal.add-requires-clause-room
add-requires-clause-room c = λ those among.
    let b = c.self.inside in
    let i = c.index_of-index.result in
    let o = c.in-Some.outcome.now in
    let x = c.index_mut-entry.result.now in
    let found = c.index_of-index.ensures in
    let there = found_in c.deref.result.now b.entries.items i o.delivery x c.deref.ensures.value found.within
    (λ d. found.found d) (λ d. found.number d) c.index_mut-entry.ensures.value in
    let front : b.unsettled.items ≡ o ∷ c.pop_front.new.self.items = front_is b.unsettled.items
    c.pop_front.new.self.items o c.pop_front.result c.pop_front.ensures.items
    (c.pop_front.ensures.value o (c.in-Some.ensures.variant.0 refl)) c.in-Some.ensures.lookup in
    let first : i < b.settled_entries = first_settled b.entries.items b.index o c.pop_front.new.self.items b.next_seq
    b.settled_seq b.settled_entries i x c.self.invariant.keyed (ap (list_all (is_later b.entries.items)) (sym front)
    ∙ c.self.invariant.queue.later) c.if-outcome-self.true there.0 c.index_mut-entry.ensures.value there.1 in
    let fits = length-take-le b.settled_entries b.entries.items c.self.invariant.keyed.settled_within in
    let state : c.state.result ≡ state_in x.latest = c.state.ensures in
    omega (
      arith,
      ap (λ st. in_state st (counts_for c.remove.new.self those)) state,
      fits,
      room_after b.settled_tally c.remove.new.self (λ e. e.settled) (take b.settled_entries b.entries.items) i x
          (with_latest_settled x) those (omega (arith, first, fits))
          (c.index_mut-entry.ensures.value ∙ sym (get_or-take b.settled_entries b.entries.items i x first))
          among c.self.invariant.settled
          (ap (λ s. in_state (state_in x.latest) (counts_for c.remove.new.self those)
          + one_of x.name s those (state_in x.latest)) (sym c.state-before.ensures)
          ∙ sym (c.remove.ensures.less those (state_in x.latest))),
    )

pub invariant_of-self : goal.invariant_of-self
invariant_of-self c =
    let b = c.self.inside in
    let i = c.index_of-index.result in
    let o = c.in-Some.outcome.now in
    let x = c.index_mut-entry.result.now in
    let found = c.index_of-index.ensures in
    let there = found_in c.deref.result.now b.entries.items i o.delivery x c.deref.ensures.value found.within
    (λ d. found.found d) (λ d. found.number d) c.index_mut-entry.ensures.value in
    let front : b.unsettled.items ≡ o ∷ c.pop_front.new.self.items = front_is b.unsettled.items
    c.pop_front.new.self.items o c.pop_front.result c.pop_front.ensures.items
    (c.pop_front.ensures.value o (c.in-Some.ensures.variant.0 refl)) c.in-Some.ensures.lookup in
    let first : i < b.settled_entries = first_settled b.entries.items b.index o c.pop_front.new.self.items b.next_seq
    b.settled_seq b.settled_entries i x c.self.invariant.keyed (ap (list_all (is_later b.entries.items)) (sym front)
    ∙ c.self.invariant.queue.later) c.if-outcome-self.true there.0 c.index_mut-entry.ensures.value there.1 in
    subst
    (λ room. IsBook (set b.entries.items i (with_latest_settled x)) b.index b.tally c.add.new.self
    c.pop_front.new.self.items room b.next_seq b.settled_seq b.settled_entries b.next_purge)
    (sym c.pop_front.ensures.capacity)
    (book-settle b.index b.tally b.settled_tally c.remove.new.self c.add.new.self b.entries.items o
    c.pop_front.new.self.items (deque_capacity b.unsettled) b.next_seq b.settled_seq b.settled_entries i
    b.next_purge x
    (subst (λ us. IsBook b.entries.items b.index b.tally b.settled_tally us (deque_capacity b.unsettled) b.next_seq
    b.settled_seq b.settled_entries b.next_purge) front c.self.invariant)
    first c.index_mut-entry.ensures.value there.1
    (λ those asked. ap (λ s. in_state asked (counts_for c.remove.new.self those) + one_of x.name s those asked)
    (sym c.state-before.ensures) ∙ sym (c.remove.ensures.less those asked))
    (λ those asked. c.add.ensures.more those asked
    ∙ ap (λ s. in_state asked (counts_for c.remove.new.self those) + one_of x.name s those asked) c.state.ensures)
    (λ asked is. c.add.ensures.stays asked (c.remove.ensures.stays asked is)))

pub returns-clause-value : goal.returns-clause-value
returns-clause-value c =
    let b = c.self.inside in
    let i = c.index_of-index.result in
    let o = c.in-Some.outcome.now in
    let x = c.index_mut-entry.result.now in
    let found = c.index_of-index.ensures in
    let there = found_in c.deref.result.now b.entries.items i o.delivery x c.deref.ensures.value found.within
    (λ d. found.found d) (λ d. found.number d) c.index_mut-entry.ensures.value in
    let front : b.unsettled.items ≡ o ∷ c.pop_front.new.self.items = front_is b.unsettled.items
    c.pop_front.new.self.items o c.pop_front.result c.pop_front.ensures.items
    (c.pop_front.ensures.value o (c.in-Some.ensures.variant.0 refl)) c.in-Some.ensures.lookup in
    let old : BookValue = record {
      entries = b.entries.items;
      unsettled = b.unsettled.items;
      next_seq =
          b.next_seq;
      settled_seq = b.settled_seq;
    } in
    (λ j. record old {
      entries = (set_is o.delivery i with_latest_settled b.entries.items x c.self.invariant.keyed.ascending there.0
          c.index_mut-entry.ensures.value there.1) j;
      unsettled = c.pop_front.new.self.items;
    })
    ∙ sym (ap (λ r. unwrap_or r old) (settle_first_is old o c.pop_front.new.self.items front c.if-outcome-self.true))
    ∙ ap (λ (v : BookValue). unwrap_or (settle_first v v.unsettled) v) c.self.view_is
