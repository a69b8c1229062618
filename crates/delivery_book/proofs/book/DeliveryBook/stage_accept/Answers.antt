use Rattle.std.proofs.Common.{◌≡◌, true, Some, ◌++◌, ◌∷◌, [], ◌+◌, ◌∙◌, ap, arith, refl, sym, subst, deque_capacity}
use Rattle.std.specs.Prelude.{count_by}
use Rattle.relay_types.specs.declared.record.Record.TheVariants.{Accept}
use Rattle.relay_types.specs.declared.state.State.TheVariants.{Pending}
use Rattle.delivery_book.specs.declared.entry.Entry.{Entry}
use Rattle.delivery_book.specs.Entries.{known_in, new_entry}
use Rattle.delivery_book.specs.Fields.{HasNumber, IsBook, has_room, in_state, may_wait, one_of}
use Rattle.delivery_book.specs.Book.{StandsFor}
use Rattle.delivery_book.proofs.Books.{book-push, book-same, unmapped}
use Rattle.delivery_book.proofs.Updates.{counted_most}
use Rattle.delivery_book.proofs.Laws.{stands_accept}
use Rattle.delivery_book.proofs.book.DeliveryBook.stage_accept.Goals as goal

pub invariant_of-self-in_err-open-2 : goal.invariant_of-self-in_err-open-2
invariant_of-self-in_err-open-2 c =
    let settled = c.open-2 in
    let queue = c.reserve-2 in
    let b = c.self.inside in
    subst
    (λ es. IsBook es b.index c.open.new.self settled.new.self queue.new.self.items
    (deque_capacity queue.new.self) b.next_seq b.settled_seq b.settled_entries b.next_purge)
    (sym c.in_ok-reserve.ensures.items)
    (subst
    (λ us. IsBook b.entries.items b.index c.open.new.self settled.new.self us (deque_capacity queue.new.self)
    b.next_seq b.settled_seq b.settled_entries b.next_purge)
    (sym c.in_ok-reserve-2.ensures.items)
    (book-same b.index b.index b.tally c.open.new.self b.settled_tally settled.new.self b.entries.items
    b.unsettled.items (deque_capacity b.unsettled) (deque_capacity queue.new.self) b.next_seq b.settled_seq
    b.settled_entries b.next_purge c.self.invariant (λ name id. refl)
    (λ those. c.in_ok-open.ensures.same those) (λ those. c.in_err-open-2.ensures.same those)
    (λ asked is. c.in_err-open-2.ensures.stays asked is)
    (omega (arith, c.self.invariant.queue.room, c.in_ok-reserve-2.ensures.capacity))))

pub invariant_of-self-in_err-insert : goal.invariant_of-self-in_err-insert
invariant_of-self-in_err-insert c =
    let settled = c.open-2 in
    let queue = c.reserve-2 in
    let b = c.self.inside in
    subst
    (λ es. IsBook es c.insert.new.self c.open.new.self settled.new.self queue.new.self.items
    (deque_capacity queue.new.self) b.next_seq b.settled_seq b.settled_entries b.next_purge)
    (sym c.in_ok-reserve.ensures.items)
    (subst
    (λ us. IsBook b.entries.items c.insert.new.self c.open.new.self settled.new.self us
    (deque_capacity queue.new.self) b.next_seq b.settled_seq b.settled_entries b.next_purge)
    (sym c.in_ok-reserve-2.ensures.items)
    (book-same b.index c.insert.new.self b.tally c.open.new.self b.settled_tally settled.new.self b.entries.items
    b.unsettled.items (deque_capacity b.unsettled) (deque_capacity queue.new.self) b.next_seq b.settled_seq
    b.settled_entries b.next_purge c.self.invariant
    (λ name id. c.in_err-insert.ensures.unchanged name id)
    (λ those. c.in_ok-open.ensures.same those) (λ those. c.in_ok-open-2.ensures.same those)
    (λ asked is. c.in_ok-open-2.ensures.stays asked is)
    (omega (arith, c.self.invariant.queue.room, c.in_ok-reserve-2.ensures.capacity))))

pub add-requires-clause-room : goal.add-requires-clause-room
add-requires-clause-room c = λ those among.
    omega (
      arith,
      counted_most c.self.inside.tally (λ e. e.latest) c.self.inside.entries.items those Pending
          c.self.invariant.latest,
      ap (in_state Pending) (c.in_ok-open.ensures.same those),
      c.in_ok-reserve.ensures.ok,
      c.in_ok-reserve.ensures.len,
    )

pub invariant_of-self-2 : goal.invariant_of-self-2
invariant_of-self-2 c =
    let settled = c.open-2 in
    let queue = c.reserve-2 in
    let a = c.args in
    let b = c.self.inside in
    let event : c.new-event.result ≡ new_entry a.seq a.name a.id a.body a.at = c.new-event.ensures
    ∙ (λ i. new_entry a.seq (c.in_ok-name.ensures i) (c.in_ok-id.ensures i) a.body a.at) in
    subst
    (λ es. IsBook es c.insert.new.self c.add.new.self settled.new.self queue.new.self.items
    (deque_capacity queue.new.self) (a.seq + 1) b.settled_seq b.settled_entries b.next_purge)
    (sym (c.push_reserved.ensures.items ∙ (λ i. c.in_ok-reserve.ensures.items i ++ event i ∷ [])))
    (subst
    (λ us. IsBook (b.entries.items ++ new_entry a.seq a.name a.id a.body a.at ∷ []) c.insert.new.self c.add.new.self
    settled.new.self us (deque_capacity queue.new.self) (a.seq + 1) b.settled_seq b.settled_entries
    b.next_purge)
    (sym c.in_ok-reserve-2.ensures.items)
    (book-push b.index c.insert.new.self b.tally c.add.new.self b.settled_tally settled.new.self b.entries.items
    b.unsettled.items (deque_capacity b.unsettled) (deque_capacity queue.new.self) b.next_seq b.settled_seq
    b.settled_entries a.seq b.next_purge a.name a.id a.body a.at c.self.invariant
    (omega (arith, c.requires.above, ap (λ v. v.next_seq) c.self.view_is))
    (unmapped _ (ap (λ v. known_in v a.name a.id) c.self.view_is ∙ c.requires.unknown))
    (subst (λ (e : Entry). HasNumber b.index e.name e.id (Some a.seq) c.insert.new.self) event
    c.in_ok-insert.ensures.added)
    (λ those asked. c.add.ensures.more those asked
    ∙ (λ i. in_state asked (c.in_ok-open.ensures.same those i) + one_of (event i).name Pending those asked))
    (λ those. c.in_ok-open-2.ensures.same those)
    (subst (λ (e : Entry). has_room settled.new.self e.name ≡ true) event c.in_ok-open-2.ensures.opened)
    (λ asked is. c.in_ok-open-2.ensures.stays asked is)
    (omega (
      arith,
      c.in_ok-reserve-2.ensures.ok,
      c.in_ok-reserve-2.ensures.len,
      c.len.ensures,
      ap (λ v. count_by may_wait v.entries) c.self.view_is,
      c.places-places.ensures.enough,
    ))))

pub returns-clause-stands : goal.returns-clause-stands
returns-clause-stands c =
    let a = c.args in
    let event : c.new-event.result ≡ new_entry a.seq a.name a.id a.body a.at = c.new-event.ensures
    ∙ (λ i. new_entry a.seq (c.in_ok-name.ensures i) (c.in_ok-id.ensures i) a.body a.at) in
    λ records settled h number.
    subst
    (λ b. StandsFor b (records ++ Accept a.name a.id a.body a.at ∷ []) settled)
    (sym (λ i. record {
      entries = (c.push_reserved.ensures.items
          ∙ (λ j. (c.in_ok-reserve.ensures.items ∙ ap (λ v. v.entries) c.self.view_is) j ++ event j ∷ [])) i;
      unsettled = (c.in_ok-reserve-2.ensures.items ∙ ap (λ v. v.unsettled) c.self.view_is) i;
      next_seq = a.seq + 1;
      settled_seq = ap (λ v. v.settled_seq) c.self.view_is i;
    }))
    (stands_accept a.self.now records settled a.seq a.name a.id a.body a.at h number)
