use Rattle.std.proofs.Common.{◌≡◌, ◌+◌, ◌++◌, ◌∙◌, Bool, true, List, ap, arith, get_or, length, refl, sym, subst, cond}
use Rattle.std.proofs.Common.{deque_capacity}
use Rattle.std.specs.Prelude.{count_by, is_ok}
use Rattle.std.proofs.lemmas.List.{length-map}
use Rattle.std.proofs.lemmas.List.Sums.{count_by-le-length}
use Rattle.relay_types.specs.declared.record.Record.TheVariants.{Accept}
use Rattle.relay_types.specs.Steps.{accepts}
use Rattle.delivery_book.specs.declared.entry.Entry.{Entry}
use Rattle.delivery_book.specs.Entries.{events_from, known_in}
use Rattle.delivery_book.specs.Fields.{AreNew, HasMoreKeys, HasRoomForAll, IsBook, in_state, is_counted, may_wait}
use Rattle.delivery_book.specs.Fields.{settled_among}
use Rattle.delivery_book.specs.Book.{StandsFor}
use Rattle.delivery_book.proofs.Books.{book-append, book-same}
use Rattle.delivery_book.proofs.EventEntries.{length-made, made_from, made_new}
use Rattle.delivery_book.proofs.Laws.{stands_accepts}
use Rattle.delivery_book.proofs.Updates.{counted_most}
use Rattle.delivery_book.proofs.book.DeliveryBook.stage_accepts.Goals as goal

-- the entries, with those of the events after them where there was room
taken_in : (entries reserved events more all : List Entry) (is_done : Bool)
    → all ≡ cond is_done (reserved ++ events) reserved → is_done ≡ true → reserved ≡ entries
    → events ≡ more → all ≡ entries ++ more
taken_in entries reserved events more all is_done is done same made =
    is ∙ (λ t. cond (done t) (same t ++ made t) (same t))

pub add_events-requires : goal.add_events-requires
add_events-requires c =
    let a = c.args in
    let b = c.self.inside in
    subst (AreNew b.index) (sym (c.deref-3.ensures.value ∙ c.in_ok-events.ensures))
    (made_new a.id a.body.now a.at b.index b.entries.items a.seq a.names.now c.self.invariant.keyed.indexed
    c.requires.apart
    (λ k d h. ap (λ v. known_in v (get_or a.names.now k d) a.id) c.self.view_is ∙ c.requires.unknown k d h))

pub add_settled-requires-clause-room : goal.add_settled-requires-clause-room
add_settled-requires-clause-room c = λ those asked.
    omega (
      arith,
      counted_most c.self.inside.tally (λ e. e.latest) c.self.inside.entries.items those asked c.self.invariant.latest,
      ap (in_state asked) (c.in_ok-open_all.ensures.same those),
      count_by-le-length (is_counted (λ e. e.settled) those asked) c.deref-4.result.now,
      c.deref-4.ensures.len,
      c.len-count.ensures,
      c.in_ok-reserve.ensures.ok,
      c.in_ok-reserve.ensures.len,
    )

pub invariant_of-self-in_err-open_all-2 : goal.invariant_of-self-in_err-open_all-2
invariant_of-self-in_err-open_all-2 c =
    let settled = c.open_all-2 in
    let queue = c.reserve-2 in
    let b = c.self.inside in
    subst
    (λ es. IsBook es b.index c.open_all.new.self settled.new.self queue.new.self.items
    (deque_capacity queue.new.self) b.next_seq b.settled_seq b.settled_entries b.next_purge)
    (sym c.in_ok-reserve.ensures.items)
    (subst
    (λ us. IsBook b.entries.items b.index c.open_all.new.self settled.new.self us
    (deque_capacity queue.new.self) b.next_seq b.settled_seq b.settled_entries b.next_purge)
    (sym c.in_ok-reserve-2.ensures.items)
    (book-same b.index b.index b.tally c.open_all.new.self b.settled_tally settled.new.self b.entries.items
    b.unsettled.items (deque_capacity b.unsettled) (deque_capacity queue.new.self) b.next_seq b.settled_seq
    b.settled_entries b.next_purge c.self.invariant (λ name id. refl) (λ those. c.in_ok-open_all.ensures.same those)
    (λ those. c.in_err-open_all-2.ensures.same those) (λ asked is. c.in_err-open_all-2.ensures.stays asked is)
    (omega (arith, c.self.invariant.queue.room, c.in_ok-reserve-2.ensures.capacity))))

pub invariant_of-self-in_err-add_events : goal.invariant_of-self-in_err-add_events
invariant_of-self-in_err-add_events c =
    let settled = c.open_all-2 in
    let queue = c.reserve-2 in
    let b = c.self.inside in
    subst
    (λ es. IsBook es c.add_events.new.index c.open_all.new.self settled.new.self queue.new.self.items
    (deque_capacity queue.new.self) b.next_seq b.settled_seq b.settled_entries b.next_purge)
    (sym c.in_ok-reserve.ensures.items)
    (subst
    (λ us. IsBook b.entries.items c.add_events.new.index c.open_all.new.self settled.new.self us
    (deque_capacity queue.new.self) b.next_seq b.settled_seq b.settled_entries b.next_purge)
    (sym c.in_ok-reserve-2.ensures.items)
    (book-same b.index c.add_events.new.index b.tally c.open_all.new.self b.settled_tally settled.new.self
    b.entries.items b.unsettled.items (deque_capacity b.unsettled) (deque_capacity queue.new.self) b.next_seq
    b.settled_seq b.settled_entries b.next_purge c.self.invariant (λ k. c.in_err-add_events.ensures.unchanged k)
    (λ those. c.in_ok-open_all.ensures.same those) (λ those. c.in_ok-open_all-2.ensures.same those)
    (λ asked is. c.in_ok-open_all-2.ensures.stays asked is)
    (omega (arith, c.self.invariant.queue.room, c.in_ok-reserve-2.ensures.capacity))))

pub invariant_of-self-2 : goal.invariant_of-self-2
invariant_of-self-2 c =
    let settled = c.open_all-2 in
    let queue = c.reserve-2 in
    let a = c.args in
    let b = c.self.inside in
    let more = events_from a.seq (accepts a.names.now a.id a.body.now a.at) in
    let made : c.in_ok-events.events.items ≡ more = c.in_ok-events.ensures in
    let count : c.len-count.result ≡ length more =
    c.len-count.ensures ∙ sym c.deref.ensures.len ∙ ap length (c.deref.ensures.value ∙ made) in
    subst
    (λ es. IsBook es c.add_events.new.index c.add_settled.new.tally settled.new.self queue.new.self.items
    (deque_capacity queue.new.self) (a.seq + c.len-count.result) b.settled_seq b.settled_entries b.next_purge)
    (sym (taken_in b.entries.items c.reserve.new.self.items c.in_ok-events.events.items more c.append.new.self.items
    (is_ok c.append.result) c.append.ensures.items
    (c.append.ensures.succeeds (omega (arith, c.in_ok-reserve.ensures.ok, c.len-count.ensures)))
    c.in_ok-reserve.ensures.items made))
    (subst
    (λ us. IsBook (b.entries.items ++ more) c.add_events.new.index c.add_settled.new.tally settled.new.self us
    (deque_capacity queue.new.self) (a.seq + c.len-count.result) b.settled_seq b.settled_entries b.next_purge)
    (sym c.in_ok-reserve-2.ensures.items)
    (subst
    (λ n. IsBook (b.entries.items ++ more) c.add_events.new.index c.add_settled.new.tally settled.new.self
    b.unsettled.items (deque_capacity queue.new.self) (a.seq + n) b.settled_seq b.settled_entries b.next_purge)
    (sym count)
    (book-append b.index c.add_events.new.index b.tally c.add_settled.new.tally b.settled_tally settled.new.self
    b.entries.items more b.unsettled.items (deque_capacity b.unsettled) (deque_capacity queue.new.self) b.next_seq
    b.settled_seq b.settled_entries a.seq b.next_purge c.self.invariant
    (omega (arith, c.requires.above, ap (λ v. v.next_seq) c.self.view_is))
    (made_from a.id a.body.now a.at a.seq a.names.now)
    (made_new a.id a.body.now a.at b.index b.entries.items a.seq a.names.now c.self.invariant.keyed.indexed
    c.requires.apart
    (λ k d h. ap (λ v. known_in v (get_or a.names.now k d) a.id) c.self.view_is ∙ c.requires.unknown k d h))
    (subst (λ es. HasMoreKeys b.index es c.add_events.new.index) (c.deref-3.ensures.value ∙ made)
    c.in_ok-add_events.ensures.added)
    (λ those asked. c.add_settled.ensures.more those asked
    ∙ (λ t. in_state asked (c.in_ok-open_all.ensures.same those t)
    + settled_among ((c.deref-4.ensures.value ∙ made) t) those asked))
    (λ those. c.in_ok-open_all-2.ensures.same those)
    (subst (HasRoomForAll settled.new.self) (c.deref-2.ensures.value ∙ made) c.in_ok-open_all-2.ensures.opened)
    (λ asked is. c.in_ok-open_all-2.ensures.stays asked is)
    (omega (
      arith,
      c.in_ok-reserve-2.ensures.ok,
      c.in_ok-reserve-2.ensures.len,
      c.len.ensures,
      ap (λ v. count_by may_wait v.entries) c.self.view_is,
      c.places-places.ensures.enough,
      count,
    )))))

pub returns-clause-accepted : goal.returns-clause-accepted
returns-clause-accepted c =
    let a = c.args in
    let made = c.in_ok-events.ensures in
    let records = accepts a.names.now a.id a.body.now a.at in
    let count : c.len-count.result ≡ length records =
    c.len-count.ensures ∙ sym c.deref.ensures.len ∙ ap length (c.deref.ensures.value ∙ made)
    ∙ length-made a.id a.body.now a.at a.seq a.names.now
    ∙ sym (length-map a.names.now (λ name. Accept name a.id a.body.now a.at)) in
    λ t. record {
      entries = (taken_in c.self.inside.entries.items c.reserve.new.self.items c.in_ok-events.events.items
          (events_from a.seq records) c.append.new.self.items (is_ok c.append.result) c.append.ensures.items
          (c.append.ensures.succeeds (omega (arith, c.in_ok-reserve.ensures.ok, c.len-count.ensures)))
          c.in_ok-reserve.ensures.items made
          ∙ ap (λ v. v.entries ++ events_from a.seq records) c.self.view_is) t;
      unsettled = (c.in_ok-reserve-2.ensures.items ∙ ap (λ v. v.unsettled) c.self.view_is) t;
      next_seq = a.seq + count t;
      settled_seq = ap (λ v. v.settled_seq) c.self.view_is t;
    }

pub returns-clause-stands : goal.returns-clause-stands
returns-clause-stands c =
    let a = c.args in
    let made = c.in_ok-events.ensures in
    let more = accepts a.names.now a.id a.body.now a.at in
    let count : c.len-count.result ≡ length more =
    c.len-count.ensures ∙ sym c.deref.ensures.len ∙ ap length (c.deref.ensures.value ∙ made)
    ∙ length-made a.id a.body.now a.at a.seq a.names.now
    ∙ sym (length-map a.names.now (λ name. Accept name a.id a.body.now a.at)) in
    λ records settled h number.
    subst
    (λ b. StandsFor b (records ++ more) settled)
    (sym (λ t. record {
      entries = (taken_in c.self.inside.entries.items c.reserve.new.self.items c.in_ok-events.events.items
          (events_from a.seq more) c.append.new.self.items (is_ok c.append.result) c.append.ensures.items
          (c.append.ensures.succeeds (omega (arith, c.in_ok-reserve.ensures.ok, c.len-count.ensures)))
          c.in_ok-reserve.ensures.items made
          ∙ ap (λ v. v.entries ++ events_from a.seq more) c.self.view_is) t;
      unsettled = (c.in_ok-reserve-2.ensures.items ∙ ap (λ v. v.unsettled) c.self.view_is) t;
      next_seq = a.seq + count t;
      settled_seq = ap (λ v. v.settled_seq) c.self.view_is t;
    }))
    (stands_accepts a.self.now records settled a.seq a.names.now a.id a.body.now a.at h number)
