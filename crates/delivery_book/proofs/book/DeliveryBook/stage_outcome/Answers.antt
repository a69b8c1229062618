use Rattle.std.proofs.Common.{◌≡◌, ◌++◌, ◌∷◌, [], ◌+◌, ◌∙◌, None, false, true, get_or, map, set, ap, arith, sym, subst}
use Rattle.std.proofs.Common.{deque_capacity}
use Rattle.std.specs.Option.{option_map_or}
use Rattle.relay_types.specs.declared.record.Record.TheVariants.{Outcome}
use Rattle.delivery_book.specs.Entries.{BookValue, with_attempt, at_delivery, entry_at, takes_outcome, is_open}
use Rattle.delivery_book.specs.Entries.{state_in, progress_after}
use Rattle.delivery_book.specs.Fields.{IsBook, is_numbered, in_state, counts_for, one_of}
use Rattle.delivery_book.specs.Book.{StandsFor}
use Rattle.delivery_book.proofs.Books.{below}
use Rattle.delivery_book.proofs.Entries.{entry_at-none}
use Rattle.delivery_book.proofs.Updates.{all_at, found_in, set_is}
use Rattle.delivery_book.proofs.Outcomes.{book-outcome, room_for}
use Rattle.delivery_book.proofs.Laws.{stands_outcome}
use Rattle.delivery_book.proofs.book.DeliveryBook.stage_outcome.Goals as goal

pub push_back_reserved-requires : goal.push_back_reserved-requires
push_back_reserved-requires c =
    let a = c.args in
    let b = c.self.inside in
    let x = c.index_mut-entry.result.now in
    let found = c.index_of-index.ensures in
    let there = found_in c.deref.result.now b.entries.items c.index_of-index.result a.delivery x c.deref.ensures.value
    found.within (λ d. found.found d) (λ d. found.number d) c.index_mut-entry.ensures.value in
    let free : is_open x ≡ true = sym (ap (λ o. option_map_or is_open o false) there.2)
    ∙ ap (λ v. takes_outcome v a.delivery) c.self.view_is ∙ c.requires.free in
    omega (
      arith,
      room_for b.entries.items b.unsettled.items (deque_capacity b.unsettled) c.index_of-index.result x
          c.self.invariant.queue there.0 c.index_mut-entry.ensures.value free,
    )

pub invariant_of-self : goal.invariant_of-self
invariant_of-self c =
    let a = c.args in
    let b = c.self.inside in
    let i = c.index_of-index.result in
    let x = c.index_mut-entry.result.now in
    let found = c.index_of-index.ensures in
    let there = found_in c.deref.result.now b.entries.items i a.delivery x c.deref.ensures.value found.within
    (λ d. found.found d) (λ d. found.number d) c.index_mut-entry.ensures.value in
    let free : is_open x ≡ true = sym (ap (λ o. option_map_or is_open o false) there.2)
    ∙ ap (λ v. takes_outcome v a.delivery) c.self.view_is ∙ c.requires.free in
    let after : c.after-entry.result ≡ progress_after a.status a.at x.latest = c.after-entry.ensures in
    subst
    (λ latest. IsBook (set b.entries.items i (record x { latest = latest })) b.index c.add.new.self b.settled_tally
    c.push_back_reserved.new.self.items (deque_capacity c.push_back_reserved.new.self) (a.seq + 1) b.settled_seq
    b.settled_entries b.next_purge)
    (sym after)
    (subst
    (λ us. IsBook (set b.entries.items i (with_attempt a.status a.at x)) b.index c.add.new.self b.settled_tally us
    (deque_capacity c.push_back_reserved.new.self) (a.seq + 1) b.settled_seq b.settled_entries b.next_purge)
    (sym c.push_back_reserved.ensures.items)
    (subst
    (λ room. IsBook (set b.entries.items i (with_attempt a.status a.at x)) b.index c.add.new.self b.settled_tally
    (b.unsettled.items ++ record { seq = a.seq; delivery = a.delivery } ∷ []) room (a.seq + 1) b.settled_seq
    b.settled_entries b.next_purge)
    (sym c.push_back_reserved.ensures.capacity)
    (book-outcome b.index b.tally c.remove.new.self c.add.new.self b.settled_tally b.entries.items b.unsettled.items
    (deque_capacity b.unsettled) b.next_seq b.settled_seq b.settled_entries b.next_purge a.seq a.delivery a.status
    a.at i x c.self.invariant
    (omega (arith, c.requires.above, ap (λ v. v.next_seq) c.self.view_is)) there.0
    c.index_mut-entry.ensures.value there.1 free
    (λ those asked. ap (λ s. in_state asked (counts_for c.remove.new.self those) + one_of x.name s those asked)
    (sym c.state-before.ensures) ∙ sym (c.remove.ensures.less those asked))
    (λ those asked. c.add.ensures.more those asked
    ∙ ap (λ s. in_state asked (counts_for c.remove.new.self those) + one_of x.name s those asked)
    (c.state.ensures ∙ ap state_in after)))))

pub returns-clause-unused : goal.returns-clause-unused
returns-clause-unused c =
    let b = c.self.inside in
    subst (λ (v : BookValue). entry_at v.entries c.args.seq ≡ None) c.self.view_is
    (entry_at-none b.entries.items c.args.seq (λ k d h same. absurd (omega (
      arith,
      same,
      c.requires.above,
      ap (λ (v : BookValue). v.next_seq) c.self.view_is,
      (below b.next_seq (get_or b.entries.items k d)
          (all_at (is_numbered b.next_seq) b.entries.items k d h c.self.invariant.keyed.numbered)).0,
    ))))

pub returns-clause-value : goal.returns-clause-value
returns-clause-value c =
    let a = c.args in
    let b = c.self.inside in
    let i = c.index_of-index.result in
    let x = c.index_mut-entry.result.now in
    let found = c.index_of-index.ensures in
    let there = found_in c.deref.result.now b.entries.items i a.delivery x c.deref.ensures.value found.within
    (λ d. found.found d) (λ d. found.number d) c.index_mut-entry.ensures.value in
    λ j. record {
      entries = ((λ k. set b.entries.items i
          (record x { latest = c.after-entry.ensures k }))
          ∙ set_is a.delivery i (with_attempt a.status a.at) b.entries.items x c.self.invariant.keyed.ascending there.0
          c.index_mut-entry.ensures.value there.1
          ∙ ap (λ v. map (at_delivery a.delivery (with_attempt a.status a.at)) v.entries) c.self.view_is) j;
      unsettled = (c.push_back_reserved.ensures.items
          ∙ ap (λ v. v.unsettled ++ record { seq = a.seq; delivery = a.delivery } ∷ []) c.self.view_is) j;
      next_seq = a.seq + 1;
      settled_seq = ap (λ v. v.settled_seq) c.self.view_is j;
    }

pub returns-clause-stands : goal.returns-clause-stands
returns-clause-stands c =
    let a = c.args in
    let b = c.self.inside in
    let i = c.index_of-index.result in
    let x = c.index_mut-entry.result.now in
    let found = c.index_of-index.ensures in
    let there = found_in c.deref.result.now b.entries.items i a.delivery x c.deref.ensures.value found.within
    (λ d. found.found d) (λ d. found.number d) c.index_mut-entry.ensures.value in
    λ attempt records settled h number.
    subst
    (λ v. StandsFor v (records ++ Outcome a.delivery attempt a.status a.at ∷ []) settled)
    (sym (λ j. record {
      entries = ((λ k. set b.entries.items i
          (record x { latest = c.after-entry.ensures k }))
          ∙ set_is a.delivery i (with_attempt a.status a.at) b.entries.items x c.self.invariant.keyed.ascending there.0
          c.index_mut-entry.ensures.value there.1
          ∙ ap (λ v. map (at_delivery a.delivery (with_attempt a.status a.at)) v.entries) c.self.view_is) j;
      unsettled = (c.push_back_reserved.ensures.items
          ∙ ap (λ v. v.unsettled ++ record { seq = a.seq; delivery = a.delivery } ∷ []) c.self.view_is) j;
      next_seq = a.seq + 1;
      settled_seq = ap (λ v. v.settled_seq) c.self.view_is j;
    }))
    (stands_outcome a.self.now records settled a.seq a.delivery attempt a.status a.at h number c.requires.free)
