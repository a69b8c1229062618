use Rattle.std.proofs.Common.{◌+◌, ◌∙◌, map, set, ap, sym, subst, deque_capacity}
use Rattle.delivery_book.specs.Entries.{with_attempt_restored, at_delivery, entry_at, state_in}
use Rattle.delivery_book.specs.Fields.{IsBook, in_state, counts_for, one_of}
use Rattle.delivery_book.proofs.Updates.{found_in, set_is}
use Rattle.delivery_book.proofs.Outcomes.{book-restored, restorable_means}
use Rattle.delivery_book.proofs.book.DeliveryBook.restore_outcome.Goals as goal

pub invariant_of-self : goal.invariant_of-self
invariant_of-self c =
    let a = c.args in
    let b = c.self.inside in
    let i = c.index_of-index.result in
    let x = c.index_mut-entry.result.now in
    let found = c.index_of-index.ensures in
    let there = found_in c.deref.result.now b.entries.items i a.delivery x c.deref.ensures.value found.within
    (λ d. found.found d) (λ d. found.number d) c.index_mut-entry.ensures.value in
    let free = restorable_means a.self.now a.delivery x c.requires
    (ap (λ v. entry_at v.entries a.delivery) (sym c.self.view_is) ∙ there.2) in
    subst
    (λ p. IsBook (set b.entries.items i (record x { latest = p; settled = p })) b.index c.add.new.self b.settled_tally
    b.unsettled.items (deque_capacity b.unsettled) b.next_seq b.settled_seq b.settled_entries b.next_purge)
    (sym c.after-after.ensures)
    (book-restored b.index b.tally c.remove.new.self c.add.new.self b.settled_tally b.entries.items b.unsettled.items
    (deque_capacity b.unsettled) b.next_seq b.settled_seq b.settled_entries b.next_purge a.delivery a.status a.at i
    x c.self.invariant
    (ap (λ v. v.unsettled) c.self.view_is ∙ free.1) (ap (λ v. v.settled_seq) c.self.view_is ∙ free.0) there.0
    c.index_mut-entry.ensures.value there.1 free.2 free.3
    (λ those asked. ap (λ s. in_state asked (counts_for c.remove.new.self those) + one_of x.name s those asked)
    (sym c.state-before.ensures) ∙ sym (c.remove.ensures.less those asked))
    (λ those asked. c.add.ensures.more those asked
    ∙ ap (λ s. in_state asked (counts_for c.remove.new.self those) + one_of x.name s those asked)
    (c.state.ensures ∙ ap state_in c.after-after.ensures)))

pub returns : goal.returns
returns c =
    let a = c.args in
    let b = c.self.inside in
    let i = c.index_of-index.result in
    let x = c.index_mut-entry.result.now in
    let found = c.index_of-index.ensures in
    let there = found_in c.deref.result.now b.entries.items i a.delivery x c.deref.ensures.value found.within
    (λ d. found.found d) (λ d. found.number d) c.index_mut-entry.ensures.value in
    λ j. record {
      entries = (ap (λ p. set b.entries.items i (record x { latest = p; settled = p })) c.after-after.ensures
          ∙ set_is a.delivery i (with_attempt_restored a.status a.at) b.entries.items x c.self.invariant.keyed.ascending
          there.0 c.index_mut-entry.ensures.value there.1
          ∙ ap (λ v. map (at_delivery a.delivery (with_attempt_restored a.status a.at)) v.entries) c.self.view_is) j;
      unsettled = ap (λ v. v.unsettled) c.self.view_is j;
      next_seq = ap (λ v. v.next_seq) c.self.view_is j;
      settled_seq = ap (λ v. v.settled_seq) c.self.view_is j;
    }
