use Rattle.std.proofs.Common.{◌≡◌, ◌≤◌, ◌<◌, ◌∙◌, ap, arith, length, subst, sym, deque_capacity}
use Rattle.std.specs.Prelude.{filter}
use Rattle.std.proofs.lemmas.List.Kept.{AllPairs-filter}
use Rattle.delivery_book.specs.declared.entry.Entry.{Entry}
use Rattle.delivery_book.specs.Entries.{BookValue, is_left, rest_from}
use Rattle.delivery_book.specs.Fields.{AreFirst, FirstBelow, IsAscending, HasCounted, HasMore, IsBook, IsNamed}
use Rattle.delivery_book.specs.Fields.{RestFrom, is_taken_below, settled_among}
use Rattle.delivery_book.proofs.Sweeps.{none_below, taken_counted, taken_settled, book-swept}
use Rattle.delivery_book.proofs.book.DeliveryBook.give_up_taken.Goals as goal

pub count_out-requires : goal.count_out-requires
count_out-requires c =
    let b = c.self.inside in
    let rest : rest_from b.settled_seq b.unsettled.items ≡ b.unsettled.items =
    subst (λ (v : BookValue). rest_from v.settled_seq v.unsettled ≡ v.unsettled) (sym c.self.view_is) c.requires.settled
    in
    subst (λ es. HasCounted b.tally (filter (is_taken_below b.settled_seq) es)) (sym c.deref.ensures.value)
    (taken_counted b.entries.items b.index b.tally b.settled_tally b.unsettled.items (deque_capacity b.unsettled)
    b.next_seq
    b.settled_seq b.settled_entries b.next_purge c.self.invariant
    (none_below b.settled_seq b.next_seq b.unsettled.items c.self.invariant.order rest))

pub count_out-requires-2 : goal.count_out-requires-2
count_out-requires-2 c =
    let b = c.self.inside in
    let rest : rest_from b.settled_seq b.unsettled.items ≡ b.unsettled.items =
    subst (λ (v : BookValue). rest_from v.settled_seq v.unsettled ≡ v.unsettled) (sym c.self.view_is) c.requires.settled
    in
    subst (λ es. HasCounted b.settled_tally (filter (is_taken_below b.settled_seq) es)) (sym c.deref-2.ensures.value)
    (taken_settled b.entries.items b.index b.tally b.settled_tally b.unsettled.items (deque_capacity b.unsettled)
    b.next_seq
    b.settled_seq b.settled_entries b.next_purge c.self.invariant
    (none_below b.settled_seq b.next_seq b.unsettled.items c.self.invariant.order rest))

pub count_below-self-inside-requires : goal.count_below-self-inside-requires
count_below-self-inside-requires c =
    let b = c.self.inside in
    subst IsAscending (sym (c.deref-3.ensures.value ∙ c.keep_left.ensures.left))
    (AllPairs-filter (λ (x y : Entry). x.seq < y.seq) (is_left b.settled_seq) b.entries.items
    c.self.invariant.keyed.ascending)

pub invariant_of-self : goal.invariant_of-self
invariant_of-self c =
    let settled = c.count_out-2 in
    let b = c.self.inside in
    let m = c.count_below-self-inside.result in
    let first = c.first_purge-self-inside.result in
    let rest : rest_from b.settled_seq b.unsettled.items ≡ b.unsettled.items =
    subst (λ (v : BookValue). rest_from v.settled_seq v.unsettled ≡ v.unsettled) (sym c.self.view_is) c.requires.settled
    in
    let left = filter (is_left b.settled_seq) b.entries.items in
    let third : c.deref-3.result.now ≡ left = c.deref-3.ensures.value ∙ c.keep_left.ensures.left in
    let fourth : c.deref-4.result.now ≡ left = c.deref-4.ensures.value ∙ c.keep_left.ensures.left in
    let found = c.count_below-self-inside.ensures in
    subst
    (λ es. IsBook es b.index c.count_out.new.tally settled.new.tally b.unsettled.items
    (deque_capacity b.unsettled)
    b.next_seq b.settled_seq m first)
    (sym c.keep_left.ensures.left)
    (book-swept b.entries.items b.index b.tally b.settled_tally b.unsettled.items (deque_capacity b.unsettled)
    b.next_seq
    b.settled_seq b.settled_entries b.next_purge c.self.invariant
    (none_below b.settled_seq b.next_seq b.unsettled.items c.self.invariant.order rest)
    c.count_out.new.tally settled.new.tally (deque_capacity b.unsettled) m first
    (subst (λ es. HasMore c.count_out.new.tally (settled_among (filter (is_taken_below b.settled_seq) es)) b.tally)
    c.deref.ensures.value c.count_out.ensures.less)
    (subst (λ es. HasMore settled.new.tally (settled_among (filter (is_taken_below b.settled_seq) es))
    b.settled_tally)
    c.deref-2.ensures.value settled.ensures.less)
    settled.ensures.stays
    (omega arith)
    (subst (λ es. m ≤ length es) third found.within)
    (subst (FirstBelow m b.settled_seq) third (λ k d l. found.below k d l))
    (subst (RestFrom m b.settled_seq) third (λ k d l o. found.above k d l o))
    (subst (AreFirst first) fourth c.first_purge-self-inside.ensures.first)
    (subst (IsNamed first) fourth c.first_purge-self-inside.ensures.named))

pub returns : goal.returns
returns c = λ j. record {
  entries = (c.keep_left.ensures.left ∙ ap (λ v. filter (is_left v.settled_seq) v.entries) c.self.view_is) j;
  unsettled = ap (λ v. v.unsettled) c.self.view_is j;
  next_seq = ap (λ v. v.next_seq) c.self.view_is j;
  settled_seq = ap (λ v. v.settled_seq) c.self.view_is j;
}
