use Rattle.std.proofs.Common.{◌+◌, ◌-◌, ◌∙◌, ap, arith, sym, subst, drop, deque_capacity}
use Rattle.std.specs.Prelude.{count_by, slice_range}
use Rattle.std.specs.List.{list_all}
use Rattle.delivery_book.specs.declared.entry.Entry.{Entry}
use Rattle.delivery_book.specs.Fields.{IsBook, in_state, counts_for, has_room, is_counted}
use Rattle.delivery_book.proofs.Updates.{all_take, all_drop}
use Rattle.delivery_book.proofs.Outcomes.{book-events, below_in, fewer_first}
use Rattle.delivery_book.proofs.book.DeliveryBook.settle_events.Goals as goal

pub add_settled_between-requires-clause-order : goal.add_settled_between-requires-clause-order
add_settled_between-requires-clause-order c =
    let b = c.self.inside in
    let up = c.count_below-upto.ensures in
    fewer_first b.entries.items b.settled_seq c.args.seq b.settled_entries c.count_below-upto.result
    (omega (arith, c.requires, ap (λ v. v.settled_seq) c.self.view_is)) c.self.invariant.keyed.settled_within
    (λ k d h. c.self.invariant.keyed.settled_below k d h)
    (below_in c.deref.result.now b.entries.items c.args.seq c.count_below-upto.result c.deref.ensures.value up.within
    (λ k d h. up.below k d h) (λ k d h l. up.above k d h l)).2

pub add_settled_between-requires-clause-opened : goal.add_settled_between-requires-clause-opened
add_settled_between-requires-clause-opened c =
    let b = c.self.inside in
    all_take (λ (e : Entry). has_room b.settled_tally e.name) (c.count_below-upto.result - b.settled_entries)
    (drop b.settled_entries c.deref-2.result.now)
    (all_drop (λ (e : Entry). has_room b.settled_tally e.name) b.settled_entries c.deref-2.result.now
    (ap (list_all (λ (e : Entry). has_room b.settled_tally e.name)) c.deref-2.ensures.value ∙ c.self.invariant.opened))

pub invariant_of-self : goal.invariant_of-self
invariant_of-self c =
    let b = c.self.inside in
    let up = c.count_below-upto.ensures in
    let m = c.count_below-upto.result in
    let found = below_in c.deref.result.now b.entries.items c.args.seq m c.deref.ensures.value up.within
    (λ k d h. up.below k d h) (λ k d h l. up.above k d h l) in
    subst
    (λ next. IsBook b.entries.items b.index b.tally c.add_settled_between.new.tally b.unsettled.items
    (deque_capacity b.unsettled) next c.args.seq m b.next_purge)
    (sym c.max-self-inside.ensures)
    (book-events b.index b.tally b.settled_tally c.add_settled_between.new.tally b.entries.items b.unsettled.items
    (deque_capacity b.unsettled) b.next_seq b.settled_seq b.settled_entries c.args.seq m b.next_purge
    c.self.invariant
    (fewer_first b.entries.items b.settled_seq c.args.seq b.settled_entries m
    (omega (arith, c.requires, ap (λ v. v.settled_seq) c.self.view_is)) c.self.invariant.keyed.settled_within
    (λ k d h. c.self.invariant.keyed.settled_below k d h) found.2)
    found.0 found.1 found.2
    (λ those asked. c.add_settled_between.ensures.more those asked
    ∙ ap (λ es. in_state asked (counts_for b.settled_tally those) + count_by
    (is_counted (λ e. e.settled) those asked) (slice_range es b.settled_entries m)) c.deref-2.ensures.value)
    (λ asked is. c.add_settled_between.ensures.stays asked is))
