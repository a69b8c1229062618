use Rattle.std.proofs.Common.{◌≡◌, ◌+◌, ◌++◌, ◌∷◌, [], ◌&&◌, ◌∙◌, ap, arith, length, map, subst, sym, deque_capacity}
use Rattle.std.specs.Prelude.{filter}
use Rattle.std.specs.Bool.{then_some}
use Rattle.std.specs.List.{list_any}
use Rattle.std.proofs.lemmas.List.{length-map}
use Rattle.relay_types.specs.declared.record.Record.TheVariants.{Purge}
use Rattle.delivery_book.specs.Entries.{BookValue, is_done_before, is_kept, marked, with_purge}
use Rattle.delivery_book.specs.Fields.{HasLessKeys, IsBook}
use Rattle.delivery_book.specs.Book.{StandsFor}
use Rattle.delivery_book.proofs.Laws.{stands_purge}
use Rattle.delivery_book.proofs.Marks.{IsEarlier, is_done}
use Rattle.delivery_book.proofs.Outcomes.{book-purge, written}
use Rattle.delivery_book.proofs.book.DeliveryBook.stage_purge.Goals as goal

pub invariant_of-self : goal.invariant_of-self
invariant_of-self c =
    let a = c.args in
    let b = c.self.inside in
    let made : c.mark_done-took.new.entries ≡ map (marked a.seq a.before) b.entries.items =
    c.mark_done-took.ensures.marked ∙ ap (map (marked a.seq a.before)) c.deref_mut.ensures.value in
    let all = written b.entries.len b.entries.items c.mark_done-took.new.entries
    (sym (ap length c.deref_mut.ensures.value) ∙ c.deref_mut.ensures.len)
    (ap length c.mark_done-took.ensures.marked ∙ length-map c.deref_mut.result.now (marked a.seq a.before)
    ∙ c.deref_mut.ensures.len) in
    subst
    (λ es. IsBook es c.remove_done.new.index b.tally b.settled_tally b.unsettled.items (deque_capacity b.unsettled)
    (a.seq + 1)
    b.settled_seq b.settled_entries c.earlier-self-inside.result)
    (sym (all ∙ made))
    (book-purge b.index c.remove_done.new.index b.tally b.settled_tally b.entries.items b.unsettled.items
    (deque_capacity b.unsettled) b.next_seq b.settled_seq b.settled_entries b.next_purge c.earlier-self-inside.result
    a.seq
    a.before c.self.invariant
    (omega (arith, c.requires.above, ap (λ v. v.next_seq) c.self.view_is))
    (subst (λ es. HasLessKeys b.index (filter (λ e. is_kept e && is_done_before a.before e.latest) es)
    c.remove_done.new.index)
    c.deref.ensures.value c.remove_done.ensures)
    (subst (λ o. IsEarlier b.next_purge o c.earlier-self-inside.result)
    (c.then_some.ensures ∙ ap (λ took. then_some took a.seq)
    (c.mark_done-took.ensures.took ∙ ap (list_any (is_done a.before)) c.deref_mut.ensures.value))
    (record {
      first = λ e is. c.earlier-self-inside.ensures.first e is;
      second = λ e is. c.earlier-self-inside.ensures.second e is;
      one_of = c.earlier-self-inside.ensures.one_of;
    })))

pub returns : goal.returns
returns c =
    let a = c.args in
    let b = c.self.inside in
    let made : c.mark_done-took.new.entries ≡ map (marked a.seq a.before) b.entries.items =
    c.mark_done-took.ensures.marked ∙ ap (map (marked a.seq a.before)) c.deref_mut.ensures.value in
    let all = written b.entries.len b.entries.items c.mark_done-took.new.entries
    (sym (ap length c.deref_mut.ensures.value) ∙ c.deref_mut.ensures.len)
    (ap length c.mark_done-took.ensures.marked ∙ length-map c.deref_mut.result.now (marked a.seq a.before)
    ∙ c.deref_mut.ensures.len) in
    let old : BookValue = record {
      entries = b.entries.items;
      unsettled = b.unsettled.items;
      next_seq = b.next_seq;
      settled_seq = b.settled_seq;
    } in
    let value = (λ j. record {
      entries = (all ∙ made) j;
      unsettled = b.unsettled.items;
      next_seq = a.seq + 1;
      settled_seq = b.settled_seq;
    }) ∙ ap (λ (v : BookValue). with_purge v a.seq a.before) c.self.view_is in
    record {
      value = value;
      stands = λ records settled h number.
          subst (λ v. StandsFor v (records ++ Purge a.before ∷ []) settled) (sym value)
          (stands_purge a.self.now records settled a.seq a.before h number);
    }
