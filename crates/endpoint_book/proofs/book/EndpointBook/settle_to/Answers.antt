use Rattle.std.proofs.Common.{◌∙◌, ◌≡◌, ◌++◌, ap, arith, sym, subst, vec_capacity}
use Rattle.std.specs.Prelude.{filter, count_by, option_map}
use Rattle.endpoint_book.specs.Entries.{is_flag, is_put, is_below, is_from, settled_at}
use Rattle.endpoint_book.specs.Book.{StandsFor}
use Rattle.endpoint_book.specs.Fields.{IsBook, entry_in, listed}
use Rattle.endpoint_book.proofs.Books.{book-settled, settled-value}
use Rattle.endpoint_book.proofs.Laws.{stands-settled}
use Rattle.endpoint_book.proofs.book.EndpointBook.settle_to.Goals as goal

pub invariant_of-self : goal.invariant_of-self
invariant_of-self c =
    let b = c.self.inside in
    let p = c.args.seq in
    let kept = c.deref-2.ensures.value ∙ c.keep_from.ensures.changes in
    let kept_too = c.deref-3.ensures.value ∙ c.keep_from.ensures.changes in
    subst (λ cs. IsBook c.settle_below.new.entries b.names.items cs c.count_flags-self-inside.result
    c.count_puts-self-inside.result (vec_capacity c.keep_from.new.changes) c.max-self-inside.result p)
    (sym c.keep_from.ensures.changes)
    (subst (λ n. IsBook c.settle_below.new.entries b.names.items (filter (is_from p) b.changes.items) n
    c.count_puts-self-inside.result (vec_capacity c.keep_from.new.changes) c.max-self-inside.result p)
    (sym (c.count_flags-self-inside.ensures ∙ ap (count_by is_flag) kept))
    (subst (λ n. IsBook c.settle_below.new.entries b.names.items (filter (is_from p) b.changes.items)
    (count_by is_flag (filter (is_from p) b.changes.items)) n (vec_capacity c.keep_from.new.changes)
    c.max-self-inside.result p)
    (sym (c.count_puts-self-inside.ensures ∙ ap (count_by is_put) kept_too))
    (subst (λ n. IsBook c.settle_below.new.entries b.names.items (filter (is_from p) b.changes.items)
    (count_by is_flag (filter (is_from p) b.changes.items)) (count_by is_put (filter (is_from p) b.changes.items)) n
    c.max-self-inside.result p)
    (sym c.keep_from.ensures.capacity)
    (subst (λ n. IsBook c.settle_below.new.entries b.names.items (filter (is_from p) b.changes.items)
    (count_by is_flag (filter (is_from p) b.changes.items)) (count_by is_put (filter (is_from p) b.changes.items))
    (vec_capacity b.changes) n p)
    (sym c.max-self-inside.ensures)
    (book-settled b.entries c.settle_below.new.entries b.names.items b.changes.items b.flags b.puts
    (vec_capacity b.changes) b.next_seq b.settled_seq p c.self.invariant
    (omega (arith, c.requires, ap (λ v. v.settled_seq) c.self.view_is))
    (λ asked. c.settle_below.ensures asked ∙ ap (λ cs. option_map (settled_at p cs asked) (entry_in b.entries asked))
    c.deref.ensures.value))))))

pub returns-clause-value : goal.returns-clause-value
returns-clause-value c =
    let b = c.self.inside in
    let p = c.args.seq in
    (λ i. record {
      entries = listed c.settle_below.new.entries b.names.items;
      changes = c.keep_from.ensures.changes i;
      topics = b.topics;
      next_seq = c.max-self-inside.ensures i;
      settled_seq = p;
    })
    ∙ settled-value c.args.self.now b.entries c.settle_below.new.entries b.names.items b.topics b.changes.items
    b.next_seq b.settled_seq p c.self.invariant.are_names c.self.view_is
    (λ asked. c.settle_below.ensures asked ∙ ap (λ cs. option_map (settled_at p cs asked) (entry_in b.entries asked))
    c.deref.ensures.value)

pub returns-clause-flags : goal.returns-clause-flags
returns-clause-flags c =
    let b = c.self.inside in
    omega (
      arith,
      ap (count_by is_flag) c.keep_from.ensures.changes,
      c.max-self-inside.ensures,
      c.self.invariant.are_changes.sparse c.args.seq,
    )

pub returns-clause-stands : goal.returns-clause-stands
returns-clause-stands c = λ records settled h within.
    let b = c.self.inside in
    subst (λ v. StandsFor v records c.args.seq) (sym (returns-clause-value c))
    (stands-settled c.args.self.now records settled c.args.seq h (omega (arith, c.requires, h.settled_seq)) within
    (subst (λ v. v.changes ≡ filter (is_below c.args.seq) v.changes ++ filter (is_from c.args.seq) v.changes)
    c.self.view_is (c.self.invariant.are_changes.parted c.args.seq)))
