use Rattle.std.proofs.Common.{◌+◌, ◌++◌, ◌∷◌, [], ◌∙◌, ℕ, Some, ap, arith, sym, subst, vec_capacity}
use Rattle.std.specs.Prelude.{filter_map}
use Rattle.endpoint_book.specs.declared.entry.Entry.{Entry}
use Rattle.endpoint_book.specs.Entries.{BookValue, with_restored}
use Rattle.endpoint_book.specs.Fields.{IsBook, listed}
use Rattle.endpoint_book.proofs.Filters.{none_if, on_err}
use Rattle.endpoint_book.proofs.Books.{book-same, book-restored, restored-value, entry-value}
use Rattle.endpoint_book.proofs.book.EndpointBook.restore.Goals as goal

pub invariant_of-self-in_err-put : goal.invariant_of-self-in_err-put
invariant_of-self-in_err-put c =
    let b = c.self.inside in
    let room = vec_capacity b.changes in
    subst (λ ns. IsBook c.put.new.self ns b.changes.items b.flags b.puts room b.next_seq b.settled_seq)
    (sym c.reserve.ensures.items)
    (book-same b.entries c.put.new.self b.names.items b.changes.items b.flags b.puts room b.next_seq b.settled_seq room
    c.self.invariant (λ asked. c.in_err-put.ensures.unchanged asked) (omega arith))

pub returns-in_err-put-clause-unchanged : goal.returns-in_err-put-clause-unchanged
returns-in_err-put-clause-unchanged c =
    let b = c.self.inside in
    on_err c.from_residual-in_err-put.result
    ((λ i. record {
      entries = (ap (λ g. filter_map g c.reserve.new.self.items) (λ j asked. c.in_err-put.ensures.unchanged asked j)
          ∙ ap (listed b.entries) c.reserve.ensures.items) i;
      changes = b.changes.items;
      topics = b.topics;
      next_seq = b.next_seq;
      settled_seq = b.settled_seq;
    })
    ∙ c.self.view_is)

pub invariant_of-self-2 : goal.invariant_of-self-2
invariant_of-self-2 c =
    let b = c.self.inside in
    let a = c.args in
    let e : Entry = record {
      put = a.seq;
      name = a.name;
      target = a.target;
      max = a.max;
      enabled = a.enabled;
      secrets =
          a.secrets;
      settled = Some (record { enabled = a.enabled; secrets = c.count.result });
    } in
    let there = entry-value a.self.now b.entries b.names.items b.topics b.changes.items b.next_seq b.settled_seq a.name
    c.self.invariant.are_names c.self.view_is in
    subst (λ ns. IsBook c.put.new.self ns b.changes.items b.flags b.puts (vec_capacity b.changes) (a.seq + 1)
    (a.seq + 1)) (sym (c.push_reserved.ensures.items ∙ ap (λ ns. ns ++ a.name ∷ []) c.reserve.ensures.items))
    (book-restored b.entries c.put.new.self b.names.items b.changes.items e b.flags b.puts (vec_capacity b.changes)
    b.next_seq b.settled_seq c.self.invariant
    (ap (λ (v : BookValue). v.changes) c.self.view_is ∙ c.requires.settled) (there ∙ none_if _ c.requires.unknown)
    (λ asked. c.in_ok-put.ensures.put asked)
    (omega (arith, c.requires.above, ap (λ (v : BookValue). v.next_seq) c.self.view_is))
    (ap (λ n. Some (record { enabled = a.enabled; secrets = n })) c.count.ensures.count))

pub returns-clause-put : goal.returns-clause-put
returns-clause-put c =
    let b = c.self.inside in
    let a = c.args in
    let e : ℕ → Entry = λ n. record {
      put = a.seq;
      name = a.name;
      target = a.target;
      max = a.max;
      enabled =
          a.enabled;
      secrets = a.secrets;
      settled = Some (record { enabled = a.enabled; secrets = n });
    } in
    let there = entry-value a.self.now b.entries b.names.items b.topics b.changes.items b.next_seq b.settled_seq a.name
    c.self.invariant.are_names c.self.view_is in
    (λ i. record {
      entries = listed c.put.new.self
          ((c.push_reserved.ensures.items ∙ ap (λ ns. ns ++ a.name ∷ []) c.reserve.ensures.items) i);
      changes = b.changes.items;
      topics = b.topics;
      next_seq = a.seq + 1;
      settled_seq = a.seq + 1;
    })
    ∙ restored-value a.self.now b.entries c.put.new.self b.names.items b.topics b.changes.items (e c.count.result)
    b.next_seq b.settled_seq c.self.invariant.are_names c.self.view_is (there ∙ none_if _ c.requires.unknown)
    (λ asked. c.in_ok-put.ensures.put asked)
    ∙ ap (λ n. with_restored a.self.now (e n)) c.count.ensures.count
