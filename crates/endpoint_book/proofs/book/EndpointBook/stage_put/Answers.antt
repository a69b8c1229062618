use Rattle.std.proofs.Common.{◌+◌, ◌++◌, ◌∷◌, [], ◌∙◌, None, true, ap, arith, refl, sym, subst, vec_capacity, length}
use Rattle.std.specs.Prelude.{filter_map}
use Rattle.relay_types.specs.declared.record.Record.TheVariants as on
use Rattle.endpoint_book.specs.declared.entry.Entry.{Entry}
use Rattle.endpoint_book.specs.declared.entry.Kind.TheVariants.{Put}
use Rattle.endpoint_book.specs.Book.{StandsFor}
use Rattle.endpoint_book.specs.Fields.{IsBook, listed}
use Rattle.endpoint_book.proofs.Filters.{none_if, on_err}
use Rattle.endpoint_book.proofs.Books.{book-put, book-same, put-value, entry-value}
use Rattle.endpoint_book.proofs.Staged.{stands-put}
use Rattle.endpoint_book.proofs.book.EndpointBook.stage_put.Goals as goal

pub invariant_of-self-in_err-put : goal.invariant_of-self-in_err-put
invariant_of-self-in_err-put c =
    let changes = c.reserve-2 in
    let b = c.self.inside in
    let room = vec_capacity changes.new.self in
    subst (λ ns. IsBook c.put.new.self ns changes.new.self.items b.flags b.puts room b.next_seq b.settled_seq)
    (sym c.reserve.ensures.items)
    (subst (λ cs. IsBook c.put.new.self b.names.items cs b.flags b.puts room b.next_seq b.settled_seq)
    (sym changes.ensures.items)
    (book-same b.entries c.put.new.self b.names.items b.changes.items b.flags b.puts (vec_capacity b.changes) b.next_seq
    b.settled_seq room c.self.invariant (λ asked. c.in_err-put.ensures.unchanged asked)
    changes.ensures.capacity))

pub returns-in_err-put-clause-unchanged : goal.returns-in_err-put-clause-unchanged
returns-in_err-put-clause-unchanged c =
    let b = c.self.inside in
    on_err c.from_residual-in_err-put.result
    ((λ i. record {
      entries = (ap (λ g. filter_map g c.reserve.new.self.items) (λ j asked. c.in_err-put.ensures.unchanged asked j)
          ∙ ap (listed b.entries) c.reserve.ensures.items) i;
      changes = c.reserve-2.ensures.items i;
      topics = b.topics;
      next_seq = b.next_seq;
      settled_seq = b.settled_seq;
    })
    ∙ c.self.view_is)

pub invariant_of-self-2 : goal.invariant_of-self-2
invariant_of-self-2 c =
    let pushed = c.push_reserved-2 in
    let changes = c.reserve-2 in
    let b = c.self.inside in
    let a = c.args in
    let room = vec_capacity pushed.new.self in
    let e : Entry = record {
      put = a.seq;
      name = a.name;
      target = a.target;
      max = a.max;
      enabled = true;
      secrets =
          a.secrets;
      settled = None;
    } in
    let there = entry-value a.self.now b.entries b.names.items b.topics b.changes.items b.next_seq b.settled_seq a.name
    c.self.invariant.are_names c.self.view_is in
    subst (λ ns. IsBook c.put.new.self ns pushed.new.self.items b.flags (b.puts + 1) room
    (a.seq + 1) b.settled_seq)
    (sym (c.push_reserved.ensures.items ∙ ap (λ ns. ns ++ a.name ∷ []) c.reserve.ensures.items))
    (subst (λ cs. IsBook c.put.new.self (b.names.items ++ a.name ∷ []) cs b.flags (b.puts + 1) room
    (a.seq + 1) b.settled_seq)
    (sym (pushed.ensures.items
    ∙ λ i. changes.ensures.items i ++ record {
      seq = a.seq;
      name = a.name;
      kind = Put;
      shown =
          record { enabled = true; secrets = c.count.ensures.count i };
    } ∷ []))
    (book-put b.entries c.put.new.self b.names.items b.changes.items e b.flags b.puts (vec_capacity b.changes)
    b.next_seq b.settled_seq room c.self.invariant (there ∙ none_if _ c.requires.unknown)
    (λ asked. c.in_ok-put.ensures.put asked)
    (omega (arith, c.requires.above, ap (λ v. v.next_seq) c.self.view_is))
    (omega (
      arith,
      c.in_ok-reserve-2.ensures.ok,
      pushed.ensures.capacity,
      ap length
          changes.ensures.items,
    )) refl))

pub returns-clause-put : goal.returns-clause-put
returns-clause-put c =
    let b = c.self.inside in
    let a = c.args in
    let e : Entry = record {
      put = a.seq;
      name = a.name;
      target = a.target;
      max = a.max;
      enabled = true;
      secrets =
          a.secrets;
      settled = None;
    } in
    let there = entry-value a.self.now b.entries b.names.items b.topics b.changes.items b.next_seq b.settled_seq a.name
    c.self.invariant.are_names c.self.view_is in
    (λ i. record {
      entries = listed c.put.new.self
          ((c.push_reserved.ensures.items ∙ ap (λ ns. ns ++ a.name ∷ []) c.reserve.ensures.items) i);
      changes = (c.push_reserved-2.ensures.items
          ∙ λ j. c.reserve-2.ensures.items j ++ record {
            seq = a.seq;
            name = a.name;
            kind = Put;
            shown =
                record { enabled = true; secrets = c.count.ensures.count j };
          } ∷ []) i;
      topics = b.topics;
      next_seq = a.seq + 1;
      settled_seq = b.settled_seq;
    })
    ∙ put-value a.self.now b.entries c.put.new.self b.names.items b.topics b.changes.items e b.next_seq b.settled_seq
    c.self.invariant.are_names c.self.view_is (there ∙ none_if _ c.requires.unknown)
    (λ asked. c.in_ok-put.ensures.put asked)

pub returns-clause-stands : goal.returns-clause-stands
returns-clause-stands c =
    let a = c.args in
    λ records settled h at_end legal.
    subst (λ v. StandsFor v (records ++ on.Put a.name a.target a.max a.secrets ∷ []) settled)
    (sym (returns-clause-put c))
    (stands-put a.self.now records settled a.seq a.name a.target a.max a.secrets h at_end legal
    (none_if _ c.requires.unknown))
