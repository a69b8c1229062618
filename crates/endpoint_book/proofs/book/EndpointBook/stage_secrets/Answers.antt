use Rattle.std.proofs.Common.{◌+◌, ◌++◌, ◌∷◌, [], ◌∙◌, ap, arith, refl, sym, subst, vec_capacity, length}
use Rattle.relay_types.specs.declared.record.Record.TheVariants as on
use Rattle.endpoint_book.specs.declared.entry.Change.{Change}
use Rattle.endpoint_book.specs.declared.entry.Entry.{Entry}
use Rattle.endpoint_book.specs.declared.entry.Kind.TheVariants.{Secrets}
use Rattle.endpoint_book.specs.Entries.{now_of}
use Rattle.endpoint_book.specs.Book.{StandsFor}
use Rattle.endpoint_book.specs.Fields.{IsBook, listed}
use Rattle.endpoint_book.proofs.Filters.{not_there}
use Rattle.endpoint_book.proofs.Books.{book-change, change-value, entry-value}
use Rattle.endpoint_book.proofs.Staged.{stands-secrets}
use Rattle.endpoint_book.proofs.book.EndpointBook.stage_secrets.Goals as goal

pub invariant_of-self-in-Some : goal.invariant_of-self-in-Some
invariant_of-self-in-Some c =
    let b = c.self.inside in
    let room = vec_capacity c.push_reserved.new.self in
    let change : Change = record { seq = c.args.seq; name = c.args.name; kind = Secrets; shown = c.in-Some.shown } in
    subst (λ cs. IsBook c.give.new.self b.names.items cs b.flags b.puts room (c.args.seq + 1) b.settled_seq)
    (sym (c.push_reserved.ensures.items ∙ ap (λ cs. cs ++ change ∷ []) c.in_ok-reserve.ensures.items))
    (book-change b.entries c.give.new.self b.names.items b.changes.items change b.flags b.puts (vec_capacity b.changes)
    b.next_seq b.settled_seq b.flags room
    (λ (e : Entry). record e { secrets = c.args.secrets }) c.self.invariant (λ e. refl)
    (λ asked. c.give.ensures.entries asked)
    (omega (arith, c.requires.above, ap (λ v. v.next_seq) c.self.view_is)) (omega arith) (omega arith)
    c.self.invariant.are_changes.few
    (omega (
      arith,
      c.in_ok-reserve.ensures.ok,
      c.push_reserved.ensures.capacity,
      ap length
          c.in_ok-reserve.ensures.items,
    ))
    c.in-Some.ensures.shown (λ e. refl) (λ e. refl))

pub returns-in-Some-clause-given : goal.returns-in-Some-clause-given
returns-in-Some-clause-given c =
    let b = c.self.inside in
    let change : Change = record { seq = c.args.seq; name = c.args.name; kind = Secrets; shown = c.in-Some.shown } in
    (λ i. record {
      entries = listed c.give.new.self b.names.items;
      changes = (c.push_reserved.ensures.items ∙ ap (λ cs. cs ++ change ∷ []) c.in_ok-reserve.ensures.items) i;
      topics = b.topics;
      next_seq = c.args.seq + 1;
      settled_seq = b.settled_seq;
    })
    ∙ change-value c.args.self.now b.entries c.give.new.self b.names.items b.topics b.changes.items change b.next_seq
    b.settled_seq (λ (e : Entry). record e { secrets = c.args.secrets })
    c.self.invariant.are_names c.self.view_is (λ asked. c.give.ensures.entries asked) c.in-Some.ensures.shown

pub returns-in-Some-clause-stands : goal.returns-in-Some-clause-stands
returns-in-Some-clause-stands c =
    let a = c.args in
    λ records settled h at_end legal.
    subst (λ v. StandsFor v (records ++ on.Secrets a.name a.secrets ∷ []) settled)
    (sym (returns-in-Some-clause-given c))
    (stands-secrets a.self.now records settled a.seq a.name a.secrets h at_end legal c.requires.known)

pub returns-in_default-clause-given : goal.returns-in_default-clause-given
returns-in_default-clause-given c =
    let b = c.self.inside in
    absurd (not_there (λ (e : Entry). now_of (record e { secrets = c.args.secrets })) _ _
    (sym c.in_default.is ∙ c.give.ensures.shown)
    (entry-value c.args.self.now b.entries b.names.items b.topics b.changes.items b.next_seq b.settled_seq c.args.name
    c.self.invariant.are_names c.self.view_is) c.requires.known)

pub returns-in_default-clause-stands : goal.returns-in_default-clause-stands
returns-in_default-clause-stands c =
    let b = c.self.inside in
    absurd (not_there (λ (e : Entry). now_of (record e { secrets = c.args.secrets })) _ _
    (sym c.in_default.is ∙ c.give.ensures.shown)
    (entry-value c.args.self.now b.entries b.names.items b.topics b.changes.items b.next_seq b.settled_seq c.args.name
    c.self.invariant.are_names c.self.view_is) c.requires.known)

pub invariant_of-self-in_default : goal.invariant_of-self-in_default
invariant_of-self-in_default c =
    let b = c.self.inside in
    absurd (not_there (λ (e : Entry). now_of (record e { secrets = c.args.secrets })) _ _
    (sym c.in_default.is ∙ c.give.ensures.shown)
    (entry-value c.args.self.now b.entries b.names.items b.topics b.changes.items b.next_seq b.settled_seq c.args.name
    c.self.invariant.are_names c.self.view_is) c.requires.known)
