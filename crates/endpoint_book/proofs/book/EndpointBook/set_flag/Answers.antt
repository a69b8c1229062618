use Rattle.std.proofs.Common.{◌+◌, ◌∙◌, ap, arith, refl, sym, subst, vec_capacity}
use Rattle.endpoint_book.specs.declared.entry.Change.{Change}
use Rattle.endpoint_book.specs.declared.entry.Entry.{Entry}
use Rattle.endpoint_book.specs.declared.entry.Kind.TheVariants.{Flag}
use Rattle.endpoint_book.specs.Entries.{flags_in, now_of}
use Rattle.endpoint_book.specs.Fields.{IsBook, listed}
use Rattle.endpoint_book.proofs.Filters.{not_there}
use Rattle.endpoint_book.proofs.Books.{book-change, change-value, entry-value}
use Rattle.endpoint_book.proofs.book.EndpointBook.set_flag.Goals as goal

pub invariant_of-self : goal.invariant_of-self
invariant_of-self c =
    let b = c.self.inside in
    let room = vec_capacity c.push_reserved.new.self in
    let change : Change = record { seq = c.args.seq; name = c.args.name; kind = Flag; shown = c.in-Some.shown } in
    subst (λ cs. IsBook c.enable.new.self b.names.items cs (b.flags + 1) b.puts room (c.args.seq + 1) b.settled_seq)
    (sym c.push_reserved.ensures.items)
    (book-change b.entries c.enable.new.self b.names.items b.changes.items change b.flags b.puts
    (vec_capacity b.changes) b.next_seq b.settled_seq (b.flags + 1) room
    (λ (e : Entry). record e { enabled = c.args.flag }) c.self.invariant (λ e. refl)
    (λ asked. c.enable.ensures.entries asked)
    (omega (arith, c.requires.above, ap (λ v. v.next_seq) c.self.view_is)) (omega arith) refl
    (omega (arith, c.requires.free, c.self.invariant.are_changes.flags_are, ap flags_in c.self.view_is))
    (omega (arith, c.self.invariant.are_changes.room, c.push_reserved.ensures.capacity))
    c.in-Some.ensures.shown (λ e. refl) (λ e. refl))

pub returns-in-Some : goal.returns-in-Some
returns-in-Some c =
    let b = c.self.inside in
    let change : Change = record { seq = c.args.seq; name = c.args.name; kind = Flag; shown = c.in-Some.shown } in
    (λ i. record {
      entries = listed c.enable.new.self b.names.items;
      changes = c.push_reserved.ensures.items i;
      topics =
          b.topics;
      next_seq = c.args.seq + 1;
      settled_seq = b.settled_seq;
    })
    ∙ change-value c.args.self.now b.entries c.enable.new.self b.names.items b.topics b.changes.items change b.next_seq
    b.settled_seq (λ (e : Entry). record e { enabled = c.args.flag })
    c.self.invariant.are_names c.self.view_is (λ asked. c.enable.ensures.entries asked) c.in-Some.ensures.shown

pub invariant_of-self-in_default : goal.invariant_of-self-in_default
invariant_of-self-in_default c =
    let b = c.self.inside in
    absurd (not_there (λ (e : Entry). now_of (record e { enabled = c.args.flag })) _ _
    (sym c.in_default.is ∙ c.enable.ensures.shown)
    (entry-value c.args.self.now b.entries b.names.items b.topics b.changes.items b.next_seq b.settled_seq c.args.name
    c.self.invariant.are_names c.self.view_is) c.requires.known)

pub returns-in_default : goal.returns-in_default
returns-in_default c =
    let b = c.self.inside in
    absurd (not_there (λ (e : Entry). now_of (record e { enabled = c.args.flag })) _ _
    (sym c.in_default.is ∙ c.enable.ensures.shown)
    (entry-value c.args.self.now b.entries b.names.items b.topics b.changes.items b.next_seq b.settled_seq c.args.name
    c.self.invariant.are_names c.self.view_is) c.requires.known)
