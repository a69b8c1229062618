use Rattle.std.proofs.Common.{ap, arith, sym, subst, length}
use Rattle.std.specs.Prelude.{count_by}
use Rattle.std.proofs.lemmas.List.{length-map}
use Rattle.endpoint_book.specs.Entries.{is_put}
use Rattle.endpoint_book.specs.Book.{StandsFor}
use Rattle.endpoint_book.specs.Fields.{entry_in, listed}
use Rattle.endpoint_book.proofs.Names.{named}
use Rattle.endpoint_book.proofs.Laws.{settled-count}
use Rattle.endpoint_book.proofs.book.EndpointBook.settled_len.Goals as goal

pub returns-clause-value : goal.returns-clause-value
returns-clause-value c =
    let b = c.self.inside in
    omega (
      arith,
      c.self.invariant.are_changes.puts_are,
      c.self.invariant.puts_within,
      ap (λ v. count_by is_put v.changes) c.self.view_is,
      ap (λ v. length v.entries) c.self.view_is,
      ap length (named (entry_in b.entries) b.names.items c.self.invariant.are_names),
      length-map (listed b.entries b.names.items) (λ e. e.name),
    )

pub returns-clause-stands : goal.returns-clause-stands
returns-clause-stands c = λ records settled h.
    let b = c.self.inside in
    omega (
      arith,
      settled-count _ records settled (subst (λ v. StandsFor v records settled) (sym c.self.view_is) h)
          c.self.invariant.are_changes.waiting (c.self.invariant.are_changes.parted b.settled_seq),
      c.self.invariant.are_changes.puts_are,
      c.self.invariant.puts_within,
      ap length (named (entry_in b.entries) b.names.items c.self.invariant.are_names),
      length-map (listed b.entries b.names.items) (λ e. e.name),
    )
