use Rattle.std.proofs.Common.{ap, arith, sym, subst}
use Rattle.endpoint_book.specs.Book.{StandsFor}
use Rattle.endpoint_book.specs.Entries.{flags_in}
use Rattle.endpoint_book.proofs.Laws.{settled-flags}
use Rattle.endpoint_book.proofs.book.EndpointBook.free_flags.Goals as goal

pub returns-clause-free : goal.returns-clause-free
returns-clause-free c = omega (
  arith,
  c.self.invariant.are_changes.flags_are,
  c.self.invariant.are_changes.few,
  ap
      flags_in c.self.view_is,
)

pub returns-clause-stands : goal.returns-clause-stands
returns-clause-stands c = λ records settled h.
    omega (
      arith,
      c.self.invariant.are_changes.flags_are,
      c.self.invariant.are_changes.few,
      settled-flags _ records settled (subst (λ v. StandsFor v records settled) (sym c.self.view_is) h)
          c.self.invariant.are_changes.waiting (c.self.invariant.are_changes.parted c.self.inside.settled_seq),
    )
