use Rattle.std.proofs.Common.{sym, subst, ◌++◌, ◌∷◌, []}
use Rattle.relay_types.specs.declared.record.Record.TheVariants as on
use Rattle.endpoint_book.specs.Book.{StandsFor}
use Rattle.endpoint_book.proofs.Staged.{stands-gone}
use Rattle.endpoint_book.proofs.book.EndpointBook.stage_gone.Goals as goal

pub returns-clause-stands : goal.returns-clause-stands
returns-clause-stands c =
    let a = c.args in
    λ records settled delivery attempt status at h at_end gone its legal.
    subst (λ b. StandsFor b (records ++ on.Outcome delivery attempt status at ∷ []) settled) (sym c.set_flag.ensures)
    (stands-gone a.self.now records settled a.seq a.name delivery attempt status at h at_end gone its legal
    c.requires.known)
