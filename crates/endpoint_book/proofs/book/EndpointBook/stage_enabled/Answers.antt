use Rattle.std.proofs.Common.{sym, subst, ◌++◌, ◌∷◌, []}
use Rattle.relay_types.specs.declared.record.Record.TheVariants as on
use Rattle.endpoint_book.specs.Book.{StandsFor}
use Rattle.endpoint_book.proofs.Staged.{stands-enabled}
use Rattle.endpoint_book.proofs.book.EndpointBook.stage_enabled.Goals as goal

pub returns-clause-stands : goal.returns-clause-stands
returns-clause-stands c =
    let a = c.args in
    λ records settled h at_end legal.
    subst (λ b. StandsFor b (records ++ on.Enabled a.name a.flag ∷ []) settled) (sym c.set_flag.ensures)
    (stands-enabled a.self.now records settled a.seq a.name a.flag h at_end legal c.requires.known)
