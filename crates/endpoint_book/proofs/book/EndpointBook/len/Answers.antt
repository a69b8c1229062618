use Rattle.std.proofs.Common.{◌∙◌, ap, arith, sym, length}
use Rattle.std.proofs.lemmas.List.{length-map}
use Rattle.endpoint_book.specs.Book.{endpoint_by_entry}
use Rattle.endpoint_book.specs.Fields.{entry_in, listed}
use Rattle.endpoint_book.proofs.Names.{named}
use Rattle.endpoint_book.proofs.book.EndpointBook.len.Goals as goal

pub returns-clause-count : goal.returns-clause-count
returns-clause-count c =
    let b = c.self.inside in
    omega (
      arith,
      ap length (named (entry_in b.entries) b.names.items c.self.invariant.are_names),
      length-map (listed b.entries b.names.items) (λ e. e.name),
      ap (λ v. length v.entries) c.self.view_is,
    )

pub returns-clause-stands : goal.returns-clause-stands
returns-clause-stands c = λ records settled h. returns-clause-count c
    ∙ sym (length-map c.args.self.now.entries endpoint_by_entry) ∙ ap length h.tells.endpoints
