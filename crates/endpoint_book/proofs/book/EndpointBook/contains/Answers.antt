use Rattle.std.proofs.Common.{arith}
use Rattle.endpoint_book.proofs.Filters.{is_some-map}
use Rattle.endpoint_book.proofs.Histories.{known-entry}
use Rattle.endpoint_book.proofs.Names.{found}
use Rattle.endpoint_book.proofs.book.EndpointBook.contains.Goals as goal

pub returns-clause-stands : goal.returns-clause-stands
returns-clause-stands c = λ records settled h. grind
    (arith, found, is_some-map (λ x. x.now) c.of.result, known-entry c.args.self.now records c.args.name h.tells)
