use Rattle.std.proofs.Common.{arith}
use Rattle.endpoint_book.proofs.Histories.{field-told}
use Rattle.endpoint_book.proofs.Names.{found}
use Rattle.endpoint_book.proofs.book.EndpointBook.target.Goals as goal

pub returns-in-Some-clause-stands : goal.returns-in-Some-clause-stands
returns-in-Some-clause-stands c = λ records settled h. grind
    (arith, found, field-told c.args.self.now records c.args.name (λ e. e.target) h.tells)

pub returns-in-None-clause-stands : goal.returns-in-None-clause-stands
returns-in-None-clause-stands c = λ records settled h. grind
    (arith, found, field-told c.args.self.now records c.args.name (λ e. e.target) h.tells)
