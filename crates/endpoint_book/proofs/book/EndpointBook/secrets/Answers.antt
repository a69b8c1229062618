use Rattle.std.proofs.Common.{arith}
use Rattle.endpoint_book.proofs.Histories.{secrets-told}
use Rattle.endpoint_book.proofs.Names.{found}
use Rattle.endpoint_book.proofs.book.EndpointBook.secrets.Goals as goal

pub returns-in-Some-clause-stands : goal.returns-in-Some-clause-stands
returns-in-Some-clause-stands c = λ records settled h. grind
    (arith, found, secrets-told c.args.self.now records c.args.name h.tells)

pub returns-in-None-clause-stands : goal.returns-in-None-clause-stands
returns-in-None-clause-stands c = λ records settled h. grind
    (arith, found, secrets-told c.args.self.now records c.args.name h.tells)
