use Rattle.std.proofs.Common.{◌∙◌, ap}
use Rattle.delivery_book.specs.Entries.{known_in}
use Rattle.delivery_book.proofs.Tellings.{stands_known}
use Rattle.delivery_book.proofs.book.DeliveryBook.find.Goals as goal

pub returns-clause-stands : goal.returns-clause-stands
returns-clause-stands c = λ records settled h.
    c.get.ensures
    ∙ c.self.invariant.keyed.indexed c.args.name c.args.id.now
    ∙ ap (λ b. known_in b c.args.name c.args.id.now) c.self.view_is
    ∙ stands_known c.args.self.now records settled c.args.name c.args.id.now h
