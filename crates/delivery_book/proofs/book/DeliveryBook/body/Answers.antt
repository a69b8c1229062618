use Rattle.std.proofs.Common.{◌∙◌, ap}
use Rattle.std.specs.Prelude.{option_map}
use Rattle.delivery_book.specs.declared.entry.Entry.{Entry}
use Rattle.delivery_book.specs.Entries.{entry_at}
use Rattle.delivery_book.proofs.Tellings.{stands_body}
use Rattle.delivery_book.proofs.book.DeliveryBook.body.Goals as goal

pub returns-in-Some-clause-stands : goal.returns-in-Some-clause-stands
returns-in-Some-clause-stands c = λ records settled h.
    ap (option_map (λ (e : Entry). e.body)) c.in-Some.ensures
    ∙ ap (λ es. option_map (λ (e : Entry). e.body) (entry_at es c.args.delivery))
    (c.as_slice.ensures.value ∙ ap (λ b. b.entries) c.self.view_is)
    ∙ stands_body c.args.self.now records settled c.args.delivery h

pub returns-in-None-clause-stands : goal.returns-in-None-clause-stands
returns-in-None-clause-stands c = λ records settled h.
    ap (option_map (λ (e : Entry). e.body)) c.in-None.ensures
    ∙ ap (λ es. option_map (λ (e : Entry). e.body) (entry_at es c.args.delivery))
    (c.as_slice.ensures.value ∙ ap (λ b. b.entries) c.self.view_is)
    ∙ stands_body c.args.self.now records settled c.args.delivery h
