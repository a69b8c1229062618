use Rattle.std.proofs.Common.{◌≡◌, false, ◌∙◌, ap}
use Rattle.std.specs.Option.{option_map_or}
use Rattle.delivery_book.specs.Entries.{entry_at, is_open, takes_outcome}
use Rattle.delivery_book.proofs.Laws.{free_means}
use Rattle.delivery_book.proofs.book.DeliveryBook.takes_outcome.Goals as goal

pub returns-in-Some : goal.returns-in-Some
returns-in-Some c =
    let value : c.is_open.result ≡ takes_outcome c.args.self.now c.args.delivery =
    c.is_open.ensures
    ∙ ap (λ o. option_map_or is_open o false) c.in-Some.ensures
    ∙ ap (λ es. option_map_or is_open (entry_at es c.args.delivery) false)
    (c.deref.ensures.value ∙ ap (λ b. b.entries) c.self.view_is) in
    record {
      value = value;
      stands = λ records settled h. value
          ∙ free_means c.args.self.now records settled c.args.delivery h;
    }

pub returns-in-None : goal.returns-in-None
returns-in-None c =
    let value : false ≡ takes_outcome c.args.self.now c.args.delivery =
    ap (λ o. option_map_or is_open o false) c.in-None.ensures
    ∙ ap (λ es. option_map_or is_open (entry_at es c.args.delivery) false)
    (c.deref.ensures.value ∙ ap (λ b. b.entries) c.self.view_is) in
    record {
      value = value;
      stands = λ records settled h. value
          ∙ free_means c.args.self.now records settled c.args.delivery h;
    }
