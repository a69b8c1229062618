use Rattle.std.proofs.Common.{◌==◌, ◌∙◌}
use Rattle.sound_rows.specs.declared.numbers.Delivery.{Delivery}
use Rattle.sound_rows.proofs.SearchLaws.{found, not_found}
use Rattle.sound_rows.proofs.search.is_delivery_of.Goals as goal

pub returns-in-Some : goal.returns-in-Some
returns-in-Some c =
    let place = c.place_of_delivery in
    let rows = c.args.deliveries.now in
    let x = c.in-Some.found.now in
    let is = rw c.in-Some.is at c.get.ensures.lookup.1 in
    let within = rw c.in-Some.is at c.get.ensures.lookup.3 in
    c.is_of.ensures
    ∙ found (λ (x : Delivery). x.seq) (λ x. x.endpoint == c.args.put) rows c.args.seq place.result c.requires
    (λ k d h. place.ensures.below k d h) (λ k d h l. place.ensures.above k d h l) x within.0 is

pub returns-in-None : goal.returns-in-None
returns-in-None c =
    let place = c.place_of_delivery in
    let behind = rw c.in-None.is at c.get.ensures.lookup.3 in
    not_found (λ (x : Delivery). x.seq) (λ x. x.endpoint == c.args.put) c.args.deliveries.now c.args.seq place.result
    c.requires (λ k d h. place.ensures.below k d h) (λ k d h l. place.ensures.above k d h l) behind
