use Rattle.desk.proofs.Words.{◌∙◌, length, all_records, settled_records}
use Rattle.desk.proofs.DeskLaws.{stands_as, page_absent, page_found}
use Rattle.desk.proofs.desk.Desk.event_page.Goals as goal

pub returns-in_err-delivery-clause-stands : goal.returns-in_err-delivery-clause-stands
returns-in_err-delivery-clause-stands g c = λ w h.
    let stands = (stands_as c.self.view_is h).books.of_deliveries in
    c.from_residual.ensures
    ∙ page_absent w c.args.name c.args.id.now
    (c.in_err-delivery.ensures.stands (all_records w) (length (settled_records w)) stands)

pub returns-clause-stands : goal.returns-clause-stands
returns-clause-stands g c = λ w h.
    let stands = (stands_as c.self.view_is h).books.of_deliveries in
    page_found w c.args.name c.args.id.now c.in_ok-delivery.delivery
    (c.in_ok-delivery.ensures.stands (all_records w) (length (settled_records w)) stands)
    (c.settled.ensures.stands (all_records w) (length (settled_records w)) stands)
