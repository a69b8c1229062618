use Rattle.desk.proofs.Words.{◌∙◌, ap, length, row_of, all_records, settled_records, is_row_of}
use Rattle.desk.proofs.DeskLaws.{stands_as, settled_front, row_is_event}
use Rattle.desk.proofs.desk.Desk.has_settled.Goals as goal

pub returns-clause-stands : goal.returns-clause-stands
returns-clause-stands g c = λ w h.
    let ticket = c.args.ticket.now in
    c.is_of.ensures
    ∙ ap (is_row_of ticket) (c.settled.ensures.stands (all_records w) (length (settled_records w))
    (stands_as c.self.view_is h).books.of_deliveries)
    ∙ ap (λ records. is_row_of ticket (row_of records ticket.seq)) (settled_front w)
    ∙ row_is_event (settled_records w) ticket
