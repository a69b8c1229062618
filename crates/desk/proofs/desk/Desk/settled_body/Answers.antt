use Rattle.desk.proofs.Words.{◌≡◌, ◌∙◌, sym, ap, true, length, None, if◌then◌else◌, body_of, all_records}
use Rattle.desk.proofs.Words.{settled_records, has_event}
use Rattle.desk.proofs.DeskLaws.{stands_as, body_is}
use Rattle.desk.proofs.desk.Desk.settled_body.Goals as goal

pub returns-then-has_settled-clause-stands : goal.returns-then-has_settled-clause-stands
returns-then-has_settled-clause-stands g c = λ w h.
    let ticket = c.args.ticket.now in
    let settled : has_event (settled_records w) ticket ≡ true = sym (c.has_settled.ensures.stands w h)
    ∙ c.if-has_settled.true in
    c.body.ensures.stands (all_records w) (length (settled_records w)) (stands_as c.self.view_is h).books.of_deliveries
    ∙ body_is w ticket settled
    ∙ ap (λ b. if b then body_of (settled_records w) ticket.seq else None) (sym settled)
