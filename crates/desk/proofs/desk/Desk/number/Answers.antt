use Rattle.desk.proofs.Words.{◌∙◌, ap, arith, slice_set}
use Rattle.desk.specs.Desks.{ticket_by}
use Rattle.desk.specs.declared.ticket.Ticket.{Ticket}
use Rattle.desk.proofs.PublishLaws.{half_more}
use Rattle.desk.proofs.desk.Desk.number.Goals as goal

pub loop-ticket-preserved : goal.loop-ticket-preserved
loop-ticket-preserved g c =
    let l = c.loop-ticket in
    let anew = λ (t : Ticket). ticket_by c.args.self.now.deliveries t.id t.name in
    ap (slice_set l.tickets l.ticket-index) c.ticket.ensures
    ∙ half_more anew c.args.tickets.now l.tickets l.ticket-index _ (omega (arith, c.loop-ticket-test.true)) l.invariant
