use Rattle.desk.proofs.PublishLaws.{half}
use Rattle.desk.specs.Desks.{ticket_by}
use Rattle.desk.specs.declared.ticket.Ticket.{Ticket}
use Rattle.desk.proofs.Words.{◌≡◌}
use Rattle.desk.proofs.desk.Desk.number.Given as goal

abbrev pub invariant-loop-ticket : goal.invariant-loop-ticket
invariant-loop-ticket g l =
    l.tickets ≡ half (λ (t : Ticket). ticket_by l.self.deliveries t.id t.name) l.ticket-index l.fn.tickets
