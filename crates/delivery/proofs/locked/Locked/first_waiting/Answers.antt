use Rattle.std.proofs.Common.{◌≡◌, ◌≤◌, rules}
use Rattle.desk.specs.declared.ticket.Ticket.{Ticket}
use Rattle.desk.specs.declared.ticket.Told.TheVariants.{Waiting}
use Rattle.desk.specs.OwnBooks as kept
use Rattle.delivery.proofs.ToldLaws.{event_waits}
use Rattle.delivery.proofs.locked.Locked.first_waiting.Goals as goal

pub returns-clause-none : goal.returns-clause-none
returns-clause-none g c =
    let desk = c.self.inside.desk in
    let found = c.settled_records-settled.ensures in
    let waits : (t : Ticket) → kept.told desk t ≡ Waiting → desk.waiting.settled ≤ t.seq = λ t is.
    event_waits desk t found.core found.once is in
    rw (← c.self.view_is) (search (rules, waits))
