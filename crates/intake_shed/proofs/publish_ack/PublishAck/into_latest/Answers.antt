use Rattle.std.proofs.Common.{◌≡◌, subst, Any, List}
use Rattle.desk.specs.declared.ticket.Ticket.{Ticket}
use Rattle.intake_shed.specs.Acks.{IsLogged, ack_of}
use Rattle.intake_shed.proofs.AckLaws.{one_logged}
use Rattle.intake_shed.proofs.publish_ack.PublishAck.into_latest.Goals as goal

pub new-requires : goal.new-requires
new-requires g c =
    let self = c.self.inside in
    let latest = c.latest_of.result in
    let one = subst (λ (ts : List Ticket). Any (λ (t : Ticket). t ≡ latest) ts) c.tickets.ensures.value
    c.latest_of.ensures.one in
    subst (λ (t : Ticket). IsLogged g.I.LogId.is_base (ack_of t self.body self.prefix) self.prefix) one.4
    (one_logged g.I.LogId.is_base self.event self.body self.prefix one.0 one.1 c.tickets.ensures.subscribers
    c.self.invariant.1 one.2 one.3)
