use Rattle.std.proofs.Common.{subst, sym, refl, List}
use Rattle.desk.specs.declared.ticket.Ticket.{Ticket}
use Rattle.desk.specs.Desks.{DeskValue, OverWorlds, StandsFor}
use Rattle.desk.specs.OwnBooks as kept
use Rattle.desk.specs.Queries.{settled_body}
use Rattle.relay_types.specs.declared.record.Record.{Record}
use Rattle.intake_shed.specs.Acks.{AreLogged, AreSettled, publish_ack_of}
use Rattle.intake_shed.proofs.AckLaws.{all_shown}
use Rattle.intake_shed.proofs.publish_ack.PublishAck.of.Goals as goal

pub invariant_of-result : goal.invariant_of-result
invariant_of-result g c =
    let I = g.I.LogId in
    let locked = c.args.locked.now in
    let event = c.args.event in
    let body = c.args.body in
    let are_settled = c.if-not-are_settled.ensures in
    let there : AreSettled (kept.settled_body c.desk.result.now) event.tickets body =
    subst (λ (ts : List Ticket). AreSettled (kept.settled_body c.desk.result.now) ts body) c.tickets.ensures.value
    (are_settled.value.0 refl) in
    let settled : OverWorlds locked.desk (λ w. AreSettled (settled_body w) event.tickets body) = λ w stands.
    subst (λ (ts : List Ticket). AreSettled (settled_body w) ts body) c.tickets.ensures.value
    ((are_settled.stands w (subst (λ (d : DeskValue). StandsFor d w) (sym c.desk.ensures) stands)).0 refl) in (
      there.0,
      subst (λ (f : List Record). AreLogged I.is_base (publish_ack_of event body f) f)
          (sym c.settled_prefix-prefix.ensures.prefix)
          (all_shown I.is_base I.start locked.desk locked.prefix event body c.settled_prefix-prefix.ensures.settled
          c.tickets.ensures.subscribers settled),
    )
