use Rattle.std.proofs.Common.{subst, sym, refl, List}
use Rattle.desk.specs.Desks.{DeskValue, StandsFor}
use Rattle.relay_types.specs.declared.record.Record.{Record}
use Rattle.intake_shed.specs.Acks.{IsLogged, ack_of}
use Rattle.intake_shed.proofs.AckLaws.{shown}
use Rattle.intake_shed.proofs.ack.Ack.of.Goals as goal

pub invariant_of-result : goal.invariant_of-result
invariant_of-result g c =
    let locked = c.args.locked.now in
    let is_settled = c.if-is_settled.ensures in
    subst (λ (f : List Record). IsLogged g.I.LogId.is_base (ack_of c.args.ticket c.args.body f) f)
    (sym c.settled_prefix.ensures.prefix)
    (shown g.I.LogId.is_base g.I.LogId.start locked.desk locked.prefix c.args.ticket c.args.body
    c.settled_prefix.ensures.settled
    (λ w stands.
    (is_settled.stands w (subst (λ (d : DeskValue). StandsFor d w) (sym c.desk.ensures) stands)).0 refl))
