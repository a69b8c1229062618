use Rattle.intake_shed.proofs.publish_ack.PublishAck.tickets.Goals as goal

pub returns-clause-logged : goal.returns-clause-logged
returns-clause-logged g c = rw (← c.self.view_is) c.self.invariant
