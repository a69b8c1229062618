use Rattle.intake_shed.specs.Acks.{publish_ack_of}
use Rattle.intake_shed.proofs.AckLaws.{all_logged_on}
use Rattle.intake_shed.proofs.publish_ack.PublishAck.compare.Goals as goal

pub returns-clause-logged : goal.returns-clause-logged
returns-clause-logged g c =
    let self = c.self.inside in
    rw (← c.self.view_is) (all_logged_on g.I.LogId.is_base (publish_ack_of self.event self.body self.prefix)
    c.args.logged.now.writer
    c.compare.ensures.begins c.self.invariant.1)
