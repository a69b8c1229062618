use Rattle.intake_shed.specs.Done.{accepted_text}
use Rattle.intake_shed.proofs.done.accepted_reply.Goals as goal

pub returns : goal.returns
returns c = c.done.ensures (accepted_text c.args.id.now c.args.seq) c.accepted_text.ensures
