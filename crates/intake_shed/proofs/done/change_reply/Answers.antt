use Rattle.intake_shed.specs.Done.{change_text}
use Rattle.intake_shed.proofs.done.change_reply.Goals as goal

pub returns : goal.returns
returns c = c.done.ensures (change_text c.args.seq) c.change_text.ensures
