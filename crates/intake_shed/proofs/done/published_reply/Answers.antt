use Rattle.intake_shed.specs.Done.{published_text, seqs_of}
use Rattle.intake_shed.proofs.done.published_reply.Goals as goal

pub returns : goal.returns
returns c = c.done.ensures (published_text c.args.id.now (seqs_of c.args.tickets.now)) c.published_text.ensures
