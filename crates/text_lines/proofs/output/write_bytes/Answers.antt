use Rattle.text_lines.proofs.output.write_bytes.Goals as goal
use Rattle.text_lines.proofs.StreamLaws.{AppendsBefore-more}

pub loop-preserved : goal.loop-preserved
loop-preserved g c = AppendsBefore-more _ _ _ _ _ _ c.loop.invariant c.in_ok-count.ensures.written
