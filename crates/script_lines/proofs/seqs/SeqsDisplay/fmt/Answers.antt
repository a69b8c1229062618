use Rattle.std.proofs.Common.{arith}
use Rattle.std.proofs.lemmas.Grind.{common_steps}
use Rattle.script_lines.proofs.SeqsLaws.{numbers_more}
use Rattle.script_lines.proofs.seqs.SeqsDisplay.fmt.Goals as goal

pub loop-seq-preserved : goal.loop-seq-preserved
loop-seq-preserved g c = grind (arith, common_steps, numbers_more)
