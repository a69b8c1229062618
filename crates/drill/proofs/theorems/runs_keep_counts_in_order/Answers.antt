use Rattle.drill.proofs.BesideCommitLaws as laws
use Rattle.drill.proofs.theorems.runs_keep_counts_in_order.Goals as goal

pub returns : goal.returns
returns c = laws.runs_keep_counts
