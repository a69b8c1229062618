use Rattle.drill.proofs.RunLaws as laws
use Rattle.drill.proofs.theorems.served_runs_are_computed.Goals as goal

pub returns : goal.returns
returns c = laws.served_runs_are_computed
