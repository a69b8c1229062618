use Rattle.drill.proofs.AfterCrashLaws as laws
use Rattle.drill.proofs.theorems.runs_go_on.Goals as goal

pub returns : goal.returns
returns c = laws.go_on
