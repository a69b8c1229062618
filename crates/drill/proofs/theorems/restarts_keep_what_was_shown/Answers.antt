use Rattle.drill.proofs.AfterCrashLaws as laws
use Rattle.drill.proofs.theorems.restarts_keep_what_was_shown.Goals as goal

pub returns : goal.returns
returns c = laws.restarts_keep
