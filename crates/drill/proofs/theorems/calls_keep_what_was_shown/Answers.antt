use Rattle.drill.proofs.AfterCrashLaws as laws
use Rattle.drill.proofs.theorems.calls_keep_what_was_shown.Goals as goal

pub returns : goal.returns
returns g c = laws.calls_keep g.S.Store
