use Rattle.drill.proofs.AttemptLaws as laws
use Rattle.drill.proofs.unrecorded.attempts_are_pending_again.Goals as goal

pub returns : goal.returns
returns c = laws.attempts_pending_again
