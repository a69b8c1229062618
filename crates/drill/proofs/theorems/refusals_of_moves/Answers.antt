use Rattle.drill.proofs.RefusalLaws as laws
use Rattle.drill.proofs.theorems.refusals_of_moves.Goals as goal

pub returns : goal.returns
returns c = laws.refusals
