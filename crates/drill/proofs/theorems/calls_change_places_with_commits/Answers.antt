use Rattle.drill.proofs.BesideCommitLaws as laws
use Rattle.drill.proofs.theorems.calls_change_places_with_commits.Goals as goal

pub returns : goal.returns
returns c = laws.calls_change_places
