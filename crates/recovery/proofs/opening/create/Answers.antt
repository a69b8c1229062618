use Rattle.std.proofs.Common.{inr}
use Rattle.recovery.proofs.opening.create.Goals as goal

pub returns-in-Err-clause-refused : goal.returns-in-Err-clause-refused
returns-in-Err-clause-refused g c = inr c.in-Err.ensures.refused
