use Rattle.desk.proofs.RowLaws.{AreAll}
use Rattle.desk.proofs.batches.emptied.Given as goal

abbrev pub invariant-loop-permit : goal.invariant-loop-permit
invariant-loop-permit g l = AreAll l.permits.items l.pool

abbrev pub decreases-loop-permit : goal.decreases-loop-permit
decreases-loop-permit g l = goal.left-loop-permit g l
