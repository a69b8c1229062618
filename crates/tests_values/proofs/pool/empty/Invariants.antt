use Rattle.tests_values.proofs.pool.empty.Given as goal

abbrev pub decreases-loop-permit : goal.decreases-loop-permit
decreases-loop-permit g l = goal.left-loop-permit g l
