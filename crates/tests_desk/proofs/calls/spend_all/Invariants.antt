use Rattle.tests_desk.proofs.calls.spend_all.Given as goal

abbrev pub decreases-loop-job : goal.decreases-loop-job
decreases-loop-job g l = goal.left-loop-job g l
