use Rattle.desk.proofs.Words.{◌≡◌, drop, first_fault}
use Rattle.desk.proofs.refusal.check.Given as goal

abbrev pub invariant-loop-there : goal.invariant-loop-there
invariant-loop-there l = first_fault l.faults ≡ first_fault (drop l.there-index l.faults)
