use Rattle.std.proofs.Common.{◌≡◌, take}
use Rattle.spool.specs.Batches.{upto_of}
use Rattle.spool.proofs.batch.number_behind.Given as goal

abbrev pub invariant-loop-step : goal.invariant-loop-step
invariant-loop-step l = l.upto ≡ upto_of l.from (take l.step-index l.steps)
