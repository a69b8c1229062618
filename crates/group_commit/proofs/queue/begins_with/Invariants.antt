use Rattle.std.proofs.Common.{◌≡◌, take}
use Rattle.group_commit.proofs.queue.begins_with.Given as goal

abbrev pub invariant-loop-place : goal.invariant-loop-place
invariant-loop-place l = take l.place l.front ≡ take l.place l.steps.items
