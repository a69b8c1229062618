use Rattle.std.proofs.Common.{◌≡◌, ◌≤◌, take, vec_len, vec_capacity}
use Rattle.group_commit.proofs.queue.share_first.Given as goal

abbrev pub invariant-loop-place : goal.invariant-loop-place
invariant-loop-place l = record {
  items : l.first.items ≡ take l.place l.steps.items;
  len : vec_len l.first ≡ l.place;
  room : l.count ≤ vec_capacity l.first;
}
