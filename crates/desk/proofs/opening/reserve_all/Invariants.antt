use Rattle.desk.proofs.Words.{◌≡◌, true, take, list_all, HasSamePairs, HasSameRooms}
use Rattle.desk.proofs.OpeningLaws.{has_all}
use Rattle.desk.proofs.opening.reserve_all.Given as goal

abbrev pub invariant-loop-place : goal.invariant-loop-place
invariant-loop-place l = record {
  pairs : HasSamePairs l.fn.queue l.queue;
  rooms : HasSameRooms l.fn.queue l.queue;
  places : list_all (has_all l.deliveries l.queue) (take l.place l.deliveries.entries) ≡ true;
}
