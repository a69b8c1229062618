use Rattle.desk.proofs.Words.{take, HasPlaces, KeepsRooms}
use Rattle.desk.proofs.OpeningLaws.{HoldsAmong}
use Rattle.desk.proofs.opening.enqueue_all.Given as goal

abbrev pub invariant-loop-place : goal.invariant-loop-place
invariant-loop-place l = record {
  held : HoldsAmong l.queue l.deliveries (take l.place l.deliveries.entries);
  places : HasPlaces l.queue l.deliveries;
  rooms : KeepsRooms l.fn.queue l.queue;
}
