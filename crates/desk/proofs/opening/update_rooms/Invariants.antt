use Rattle.desk.proofs.Words.{map, take, HasSamePairs, KeepsPlaces}
use Rattle.desk.proofs.OpeningLaws.{AreTold}
use Rattle.desk.proofs.opening.update_rooms.Given as goal

abbrev pub invariant-loop-name : goal.invariant-loop-name
invariant-loop-name g l = record {
  pairs : HasSamePairs l.fn.queue l.queue;
  places : KeepsPlaces l.fn.queue l.queue;
  told : AreTold l.queue l.endpoints l.limiters (take l.name-index (map (λ e. e.name) l.endpoints.entries));
}
