use Rattle.desk.proofs.Words.{take}
use Rattle.std.specs.Prelude.{All}
use Rattle.desk.specs.Desks.{HasMorePlaces, HasPlaceFor}
use Rattle.desk.proofs.publish.reserve_each.Given as goal

abbrev pub invariant-loop-name : goal.invariant-loop-name
invariant-loop-name l = record {
  more : HasMorePlaces l.fn.queue l.queue;
  each : All (HasPlaceFor l.queue l.deliveries) (take l.name-index l.names);
}
