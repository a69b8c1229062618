use Rattle.std.proofs.Common.{◌≡◌, ◌≤◌, length, take, vec_capacity}
use Rattle.std.specs.Prelude.{All}
use Rattle.drill.specs.Memory.{IsPrepared, events_of}
use Rattle.drill.proofs.runs.prepare_all.Given as goal

abbrev pub invariant-loop-event : goal.invariant-loop-event
invariant-loop-event l = record {
  items : events_of l.calls.items ≡ take l.event-index l.events;
  seqs : All IsPrepared l.calls.items;
  room : length l.events ≤ vec_capacity l.calls;
}
