use Rattle.std.proofs.Common.{◌≡◌, take}
use Rattle.drill.specs.Memory.{all_tickets}
use Rattle.drill.proofs.runs.all_tickets.Given as goal

abbrev pub invariant-loop-event : goal.invariant-loop-event
invariant-loop-event l = record { counted : l.count ≡ all_tickets (take l.event-index l.events) }
