use Rattle.std.proofs.Common.{◌≡◌, take}
use Rattle.serde_json.specs.View.{items_view}
use Rattle.intake_shed.specs.Done.{naturals, seqs_of}
use Rattle.intake_shed.proofs.done.numbers.Given as goal

abbrev pub invariant-loop-ticket : goal.invariant-loop-ticket
invariant-loop-ticket l = items_view l.values.items ≡ naturals (seqs_of (take l.ticket-index l.tickets))
