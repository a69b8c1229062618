use Rattle.std.proofs.Common.{take}
use Rattle.std.specs.Prelude.{filter}
use Rattle.delivery_book.specs.Fields.{HasMore, KeepsRoom, is_taken_below, settled_among}
use Rattle.delivery_book.proofs.tally.count_out.Given as goal

abbrev pub invariant-loop-entry : goal.invariant-loop-entry
invariant-loop-entry l = record {
  less : HasMore l.tally (settled_among (filter (is_taken_below l.seq) (take l.entry-index l.entries))) l.initial.tally;
  stays : KeepsRoom l.initial.tally l.tally;
}
