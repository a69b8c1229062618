use Rattle.std.proofs.Common.{take}
use Rattle.delivery_book.specs.Fields.{HasRoomForAll, HasSame, KeepsRoom}
use Rattle.delivery_book.proofs.tally.Tally.open_all.Given as goal

abbrev pub invariant-loop-entry : goal.invariant-loop-entry
invariant-loop-entry l = record {
  same : HasSame l.initial.self l.self;
  opened : HasRoomForAll l.self (take l.entry-index l.entries);
  stays : KeepsRoom l.initial.self l.self;
}
