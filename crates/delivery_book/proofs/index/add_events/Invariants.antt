use Rattle.std.proofs.Common.{take}
use Rattle.delivery_book.specs.Fields.{HasMoreKeys}
use Rattle.delivery_book.proofs.index.add_events.Given as goal

abbrev pub invariant-loop-place : goal.invariant-loop-place
invariant-loop-place l = HasMoreKeys l.initial.index (take l.place l.events) l.index
