use Rattle.std.proofs.Common.{take}
use Rattle.delivery_book.specs.Fields.{HasLessKeys}
use Rattle.delivery_book.proofs.index.remove_events.Given as goal

abbrev pub invariant-loop-event : goal.invariant-loop-event
invariant-loop-event l = HasLessKeys l.initial.index (take l.event-index l.events) l.index
