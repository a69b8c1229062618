use Rattle.std.proofs.Common.{take}
use Rattle.delivery_book.specs.Fields.{AreFirst, IsNamed}
use Rattle.delivery_book.proofs.purge.first_purge.Given as goal

abbrev pub invariant-loop-entry : goal.invariant-loop-entry
invariant-loop-entry l = record {
  first : AreFirst l.first (take l.entry-index l.entries);
  named : IsNamed l.first (take l.entry-index l.entries);
}
