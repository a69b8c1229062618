use Rattle.std.proofs.Common.{◌≡◌, take}
use Rattle.std.specs.List.{list_any}
use Rattle.delivery_book.specs.Entries.{marked}
use Rattle.delivery_book.proofs.Marks.{half, is_done}
use Rattle.delivery_book.proofs.purge.mark_done.Given as goal

abbrev pub invariant-loop-entry : goal.invariant-loop-entry
invariant-loop-entry l = record {
  changed : l.entries ≡ half (marked l.seq l.moment) l.entry-index l.fn.entries;
  took : l.took ≡ list_any (is_done l.moment) (take l.entry-index l.fn.entries);
}
