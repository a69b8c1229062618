use Rattle.std.proofs.Common.{◌≡◌, None, take}
use Rattle.std.specs.Prelude.{find}
use Rattle.delivery_book.proofs.Known.{is_left_as}
use Rattle.delivery_book.proofs.book.DeliveryBook.find_taken.Given as goal

abbrev pub invariant-loop-entry : goal.invariant-loop-entry
invariant-loop-entry l = find (is_left_as l.name l.id l.self-inside.settled_seq) (take l.entry-index l.entry-items)
    ≡ None
