use Rattle.std.proofs.Common.{◌≡◌, length}
use Rattle.delivery_book.specs.Entries.{settle_all}
use Rattle.delivery_book.proofs.book.DeliveryBook.settle_to.Given as goal

abbrev pub invariant-loop : goal.invariant-loop
invariant-loop l = settle_all l.self l.self.unsettled ≡ settle_all l.initial.self l.initial.self.unsettled

abbrev pub decreases-loop : goal.decreases-loop
decreases-loop l = length l.self.unsettled
