use Rattle.std.proofs.Common.{subst}
use Rattle.delivery_book.specs.Entries.{BookValue, HasOneEach}
use Rattle.delivery_book.proofs.Entries.{one_each}
use Rattle.delivery_book.proofs.book.DeliveryBook.settled_seq.Goals as goal

pub returns-clause-once : goal.returns-clause-once
returns-clause-once c = subst (λ (b : BookValue). HasOneEach b) c.self.view_is
    (one_each _ c.self.invariant.keyed.ascending)
