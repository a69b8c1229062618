use Rattle.std.proofs.Common.{subst}
use Rattle.delivery_book.specs.Entries.{BookValue, HasOneEach}
use Rattle.delivery_book.proofs.Entries.{one_each}
use Rattle.delivery_book.proofs.book.DeliveryBook.delivery.Goals as goal

pub returns-in-Some-clause-once : goal.returns-in-Some-clause-once
returns-in-Some-clause-once c = subst (λ (b : BookValue). HasOneEach b) c.self.view_is
    (one_each _ c.self.invariant.keyed.ascending)

pub returns-in-None-clause-once : goal.returns-in-None-clause-once
returns-in-None-clause-once c = subst (λ (b : BookValue). HasOneEach b) c.self.view_is
    (one_each _ c.self.invariant.keyed.ascending)
