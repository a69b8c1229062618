use Rattle.std.proofs.Common.{subst}
use Rattle.delivery_book.specs.Entries.{BookValue, IsInStep}
use Rattle.delivery_book.proofs.InStep.{in_step}
use Rattle.delivery_book.proofs.book.DeliveryBook.len.Goals as goal

pub returns-clause-in_step : goal.returns-clause-in_step
returns-clause-in_step c =
    let b = c.self.inside in
    let is = c.self.invariant in
    subst (λ (v : BookValue). IsInStep v) c.self.view_is
    (in_step b.entries.items b.unsettled.items b.next_seq b.settled_seq is.keyed.numbered is.queue.caught_up
    is.queue.later is.marks.taken)
