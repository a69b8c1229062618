use Rattle.std.proofs.Common.{subst}
use Rattle.delivery_book.specs.Entries.{BookValue, IsInStep}
use Rattle.delivery_book.proofs.InStep.{in_step}
use Rattle.delivery_book.proofs.book.DeliveryBook.next_settled.Goals as goal

pub returns-then-is_some-clause-in_step : goal.returns-then-is_some-clause-in_step
returns-then-is_some-clause-in_step c =
    let b = c.self.inside in
    let is = c.self.invariant in
    subst (λ (v : BookValue). IsInStep v) c.self.view_is
    (in_step b.entries.items b.unsettled.items b.next_seq b.settled_seq is.keyed.numbered is.queue.caught_up
    is.queue.later is.marks.taken)

pub returns-in-Some-clause-in_step : goal.returns-in-Some-clause-in_step
returns-in-Some-clause-in_step c =
    let b = c.self.inside in
    let is = c.self.invariant in
    subst (λ (v : BookValue). IsInStep v) c.self.view_is
    (in_step b.entries.items b.unsettled.items b.next_seq b.settled_seq is.keyed.numbered is.queue.caught_up
    is.queue.later is.marks.taken)

pub returns-in_default-clause-in_step : goal.returns-in_default-clause-in_step
returns-in_default-clause-in_step c =
    let b = c.self.inside in
    let is = c.self.invariant in
    subst (λ (v : BookValue). IsInStep v) c.self.view_is
    (in_step b.entries.items b.unsettled.items b.next_seq b.settled_seq is.keyed.numbered is.queue.caught_up
    is.queue.later is.marks.taken)

pub returns-in_default-2-clause-in_step : goal.returns-in_default-2-clause-in_step
returns-in_default-2-clause-in_step c =
    let b = c.self.inside in
    let is = c.self.invariant in
    subst (λ (v : BookValue). IsInStep v) c.self.view_is
    (in_step b.entries.items b.unsettled.items b.next_seq b.settled_seq is.keyed.numbered is.queue.caught_up
    is.queue.later is.marks.taken)
