use Rattle.desk.proofs.Words.{refl, sym, subst}
use Rattle.desk.proofs.SettleLaws.{HoldsNext, names_next, new_next, one_settled, places_next, queued_next}
use Rattle.desk.proofs.queue_sync.settle_next.Goals as goal

pub enqueue-requires : goal.enqueue-requires
enqueue-requires c = record {
  places = places_next c.args.queue.now c.args.deliveries.now c.settle_to.new.self c.settled_seq-seq.result
      c.settled_seq-seq.ensures.value c.settle_to.ensures.value c.requires.queued;
  unheld = new_next c.args.queue.now c.args.deliveries.now c.next_settled-concerned.result c.in-Some.delivery
      c.next_settled-concerned.ensures.value c.in-Some.is c.requires.queued;
}

pub returns-in-Some-clause-queued : goal.returns-in-Some-clause-queued
returns-in-Some-clause-queued c =
    queued_next c.args.queue.now c.enqueue.new.queue c.args.deliveries.now c.settle_to.new.self c.settled_seq-seq.result
    c.next_settled-concerned.result
    c.settled_seq-seq.ensures.once c.next_settled-concerned.ensures.in_step
    c.settled_seq-seq.ensures.value c.settle_to.ensures.value c.next_settled-concerned.ensures.value
    (subst (λ o. HoldsNext c.args.queue.now c.enqueue.new.queue c.settle_to.new.self o) (sym c.in-Some.is)
    c.enqueue.ensures.held) c.enqueue.ensures.places

pub returns-in_default-clause-queued : goal.returns-in_default-clause-queued
returns-in_default-clause-queued c = λ live queued.
    queued_next c.args.queue.now c.args.queue.now c.args.deliveries.now c.settle_to.new.self c.settled_seq-seq.result
    c.next_settled-concerned.result
    c.settled_seq-seq.ensures.once c.next_settled-concerned.ensures.in_step
    c.settled_seq-seq.ensures.value c.settle_to.ensures.value c.next_settled-concerned.ensures.value
    (subst (λ o. HoldsNext c.args.queue.now c.args.queue.now c.settle_to.new.self o) (sym c.in_default.is) refl)
    (places_next c.args.queue.now c.args.deliveries.now c.settle_to.new.self c.settled_seq-seq.result
    c.settled_seq-seq.ensures.value c.settle_to.ensures.value c.requires.queued)
    live queued

pub returns-in-Some-clause-waits : goal.returns-in-Some-clause-waits
returns-in-Some-clause-waits c = λ records waits. one_settled c.args.deliveries.now c.settle_to.new.self
    c.settled_seq-seq.result records c.next_settled-concerned.ensures.in_step c.settled_seq-seq.ensures.value
    c.settle_to.ensures.value waits

pub returns-in_default-clause-waits : goal.returns-in_default-clause-waits
returns-in_default-clause-waits c = λ records waits. one_settled c.args.deliveries.now c.settle_to.new.self
    c.settled_seq-seq.result records c.next_settled-concerned.ensures.in_step c.settled_seq-seq.ensures.value
    c.settle_to.ensures.value waits

pub returns-in-Some-clause-names : goal.returns-in-Some-clause-names
returns-in-Some-clause-names c =
    names_next c.args.deliveries.now c.settle_to.new.self c.settled_seq-seq.result c.settled_seq-seq.ensures.once
    c.settle_to.ensures.value

pub returns-in_default-clause-names : goal.returns-in_default-clause-names
returns-in_default-clause-names c =
    names_next c.args.deliveries.now c.settle_to.new.self c.settled_seq-seq.result c.settled_seq-seq.ensures.once
    c.settle_to.ensures.value
