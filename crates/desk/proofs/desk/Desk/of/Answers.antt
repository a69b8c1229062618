use Rattle.desk.proofs.Words.{◌∙◌, [], false, subst, KnowsRooms}
use Rattle.desk.proofs.DeskLaws.{stands_as}
use Rattle.desk.proofs.OpeningLaws.{is_desk_opened, limited_new, stands_opened}
use Rattle.desk.proofs.desk.Desk.of.Goals as goal

pub queue_of-requires-clause-limited : goal.queue_of-requires-clause-limited
queue_of-requires-clause-limited g c = limited_new c.deref.result.now c.args.books.endpoints
    (c.deref.ensures.value ∙ c.in_ok-limiters.ensures.limiters)

pub invariant_of-result-3 : goal.invariant_of-result-3
invariant_of-result-3 g c =
    let queue = c.in_ok-queue.queue in
    is_desk_opened c.args.books _ _ c.in_ok-new.field-0 c.args.pool c.in_ok-limiters.limiters.items queue c.args.mark
    c.endpoints.view_is c.deliveries.view_is c.requires.settled
    c.in_ok-limiters.ensures.in_step c.in_ok-limiters.ensures.all_settled c.in_ok-queue.ensures.in_step
    c.in_ok-new.ensures c.requires.empty c.in_ok-limiters.ensures.limiters c.in_ok-queue.ensures.queued
    (subst (λ ls. KnowsRooms queue c.args.books.endpoints ls []) c.deref.ensures.value c.in_ok-queue.ensures.lanes)

pub returns-clause-stands : goal.returns-clause-stands
returns-clause-stands g c = λ history are.
    stands_as (λ i. record {
      clock = c.args.books.clock;
      endpoints = c.endpoints.view_is i;
      deliveries = c.deliveries.view_is i;
      waiting = c.in_ok-new.field-0;
      halted = false;
      live = c.args.pool;
      limiters = c.in_ok-limiters.limiters.items;
    })
    (stands_opened c.args.books c.in_ok-new.field-0 c.args.pool c.in_ok-limiters.limiters.items c.args.mark
    c.in_ok-new.ensures c.requires.empty c.in_ok-limiters.ensures.limiters history are)
