use Rattle.desk.proofs.Words.{pair_of}
use Rattle.desk.proofs.ClaimLaws.{places_let_go}
use Rattle.desk.proofs.queue_sync.dequeue.Goals as goal

pub returns-in-Some-clause-places : goal.returns-in-Some-clause-places
returns-in-Some-clause-places c =
    places_let_go c.args.queue.now c.remove.new.self c.args.deliveries.now (pair_of _ _ c.args.delivery)
    c.requires.places c.due_of.ensures.once
    (record { pairs = c.remove.ensures.pairs; state = c.remove.ensures.state; place = c.remove.ensures.place })
