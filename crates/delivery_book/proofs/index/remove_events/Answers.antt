use Rattle.delivery_book.proofs.IndexLemmas.{keys-less}
use Rattle.delivery_book.proofs.index.remove_events.Goals as goal

pub loop-event-preserved : goal.loop-event-preserved
loop-event-preserved c =
    keys-less c.args.index.now c.loop-event.index c.remove.new.self c.args.events.now c.loop-event.event-index
    c.event-item.result c.loop-event-test.true c.event-item.is c.loop-event.invariant c.remove.ensures
