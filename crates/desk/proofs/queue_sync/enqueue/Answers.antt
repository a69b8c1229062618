use Rattle.desk.proofs.Words.{sym}
use Rattle.desk.proofs.ClaimLaws.{idle_from, idle_held, idle_place}
use Rattle.desk.proofs.queue_sync.enqueue.Goals as goal

pub insert-requires : goal.insert-requires
insert-requires c = record {
  place = idle_place c.args.queue.now c.args.deliveries.now c.args.delivery _ c.requires.places c.requires.unheld
      (idle_from c.args.deliveries.now c.args.delivery _ (sym c.if-not-takes_outcome.ensures.value)
      c.in-Some.ensures.pair);
  unheld = c.requires.unheld;
}

pub returns-in-Some-clause-places : goal.returns-in-Some-clause-places
returns-in-Some-clause-places c =
    idle_held c.args.queue.now c.insert.new.self c.args.deliveries.now c.args.delivery _ c.requires.places
    c.requires.unheld
    (idle_from c.args.deliveries.now c.args.delivery _ (sym c.if-not-takes_outcome.ensures.value)
    c.in-Some.ensures.pair)
    (record { pairs = c.insert.ensures.pairs; state = c.insert.ensures.state })
