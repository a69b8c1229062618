use Rattle.desk.proofs.Words.{◌≡◌, ◌≤◌, ◌-◌, List, drop, max, Record, Row, Settles, HasWaiting, AreQueued}
use Rattle.desk.proofs.Words.{KeepsRooms, HasSameNames}
use Rattle.desk.proofs.queue_sync.settle_to.Given as goal

abbrev pub invariant-loop : goal.invariant-loop
invariant-loop l = record {
  number : l.deliveries.settled_seq ≡ l.counter;
  within : l.counter ≤ l.seq;
  next : l.deliveries.next_seq ≡ max l.fn.deliveries.next_seq l.counter;
  queued : (live : List Row) → AreQueued l.fn.queue l.fn.deliveries live → AreQueued l.queue l.deliveries live;
  rooms : KeepsRooms l.fn.queue l.queue;
  stands : Settles l.fn.deliveries l.counter l.deliveries;
  above : l.fn.deliveries.settled_seq ≤ l.counter;
  waits : (records : List Record) → HasWaiting l.fn.deliveries records
      → HasWaiting l.deliveries (drop (l.counter - l.fn.deliveries.settled_seq) records);
  names : HasSameNames l.fn.deliveries l.deliveries;
}
