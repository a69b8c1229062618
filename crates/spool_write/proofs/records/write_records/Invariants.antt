use Rattle.std.proofs.Common.{◌≡◌, ◌+◌, length, take, true, IsTrue}
use Rattle.sqlite.specs.State.{HasCleanDisk}
use Rattle.sqlite.specs.Held.{state}
use Rattle.relay_types.specs.Records.{records_of}
use Rattle.spool_sql.specs.Steps.{Spares}
use Rattle.spool_write.specs.Entering.{Enters}
use Rattle.spool_write.proofs.records.write_records.Given as goal

abbrev pub invariant-loop-step : goal.invariant-loop-step
invariant-loop-step g l = record {
  place : l.place ≡ l.next + length (records_of (take l.step-index l.steps));
  same_reference : l.tx.conn.ghost_name ≡ l.fn.tx.conn.ghost_name;
  spares : Spares (state g.S.Store l.fn.tx.conn.now) (state g.S.Store l.tx.conn.now);
  inside : HasCleanDisk (state g.S.Store l.tx.conn.now) → IsTrue (state g.S.Store l.fn.tx.conn.now).in_transaction
      → IsTrue (state g.S.Store l.tx.conn.now).in_transaction;
  done : HasCleanDisk (state g.S.Store l.tx.conn.now) → IsTrue (state g.S.Store l.fn.tx.conn.now).in_transaction
      → IsTrue (state g.S.Store l.fn.tx.conn.now).is_open
      → Enters (state g.S.Store l.fn.tx.conn.now) (state g.S.Store l.tx.conn.now) l.next
      (records_of (take l.step-index l.steps)) true;
}
