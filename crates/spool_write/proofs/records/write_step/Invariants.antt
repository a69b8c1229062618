use Rattle.std.proofs.Common.{◌≡◌, ◌<◌, ◌+◌, take, true, IsTrue}
use Rattle.sqlite.specs.State.{HasCleanDisk}
use Rattle.sqlite.specs.Held.{state}
use Rattle.spool_sql.specs.Steps.{Spares}
use Rattle.spool_write.specs.Entering.{Enters}
use Rattle.spool_write.proofs.records.write_step.Given as goal

abbrev pub invariant-loop-entry : goal.invariant-loop-entry
invariant-loop-entry g l = record {
  place : l.place ≡ l.next + l.entry-index;
  same_reference : l.tx.conn.ghost_name ≡ l.fn.tx.conn.ghost_name;
  spares : Spares (state g.S.Store l.fn.tx.conn.now) (state g.S.Store l.tx.conn.now);
  inside : HasCleanDisk (state g.S.Store l.tx.conn.now) → IsTrue (state g.S.Store l.fn.tx.conn.now).in_transaction
      → IsTrue (state g.S.Store l.tx.conn.now).in_transaction;
  done : HasCleanDisk (state g.S.Store l.tx.conn.now) → IsTrue (state g.S.Store l.fn.tx.conn.now).in_transaction
      → IsTrue (state g.S.Store l.fn.tx.conn.now).is_open
      → Enters (state g.S.Store l.fn.tx.conn.now) (state g.S.Store l.tx.conn.now) l.next (take l.entry-index l.records)
      true;
  was_open : HasCleanDisk (state g.S.Store l.tx.conn.now) → IsTrue (state g.S.Store l.fn.tx.conn.now).in_transaction
      → 0 < l.entry-index → IsTrue (state g.S.Store l.fn.tx.conn.now).is_open;
}
