use Rattle.std.proofs.Common.{◌≡◌, ◌<◌, ◌+◌, ◌-◌, IsTrue, nat_lt}
use Rattle.sqlite.specs.State.{HasCleanDisk}
use Rattle.sqlite.specs.Held.{state}
use Rattle.spool_sql.specs.Steps.{AltersWhere, Spares}
use Rattle.spool_write.specs.Entering.{AreWalkable, without_past}
use Rattle.spool_write.proofs.purge.write_purge.Given as goal

abbrev pub invariant-loop-from : goal.invariant-loop-from
invariant-loop-from g l = record {
  same_reference : l.tx.conn.ghost_name ≡ l.fn.tx.conn.ghost_name;
  spares : Spares (state g.S.Store l.fn.tx.conn.now) (state g.S.Store l.tx.conn.now);
  inside : HasCleanDisk (state g.S.Store l.tx.conn.now) → IsTrue (state g.S.Store l.fn.tx.conn.now).in_transaction
      → IsTrue (state g.S.Store l.tx.conn.now).in_transaction;
  was_open : HasCleanDisk (state g.S.Store l.tx.conn.now) → IsTrue (state g.S.Store l.fn.tx.conn.now).in_transaction
      → 0 < l.from → IsTrue (state g.S.Store l.fn.tx.conn.now).is_open;
  done : HasCleanDisk (state g.S.Store l.tx.conn.now) → IsTrue (state g.S.Store l.fn.tx.conn.now).in_transaction
      → IsTrue (state g.S.Store l.fn.tx.conn.now).is_open
      → AltersWhere (state g.S.Store l.fn.tx.conn.now) (state g.S.Store l.tx.conn.now) (AreWalkable l.end)
      (without_past l.moment (λ d. nat_lt d l.from));
}

abbrev pub decreases-loop-from : goal.decreases-loop-from
decreases-loop-from g l = l.end + 1 - l.from
