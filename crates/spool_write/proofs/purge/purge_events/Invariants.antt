use Rattle.std.proofs.Common.{◌≡◌, IsTrue, take}
use Rattle.sqlite.specs.State.{HasCleanDisk}
use Rattle.sqlite.specs.Held.{state}
use Rattle.spool_sql.specs.Steps.{AltersWhere, Spares}
use Rattle.spool_write.specs.Entering.{AreInTurn, without_events}
use Rattle.spool_write.proofs.PurgeSteps.{AreByEvent, are_taken}
use Rattle.spool_write.proofs.purge.purge_events.Given as goal

abbrev pub invariant-loop-delivery : goal.invariant-loop-delivery
invariant-loop-delivery g l = record {
  same_reference : l.tx.conn.ghost_name ≡ l.fn.tx.conn.ghost_name;
  spares : Spares (state g.S.Store l.fn.tx.conn.now) (state g.S.Store l.tx.conn.now);
  done : HasCleanDisk (state g.S.Store l.tx.conn.now) → IsTrue (state g.S.Store l.fn.tx.conn.now).in_transaction
      → IsTrue (state g.S.Store l.fn.tx.conn.now).is_open
      → AltersWhere (state g.S.Store l.fn.tx.conn.now) (state g.S.Store l.tx.conn.now)
      (λ rows. AreInTurn rows × AreByEvent l.tries)
      (without_events (are_taken l.before (take l.delivery-index l.page) l.tries));
}
