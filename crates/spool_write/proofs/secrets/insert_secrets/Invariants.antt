use Rattle.std.proofs.Common.{◌≡◌, IsTrue, take}
use Rattle.std.specs.List.{list_all}
use Rattle.sqlite.specs.State.{HasCleanDisk}
use Rattle.sqlite.specs.Held.{state}
use Rattle.relay_types.specs.Values.{is_secret}
use Rattle.spool_sql.specs.Steps.{Alters, Spares}
use Rattle.spool_write.specs.Entering.{with_secrets}
use Rattle.spool_write.proofs.secrets.insert_secrets.Given as goal

abbrev pub invariant-loop-place : goal.invariant-loop-place
invariant-loop-place g l = record {
  same_reference : l.tx.conn.ghost_name ≡ l.fn.tx.conn.ghost_name;
  spares : Spares (state g.S.Store l.fn.tx.conn.now) (state g.S.Store l.tx.conn.now);
  done : HasCleanDisk (state g.S.Store l.tx.conn.now) → IsTrue (state g.S.Store l.fn.tx.conn.now).in_transaction
      → IsTrue (state g.S.Store l.fn.tx.conn.now).is_open
      → Alters (state g.S.Store l.fn.tx.conn.now) (state g.S.Store l.tx.conn.now)
      (with_secrets l.put (take l.place l.secrets));
  valid : IsTrue (list_all is_secret (take l.place l.secrets));
}
