use Rattle.std.proofs.Common.{◌≡◌, [], List, map}
use Rattle.sqlite.specs.State.{HasCleanDisk}
use Rattle.sqlite.specs.Held.{state}
use Rattle.relay_types.specs.declared.record.Record.{Record}
use Rattle.relay_types.specs.Legal.{IsLegal}
use Rattle.relay_types.specs.Rows.{rows_of}
use Rattle.spool_sql.specs.Stored.{IsTables, endpoint_of}
use Rattle.spool_load.specs.Loading.{Restores}
use Rattle.spool_load.proofs.QuietReads.{IsQuiet}
use Rattle.spool_load.proofs.endpoints.restore_page.Given as goal

abbrev pub invariant-loop-row : goal.invariant-loop-row
invariant-loop-row g l = record {
  same_reference : l.tx.conn.ghost_name ≡ l.fn.tx.conn.ghost_name;
  quiet : IsQuiet (state g.S.Store l.fn.tx.conn.now) (state g.S.Store l.tx.conn.now);
  settled : l.loaded.book.changes ≡ [];
  done : HasCleanDisk (state g.S.Store l.tx.conn.now) → (records : List Record) → IsLegal records
      → IsTables (state g.S.Store l.fn.tx.conn.now).now (rows_of records)
      → Restores l.fn.loaded l.loaded (map endpoint_of l.yielded) records;
}
