use Rattle.std.proofs.Common.{◌≡◌, ◌≤◌, ◌-◌, List}
use Rattle.sqlite.specs.State.{HasCleanDisk}
use Rattle.sqlite.specs.Held.{state}
use Rattle.relay_types.specs.declared.limits.TheConstants.{MAX_RECORDS}
use Rattle.relay_types.specs.declared.record.Record.{Record}
use Rattle.relay_types.specs.Legal.{IsLegal}
use Rattle.relay_types.specs.Rows.{AttemptRow, rows_of}
use Rattle.spool_sql.specs.Stored.{IsTables}
use Rattle.spool_load.specs.Loading.{AreAccepted, HaveAttempts}
use Rattle.spool_load.proofs.QuietReads.{IsQuiet, IsReadTo}
use Rattle.spool_load.proofs.attempts.load_attempts.Given as goal

abbrev pub invariant-loop-from : goal.invariant-loop-from
invariant-loop-from g l = record {
  same_reference : l.tx.conn.ghost_name ≡ l.fn.tx.conn.ghost_name;
  quiet : IsQuiet (state g.S.Store l.fn.tx.conn.now) (state g.S.Store l.tx.conn.now);
  bound : l.from ≤ MAX_RECORDS;
  done : HasCleanDisk (state g.S.Store l.tx.conn.now) → (records : List Record) → IsLegal records
      → IsTables (state g.S.Store l.fn.tx.conn.now).now (rows_of records)
      → AreAccepted l.fn.loaded records (rows_of records).deliveries
      → IsReadTo (λ (a : AttemptRow). a.seq) (rows_of records).attempts (HaveAttempts l.loaded records) l.from;
}

abbrev pub decreases-loop-from : goal.decreases-loop-from
decreases-loop-from g l = MAX_RECORDS - l.from
