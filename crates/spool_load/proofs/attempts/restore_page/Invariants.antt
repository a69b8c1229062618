use Rattle.std.proofs.Common.{List, map}
use Rattle.relay_types.specs.declared.record.Record.{Record}
use Rattle.spool_sql.specs.Stored.{attempt_of}
use Rattle.spool_load.specs.Loading.{Attempts}
use Rattle.spool_load.proofs.attempts.restore_page.Given as goal

abbrev pub invariant-loop-row : goal.invariant-loop-row
invariant-loop-row l = (records : List Record) → Attempts l.fn.loaded l.loaded (map attempt_of l.yielded) records
