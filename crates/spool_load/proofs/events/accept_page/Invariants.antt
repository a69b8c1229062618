use Rattle.std.proofs.Common.{List, map}
use Rattle.relay_types.specs.declared.record.Record.{Record}
use Rattle.spool_sql.specs.Stored.{delivery_of}
use Rattle.spool_load.specs.Loading.{Accepts, AreNames}
use Rattle.spool_load.proofs.events.accept_page.Given as goal

abbrev pub invariant-loop-row : goal.invariant-loop-row
invariant-loop-row l = (records : List Record) → AreNames l.names records
    → Accepts l.fn.loaded l.loaded (map delivery_of l.yielded) records
