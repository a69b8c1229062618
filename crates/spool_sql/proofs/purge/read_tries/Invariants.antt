use Rattle.std.proofs.Common.{◌≡◌, map, take}
use Rattle.spool_sql.specs.Stored.{tried_in}
use Rattle.spool_sql.proofs.purge.read_tries.Given as goal

abbrev pub invariant-loop-row : goal.invariant-loop-row
invariant-loop-row l = l.found.items ≡ map tried_in (take l.row-index l.rows)
