use Rattle.std.proofs.Common.{◌≡◌, map, take}
use Rattle.spool_sql.proofs.read.read_rows.Given as goal

abbrev pub invariant-loop-row : goal.invariant-loop-row
invariant-loop-row g l = map g.T.FromRow.of l.found.items ≡ map g.T.FromRow.in_row (take l.row-index l.rows)
