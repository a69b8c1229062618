use Rattle.std.proofs.Common.{◌≡◌, map, take}
use Rattle.spool_sql.specs.Stored.{number_of}
use Rattle.spool_sql.proofs.purge.read_seqs.Given as goal

abbrev pub invariant-loop-row : goal.invariant-loop-row
invariant-loop-row l = l.found.items ≡ map number_of (take l.row-index l.rows)
