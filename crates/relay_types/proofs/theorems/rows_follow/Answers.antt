use Rattle.relay_types.proofs.RowLaws.{rows_of-all}
use Rattle.relay_types.proofs.theorems.rows_follow.Goals as goal

pub returns : goal.returns
returns c records more legal = rows_of-all records more legal
