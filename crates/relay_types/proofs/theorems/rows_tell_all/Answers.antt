use Rattle.relay_types.proofs.AlikeLaws.{alike}
use Rattle.relay_types.proofs.theorems.rows_tell_all.Goals as goal

pub returns : goal.returns
returns c a b legal_a legal_b same = alike a b legal_a legal_b same
