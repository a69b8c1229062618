use Rattle.relay_types.proofs.KeyLaws.{legal_sound}
use Rattle.relay_types.proofs.theorems.legal_rows_are_sound.Goals as goal

pub returns : goal.returns
returns c records legal = legal_sound records legal
