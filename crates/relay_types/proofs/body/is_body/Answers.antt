use Rattle.std.proofs.Common.{arith}
use Rattle.std.proofs.lemmas.Grind.{common_steps}
use Rattle.relay_types.proofs.ByteLaws.{are_bytes}
use Rattle.relay_types.proofs.body.is_body.Goals as goal

pub returns-clause-valid : goal.returns-clause-valid
returns-clause-valid c = let bytes = are_bytes c.args.bytes.now c.type_inv.bytes in grind (arith, common_steps)
