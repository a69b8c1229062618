use Rattle.std.proofs.Common.{arith}
use Rattle.std.proofs.lemmas.Grind.{common_steps}
use Rattle.relay_types.proofs.ByteLaws.{are_bytes}
use Rattle.sound_tables.proofs.delivery.is_body.Goals as goal

pub returns : goal.returns
returns c = let bytes = are_bytes c.args.bytes.now c.type_inv.bytes in grind (arith, common_steps)
