use Rattle.std.proofs.Common.{get_or, bit_xor, arith}
use Rattle.std.proofs.lemmas.List.{get_or_default}
use Rattle.std.proofs.lemmas.List.Edits.{map_over_more}
use Rattle.hmac_signer.proofs.mac.xor_pad.Goals as goal

pub loop-byte-preserved : goal.loop-byte-preserved
loop-byte-preserved c =
    let byte = get_or c.loop-byte.byte-items c.loop-byte.byte-index 0 in
    map_over_more (λ b. bit_xor b c.args.pad) c.args.block c.loop-byte.byte-items c.loop-byte.byte-index byte
    (omega arith) c.loop-byte.invariant (get_or_default c.loop-byte.byte-items c.loop-byte.byte-index 0 byte
    (omega arith))
