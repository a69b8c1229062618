use Rattle.std.proofs.Common.{◌++◌, take, flat_map}
use Rattle.sha2.specs.Hashers.{Holds256}
use Rattle.hmac_signer.specs.Hmac.{xor_pad}
use Rattle.hmac_signer.proofs.mac.pad_digest.Given as goal

abbrev pub invariant-loop-piece : goal.invariant-loop-piece
invariant-loop-piece l = Holds256 l.hasher (xor_pad l.fn.pad l.fn.block ++ flat_map (λ piece. piece.now)
    (take l.piece-index l.pieces))
