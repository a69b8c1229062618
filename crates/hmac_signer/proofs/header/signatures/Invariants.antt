use Rattle.std.proofs.Common.{◌≡◌, flat_map, take}
use Rattle.std.specs.String.{string_bytes}
use Rattle.hmac_signer.specs.Signature.{signatures}
use Rattle.hmac_signer.proofs.header.signatures.Given as goal

abbrev pub invariant-loop-place : goal.invariant-loop-place
invariant-loop-place l = string_bytes l.header ≡ signatures (flat_map (λ piece. piece.now) l.pieces)
    (take l.place l.secrets)
