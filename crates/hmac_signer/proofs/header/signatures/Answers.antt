use Rattle.std.proofs.Common.{◌≡◌, ◌++◌, ◌∙◌, Some, ap, codes, flat_map, slice_get, lit<, List, ℕ}
use Rattle.std.specs.String.{string_bytes}
use Rattle.hmac_signer.specs.Signature.{signature}
use Rattle.hmac_signer.proofs.Joined.{join_first, join_next}
use Rattle.hmac_signer.proofs.header.signatures.Goals as goal
use Rattle.hmac_signer.proofs.header.signatures.Goals.{then-place-gt0+in_ok-push, else-place-gt0}

pub loop-place-preserved : goal.loop-place-preserved
loop-place-preserved c =
    let f : List ℕ → List ℕ = signature (flat_map (λ piece. piece.now) c.args.pieces.now) in
    let secret : List ℕ = c.in-Some.secret in
    let place = c.loop-place.place in
    let old = string_bytes c.loop-place.header in
    let apart = string_bytes c.if-place-gt0.header in
    let new = string_bytes c.add_signature.new.header in
    let at : slice_get c.args.secrets.now place ≡ Some secret = cc in
    let added : new ≡ apart ++ f secret = rw c.as_bytes.ensures.bytes at c.in_ok-add_signature.ensures in
    elim c.if-place-gt0.branch [
      | then-place-gt0+in_ok-push w ↦
          let space = w.in_ok-push.ensures.bytes ∙ ap (λ s. old ++ s) (w.in_ok-push.ensures.ascii (lit< tt)) in
          join_next f (codes " ") c.args.secrets.now place secret old apart new
          w.if-place-gt0.true at c.loop-place.invariant (ap (λ t. string_bytes t) w.header-is ∙ space) added
      | else-place-gt0 w ↦
          join_first f (codes " ") c.args.secrets.now place secret old new
          w.if-place-gt0.false at c.loop-place.invariant (rw w.header-is at added)
    ]
