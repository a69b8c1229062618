use Rattle.std.proofs.Common.{◌++◌, ◌∙◌, ap, length, drop, replicate}
use Rattle.std.proofs.lemmas.List.{drop-replicate}
use Rattle.hmac_signer.proofs.mac.with_zeros.Goals as goal

pub returns : goal.returns
returns c =
    let key = c.args.key.now in
    ap (λ s. s ++ drop (length key) (replicate 64 0)) c.copy_from_slice.ensures.after
    ∙ ap (λ zeros. key ++ zeros) (drop-replicate (length key) 64 0)
