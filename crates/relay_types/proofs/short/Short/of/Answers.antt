use Rattle.std.proofs.Common.{◌≡◌, ℕ, ◌+◌, ◌-◌, ◌≤◌, ◌++◌, ◌∙◌, ap, List, length, drop, replicate, arith}
use Rattle.std.proofs.lemmas.List.{drop-replicate, length-append, length-drop, length-replicate}
use Rattle.std.proofs.Math.Seq.{drop-append_seam}
use Rattle.relay_types.proofs.short.Short.of.Goals as goal

filled : (bytes : List ℕ) (N : ℕ) → length bytes ≤ N → length (bytes ++ drop (length bytes) (replicate N 0)) ≡ N
filled bytes N h = length-append bytes (drop (length bytes) (replicate N 0))
    ∙ ap (λ n. length bytes + n) (length-drop (length bytes) (replicate N 0)
    ∙ ap (λ n. n - length bytes) (length-replicate N 0)) ∙ omega (arith, h)

zeros : (bytes : List ℕ) (N : ℕ) → drop (length bytes) (bytes ++ drop (length bytes) (replicate N 0)) ≡ replicate
    (N - length bytes) 0
zeros bytes N = drop-append_seam bytes (drop (length bytes) (replicate N 0)) ∙ drop-replicate (length bytes) N 0

pub invariant_of-result : goal.invariant_of-result
invariant_of-result g c =
    let e = c.copy_from_slice.ensures.after in
    let bytes = c.args.bytes.now in (
      c.requires,
      ap (λ s. length (s ++ drop (length bytes) (replicate g.row.N 0))) e ∙ filled bytes g.row.N c.requires,
      ap (λ s. drop (length bytes) (s ++ drop (length bytes) (replicate g.row.N 0))) e ∙ zeros bytes g.row.N,
    )
