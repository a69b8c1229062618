-- What the word for a least number means.
use Rattle.std.proofs.Common.{◌≡◌, ℕ, zero, suc, ◌+◌, ◌≤◌, ◌<◌, Bool, true, false, if◌then◌else◌, ◌∙◌, ap, arith}
use Rattle.std.proofs.Math.Decide.{dec_le}
use Rattle.relay_types.specs.Lists.{least, least_from}

-- a number is the least where it passes the test, or is the bound, and none before it passes
least_from-is : (test : ℕ → Bool) (first more n : ℕ) → first ≤ n → n ≤ first + more
    → (n < first + more → test n ≡ true) → ((k : ℕ) → k < n → test k ≡ false) → least_from test first more ≡ n
least_from-is test first zero n low bound passes before = omega (arith, low, bound)
least_from-is test first (suc more) n low bound passes before =
    at (test first) (λ e. before first e) (λ e. ap test e ∙ passes (omega (arith, e)))
    (λ h. least_from-is test (first + 1) more n h (omega (arith, bound)) (λ e. passes (omega (arith, e))) before)
  where
    at : (b : Bool) → (first < n → b ≡ false) → (first ≡ n → b ≡ true)
        → (first + 1 ≤ n → least_from test (first + 1) more ≡ n)
        → (if b then first else least_from test (first + 1) more) ≡ n
    at true fails here later =
        elim (dec_le (first + 1) n) [
          | yes above ↦ absurd (cc (fails (omega (arith, above))))
          | no below ↦ omega (arith, low, below)
        ]
    at false fails here later =
        elim (dec_le (first + 1) n) [
          | yes above ↦ later above
          | no below ↦ absurd (cc (here (omega (arith, low, below))))
        ]

pub least-is : (test : ℕ → Bool) (bound n : ℕ) → n ≤ bound → (n < bound → test n ≡ true)
    → ((k : ℕ) → k < n → test k ≡ false) → least test bound ≡ n
least-is test bound n within passes before =
    least_from-is test 0 bound n (omega arith) (omega (arith, within)) (λ e. passes (omega (arith, e))) before
