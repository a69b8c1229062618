-- Those of a list in the order of a number that have one number stand together.
use Rattle.std.proofs.Common.{◌≡◌, ◌<◌, ◌≤◌, ℕ, zero, suc, ◌+◌, ◌==◌, true, false, List, [], ◌∷◌, length, take, drop}
use Rattle.std.proofs.Common.{get_or}
use Rattle.std.proofs.Common.{ltb, leb, ltb-true, ltb-false, leb-true, leb-false, ne_eqb, eq-eqb, get_or-drop}
use Rattle.std.proofs.Common.{length-drop, refl, sym, ap, ◌∙◌}
use Rattle.std.proofs.Common.{arith}
use Rattle.std.specs.Prelude.{filter}
use Rattle.std.specs.List.Sorted.{IsPartitionPoint}

module _ {X : Type 0} (number : X → ℕ) (n : ℕ) where
  -- none of those below is one of them
  behind : (xs : List X) (i : ℕ) → ((k : ℕ) (e : X) → k < i → k < length xs → number (get_or xs k e) < n)
      → filter (λ x. number x == n) xs ≡ filter (λ x. number x == n) (drop i xs)
  behind xs zero low = refl
  behind [] (suc i) low = refl
  behind (x ∷ xs) (suc i) low =
      rw (ne_eqb (number x) n (λ same. absurd (omega (arith, same, low 0 x (omega arith) (omega arith)))))
      (behind xs i (λ k e less below. low (suc k) e (omega (arith, less)) (omega (arith, below))))

  -- those up to a place are all of them
  upto : (xs : List X) (i : ℕ) → ((k : ℕ) (e : X) → k < length xs → n ≤ number (get_or xs k e))
      → ((k : ℕ) (e : X) → k < i → k < length xs → number (get_or xs k e) ≤ n)
      → ((k : ℕ) (e : X) → i ≤ k → k < length xs → n < number (get_or xs k e))
      → filter (λ x. number x == n) xs ≡ take i xs
  upto [] zero least low high = refl
  upto [] (suc i) least low high = refl
  upto (x ∷ xs) zero least low high =
      rw (ne_eqb (number x) n (λ same. absurd (omega (arith, same, high 0 x (omega arith) (omega arith)))))
      (upto xs zero (λ k e below. least (suc k) e (omega (arith, below)))
      (λ k e less below. absurd (omega (arith, less)))
      (λ k e more below. high (suc k) e (omega arith) (omega (arith, below))))
  upto (x ∷ xs) (suc i) least low high =
      rw (eq-eqb (number x) n (omega (arith, least 0 x (omega arith), low 0 x (omega arith) (omega arith))))
      (ap (λ ys. x ∷ ys)
      (upto xs i (λ k e below. least (suc k) e (omega (arith, below)))
      (λ k e less below. low (suc k) e (omega (arith, less)) (omega (arith, below)))
      (λ k e more below. high (suc k) e (omega (arith, more)) (omega (arith, below)))))

  -- where they begin, and how many they are
  pub cut_at : (xs : List X) (from count : ℕ) → from ≤ length xs
      → IsPartitionPoint (λ x. ltb (number x) n ≡ true) (λ x. ltb (number x) n ≡ false) xs from
      → IsPartitionPoint (λ x. leb (number x) n ≡ true) (λ x. leb (number x) n ≡ false) (drop from xs) count
      → take count (drop from xs) ≡ filter (λ x. number x == n) xs
  cut_at xs from count within first second =
      sym (behind xs from (λ k e less below. ltb-true _ _ (first.0 k e (omega arith) less))
      ∙ upto (drop from xs) count least
      (λ k e less below. leb-true _ _ (second.0 k e (omega arith) less))
      (λ k e more below. leb-false _ _ (second.1 k e more below)))
    where
      least : (k : ℕ) (e : X) → k < length (drop from xs) → n ≤ number (get_or (drop from xs) k e)
      least k e below =
          let long = length-drop from xs in
          let here = ltb-false _ _ (first.1 (from + k) e (omega arith) (omega (arith, long, below, within))) in
          omega (arith, here, ap number (get_or-drop from xs k e))
