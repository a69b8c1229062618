-- Lists in the order of their numbers, and what is looked for in them.
use Rattle.std.proofs.Common.{◌≡◌, ◌≢◌, ◌<◌, ◌≤◌, ℕ, zero, suc, ◌+◌, ◌==◌, Bool, true, false, ◌&&◌, List, [], ◌∷◌}
use Rattle.std.proofs.Common.{length, get_or, refl, sym, ap, subst, ◌∙◌, ltb, arith, ⊎_elim}
use Rattle.std.specs.List.{list_any, AllAdjacentBelow}
use Rattle.std.specs.List.Sorted.{IsPartitionedBy}
use Rattle.std.proofs.lemmas.Bool.{ne_eqb, cases_eq, cases_lt, and_left, and_right, cases_Bool}
use Rattle.std.proofs.lemmas.List.Folds.{list_any_at, list_any_none}
use Rattle.std.proofs.lemmas.List.Sorted.{IsPartitionedBy-ltb}
use Rattle.relay_types.specs.Sound.{IsRisingFrom}
use Rattle.sound_rows.specs.RowNumbers.{IsAscending, FirstBelow, RestFrom}

-- what none passes isn't found
pub none_at : {X : Type 0} (p q : X → Bool) (xs : List X) → ((x : X) → q x ≡ false)
    → false ≡ list_any (λ x. p x && q x) xs
none_at p q xs none = sym
    (list_any_none (λ x. p x && q x) xs (λ k d l. and_right (p (get_or xs k d)) (q (get_or xs k d))
    (none (get_or xs k d))))

module _ {X : Type 0} (number : X → ℕ) where
  -- numbers that rise are parted by each number
  pub parted : (xs : List X) (seq : ℕ) → IsAscending number xs → IsPartitionedBy (λ x. ltb (number x) seq) xs
  parted xs seq up = IsPartitionedBy-ltb number xs seq rises
    where
      rises : (i j : ℕ) (d : X) → i ≤ j → j < length xs → number (get_or xs i d) ≤ number (get_or xs j d)
      rises i j d h l = ⊎_elim (λ e. omega (arith, ap (λ k. number (get_or xs k d)) e))
          (λ ne. omega (arith, up i j d (omega (arith, h, ne)) l)) (cases_eq i j)

  -- numbers that rise from each to the next rise
  pub ascends : (xs : List X) → AllAdjacentBelow (λ x y. number x < number y) xs (length xs) → IsAscending number xs
  ascends xs next i zero d h l = absurd (omega (arith, h))
  ascends xs next i (suc j) d h l = ⊎_elim (λ less. omega (arith, ascends xs next i j d less (omega (arith, l)), step))
      (λ later. omega (arith, step, ap (λ k. number (get_or xs k d)) (same later))) (cases_lt i j)
    where
      one : j + 1 ≡ suc j
      one = omega arith

      step : number (get_or xs j d) < number (get_or xs (suc j) d)
      step = subst (λ m. number (get_or xs j d) < number (get_or xs m d)) one (next j d (omega (arith, l)))

      same : j ≤ i → i ≡ j
      same later = omega (arith, later, h)

  module _ (test : X → Bool) (xs : List X) (seq place : ℕ) (up : IsAscending number xs)
      (below : FirstBelow number place seq xs) (above : RestFrom number place seq xs) where
    -- no other one than that at the place has the number
    apart : (k : ℕ) (d : X) → k ≢ place → k < length xs → number (get_or xs k d) ≢ seq
    apart k d other l same = ⊎_elim (λ less. omega (arith, below k d less, same))
        (λ later. omega (
          arith,
          up place k d (omega (arith, later, other)) l,
          above place d (omega arith)
              (omega (arith, later, other, l)),
          same,
        )) (cases_lt k place)

    fails : (x : X) → number x ≢ seq → (number x == seq) && test x ≡ false
    fails x other = and_left (number x == seq) (test x) (ne_eqb (number x) seq other)

    -- what the place has is what is found
    pub found : (x : X) → place < length xs → x ≡ get_or xs place x
        → (number x == seq) && test x ≡ list_any (λ y. (number y == seq) && test y) xs
    found x within is = ⊎_elim passes misses (cases_Bool ((number x == seq) && test x))
      where
        here : (ys : List X) (k : ℕ) (d : X) → k < length ys → x ≡ get_or ys k x → x ≡ get_or ys k d
        here [] k d h e = absurd (omega (arith, h))
        here (y ∷ ys) zero d h e = e
        here (y ∷ ys) (suc k) d h e = here ys k d (omega (arith, h)) e

        at : (d : X) → (number (get_or xs place d) == seq) && test (get_or xs place d) ≡ (number x == seq) && test x
        at d = ap (λ y. (number y == seq) && test y) (sym (here xs place d within is))

        passes : (number x == seq) && test x ≡ true
            → (number x == seq) && test x ≡ list_any (λ y. (number y == seq) && test y) xs
        passes h = h ∙ sym (list_any_at (λ y. (number y == seq) && test y) xs place x within (at x ∙ h))

        misses : (number x == seq) && test x ≡ false
            → (number x == seq) && test x ≡ list_any (λ y. (number y == seq) && test y) xs
        misses h = h ∙ sym (list_any_none (λ y. (number y == seq) && test y) xs
            (λ k d l. ⊎_elim (λ e. ap (λ j. (number (get_or xs j d) == seq) && test (get_or xs j d)) e ∙ at d ∙ h)
            (λ ne. fails (get_or xs k d) (apart k d ne l)) (cases_eq k place)))

    pub not_found : length xs ≤ place → false ≡ list_any (λ y. (number y == seq) && test y) xs
    not_found behind = sym
        (list_any_none (λ y. (number y == seq) && test y) xs
        (λ k d l. fails (get_or xs k d) (apart k d (λ e. omega (arith, l, e, behind)) l)))

  and_true : (b : Bool) → b && true ≡ b
  and_true true = refl
  and_true false = refl

  -- the same where nothing else is asked
  module _ (xs : List X) (seq place : ℕ) (up : IsAscending number xs) (below : FirstBelow number place seq xs)
      (above : RestFrom number place seq xs) where
    pub found_plain : (x : X) → place < length xs → x ≡ get_or xs place x
        → (number x == seq) ≡ list_any (λ y. number y == seq) xs
    found_plain x within is = sym (and_true (number x == seq)) ∙ found (λ _. true) xs seq place up below above x within
        is ∙ ap (λ f. list_any f xs) (λ i y. and_true (number y == seq) i)

    pub not_found_plain : length xs ≤ place → false ≡ list_any (λ y. number y == seq) xs
    not_found_plain behind = not_found (λ _. true) xs seq place up below above behind
        ∙ ap (λ f. list_any f xs) (λ i y. and_true (number y == seq) i)

  -- numbers that rise from a number on
  least : (n : ℕ) (xs : List X) (k : ℕ) (d : X) → IsRisingFrom number n xs → k < length xs → n ≤ number (get_or xs k d)
  least n [] k d rises l = absurd (omega (arith, l))
  least n (x ∷ xs) zero d rises l = rises.0
  least n (x ∷ xs) (suc k) d rises l = omega (arith, rises.0, least (number x + 1) xs k d rises.1 (omega (arith, l)))

  pub rising_ascends : (n : ℕ) (xs : List X) → IsRisingFrom number n xs → IsAscending number xs
  rising_ascends n [] rises i j d h l = absurd (omega (arith, l))
  rising_ascends n (x ∷ xs) rises i zero d h l = absurd (omega (arith, h))
  rising_ascends n (x ∷ xs) rises zero (suc j) d h l = omega
      (arith, least (number x + 1) xs j d rises.1 (omega (arith, l)))
  rising_ascends n (x ∷ xs) rises (suc i) (suc j) d h l = rising_ascends (number x + 1) xs rises.1 i j d
      (omega (arith, h)) (omega (arith, l))
