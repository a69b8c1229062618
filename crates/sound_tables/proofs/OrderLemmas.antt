-- Lists in the order of their keys.
use Rattle.std.proofs.Common.{◌≡◌, ◌≢◌, ◌⊎◌, inl, inr, ℤ, ⊎_elim, ◌<◌, ◌≤◌, ◌↔◌, ℕ, suc, ◌+◌, ◌==◌, Bool, true, false}
use Rattle.std.proofs.Common.{◌||◌, List, []}
use Rattle.std.proofs.Common.{◌∷◌, ◌++◌, length, get_or, filter, flat_map, int_lt, ltb, IsTrue, refl, sym, ap, subst}
use Rattle.std.proofs.Common.{◌∙◌, arith, ltb-true, lt-ltb, ne_eqb, eq-eqb, eqb-true, Less, nat_cmp, is_lt}
use Rattle.std.proofs.Common.{IsPermutation, IsSorted}
use Rattle.std.specs.List.{AllByRecursion, IsAllAdjacentAnswer, list_any}
use Rattle.std.specs.Ordering.{on}
use Rattle.std.proofs.lemmas.Bool.{cases_lt}
use Rattle.std.proofs.lemmas.Cmp.{ranked, by_ranked, nat_cmp_total, on_total}
use Rattle.sqlite_trees.specs.Tree.{IsAscending}
use Rattle.sqlite_trees.proofs.ListLemmas.{ascending-get_or}
use Rattle.sqlite_keyed.proofs.SortLemmas.{sorted_unique}
use Rattle.relay_types.specs.Sound.{IsRisingFrom}
use Rattle.sound_rows.proofs.SearchLaws.{rising_ascends}
use Rattle.sound_tables.proofs.StoredLemmas.{AreRising, rising_by_next}

pub less : (a b : ℕ) → a < b → nat_cmp a b ≡ Less
less a b l = by_ranked (a < b) (a ≡ b) (b < a) (nat_cmp a b) (ranked a b (nat_cmp a b) refl) (λ e _. e)
    (λ e same. absurd (omega (arith, l, same))) (λ e above. absurd (omega (arith, l, above)))

pub not_less : (a b : ℕ) → b ≤ a → is_lt (nat_cmp a b) ≡ false
not_less a b h = by_ranked (a < b) (a ≡ b) (b < a) (nat_cmp a b) (ranked a b (nat_cmp a b) refl)
    (λ e l. absurd (omega (arith, l, h))) (λ e same. ap is_lt e) (λ e above. ap is_lt e)

pub one_more : (k : ℕ) → suc k + 1 ≡ suc (k + 1)
one_more k = omega arith

module _ {X : Type 0} (number : X → ℕ) where
  rising_next : (n : ℕ) (xs : List X) → ((d : X) → 0 < length xs → n ≤ number (get_or xs 0 d))
      → ((k : ℕ) (d : X) → k + 1 < length xs → number (get_or xs k d) < number (get_or xs (k + 1) d))
      → IsRisingFrom number n xs
  rising_next n [] first next = tt
  rising_next n (x ∷ xs) first next = (
    first x (omega arith),
    rising_next (number x + 1) xs (λ d l. omega (arith, next 0 d (omega (arith, l))))
        (λ k d l. subst (λ j. number (get_or (x ∷ xs) (suc k) d) < number (get_or (x ∷ xs) j d)) (one_more k)
        (next (suc k) d (omega (arith, l)))),
  )

  -- what is told of each number and the next is told of all
  pub rises_so : (xs : List X) (r : Bool) → IsAllAdjacentAnswer (λ x y b. b ≡ ltb (number x) (number y)) xs r → IsTrue r
      ↔ IsRisingFrom number 0 xs
  rises_so xs true h = (λ _. rising_next 0 xs (λ d l. omega arith) (λ k d l. ltb-true _ _ (sym (h k d l))), λ _. refl)
  rises_so [] false h = absurd (omega (arith, h.1))
  rises_so (x ∷ xs) false h = (
    λ no. absurd (let never : false ≡ true = no in cc),
    λ rises. absurd (
        let up = rising_ascends number 0 (x ∷ xs) rises h.0 (h.0 + 1) x (omega arith) h.1 in
        let test : false ≡ true = h.2 x ∙ lt-ltb _ _ up in cc),
  )

  -- numbers rise where each is below all later ones
  pub rises_where : (xs : List X)
      → ((i j : ℕ) (d : X) → i < j → j < length xs → number (get_or xs i d) < number (get_or xs j d))
      → IsRisingFrom number 0 xs
  rises_where xs up = rising_next 0 xs (λ d l. omega arith) (λ k d l. up k (k + 1) d (omega arith) l)

  -- they do, or they don't
  pub rises_or : (n : ℕ) (xs : List X) → IsRisingFrom number n xs ⊎ ¬ IsRisingFrom number n xs
  rises_or n [] = inl tt
  rises_or n (x ∷ xs) = at (cases_lt (number x) n) (rises_or (number x + 1) xs)
    where
      at : (number x < n) ⊎ (n ≤ number x)
          → IsRisingFrom number (number x + 1) xs ⊎ ¬ IsRisingFrom number (number x + 1) xs
          → IsRisingFrom number n (x ∷ xs) ⊎ ¬ IsRisingFrom number n (x ∷ xs)
      at (inl low) rest = inr (λ rises. omega (arith, low, rises.0))
      at (inr above) (inl rest) = inl (above, rest)
      at (inr above) (inr none) = inr (λ rises. none rises.1)

  all_above : (a n : ℕ) (xs : List X) → a < n → IsRisingFrom number n xs
      → AllByRecursion (λ y. nat_cmp a (number y) ≡ Less) xs
  all_above a n [] l rises = tt
  all_above a n (x ∷ xs) l rises =
      (less a (number x) (omega (arith, l, rises.0)), all_above a (number x + 1) xs (omega (arith, l, rises.0)) rises.1)

  strictly : (n : ℕ) (xs : List X) → IsRisingFrom number n xs → IsAscending (λ x y. on number nat_cmp x y ≡ Less) xs
  strictly n [] rises = tt
  strictly n (x ∷ xs) rises = (
    all_above (number x) (number x + 1) xs (omega arith) rises.1,
    strictly (number x + 1) xs rises.1,
  )

  sorted : (xs : List X) → IsRisingFrom number 0 xs → IsSorted (on number nat_cmp) xs
  sorted xs rises k d h l =
      let up = rising_ascends number 0 xs rises k (k + 1) d (omega arith) l in
      not_less (number (get_or xs (k + 1) d)) (number (get_or xs k d)) (omega (arith, up))

  -- numbers that rise leave one order
  pub sorted_as : (xs ys : List X) → IsRisingFrom number 0 xs → IsPermutation xs ys → IsSorted (on number nat_cmp) ys
      → ys ≡ xs
  sorted_as xs ys rises same up = sorted_unique (on number nat_cmp) (on_total number nat_cmp_total) xs ys
      (strictly 0 xs rises) same up

  pub one_order : (xs ys : List X) → IsRisingFrom number 0 xs → IsPermutation xs ys → IsRisingFrom number 0 ys → ys ≡ xs
  one_order xs ys rises same up = sorted_as xs ys rises same (sorted ys up)

  -- and sorted they rise
  pub one_sorted : (xs ys : List X) → IsRisingFrom number 0 xs → IsPermutation xs ys → IsSorted (on number nat_cmp) ys
      → IsRisingFrom number 0 ys
  one_sorted xs ys rises same up = subst (IsRisingFrom number 0) (sym (sorted_as xs ys rises same up)) rises

  -- the numbers don't fall, from a number on
  abbrev pub Climbs : ℕ → List X → Type 0
  Climbs n [] = Unit {0}
  Climbs n (x ∷ xs) = (n ≤ number x) × Climbs (number x) xs

  climbs_next : (n : ℕ) (xs : List X) → ((d : X) → 0 < length xs → n ≤ number (get_or xs 0 d))
      → ((k : ℕ) (d : X) → k + 1 < length xs → number (get_or xs k d) ≤ number (get_or xs (k + 1) d)) → Climbs n xs
  climbs_next n [] first next = tt
  climbs_next n (x ∷ xs) first next = (
    first x (omega arith),
    climbs_next (number x) xs (λ d l. next 0 d (omega (arith, l)))
        (λ k d l. subst (λ j. number (get_or (x ∷ xs) (suc k) d) ≤ number (get_or (x ∷ xs) j d)) (one_more k)
        (next (suc k) d (omega (arith, l)))),
  )

  pub climbs : (xs : List X)
      → ((k : ℕ) (d : X) → k + 1 < length xs → number (get_or xs k d) ≤ number (get_or xs (k + 1) d)) → Climbs 0 xs
  climbs xs next = climbs_next 0 xs (λ d l. omega arith) next

  pub climbs_lower : (m n : ℕ) (xs : List X) → m ≤ n → Climbs n xs → Climbs m xs
  climbs_lower m n [] h c = tt
  climbs_lower m n (x ∷ xs) h c = (omega (arith, h, c.0), c.1)

  none_at : (a n : ℕ) (xs : List X) → a < n → Climbs n xs → filter (λ x. number x == a) xs ≡ []
  none_at a n [] l c = refl
  none_at a n (x ∷ xs) l c = rw (ne_eqb (number x) a (λ same. absurd (omega (arith, same, l, c.0))))
      (none_at a (number x) xs (omega (arith, l, c.0)) c.1)

  module _ {P : Type 0} (put : P → ℕ) where
    no_groups : (ps : List P) → flat_map (λ (p : P). filter (λ x. number x == put p) []) ps ≡ []
    no_groups [] = refl
    no_groups (p ∷ ps) = no_groups ps

    -- one of a lower number is in none of the groups
    passed_over : (n : ℕ) (x : X) (xs : List X) (ps : List P) → number x < n → IsRisingFrom put n ps
        → flat_map (λ p. filter (λ y. number y == put p) (x ∷ xs)) ps
        ≡ flat_map (λ p. filter (λ y. number y == put p) xs) ps
    passed_over n x xs [] l rises = refl
    passed_over n x xs (p ∷ ps) l rises =
        rw (ne_eqb (number x) (put p) (λ same. absurd (omega (arith, same, l, rises.0))))
        (ap (λ rest. filter (λ y. number y == put p) xs ++ rest)
        (passed_over (put p + 1) x xs ps (omega (arith, l, rises.0)) rises.1))

    not_there : (m n : ℕ) (ps : List P) → m < n → IsRisingFrom put n ps → list_any (λ p. put p == m) ps ≡ false
    not_there m n [] l rises = refl
    not_there m n (p ∷ ps) l rises = rw (ne_eqb (put p) m (λ same. absurd (omega (arith, same, l, rises.0))))
        (not_there m (put p + 1) ps (omega (arith, l, rises.0)) rises.1)

    -- the groups of numbers that rise, one after another, are the list, where it doesn't fall
    pub grouped : (n : ℕ) (ps : List P) (xs : List X) → IsRisingFrom put n ps → Climbs n xs
        → AllByRecursion (λ x. list_any (λ p. put p == number x) ps ≡ true) xs
        → flat_map (λ p. filter (λ x. number x == put p) xs) ps ≡ xs
    grouped n ps [] rises c all = no_groups ps
    grouped n [] (x ∷ xs) rises c all = absurd (let never : false ≡ true = all.0 in cc)
    grouped n (p ∷ ps) (x ∷ xs) rises c all =
        at (number x == put p) refl (grouped n (p ∷ ps) xs rises (climbs_lower n (number x) xs c.0 c.1) all.1)
        (λ above more. grouped (put p + 1) ps (x ∷ xs) rises.1 above more)
      where
        Others : Type 0
        Others = AllByRecursion (λ y. list_any (λ q. put q == number y) ps ≡ true) (x ∷ xs)

        after : (y : X) → put p < number y → list_any (λ q. put q == number y) (p ∷ ps) ≡ true
            → list_any (λ q. put q == number y) ps ≡ true
        after y l h =
            sym (ap (λ b. b || list_any (λ q. put q == number y) ps)
            (ne_eqb (put p) (number y) (λ same. omega (arith, same, l)))) ∙ h

        others : (m : ℕ) (ys : List X) → put p < m → Climbs m ys
            → AllByRecursion (λ y. list_any (λ q. put q == number y) (p ∷ ps) ≡ true) ys
            → AllByRecursion (λ y. list_any (λ q. put q == number y) ps ≡ true) ys
        others m [] l up each = tt
        others m (y ∷ ys) l up each =
            (after y (omega (arith, l, up.0)) each.0, others (number y) ys (omega (arith, l, up.0)) up.1 each.1)

        at : (b : Bool) → number x == put p ≡ b → flat_map (λ q. filter (λ y. number y == put q) xs) (p ∷ ps) ≡ xs
            → (Climbs (put p + 1) (x ∷ xs) → Others → flat_map (λ q. filter (λ y. number y == put q) (x ∷ xs)) ps ≡ x
            ∷ xs)
            → flat_map (λ q. filter (λ y. number y == put q) (x ∷ xs)) (p ∷ ps) ≡ x ∷ xs
        at true e rest later =
            let same : number x ≡ put p = eqb-true (number x) (put p) e in
            rw e (ap (λ more. x ∷ (filter (λ y. number y == put p) xs ++ more))
            (passed_over (put p + 1) x xs ps (omega (arith, same)) rises.1) ∙ ap (λ more. x ∷ more) rest)
        at false e rest later = ⊎_elim
            (λ low. absurd (let never : false ≡ true =
            sym (not_there (number x) (put p) (p ∷ ps) low (omega arith, rises.1)) ∙ all.0 in cc))
            (λ high.
            let apart : number x ≢ put p = λ same. let no : true ≡ false = sym (eq-eqb (number x) (put p) same)
            ∙ e in cc in
            let above : put p + 1 ≤ number x = omega (arith, high, apart) in
            ap (λ front. front ++ flat_map (λ q. filter (λ y. number y == put q) (x ∷ xs)) ps)
            (none_at (put p) (put p + 1) (x ∷ xs) (omega arith) (above, c.1))
            ∙ later (above, c.1) (others (put p + 1) (x ∷ xs) (omega arith) (above, c.1) all))
            (cases_lt (number x) (put p))

-- the same of rowids
module _ {X : Type 0} (id_of : X → ℤ) where
  pub rowids_so : (xs : List X) (r : Bool) → IsAllAdjacentAnswer (λ x y b. b ≡ int_lt (id_of x) (id_of y)) xs r
      → IsTrue r ↔ AreRising id_of xs
  rowids_so xs true h = (λ _. rising_by_next id_of xs (λ k d l. sym (h k d l)), λ _. refl)
  rowids_so [] false h = absurd (omega (arith, h.1))
  rowids_so (x ∷ xs) false h = (
    λ no. absurd (let never : false ≡ true = no in cc),
    λ rises. absurd (
        let up = ascending-get_or (λ y z. int_lt (id_of y) (id_of z) ≡ true) (x ∷ xs) h.0 (h.0 + 1) x rises
        (omega arith) h.1 in
        let test : false ≡ true = h.2 x ∙ up in cc),
  )
