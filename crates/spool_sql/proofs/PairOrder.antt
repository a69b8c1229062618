-- A query over one table that puts its rows in the order of two numbers.
use Rattle.std.proofs.Common.{◌≡◌, ◌<◌, ◌≤◌, ℕ, zero, suc, ◌+◌, ◌==◌, pos, List, [], ◌∷◌, length, map, filter, get_or}
use Rattle.std.proofs.Common.{Bool, true}
use Rattle.std.proofs.Common.{false, cond, eqb-true, add-one, refl, sym, ap, ap₂, subst, subst₂, ◌∙◌}
use Rattle.std.proofs.Common.{arith}
use Rattle.std.specs.List.{AllByRecursion}
use Rattle.std.specs.List.Sorted.{IsPermutation, IsSorted, IsNonDecreasingBy}
use Rattle.std.specs.declared.cmp.Ordering.{Ordering}
use Rattle.std.specs.declared.cmp.Ordering.TheVariants.{Less, Equal, Greater}
use Rattle.std.specs.Ordering.{is_lt, is_eq, int_cmp, ordering_then}
use Rattle.std.proofs.lemmas.Bool.Decides.{nat_tests}
use Rattle.std.proofs.lemmas.List.{length-map, get_or-map}
use Rattle.std.proofs.lemmas.List.Sorted.{IsNonDecreasingBy-from_all_adjacent}
use Rattle.sqlite_trees.proofs.ListLemmas.{all_weaker, all-filter}
use Rattle.sqlite.specs.Collation.TheVariants.{Binary}
use Rattle.sqlite_value.specs.declared.keys.Key.{Key}
use Rattle.sqlite_value.specs.Keys.{ascending}
use Rattle.sqlite_value.specs.Order.{column, value_cmp}
use Rattle.sqlite_value.proofs.OrderLemmas.{value_cmp-Int, then-Equal}
use Rattle.sqlite.specs.declared.types.Value.{Value}
use Rattle.sqlite.specs.declared.types.Value.TheVariants.{Int}
use Rattle.sqlite.specs.Order.{Row}
use Rattle.sqlite.specs.Term.{Term, lit, col}
use Rattle.sqlite.specs.Query.{Query, Output, output_cmp, as_count, limited}
use Rattle.sqlite.specs.Schema.{Schema}
use Rattle.sqlite.specs.Effect.{Answers}
use Rattle.sqlite.specs.Tree.{Trees}
use Rattle.spool_sql.proofs.SelectLemmas.{equal_ints}
use Rattle.spool_sql.proofs.UpdateLemmas.{scan_by, passes, shows}
use Rattle.spool_sql.proofs.PageLemmas.{query, out, rows_in_order}

-- ---- the order of two pairs of numbers

not_less : (a b : Ordering) → is_lt (ordering_then a b) ≡ false → is_lt a ≡ false
not_less Less b e = e
not_less Equal b e = refl
not_less Greater b e = refl

second : (a b : Ordering) → is_eq a ≡ true → ordering_then a b ≡ b
second Less b e = absurd (let no = e in cc)
second Equal b e = refl
second Greater b e = absurd (let no = e in cc)

up : (m n : ℕ) → is_lt (int_cmp (pos m) (pos n)) ≡ false → n ≤ m
up m n e = grind (arith, nat_tests, e)

same : (m n : ℕ) → m ≡ n → (m == n) ≡ true
same m n e = grind (arith, nat_tests, e)

-- ---- lists in that order

module _ {X : Type 0} (first number : X → ℕ) where
  -- the first numbers don't fall, and where they are the same, the second ones don't
  abbrev IsBefore : X → X → Type 0
  IsBefore x y = (first x ≤ first y) × (first x ≡ first y → number x ≤ number y)

  -- each comes before all that follow it
  abbrev AreInOrder : List X → Type 0
  AreInOrder [] = Unit {0}
  AreInOrder (x ∷ xs) = AllByRecursion (IsBefore x) xs × AreInOrder xs

  along : (x y z : X) → IsBefore x y → IsBefore y z → IsBefore x z
  along x y z p q = (
    omega (arith, p.0, q.0),
    λ e. omega (arith, p.1 (omega (arith, e, p.0, q.0)), q.1 (omega (arith, e, p.0, q.0))),
  )

  in_order : (xs : List X) → ((k : ℕ) (d : X) → suc k < length xs → IsBefore (get_or xs k d) (get_or xs (suc k) d))
      → AreInOrder xs
  in_order [] next = tt
  in_order (x ∷ []) next = (tt, tt)
  in_order (x ∷ y ∷ xs) next =
      let rest = in_order (y ∷ xs) (λ k d low. next (suc k) d (omega (arith, low))) in
      let here : IsBefore x y = next 0 x (omega arith) in
      ((here, all_weaker (IsBefore y) (IsBefore x) (λ z. along x y z here) xs rest.0), rest)

  kept_order : (p : X → Bool) (xs : List X) → AreInOrder xs → AreInOrder (filter p xs)
  kept_order p [] all = tt
  kept_order p (x ∷ xs) all = at (p x) (all-filter (IsBefore x) p xs all.0) (kept_order p xs all.1)
    where
      at : (b : Bool) → AllByRecursion (IsBefore x) (filter p xs) → AreInOrder (filter p xs)
          → AreInOrder (cond b (x ∷ filter p xs) (filter p xs))
      at true here rest = (here, rest)
      at false here rest = rest

  first_up : (x : X) (xs : List X) → AllByRecursion (λ y. number x ≤ number y) xs → (j : ℕ) (d : X) → j < length xs
      → number x ≤ number (get_or xs j d)
  first_up x [] all j d low = absurd (omega (arith, low))
  first_up x (y ∷ ys) all zero d low = all.0
  first_up x (y ∷ ys) all (suc j) d low = first_up x ys all.1 j d (omega (arith, low))

  rise : (xs : List X) → (n : ℕ) → AllByRecursion (λ x. first x ≡ n) xs → AreInOrder xs → IsNonDecreasingBy number xs
  rise [] n at all i j d le low = absurd (omega (arith, low))
  rise (x ∷ xs) n at all zero zero d le low = omega arith
  rise (x ∷ xs) n at all zero (suc j) d le low = first_up x xs (below xs at.1 all.0) j d (omega (arith, low))
    where
      below : (ys : List X) → AllByRecursion (λ y. first y ≡ n) ys → AllByRecursion (IsBefore x) ys
          → AllByRecursion (λ y. number x ≤ number y) ys
      below [] ats befores = tt
      below (y ∷ ys) ats befores = (befores.0.1 (at.0 ∙ sym ats.0), below ys ats.1 befores.1)
  rise (x ∷ xs) n at all (suc i) zero d le low = absurd (omega (arith, le))
  rise (x ∷ xs) n at all (suc i) (suc j) d le low =
      rise xs n at.1 all.1 i j d (omega (arith, le)) (omega (arith, low))

  these : (n : ℕ) (xs : List X) → AllByRecursion (λ x. first x ≡ n) (filter (λ x. first x == n) xs)
  these n [] = tt
  these n (x ∷ xs) = at (first x == n) refl (these n xs)
    where
      at : (b : Bool) → first x == n ≡ b → AllByRecursion (λ y. first y ≡ n) (filter (λ y. first y == n) xs)
          → AllByRecursion (λ y. first y ≡ n)
          (cond b (x ∷ filter (λ y. first y == n) xs) (filter (λ y. first y == n) xs))
      at true e rest = (eqb-true (first x) n e, rest)
      at false e rest = rest

  -- the second numbers of those that have the same first one don't fall
  turns : (xs : List X) → AreInOrder xs → (n : ℕ) → IsNonDecreasingBy number (filter (λ x. first x == n) xs)
  turns xs all n = rise (filter (λ x. first x == n) xs) n (these n xs) (kept_order (λ x. first x == n) xs all)

-- ---- the query

-- the rows that pass the tests, in the order of two columns
abbrev pub sorted_by_both : ℕ → ℕ → ℕ → List Term → List Term → Value → Query
sorted_by_both t a b tests shown limit =
    record (scan_by ((col 1 a, ascending Binary) ∷ (col 1 b, ascending Binary) ∷ []) t tests shown) {
      limit = lit limit;
    }

module _ {X : Type 0} (row : X → Row) (first number : X → ℕ) (t a b : ℕ) (tests shown : List Term) (params : Row)
    (limit : Value) (keep : X → Bool)
    (passed : (x : X) → passes params tests (row x) ≡ keep x)
    (firsts : (x : X) → column (row x) a ≡ Int (pos (first x)))
    (seconds : (x : X) → column (row x) b ≡ Int (pos (number x))) where
  abbrev by_both : List (Term × Key)
  by_both = (col 1 a, ascending Binary) ∷ (col 1 b, ascending Binary) ∷ []

  abbrev sorted : Query
  sorted = query row by_both t tests shown params limit keep passed

  abbrev out_of : X → Output
  out_of = out row by_both t tests shown params limit keep passed

  order_is : (x y : X) → output_cmp sorted (out_of x) (out_of y)
      ≡ ordering_then (int_cmp (pos (first x)) (pos (first y))) (int_cmp (pos (number x)) (pos (number y)))
  order_is x y =
      ap (ordering_then (value_cmp (column (row x) a) (column (row y) a)))
      (then-Equal (value_cmp (column (row x) b) (column (row y) b)))
      ∙ ap₂ ordering_then
      (ap₂ value_cmp (firsts x) (firsts y) ∙ value_cmp-Int (pos (first x)) (pos (first y)))
      (ap₂ value_cmp (seconds x) (seconds y) ∙ value_cmp-Int (pos (number x)) (pos (number y)))

  before : (x y : X) → is_lt (output_cmp sorted (out_of y) (out_of x)) ≡ false → IsBefore first number x y
  before x y e =
      let both = ap is_lt (sym (order_is y x)) ∙ e in (
        up (first y) (first x) (not_less _ _ both),
        λ equal.
            up (number y) (number x)
            (ap is_lt (sym (second _ _ (equal_ints (first y) (first x) ∙ same (first y) (first x) (sym equal))))
            ∙ both),
      )

  adjacent : (all : List X) → IsSorted (output_cmp sorted) (map out_of all) → (k : ℕ) (d : X) → k + 1 < length all
      → IsBefore first number (get_or all k d) (get_or all (k + 1) d)
  adjacent all rises k d low =
      let long = length-map all out_of in
      let here = rises k (out_of d) (omega arith) (omega (arith, long, low)) in
      before (get_or all k d) (get_or all (k + 1) d)
      (subst₂ (λ x y. is_lt (output_cmp sorted x y) ≡ false) (get_or-map out_of all (k + 1) d (out_of d) low)
      (get_or-map out_of all k d (out_of d) (omega (arith, low))) here)

  pub rows_by_both : (schema : Schema) (db : Trees) (xs : List X) (found : List Row) → IsPermutation (db t) (map row xs)
      → Answers (record { schema = schema; trees = db })
      (record { lets = []; body = sorted_by_both t a b tests shown limit }) params found
      → (all : List X) × IsPermutation (filter keep xs) all × IsNonDecreasingBy first all
      × ((n : ℕ) → IsNonDecreasingBy number (filter (λ x. first x == n) all))
      × (found ≡ map (λ x. shows params shown (row x)) (limited (as_count limit) all))
  rows_by_both schema db xs found are h =
      let it = rows_in_order row by_both t tests shown params limit keep passed schema db xs found are h in
      let next = adjacent it.0 it.2 in (
        it.0,
        it.1,
        IsNonDecreasingBy-from_all_adjacent first it.0 (λ k d low. (next k d low).0),
        turns first number it.0
            (in_order first number it.0
            (λ k d low. subst (λ n. IsBefore first number (get_or it.0 k d) (get_or it.0 n d)) (add-one k)
            (next k d (omega (arith, low, add-one k))))),
        it.3,
      )
