-- Lists whose elements are looked up, tables of a list of records, and what is said last.
use Rattle.std.proofs.Common.{◌≡◌, ◌⊎◌, inl, inr, ◌<◌, ◌≤◌, ℕ, zero, suc, ◌+◌, ◌==◌, Bool, true, false, ◌||◌, nat_lt}
use Rattle.std.proofs.Common.{List, [], ◌∷◌, Option, Some, None, length, map, take, refl, sym, ap, subst, ◌∙◌, arith}
use Rattle.std.specs.Prelude.{cond, is_some, find, filter, filter_map, slice_get, option_and_then}
use Rattle.std.specs.List.{enumerate_from, cons_option, list_any, list_all, range_with_len}
use Rattle.std.proofs.lemmas.Bool.{eq-eqb, ne_eqb, eqb-true, lt-ltb, le-ltb}
use Rattle.relay_types.specs.Sound.{IsRisingFrom}
use Rattle.relay_types.proofs.KnownLaws.{and_first, and_second, and_both}

pub some_same : {X : Type 0} {x y : X} → Some x ≡ Some y → x ≡ y
some_same e = cc

-- Elements

abbrev pub In : {X : Type 0} → X → List X → Type 0
In x [] = ⊥
In x (y ∷ ys) = (y ≡ x) ⊎ In x ys

pub in_all : {X : Type 0} (test : X → Bool) (xs : List X) (x : X) → list_all test xs ≡ true → In x xs → test x ≡ true
in_all test [] x h i = absurd i
in_all test (y ∷ ys) x h (inl same) = subst (λ z. test z ≡ true) same (and_first (test y) (list_all test ys) h)
in_all test (y ∷ ys) x h (inr i) = in_all test ys x (and_second (test y) (list_all test ys) h) i

pub all_if : {X : Type 0} (test : X → Bool) (xs : List X) → ((x : X) → In x xs → test x ≡ true)
    → list_all test xs ≡ true
all_if test [] h = refl
all_if test (y ∷ ys) h = and_both (test y) (list_all test ys) (h y (inl refl)) (all_if test ys (λ x i. h x (inr i)))

pub in_none : {X : Type 0} (test : X → Bool) (xs : List X) (x : X) → list_any test xs ≡ false → In x xs → test x ≡ false
in_none test [] x h i = absurd i
in_none test (y ∷ ys) x h i = grind (arith, in_none test ys x)

pub none_if : {X : Type 0} (test : X → Bool) (xs : List X) → ((x : X) → In x xs → test x ≡ false)
    → list_any test xs ≡ false
none_if test [] h = refl
none_if test (y ∷ ys) h = ap (λ b. b || list_any test ys) (h y (inl refl)) ∙ none_if test ys (λ x i. h x (inr i))

pub any_in : {X : Type 0} (test : X → Bool) (xs : List X) (x : X) → In x xs → test x ≡ true → list_any test xs ≡ true
any_in test [] x i h = absurd i
any_in test (y ∷ ys) x i h = grind (arith, any_in test ys x)

pub in_any : {X : Type 0} (test : X → Bool) (xs : List X) → list_any test xs ≡ true → (x : X) × In x xs
    × (test x ≡ true)
in_any test [] h = absurd (let no = h in cc)
in_any {X} test (y ∷ ys) h = grind (arith, in_any test ys)

pub found_in : {X : Type 0} (test : X → Bool) (xs : List X) (x : X) → find test xs ≡ Some x → In x xs × (test x ≡ true)
found_in test [] x h = absurd (let no = h in cc)
found_in test (y ∷ ys) x h = grind (arith, found_in test ys x)

pub not_found : {X : Type 0} (test : X → Bool) (xs : List X) (x : X) → find test xs ≡ None → In x xs → test x ≡ false
not_found test [] x h i = absurd i
not_found test (y ∷ ys) x h i = grind (arith, not_found test ys x)

pub none_found : {X : Type 0} (test : X → Bool) (xs : List X) → ((x : X) → In x xs → test x ≡ false)
    → find test xs ≡ None
none_found test [] h = refl
none_found test (y ∷ ys) h = ap (λ b. cond b (Some y) (find test ys)) (h y (inl refl))
    ∙ none_found test ys (λ x i. h x (inr i))

-- the only one that passes is found
pub only_found : {X : Type 0} (test : X → Bool) (xs : List X) (x : X) → In x xs → test x ≡ true
    → ((y : X) → In y xs → test y ≡ true → y ≡ x) → find test xs ≡ Some x
only_found test [] x i h only = absurd i
only_found test (y ∷ ys) x i h only = at (λ j. only_found test ys x j h (λ z k. only z (inr k))) (test y) refl i
  where
    at : (In x ys → find test ys ≡ Some x) → (b : Bool) → test y ≡ b → In x (y ∷ ys)
        → cond b (Some y) (find test ys) ≡ Some x
    at more b e h3 = grind arith

pub in_map : {X Y : Type 0} (f : X → Y) (xs : List X) (y : Y) → In y (map f xs) → (x : X) × In x xs × (f x ≡ y)
in_map f [] y i = absurd i
in_map f (x ∷ xs) y (inl same) = (x, inl refl, same)
in_map f (x ∷ xs) y (inr i) = let found = in_map f xs y i in (found.0, inr found.1, found.2)

pub map_in : {X Y : Type 0} (f : X → Y) (xs : List X) (x : X) → In x xs → In (f x) (map f xs)
map_in f [] x i = absurd i
map_in f (y ∷ ys) x (inl same) = inl (ap f same)
map_in f (y ∷ ys) x (inr i) = inr (map_in f ys x i)

pub in_filter : {X : Type 0} (test : X → Bool) (xs : List X) (x : X) → In x (filter test xs) → In x xs × (test x ≡ true)
in_filter test [] x i = absurd i
in_filter test (y ∷ ys) x i = grind (arith, in_filter test ys x)

pub filter_in : {X : Type 0} (test : X → Bool) (xs : List X) (x : X) → In x xs → test x ≡ true → In x (filter test xs)
filter_in test [] x i h = absurd i
filter_in test (y ∷ ys) x i h = grind (arith, filter_in test ys x)

-- Elements by their numbers, which rise

module _ {X : Type 0} (number : X → ℕ) where
  pub rising_from : (n : ℕ) (xs : List X) (x : X) → IsRisingFrom number n xs → In x xs → n ≤ number x
  rising_from n [] x rises i = absurd i
  rising_from n (y ∷ ys) x rises (inl same) = subst (λ z. n ≤ number z) same rises.0
  rising_from n (y ∷ ys) x rises (inr i) = omega (arith, rises.0, rising_from (number y + 1) ys x rises.1 i)

  pub rising_lower : (m n : ℕ) (xs : List X) → m ≤ n → IsRisingFrom number n xs → IsRisingFrom number m xs
  rising_lower m n [] h rises = tt
  rising_lower m n (x ∷ xs) h rises = (omega (arith, h, rises.0), rises.1)

  pub same_number : (n : ℕ) (xs : List X) (x y : X) → IsRisingFrom number n xs → In x xs → In y xs → number x ≡ number y
      → x ≡ y
  same_number n [] x y rises i j same = absurd i
  same_number n (z ∷ zs) x y rises (inl e) (inl f) same = sym e ∙ f
  same_number n (z ∷ zs) x y rises (inl e) (inr j) same = absurd
      (omega (arith, same, ap number e, rising_from (number z + 1) zs y rises.1 j))
  same_number n (z ∷ zs) x y rises (inr i) (inl f) same = absurd
      (omega (arith, same, ap number f, rising_from (number z + 1) zs x rises.1 i))
  same_number n (z ∷ zs) x y rises (inr i) (inr j) same = same_number (number z + 1) zs x y rises.1 i j same

  pub found_at : (n k : ℕ) (xs : List X) (x : X) → IsRisingFrom number n xs → In x xs → number x ≡ k
      → find (λ y. number y == k) xs ≡ Some x
  found_at n k xs x rises i is =
      only_found (λ y. number y == k) xs x i (eq-eqb (number x) k is)
      (λ y j passes. same_number n xs y x rises j i (eqb-true (number y) k passes ∙ sym is))

-- Places of a list

pub place_below : {X : Type 0} (xs : List X) (k : ℕ) (x : X) → slice_get xs k ≡ Some x → k < length xs
place_below [] k x h = absurd (let no = h in cc)
place_below (y ∷ ys) zero x h = omega arith
place_below (y ∷ ys) (suc k) x h = omega (arith, place_below ys k x h)

pub below_place : {X : Type 0} (xs : List X) (k : ℕ) → k < length xs → (x : X) × (slice_get xs k ≡ Some x)
below_place [] k h = absurd (omega (arith, h))
below_place (y ∷ ys) zero h = (y, refl)
below_place (y ∷ ys) (suc k) h = below_place ys k (omega (arith, h))

pub all_places : {X : Type 0} (test : X → Bool) (xs : List X)
    → ((k : ℕ) (x : X) → slice_get xs k ≡ Some x → test x ≡ true) → list_all test xs ≡ true
all_places test [] h = refl
all_places test (y ∷ ys) h = and_both (test y) (list_all test ys) (h 0 y refl) (all_places test ys (λ k. h (suc k)))

pub at_place : {X : Type 0} (test : X → Bool) (xs : List X) (k : ℕ) (x : X) → list_all test xs ≡ true
    → slice_get xs k ≡ Some x → test x ≡ true
at_place test [] k x h is = absurd (let no = is in cc)
at_place test (y ∷ ys) zero x h is = subst (λ z. test z ≡ true) (some_same is) (and_first (test y) (list_all test ys) h)
at_place test (y ∷ ys) (suc k) x h is = at_place test ys k x (and_second (test y) (list_all test ys) h) is

-- what is made of each number
pub made : {X : Type 0} (f : ℕ → Option X) (n k : ℕ) → ((j : ℕ) → n ≤ j → j < n + k → is_some (f j) ≡ true)
    → (length (filter_map f (range_with_len n k)) ≡ k)
    × ((i j : ℕ) → j ≡ n + i → i < k → slice_get (filter_map f (range_with_len n k)) i ≡ f j)
made f n zero h = (refl, λ i j same l. absurd (omega (arith, l)))
made {X} f n (suc k) h = at (f n) refl (h n (omega arith) (omega arith))
    (made f (n + 1) k (λ j low high. h j (omega (arith, low)) (omega (arith, high))))
  where
    rest : List X
    rest = filter_map f (range_with_len (n + 1) k)

    at : (o : Option X) → f n ≡ o → is_some o ≡ true → (length rest ≡ k)
        × ((i j : ℕ) → j ≡ n + 1 + i → i < k → slice_get rest i ≡ f j)
        → (length (cons_option o rest) ≡ suc k)
        × ((i j : ℕ) → j ≡ n + i → i < suc k → slice_get (cons_option o rest) i ≡ f j)
    at o e some more = grind arith

-- Tables: what is made of the numbered elements

module _ {X Y : Type 0} (g : ℕ × X → Option Y) (number : Y → ℕ) where
  -- a table is what is found at each number
  pub table_is : (n : ℕ) (xs : List X) (ys : List Y) → IsRisingFrom number n ys
      → ((y : Y) → In y ys → number y < n + length xs)
      → ((i k : ℕ) → k ≡ n + i → i < length xs → option_and_then (λ x. g (k, x)) (slice_get xs i) ≡ find
      (λ y. number y == k) ys)
      → filter_map g (enumerate_from n xs) ≡ ys
  table_is n [] [] rises below h = refl
  table_is n [] (y ∷ ys) rises below h = absurd (omega (arith, rises.0, below y (inl refl)))
  table_is n (x ∷ xs) [] rises below h = ap (λ o. cons_option o (filter_map g (enumerate_from (n + 1) xs)))
      (h 0 n (omega arith) (omega arith)) ∙ table_is (n + 1) xs [] tt (λ y i. absurd i)
      (λ i k same l. h (suc i) k (omega (arith, same)) (omega (arith, l)))
  table_is n (x ∷ xs) (y ∷ ys) rises below h = at (λ zs up low is. table_is (n + 1) xs zs up low is)
      (number y == n) refl
    where
      first : g (n, x) ≡ find (λ z. number z == n) (y ∷ ys)
      first = h 0 n (omega arith) (omega arith)

      higher : (m n : ℕ) → n ≤ m → m == n ≡ false → n + 1 ≤ m
      higher m n l e = grind (arith, eq-eqb)

      at : ((zs : List Y) → IsRisingFrom number (n + 1) zs → ((z : Y) → In z zs → number z < n + 1 + length xs)
          → ((i k : ℕ) → k ≡ n + 1 + i → i < length xs → option_and_then (λ x. g (k, x)) (slice_get xs i) ≡ find
          (λ z. number z == k) zs) → filter_map g (enumerate_from (n + 1) xs) ≡ zs)
          → (b : Bool) → number y == n ≡ b → cons_option (g (n, x)) (filter_map g (enumerate_from (n + 1) xs)) ≡ y ∷ ys
      at more true e =
          let is : number y ≡ n = eqb-true (number y) n e in
          λ i. cons_option ((first ∙ ap (λ b. cond b (Some y) (find (λ z. number z == n) ys)) e) i)
          (more ys (rising_lower number (n + 1) (number y + 1) ys (omega (arith, is)) rises.1)
          (λ z j. omega (arith, below z (inr j)))
          (λ j k same l. h (suc j) k (omega (arith, same)) (omega (arith, l))
          ∙ ap (λ b. cond b (Some y) (find (λ z. number z == k) ys))
          (ne_eqb (number y) k (λ f. omega (arith, f, is, same)))) i)
      at more false e =
          let above : n + 1 ≤ number y = higher (number y) n rises.0 e in
          λ i. cons_option ((first ∙ none_found (λ z. number z == n) (y ∷ ys)
          (λ z j. ne_eqb (number z) n
          (λ f. omega (arith, f, rising_from number (n + 1) (y ∷ ys) z (above, rises.1) j)))) i)
          (more (y ∷ ys) (above, rises.1) (λ z j. omega (arith, below z j))
          (λ j k same l. h (suc j) k (omega (arith, same)) (omega (arith, l))) i)

  -- from here on the numbers are those of the elements
  module _ (numbers : (k : ℕ) (x : X) (y : Y) → g (k, x) ≡ Some y → number y ≡ k) where
    pub table_rises : (n : ℕ) (xs : List X) → IsRisingFrom number n (filter_map g (enumerate_from n xs))
    table_rises n [] = tt
    table_rises n (x ∷ xs) = grind (arith, rising_lower, table_rises (n + 1) xs)

    -- the table of a front is the front of the table
    pub table_front : (n m e : ℕ) (xs : List X) → e ≡ n + m → filter_map g (enumerate_from n (take m xs)) ≡ filter
        (λ y. nat_lt (number y) e) (filter_map g (enumerate_from n xs))
    table_front n zero e xs same = sym (none_passes (filter_map g (enumerate_from n xs)) (table_rises n xs))
      where
        none_passes : (ys : List Y) → IsRisingFrom number n ys → filter (λ y. nat_lt (number y) e) ys ≡ []
        none_passes [] rises = refl
        none_passes (y ∷ ys) rises =
            ap (λ b. cond b (y ∷ filter (λ y. nat_lt (number y) e) ys) (filter (λ y. nat_lt (number y) e) ys))
            (le-ltb (number y) e (omega (arith, same, rises.0)))
            ∙ none_passes ys (rising_lower number n (number y + 1) ys (omega (arith, rises.0)) rises.1)
    table_front n (suc m) e [] same = refl
    table_front n (suc m) e (x ∷ xs) same = at (table_front (n + 1) m e xs (omega (arith, same))) (g (n, x)) refl
      where
        at : filter_map g (enumerate_from (n + 1) (take m xs)) ≡ filter (λ y. nat_lt (number y) e)
            (filter_map g (enumerate_from (n + 1) xs)) → (o : Option Y) → g (n, x) ≡ o
            → cons_option o (filter_map g (enumerate_from (n + 1) (take m xs))) ≡ filter (λ y. nat_lt (number y) e)
            (cons_option o (filter_map g (enumerate_from (n + 1) xs)))
        at more None is = more
        at more (Some y) is = ap (λ ys. y ∷ ys) more
            ∙ sym (ap (λ b. cond b (y ∷ filter (λ y. nat_lt (number y) e) (filter_map g (enumerate_from (n + 1) xs)))
            (filter (λ y. nat_lt (number y) e) (filter_map g (enumerate_from (n + 1) xs))))
            (lt-ltb (number y) e (omega (arith, same, numbers n x y is))))

  -- which element a row is of
  pub row_of : (n : ℕ) (xs : List X) (y : Y) → In y (filter_map g (enumerate_from n xs)) → (k : ℕ) × (x : X)
      × (slice_get xs k ≡ Some x) × (g (n + k, x) ≡ Some y)
  row_of n [] y i = absurd i
  row_of n (x ∷ xs) y i = at (row_of (n + 1) xs y) (g (n, x)) refl i
    where
      moved : (k : ℕ) → n + 1 + k ≡ n + suc k
      moved k = omega arith

      here : n ≡ n + 0
      here = omega arith

      later : ((k : ℕ) × (z : X) × (slice_get xs k ≡ Some z) × (g (n + 1 + k, z) ≡ Some y)) → (k : ℕ) × (z : X)
          × (slice_get (x ∷ xs) k ≡ Some z) × (g (n + k, z) ≡ Some y)
      later found = (suc found.0, found.1, found.2, subst (λ m. g (m, found.1) ≡ Some y) (moved found.0) found.3)

      at : (In y (filter_map g (enumerate_from (n + 1) xs)) → (k : ℕ) × (z : X) × (slice_get xs k ≡ Some z)
          × (g (n + 1 + k, z) ≡ Some y)) → (o : Option Y) → g (n, x) ≡ o
          → In y (cons_option o (filter_map g (enumerate_from (n + 1) xs)))
          → (k : ℕ) × (z : X) × (slice_get (x ∷ xs) k ≡ Some z) × (g (n + k, z) ≡ Some y)
      at more None e i = later (more i)
      at more (Some z) e (inl same) = (0, x, refl, subst (λ m. g (m, x) ≡ Some y) here (e ∙ ap Some same))
      at more (Some z) e (inr i) = later (more i)

  pub row_in : (n k : ℕ) (xs : List X) (x : X) (y : Y) → slice_get xs k ≡ Some x → g (n + k, x) ≡ Some y
      → In y (filter_map g (enumerate_from n xs))
  row_in n k [] x y is made = absurd (let no = is in cc)
  row_in n zero (z ∷ xs) x y is made = grind (arith, made)
  row_in n (suc k) (z ∷ xs) x y is made = behind (g (n, z))
      (row_in (n + 1) k xs x y is (subst (λ m. g (m, x) ≡ Some y) moved made))
    where
      moved : n + suc k ≡ n + 1 + k
      moved = omega arith

      behind : (o : Option Y) → In y (filter_map g (enumerate_from (n + 1) xs))
          → In y (cons_option o (filter_map g (enumerate_from (n + 1) xs)))
      behind None i = i
      behind (Some t) i = inr i
