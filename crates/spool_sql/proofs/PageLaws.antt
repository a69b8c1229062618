-- The pages of a table whose numbers rise, one after another, are the table.
use Rattle.std.proofs.Common.{◌≡◌, inl, inr, ◌<◌, ◌≤◌, ℕ, zero, suc, ◌+◌, ◌==◌, Bool, true, false, cond, List, [], ◌∷◌}
use Rattle.std.proofs.Common.{◌++◌, ◌-◌, Option, Some, None, map, length, take, drop, get_or, ltb, refl, sym, ap, subst}
use Rattle.std.proofs.Common.{◌∙◌, Bor, arith, append-nil, append_assoc}
use Rattle.std.specs.Prelude.{MatchOption, filter, find, filter_map, nat_le, nat_lt, option_map, slice_get}
use Rattle.std.specs.Prelude.{slice_index_or}
use Rattle.std.specs.Option.{IsSomeAnd, option_copied, option_map_or}
use Rattle.std.specs.List.{cons_option, enumerate_from, list_all, list_any}
use Rattle.std.specs.List.Sorted.{IsPartitionedBy, IsPermutation, IsNonDecreasingBy}
use Rattle.std.proofs.lemmas.Bool.{le-leb, leb-true, lt-leb, lt-ltb, le-ltb, ltb-true, eq-eqb, ne_eqb, cases_eq}
use Rattle.std.proofs.lemmas.Bool.{cases_lt}
use Rattle.std.proofs.lemmas.List.{length-map, take-append-drop}
use Rattle.std.proofs.lemmas.List.Elements.{filter-append}
use Rattle.std.specs.Iterator.{Yields}
use Rattle.std.proofs.lemmas.Iterator.{YieldsList}
use Rattle.std.proofs.lemmas.Iterator.Consumers.{YieldsList-so_far, YieldsList-turn}
use Rattle.std.proofs.lemmas.List.Folds.{list_any_none}
use Rattle.std.proofs.lemmas.List.Sorted.{IsPartitionedBy-ltb, length_permutation}
use Rattle.sqlite_trees.proofs.ListLemmas.{IsPermutation-filter, all-permutation}
use Rattle.relay_types.specs.declared.limits.TheConstants.{MAX_RECORDS}
use Rattle.relay_types.specs.declared.record.Record.{Record}
use Rattle.relay_types.specs.Legal.{may_all_follow, is_within_limits, IsLegal}
use Rattle.relay_types.proofs.KnownLaws.{and_second}
use Rattle.relay_types.proofs.TableLaws.{In}
use Rattle.spool_sql.specs.Stored.{IsPage, page_rows}
use Rattle.spool_sql.specs.Reading.{IsRising, IsLeft}

no_last : {X : Type 0} (xs : List X) → slice_get xs (length xs - 1) ≡ None → xs ≡ []
no_last [] is = refl
no_last (x ∷ xs) is = absurd (there x xs (length (x ∷ xs) - 1) (omega arith) is)
  where
    there : {X : Type 0} (x : X) (xs : List X) (k : ℕ) → k < length (x ∷ xs) → slice_get (x ∷ xs) k ≡ None → ⊥
    there x xs zero below lost = cc
    there x [] (suc k) below lost = omega (arith, below)
    there x (y ∷ ys) (suc k) below lost = there y ys k (omega (arith, below)) lost

module _ {X : Type 0} (number : X → ℕ) where
  -- Rising numbers

  pub rising_within : (a b : ℕ) (xs : List X) → IsRising number a b xs → a ≤ b
  rising_within a b [] h = h
  rising_within a b (x ∷ xs) h = omega (arith, h.0, rising_within (number x + 1) b xs h.1)

  pub rising_lower : (a b c : ℕ) (xs : List X) → a ≤ b → IsRising number b c xs → IsRising number a c xs
  rising_lower a b c [] l h = omega (arith, l, h)
  rising_lower a b c (x ∷ xs) l h = (omega (arith, l, h.0), h.1)

  pub rising_append : (a b c : ℕ) (xs ys : List X) → IsRising number a b xs → IsRising number b c ys
      → IsRising number a c (xs ++ ys)
  rising_append a b c [] ys h i = rising_lower a b c ys h i
  rising_append a b c (x ∷ xs) ys h i = (h.0, rising_append (number x + 1) b c xs ys h.1 i)

  -- some of them still rise
  pub rising_kept : (test : X → Bool) (a b : ℕ) (xs : List X) → IsRising number a b xs
      → IsRising number a b (filter test xs)
  rising_kept test a b [] h = h
  rising_kept test a b (x ∷ xs) h = at (test x) (rising_kept test (number x + 1) b xs h.1)
    where
      at : (t : Bool) → IsRising number (number x + 1) b (filter test xs)
          → IsRising number a b (cond t (x ∷ filter test xs) (filter test xs))
      at true more = (h.0, more)
      at false more = rising_lower a (number x + 1) b (filter test xs) (omega (arith, h.0)) more

  -- the place after the last of them
  abbrev pub behind_last : ℕ → List X → ℕ
  behind_last a [] = a
  behind_last a (x ∷ xs) = behind_last (number x + 1) xs

  pub rising_parts : (a b : ℕ) (xs ys : List X) → IsRising number a b (xs ++ ys)
      → IsRising number a (behind_last a xs) xs × IsRising number (behind_last a xs) b ys
  rising_parts a b [] ys h = (omega arith, h)
  rising_parts a b (x ∷ xs) ys h = let rest = rising_parts (number x + 1) b xs ys h.1 in ((h.0, rest.0), rest.1)

  pub rising_higher : (a b c : ℕ) (xs : List X) → b ≤ c → IsRising number a b xs → IsRising number a c xs
  rising_higher a b c [] l h = omega (arith, l, h)
  rising_higher a b c (x ∷ xs) l h = (h.0, rising_higher (number x + 1) b c xs l h.1)

  pub rising_at : (a b : ℕ) (xs ys : List X) (x : X) → IsRising number a b (xs ++ (x ∷ ys)) → number x < b
  rising_at a b xs ys x h = let parts = rising_parts a b xs (x ∷ ys) h
      in omega (arith, rising_within (number x + 1) b ys parts.1.1)

  pub none_from : (a b c : ℕ) (xs : List X) → b ≤ c → IsRising number a b xs → filter (λ x. nat_le c (number x)) xs ≡ []
  none_from a b c [] l h = refl
  none_from a b c (x ∷ xs) l h =
      let above = rising_within (number x + 1) b xs h.1 in
      rw (lt-leb c (number x) (omega (arith, l, above))) (none_from (number x + 1) b c xs l h.1)

  pub all_from : (a b c : ℕ) (xs : List X) → c ≤ a → IsRising number a b xs → filter (λ x. nat_le c (number x)) xs ≡ xs
  all_from a b c [] l h = refl
  all_from a b c (x ∷ xs) l h =
      rw (le-leb c (number x) (omega (arith, l, h.0)))
      (ap (λ rest. x ∷ rest) (all_from (number x + 1) b c xs (omega (arith, l, h.0)) h.1))

  -- A list in the order of numbers that differ is the one order of its elements

  above_none : (a b n : ℕ) (xs : List X) → n < a → IsRising number a b xs → filter (λ x. number x == n) xs ≡ []
  above_none a b n [] l h = refl
  above_none a b n (x ∷ xs) l h =
      rw (ne_eqb (number x) n (λ same. absurd (omega (arith, same, l, h.0))))
      (above_none (number x + 1) b n xs (omega (arith, l, h.0)) h.1)

  once : (a b n : ℕ) (xs : List X) → IsRising number a b xs → length (filter (λ x. number x == n) xs) ≤ 1
  once a b n [] h = omega arith
  once a b n (x ∷ xs) h = at (once (number x + 1) b n xs h.1) (number x == n) refl
    where
      at : length (filter (λ y. number y == n) xs) ≤ 1 → (t : Bool) → number x == n ≡ t
          → length (cond t (x ∷ filter (λ y. number y == n) xs) (filter (λ y. number y == n) xs)) ≤ 1
      at rest false e = rest
      at rest true e = rw (above_none (number x + 1) b n xs (omega (arith, eqb_is (number x) n e)) h.1) (omega arith)
        where
          eqb_is : (p q : ℕ) → p == q ≡ true → q < p + 1
          eqb_is p q e = elim (cases_lt p q) [
            | inl lt ↦ absurd (let no = ne_eqb p q (λ same. absurd (omega (arith, same, lt))) in let yes = e in cc)
            | inr ge ↦ below ge
          ]
            where
              below : q ≤ p → q < p + 1
              below ge = omega (arith, ge)

  short_same : (us vs : List X) → length us ≤ 1 → IsPermutation us vs → vs ≡ us
  short_same [] [] l p = refl
  short_same [] (v ∷ vs) l p = absurd (let n = length_permutation [] (v ∷ vs) p in omega (arith, n))
  short_same (u ∷ []) [] l p = absurd (let n = length_permutation (u ∷ []) [] p in omega (arith, n))
  short_same (u ∷ []) (v ∷ []) l p = let each = all-permutation (λ w. w ≡ u) (u ∷ []) (v ∷ []) p (refl, tt)
      in ap (λ w. w ∷ []) each.0
  short_same (u ∷ []) (v ∷ w ∷ vs) l p = absurd (let n = length_permutation (u ∷ []) (v ∷ w ∷ vs) p in omega (arith, n))
  short_same (u ∷ w ∷ us) vs l p = absurd (omega (arith, l))

  perm_same : (a b n : ℕ) (xs ys : List X) → IsRising number a b xs → IsPermutation xs ys
      → filter (λ x. number x == n) ys ≡ filter (λ x. number x == n) xs
  perm_same a b n xs ys h p = short_same _ _ (once a b n xs h) (IsPermutation-filter (λ x. number x == n) xs ys p)

  -- the first of a list in the order of its numbers has the least
  first_least : (y : X) (ys : List X) → IsNonDecreasingBy number (y ∷ ys) → (n : ℕ) → n < number y
      → filter (λ x. number x == n) (y ∷ ys) ≡ []
  first_least y ys h n l = rw (ne_eqb (number y) n (λ same. absurd (omega (arith, same, l))))
      (rest ys (λ j d below. h 0 (suc j) d (omega arith) (omega (arith, below))))
    where
      rest : (zs : List X) → ((j : ℕ) (d : X) → j < length zs → number y ≤ number (slice_index_or zs j d))
          → filter (λ x. number x == n) zs ≡ []
      rest [] each = refl
      rest (z ∷ zs) each =
          rw (ne_eqb (number z) n (λ same. absurd (omega (arith, same, l, each 0 z (omega arith)))))
          (rest zs (λ j d below. each (suc j) d (omega (arith, below))))

  tail_order : (y : X) (ys : List X) → IsNonDecreasingBy number (y ∷ ys) → IsNonDecreasingBy number ys
  tail_order y ys h i j d l below = h (suc i) (suc j) d (omega (arith, l)) (omega (arith, below))

  filter_head : (x : X) (xs : List X) (n : ℕ) → number x ≡ n → filter (λ z. number z == n) (x ∷ xs) ≡ x ∷ filter
      (λ z. number z == n) xs
  filter_head x xs n same = rw (eq-eqb (number x) n same) refl

  some_same : (x y : X) → Some x ≡ Some y → x ≡ y
  some_same x y e = cc

  cons_head : (x y : X) (xs ys : List X) → x ∷ xs ≡ y ∷ ys → x ≡ y
  cons_head x y xs ys e = cc

  cons_tail : (x y : X) (xs ys : List X) → x ∷ xs ≡ y ∷ ys → xs ≡ ys
  cons_tail x y xs ys e = cc

  cons_none : (x : X) (xs : List X) → x ∷ xs ≡ [] → ⊥
  cons_none x xs e = cc

  sorted_same : (a b : ℕ) (xs ys : List X) → IsRising number a b xs → IsNonDecreasingBy number ys
      → ((n : ℕ) → filter (λ x. number x == n) ys ≡ filter (λ x. number x == n) xs) → ys ≡ xs
  sorted_same a b [] [] h o same = refl
  sorted_same a b [] (y ∷ ys) h o same = absurd
      (cons_none y _ (sym (filter_head y ys (number y) refl) ∙ same (number y)))
  sorted_same a b (x ∷ xs) [] h o same = absurd
      (cons_none x _ (sym (filter_head x xs (number x) refl) ∙ sym (same (number x))))
  sorted_same a b (x ∷ xs) (y ∷ ys) h o same =
      (λ i. heads i ∷ sorted_same (number x + 1) b xs ys h.1 (tail_order y ys o) rests i)
    where
      up : number x < number y → ⊥
      up lt = cons_none x _ (sym (filter_head x xs (number x) refl) ∙ sym (same (number x))
          ∙ first_least y ys o (number x) lt)

      down : number y < number x → ⊥
      down lt = cons_none y _ (sym (filter_head y ys (number y) refl) ∙ same (number y)
          ∙ above_none (number x) b (number y) (x ∷ xs) lt (omega arith, h.1))

      numbers : number y ≡ number x
      numbers = elim (cases_lt (number x) (number y)) [
        | inl lt ↦ absurd (up lt)
        | inr ge ↦ elim (cases_lt (number y) (number x)) [ inl lt ↦ absurd (down lt) | inr ge_too ↦ equal ge ge_too ]
      ]
        where
          equal : number y ≤ number x → number x ≤ number y → number y ≡ number x
          equal p q = omega (arith, p, q)

      both : y ∷ filter (λ z. number z == number x) ys ≡ x ∷ filter (λ z. number z == number x) xs
      both = sym (filter_head y ys (number x) numbers) ∙ same (number x) ∙ filter_head x xs (number x) refl

      heads : y ≡ x
      heads = cons_head y x _ _ both

      rests : (n : ℕ) → filter (λ z. number z == n) ys ≡ filter (λ z. number z == n) xs
      rests n = at (number x == n) refl
        where
          at : (t : Bool) → number x == n ≡ t → filter (λ z. number z == n) ys ≡ filter (λ z. number z == n) xs
          at true e = cons_tail y x _ _ (
              sym (ap (λ t. cond t (y ∷ filter (λ z. number z == n) ys) (filter (λ z. number z == n) ys))
              (ap (λ m. m == n) numbers ∙ e))
              ∙ same n ∙ ap (λ t. cond t (x ∷ filter (λ z. number z == n) xs) (filter (λ z. number z == n) xs)) e)
          at false e =
              sym (ap (λ t. cond t (y ∷ filter (λ z. number z == n) ys) (filter (λ z. number z == n) ys))
              (ap (λ m. m == n) numbers ∙ e))
              ∙ same n ∙ ap (λ t. cond t (x ∷ filter (λ z. number z == n) xs) (filter (λ z. number z == n) xs)) e

  pub rising_order : (a b : ℕ) (xs ys : List X) → IsRising number a b xs → IsPermutation xs ys
      → IsNonDecreasingBy number ys → ys ≡ xs
  rising_order a b xs ys h p o = sorted_same a b xs ys h o (λ n. perm_same a b n xs ys h p)

  -- Pages

  -- nothing is read yet
  pub left_all : (xs : List X) → IsRising number 0 MAX_RECORDS xs → IsLeft number 0 xs [] xs
  left_all xs h = record { parted = refl; before = omega arith; behind = h }

  -- a page from there on has the first of the rows that are left
  pub page_is : (from : ℕ) (xs read left page : List X) → IsLeft number from xs read left → IsPage number from xs page
      → page ≡ take page_rows left
  page_is from xs read left page h p = p.3
      ∙ ap (take page_rows)
      (rising_order from MAX_RECORDS left p.0 h.behind (subst (λ ys. IsPermutation ys p.0) those p.1) p.2)
    where
      those : filter (λ x. nat_le from (number x)) xs ≡ left
      those =
          ap (filter (λ x. nat_le from (number x))) h.parted ∙ filter-append (λ x. nat_le from (number x)) read left
          ∙ λ i. none_from 0 from from read (omega arith) h.before i ++ all_from from MAX_RECORDS from left
          (omega arith) h.behind i

  -- the rows after a page are left
  pub left_behind : (from : ℕ) (xs read page more : List X) → IsLeft number from xs read (page ++ more)
      → IsLeft number (behind_last from page) xs (read ++ page) more
  left_behind from xs read page more h =
      let parts = rising_parts from MAX_RECORDS page more h.behind in
      record {
        parted = h.parted ∙ sym (append_assoc read page more);
        before = rising_append 0 from (behind_last from page) read page h.before parts.0;
        behind = parts.1;
      }

  -- the last page is empty, and all is read
  pub read_all : (from : ℕ) (xs read left : List X) → from ≤ MAX_RECORDS → IsLeft number from xs read left
      → take page_rows left ≡ [] → IsLeft number MAX_RECORDS xs read left
  read_all from xs read left l h none = record {
    parted = h.parted;
    before = rising_higher 0 from MAX_RECORDS read l h.before;
    behind = subst (IsRising number MAX_RECORDS MAX_RECORDS) (sym (empty left none)) (omega arith);
  }
    where
      empty : (xs : List X) → take page_rows xs ≡ [] → xs ≡ []
      empty [] e = refl
      empty (x ∷ xs) e = absurd (cons_none x (take 255 xs) e)

  -- nothing is left from the end on
  pub none_left : (from : ℕ) (xs read left : List X) → MAX_RECORDS ≤ from → IsLeft number from xs read left → left ≡ []
  none_left from xs read [] l h = refl
  none_left from xs read (x ∷ left) l h = absurd
      (omega (arith, l, h.behind.0, rising_within (number x + 1) MAX_RECORDS left h.behind.1))

  pub behind_last-is : (a : ℕ) (xs : List X) (x : X) → slice_get xs (length xs - 1) ≡ Some x
      → behind_last a xs ≡ number x + 1
  behind_last-is a [] x is = absurd (let no = is in cc)
  behind_last-is a (y ∷ []) x is = ap (λ z. number z + 1) (some_is is)
    where
      some_is : Some y ≡ Some x → y ≡ x
      some_is e = cc
  behind_last-is a (y ∷ z ∷ xs) x is = behind_last-is (number y + 1) (z ∷ xs) x (ap (slice_get (z ∷ xs)) down
      ∙ ap (slice_get (y ∷ z ∷ xs)) up ∙ is)
    where
      down : length (z ∷ xs) - 1 ≡ length xs
      down = omega arith

      up : suc (length xs) ≡ length (y ∷ z ∷ xs) - 1
      up = omega arith

  -- What a page that was read leaves

  -- the rows that are left after a page, where the next page begins
  abbrev pub IsBehind : (next : ℕ) (xs read left page : List X) → Type 0
  IsBehind next xs read left page = (more : List X) × (left ≡ page ++ more) × IsLeft number next xs (read ++ page) more

  pub parted_page : (from : ℕ) (xs read left page : List X) → IsLeft number from xs read left
      → page ≡ take page_rows left → left ≡ page ++ drop page_rows left
  parted_page from xs read left page h is = sym (take-append-drop page_rows left) ∙ ap (λ ys. ys ++ drop page_rows left)
      (sym is)

  behind_some : (from next : ℕ) (xs read left page : List X) (last : X) → IsLeft number from xs read left
      → IsPage number from xs page → slice_get page (length page - 1) ≡ Some last → next ≡ number last + 1
      → IsBehind next xs read left page
  behind_some from next xs read left page last h p is at =
      let parted = parted_page from xs read left page h (page_is from xs read left page h p) in
      let there : IsLeft number from xs read (page ++ drop page_rows left) = subst (IsLeft number from xs read) parted h
      in (
        drop page_rows left,
        parted,
        subst (λ n. IsLeft number n xs (read ++ page) (drop page_rows left))
            (behind_last-is from page last is ∙ sym at) (left_behind from xs read page (drop page_rows left) there),
      )

  behind_none : (from : ℕ) (xs read left page : List X) → from ≤ MAX_RECORDS → IsLeft number from xs read left
      → IsPage number from xs page → page ≡ [] → IsBehind MAX_RECORDS xs read left page
  behind_none from xs read left page l h p none =
      subst (IsBehind MAX_RECORDS xs read left) (sym none) (
        left,
        refl,
        subst (λ ys. IsLeft number MAX_RECORDS xs ys left) (sym (append-nil read))
            (read_all from xs read left l h (sym (page_is from xs read left page h p) ∙ none)),
      )

  -- the number of its last row
  abbrev pub last_number : List X → Option ℕ
  last_number page = option_map number (slice_get page (length page - 1))

  -- where the next page begins
  abbrev pub next_from : List X → ℕ
  next_from page = option_map_or (λ last. last + 1) (last_number page) MAX_RECORDS

  pub behind_page : (from : ℕ) (xs read left page : List X) → from ≤ MAX_RECORDS → IsLeft number from xs read left
      → IsPage number from xs page → IsBehind (next_from page) xs read left page
  behind_page from xs read left page l h p = at (slice_get page (length page - 1)) refl
    where
      at : (s : Option X) → slice_get page (length page - 1) ≡ s
          → IsBehind (option_map_or (λ last. last + 1) (option_map number s) MAX_RECORDS) xs read left page
      at (Some last) is = behind_some from (number last + 1) xs read left page last h p is refl
      at None is = behind_none from xs read left page l h p (no_last page is)

  -- One of a list whose numbers rise is found by its number

  rising_get : (a b k : ℕ) (xs : List X) (x : X) → IsRising number a b xs → slice_get xs k ≡ Some x → a ≤ number x
  rising_get a b k [] x h is = absurd (let no = is in cc)
  rising_get a b zero (y ∷ ys) x h is = subst (λ z. a ≤ number z) (some_same y x is) h.0
  rising_get a b (suc k) (y ∷ ys) x h is = omega (arith, h.0, rising_get (number y + 1) b k ys x h.1 is)

  pub rising_find : (a b k : ℕ) (xs : List X) (x : X) → IsRising number a b xs → slice_get xs k ≡ Some x
      → find (λ y. number y == number x) xs ≡ Some x
  rising_find a b k [] x h is = absurd (let no = is in cc)
  rising_find a b zero (y ∷ ys) x h is = rw (eq-eqb (number y) (number x) (ap number (some_same y x is))) is
  rising_find a b (suc k) (y ∷ ys) x h is =
      rw (ne_eqb (number y) (number x)
      (λ same. absurd (omega (arith, same, rising_get (number y + 1) b k ys x h.1 is))))
      (rising_find (number y + 1) b k ys x h.1 is)

  -- the last row of a page isn't below the number where the page begins
  not_fallen : (from : ℕ) (xs read left page : List X) (last : X) → IsLeft number from xs read left
      → IsPage number from xs page → slice_get page (length page - 1) ≡ Some last → from ≤ number last
  not_fallen from xs read left page last h p at =
      let parted = parted_page from xs read left page h (page_is from xs read left page h p) in
      let rises = rising_parts from MAX_RECORDS page (drop page_rows left)
      (subst (IsRising number from MAX_RECORDS) parted h.behind) in
      rising_get from (behind_last from page) (length page - 1) page last rises.0 at

  pub rises_on : (from : ℕ) (xs read left page : List X) → IsLeft number from xs read left → IsPage number from xs page
      → option_map_or (λ last. nat_lt last from) (last_number page) false ≡ true → ⊥
  rises_on from xs read left page h p = at (slice_get page (length page - 1)) refl
    where
      at : (s : Option X) → slice_get page (length page - 1) ≡ s
          → option_map_or (λ last. nat_lt last from) (option_map number s) false ≡ true → ⊥
      at (Some last) is fallen = omega (
        arith,
        ltb-true (number last) from fallen,
        not_fallen from xs read left page last h p is,
      )
      at None is fallen = let no = fallen in cc

  -- No other number is found than at the place where the greater ones begin

  from_place : (a b k : ℕ) (xs : List X) (d : X) → IsRising number a b xs → k < length xs → a ≤ number (get_or xs k d)
  from_place a b k [] d h l = absurd (omega (arith, l))
  from_place a b zero (x ∷ xs) d h l = h.0
  from_place a b (suc k) (x ∷ xs) d h l = omega (arith, h.0, from_place (number x + 1) b k xs d h.1 (omega (arith, l)))

  places_rise : (a b i j : ℕ) (xs : List X) (d : X) → IsRising number a b xs → i < j → j < length xs
      → number (get_or xs i d) < number (get_or xs j d)
  places_rise a b i j [] d h l m = absurd (omega (arith, m))
  places_rise a b i zero (x ∷ xs) d h l m = absurd (omega (arith, l))
  places_rise a b zero (suc j) (x ∷ xs) d h l m = omega
      (arith, from_place (number x + 1) b j xs d h.1 (omega (arith, m)))
  places_rise a b (suc i) (suc j) (x ∷ xs) d h l m = places_rise (number x + 1) b i j xs d h.1 (omega (arith, l))
      (omega (arith, m))

  pub rising_parted : (a b n : ℕ) (xs : List X) → IsRising number a b xs → IsPartitionedBy (λ x. ltb (number x) n) xs
  rising_parted a b n xs h = IsPartitionedBy-ltb number xs n
      (λ i j d le l. elim (cases_eq i j) [
        | inl same ↦ omega (arith, ap (λ k. number (get_or xs k d)) same)
        | inr other ↦ omega
            (arith, places_rise a b i j xs d h (omega (arith, le, other)) l)
      ])

  pub none_there : (a b n place : ℕ) (xs : List X) → IsRising number a b xs
      → ((k : ℕ) (d : X) → k < place → k < length xs → number (get_or xs k d) < n)
      → ((k : ℕ) (d : X) → place ≤ k → k < length xs → n ≤ number (get_or xs k d))
      → ((d : X) → place < length xs → ¬ (number (get_or xs place d) ≡ n)) → list_any (λ x. number x == n) xs ≡ false
  none_there a b n place xs h below above not_here = list_any_none (λ x. number x == n) xs
      (λ k d l. ne_eqb (number (get_or xs k d)) n (λ same. elim (cases_lt k place) [
        | inl less ↦ omega (arith, below k d less l, same)
        | inr later ↦ elim (cases_eq place k) [
          | inl here ↦ not_here d (omega (arith, here, l)) (ap (λ m. number (get_or xs m d)) here ∙ same)
          | inr other ↦ omega (
            arith,
            places_rise a b place k xs d h (omega (arith, later, other)) l,
            above place d
                (omega arith) (omega (arith, later, l)),
            same,
          )
        ]
      ]))

  -- The rows before one

  rising_first : (a b : ℕ) (xs ys : List X) (x : X) → IsRising number a b (xs ++ (x ∷ ys)) → a ≤ number x
  rising_first a b [] ys x h = h.0
  rising_first a b (y ∷ xs) ys x h = omega (arith, h.0, rising_first (number y + 1) b xs ys x h.1)

  pub below_next : (a b : ℕ) (xs ys : List X) (x y : X) → IsRising number a b (xs ++ (x ∷ ys)) → In y xs
      → number y < number x
  below_next a b [] ys x y h i = absurd i
  below_next a b (z ∷ xs) ys x y h (inl same) = omega (arith, ap number same, rising_first (number z + 1) b xs ys x h.1)
  below_next a b (z ∷ xs) ys x y h (inr i) = below_next (number z + 1) b xs ys x y h.1 i

  pub rows_before : (a b : ℕ) (xs ys : List X) (x : X) → IsRising number a b (xs ++ (x ∷ ys))
      → filter (λ y. nat_lt (number y) (number x)) (xs ++ (x ∷ ys)) ≡ xs
  rows_before a b [] ys x h = rw (le-ltb (number x) (number x) (omega arith)) (none (number x + 1) ys (omega arith) h.1)
    where
      none : (c : ℕ) (zs : List X) → number x ≤ c → IsRising number c b zs
          → filter (λ y. nat_lt (number y) (number x)) zs ≡ []
      none c [] l i = refl
      none c (z ∷ zs) l i = rw (le-ltb (number z) (number x) (omega (arith, l, i.0)))
          (none (number z + 1) zs (omega (arith, l, i.0)) i.1)
  rows_before a b (z ∷ xs) ys x h =
      rw (lt-ltb (number z) (number x) (below_next a b (z ∷ xs) ys x z h (inl refl)))
      (ap (λ rest. z ∷ rest) (rows_before (number z + 1) b xs ys x h.1))

  pub few_below : (a b : ℕ) (xs : List X) → IsRising number a b xs → a + length xs ≤ b
  few_below a b [] h = omega (arith, h)
  few_below a b (x ∷ xs) h = omega (arith, h.0, few_below (number x + 1) b xs h.1)

-- What is read of another list
pub rising_map : {X Y : Type 0} (f : X → Y) (number : Y → ℕ) (a b : ℕ) (xs : List X)
    → IsRising (λ x. number (f x)) a b xs → IsRising number a b (map f xs)
rising_map f number a b [] h = h
rising_map f number a b (x ∷ xs) h = (h.0, rising_map f number (number (f x) + 1) b xs h.1)

-- the rows of records have their numbers
pub rows_rise : {Y : Type 0} (f : ℕ × Record → Option Y) (number : Y → ℕ)
    → ((k : ℕ) (r : Record) (y : Y) → f (k, r) ≡ Some y → number y ≡ k) → (n : ℕ) (some : List Record)
    → IsRising number n (n + length some) (filter_map f (enumerate_from n some))
rows_rise f number at_seq n [] = omega arith
rows_rise {Y} f number at_seq n (r ∷ rest) =
    at (subst (λ m. IsRising number (n + 1) m (filter_map f (enumerate_from (n + 1) rest))) moved
    (rows_rise f number at_seq (n + 1) rest)) (f (n, r)) refl
  where
    moved : n + 1 + length rest ≡ n + suc (length rest)
    moved = omega arith

    at : IsRising number (n + 1) (n + suc (length rest)) (filter_map f (enumerate_from (n + 1) rest)) → (o : Option Y)
        → f (n, r) ≡ o
        → IsRising number n (n + suc (length rest)) (cons_option o (filter_map f (enumerate_from (n + 1) rest)))
    at more None e = rising_lower number n (n + 1) (n + suc (length rest)) (filter_map f (enumerate_from (n + 1) rest))
        (omega arith) more
    at more (Some y) e =
        let same = at_seq n r y e in (
          omega (arith, same),
          subst
              (λ m. IsRising number (m + 1) (n + suc (length rest)) (filter_map f (enumerate_from (n + 1) rest)))
              (sym same) more,
        )

pub legal_length : (records : List Record) → IsLegal records → length records ≤ MAX_RECORDS
legal_length records h = leb-true (length records) MAX_RECORDS
    (and_second (list_all is_within_limits records) (nat_le (length records) MAX_RECORDS)
    (and_second (may_all_follow [] records) _ h))

-- the last row of a page, as it is read

pub get_map : {X Y : Type 0} (f : X → Y) (xs : List X) (k : ℕ) → slice_get (map f xs) k ≡ option_map f (slice_get xs k)
get_map f [] k = refl
get_map f (x ∷ xs) zero = refl
get_map f (x ∷ xs) (suc k) = get_map f xs k

pub last_read : {X Y : Type 0} (f : X → Y) (number : Y → ℕ) (xs : List X) (last : Option (Bor X)) (n : Option ℕ)
    (P : Bor X → ℕ → Type 0) → option_copied last ≡ slice_get xs (length xs - 1)
    → MatchOption last (n ≡ None) (λ x. IsSomeAnd n (P x)) → ((x : Bor X) (k : ℕ) → P x k → k ≡ number (f x.now))
    → n ≡ last_number number (map f xs)
last_read {X} f number xs last n P is cases each =
    those last n cases ∙ ap (option_map (λ x. number (f x))) is ∙ composed (slice_get xs (length xs - 1))
    ∙ ap (option_map number) (sym (get_map f xs (length xs - 1))
    ∙ ap (λ k. slice_get (map f xs) (k - 1)) (sym (length-map xs f)))
  where
    those : (s : Option (Bor X)) (o : Option ℕ) → MatchOption s (o ≡ None) (λ x. IsSomeAnd o (P x))
        → o ≡ option_map (λ x. number (f x)) (option_copied s)
    those None o none = none
    those (Some x) (Some k) so = ap Some (each x k so)
    those (Some x) None so = absurd so

    composed : (s : Option X) → option_map (λ x. number (f x)) s ≡ option_map number (option_map f s)
    composed None = refl
    composed (Some x) = refl

pub map_itself : {X : Type 0} (xs : List X) → map (λ y. y) xs ≡ xs
map_itself [] = refl
map_itself (x ∷ xs) = ap (λ rest. x ∷ rest) (map_itself xs)

-- a row that is reached in turn stands between those that were and those that are left
pub reached : {X : Type 0} (xs all : List X) (x : X) → map (λ y. y) xs ≡ take (length xs) all → length xs < length all
    → x ≡ get_or all (length xs) x → (rest : List X) × (all ≡ xs ++ (x ∷ rest))
reached [] [] x so_far below is = absurd (omega (arith, below))
reached [] (y ∷ ys) x so_far below is = (ys, ap (λ z. z ∷ ys) (sym is))
reached (z ∷ zs) [] x so_far below is = absurd (omega (arith, below))
reached (z ∷ zs) (y ∷ ys) x so_far below is =
    let rest = reached zs ys x (tail so_far) (omega (arith, below)) is in
    (rest.0, λ i. sym (head so_far) i ∷ rest.1 i)
  where
    head : z ∷ map (λ t. t) zs ≡ y ∷ take (length zs) ys → z ≡ y
    head same = cc

    tail : z ∷ map (λ t. t) zs ≡ y ∷ take (length zs) ys → map (λ t. t) zs ≡ take (length zs) ys
    tail same = cc

-- so does the item of a loop over rows
pub turned : {S A : Type 0} {steps : S → Option A → S → Type 0} {s : S} {all : List A}
    (e : YieldsList steps (λ y. y) s all) (xs : List A) (t : S) (y : Yields steps s xs t) (r : Option A) (u : S) (x : A)
    → r ≡ Some x → steps t r u → (rest : List A) × (all ≡ xs ++ (x ∷ rest))
turned {S} {A} {steps} {s} {all} e xs t y r u x is step =
    let next = YieldsList-turn e xs t y r u x is step in
    reached xs all x (YieldsList-so_far e xs t y) next.0 next.1
