-- The secrets in their places, as they were read and as they are stored.
use Rattle.std.proofs.Common.{◌≡◌, ◌≢◌, ⊎_elim, ◌<◌, ◌≤◌, ℕ, suc, ◌+◌, ◌==◌, Bool, true, false, ◌&&◌, cond, List, []}
use Rattle.std.proofs.Common.{◌∷◌, ◌++◌, length, get_or, take, drop, map, filter, flat_map, add-zero, zero-add}
use Rattle.std.proofs.Common.{append-nil, length-append, take-append-drop, IsTrue, refl, sym, ap, subst, ◌∙◌, arith}
use Rattle.std.proofs.Common.{eqb-true, eq-eqb, ne_eqb, Ordering, Less, nat_cmp, is_lt, IsPermutation, IsSorted}
use Rattle.std.specs.List.{AllByRecursion, AllZip, enumerate_from, list_all}
use Rattle.std.specs.Ordering.{ordering_then}
use Rattle.std.specs.Cmp.{IsTotalOrder}
use Rattle.std.proofs.lemmas.Bool.{cases_lt}
use Rattle.std.proofs.lemmas.Cmp.{ranked, by_ranked, nat_cmp_total, on_total, then_total}
use Rattle.std.proofs.lemmas.List.{map-append, take_more}
use Rattle.std.proofs.lemmas.List.Elements.{filter-append}
use Rattle.std.proofs.lemmas.List.Sorted.{IsPermutation-refl, IsPermutation-cons, IsPermutation-middle}
use Rattle.std.proofs.lemmas.List.Sorted.{IsPermutation-trans, IsPermutation-sym}
use Rattle.sqlite_trees.specs.Tree.{IsAscending}
use Rattle.sqlite_trees.proofs.ListLemmas.{all_weaker, all-append, along_permutation, ascending-append, ascending-map}
use Rattle.sqlite_trees.proofs.ListLemmas.{ascending_from_map, pull_back}
use Rattle.sqlite_keyed.proofs.SortLemmas.{sorted_unique}
use Rattle.relay_types.specs.declared.limits.TheConstants.{MAX_SECRETS}
use Rattle.relay_types.specs.Values.{Seq, is_between, is_secret}
use Rattle.relay_types.specs.Rows.{SecretRow}
use Rattle.relay_types.specs.Sound as rows
use Rattle.relay_types.specs.Sound.{IsRisingFrom}
use Rattle.relay_types.proofs.KnownLaws.{and_first, and_second}
use Rattle.sound_tables.specs.declared.secret.Secret.{Secret}
use Rattle.sound_tables.specs.Places.{are_places, by_place, places_of}
use Rattle.sound_tables.proofs.OrderLemmas.{less, Climbs, climbs}
use Rattle.sound_tables.proofs.StoredLemmas.{StandsAt}

-- ---- lists side by side

-- the other list follows a permutation
module _ {A B : Type 0} (R : A → B → Type 0) where
  abbrev Follows : List B → List B → Type 0
  Follows xs ys = (rs : List A) → AllZip R rs xs → (others : List A) × IsPermutation rs others × AllZip R others ys

  follows_head : (x : B) (xs ys : List B) → Follows xs ys → Follows (x ∷ xs) (x ∷ ys)
  follows_head x xs ys h [] zip = absurd zip
  follows_head x xs ys h (r ∷ rs) zip = let rest = h rs zip.1
      in (r ∷ rest.0, IsPermutation-cons r _ _ rest.1, (zip.0, rest.2))

  follows_turn : (x y : B) (xs : List B) → Follows (x ∷ y ∷ xs) (y ∷ x ∷ xs)
  follows_turn x y xs [] zip = absurd zip
  follows_turn x y xs (r ∷ []) zip = absurd zip.1
  follows_turn x y xs (r ∷ s ∷ rs) zip = (s ∷ r ∷ rs, IsPermutation-middle (r ∷ []) s rs, (zip.1.0, (zip.0, zip.1.1)))

  pub zip_permutation : (xs ys : List B) → IsPermutation xs ys → Follows xs ys
  zip_permutation = along_permutation Follows (λ xs rs zip. (rs, IsPermutation-refl rs, zip)) follows_head follows_turn
      (λ xs ys zs p q rs zip. let mid = p rs zip in let last = q mid.0 mid.2
      in (last.0, IsPermutation-trans _ _ _ mid.1 last.1, last.2))

-- ---- what stands at the same place

abbrev pub IsSamePlace : SecretRow → Secret → Type 0
IsSamePlace row s = (row.endpoint ≡ s.endpoint) × (row.place ≡ s.place)

pub same_places : (rs : List SecretRow) (ss : List Secret) → AllZip StandsAt rs ss → AllZip IsSamePlace rs ss
same_places [] [] zip = tt
same_places [] (s ∷ ss) zip = absurd zip
same_places (r ∷ rs) [] zip = absurd zip
same_places (r ∷ rs) (s ∷ ss) zip = ((zip.0.0, zip.0.1), same_places rs ss zip.1)

pub all_secrets : (rs : List SecretRow) (ss : List Secret) → AllZip StandsAt rs ss
    → AllByRecursion (λ (r : SecretRow). IsTrue (is_secret r.secret)) rs
all_secrets [] [] zip = tt
all_secrets [] (s ∷ ss) zip = absurd zip
all_secrets (r ∷ rs) [] zip = absurd zip
all_secrets (r ∷ rs) (s ∷ ss) zip = (zip.0.2, all_secrets rs ss zip.1)

pub zip_climbs : (n : ℕ) (rs : List SecretRow) (ss : List Secret) → AllZip IsSamePlace rs ss
    → Climbs (λ (s : Secret). s.endpoint) n ss → Climbs (λ (r : SecretRow). r.endpoint) n rs
zip_climbs n [] [] zip up = tt
zip_climbs n [] (s ∷ ss) zip up = absurd zip
zip_climbs n (r ∷ rs) [] zip up = absurd zip
zip_climbs n (r ∷ rs) (s ∷ ss) zip up = (
  omega (arith, zip.0.0, up.0),
  zip_climbs r.endpoint rs ss zip.1
      (subst (λ m. Climbs (λ (t : Secret). t.endpoint) m ss) (sym zip.0.0) up.1),
)

own_zip : (put : Seq) (rs : List SecretRow) (ss : List Secret) → AllZip IsSamePlace rs ss
    → AllZip IsSamePlace (filter (λ r. r.endpoint == put) rs) (filter (λ s. s.endpoint == put) ss)
own_zip put [] [] zip = tt
own_zip put [] (s ∷ ss) zip = absurd zip
own_zip put (r ∷ rs) [] zip = absurd zip
own_zip put (r ∷ rs) (s ∷ ss) zip = at (r.endpoint == put) (s.endpoint == put) (ap (λ n. n == put) zip.0.0)
    (own_zip put rs ss zip.1)
  where
    at : (b c : Bool) → b ≡ c → AllZip IsSamePlace (filter (λ t. t.endpoint == put) rs)
        (filter (λ t. t.endpoint == put) ss)
        → AllZip IsSamePlace (cond b (r ∷ filter (λ t. t.endpoint == put) rs) (filter (λ t. t.endpoint == put) rs))
        (cond c (s ∷ filter (λ t. t.endpoint == put) ss) (filter (λ t. t.endpoint == put) ss))
    at true true e rest = (zip.0, rest)
    at true false e rest = absurd (cc e)
    at false true e rest = absurd (cc e)
    at false false e rest = rest

zip_length : (rs : List SecretRow) (ss : List Secret) → AllZip IsSamePlace rs ss
    → length (map (λ (r : SecretRow). r.secret) rs) ≡ length (map (λ (s : Secret). s.place) ss)
zip_length [] [] zip = refl
zip_length [] (s ∷ ss) zip = absurd zip
zip_length (r ∷ rs) [] zip = absurd zip
zip_length (r ∷ rs) (s ∷ ss) zip = ap suc (zip_length rs ss zip.1)

zip_places : (n : ℕ) (rs : List SecretRow) (ss : List Secret) → AllZip IsSamePlace rs ss
    → list_all (λ (r : ℕ × SecretRow). r.1.place == r.0) (enumerate_from n rs) ≡ list_all (λ (p : ℕ × ℕ). p.1 == p.0)
    (enumerate_from n (map (λ (s : Secret). s.place) ss))
zip_places n [] [] zip = refl
zip_places n [] (s ∷ ss) zip = absurd zip
zip_places n (r ∷ rs) [] zip = absurd zip
zip_places n (r ∷ rs) (s ∷ ss) zip = λ i. (zip.0.1 i == n) && zip_places (n + 1) rs ss zip.1 i

module _ (put : Seq) (rs : List SecretRow) (ss : List Secret) (zip : AllZip IsSamePlace rs ss) where
  -- the places of the rows, told by the values
  pub places_same : is_between 1 MAX_SECRETS
      (length (map (λ (r : SecretRow). r.secret) (filter (λ r. r.endpoint == put) rs)))
      && rows.are_places (filter (λ r. r.endpoint == put) rs) ≡ are_places (places_of put ss)
  places_same =
      let own = own_zip put rs ss zip in
      λ i. is_between 1 MAX_SECRETS (zip_length _ _ own i) && zip_places 0 _ _ own i

-- ---- the order of the places

abbrev pub pair : Secret → ℕ × ℕ
pair s = (s.endpoint, s.place)

abbrev pub row_pair : SecretRow → ℕ × ℕ
row_pair r = (r.endpoint, r.place)

abbrev pub pair_cmp : ℕ × ℕ → ℕ × ℕ → Ordering
pair_cmp a b = ordering_then (nat_cmp a.0 b.0) (nat_cmp a.1 b.1)

pub by_place_total : IsTotalOrder by_place
by_place_total = then_total (on_total (λ (s : Secret). s.endpoint) nat_cmp_total)
    (on_total (λ (s : Secret). s.place) nat_cmp_total)

-- behind one of a lower endpoint
lower : (a b p q : ℕ) → a < b → ordering_then (nat_cmp a b) (nat_cmp p q) ≡ Less
lower a b p q l = ap (λ o. ordering_then o (nat_cmp p q)) (less a b l)

not_before : (a b p q : ℕ) → is_lt (ordering_then (nat_cmp a b) (nat_cmp p q)) ≡ false → b ≤ a
not_before a b p q h = ⊎_elim
    (λ l. absurd (let never : true ≡ false = sym (ap is_lt (lower a b p q l)) ∙ h in cc))
    (λ above. above)
    (cases_lt a b)

pub endpoints_climb : (ss : List Secret) → IsSorted by_place ss → Climbs (λ (s : Secret). s.endpoint) 0 ss
endpoints_climb ss up =
    climbs (λ (s : Secret). s.endpoint) ss (λ k d l. not_before (get_or ss (k + 1) d).endpoint (get_or ss k d).endpoint
    (get_or ss (k + 1) d).place (get_or ss k d).place (up k d (omega arith) l))

-- two rows in the order of places
abbrev pub AreBefore : SecretRow → SecretRow → Type 0
AreBefore r s = pair_cmp (row_pair r) (row_pair s) ≡ Less

level : (a b p q : ℕ) → a ≡ b → p < q → ordering_then (nat_cmp a b) (nat_cmp p q) ≡ Less
level a b p q same l = by_ranked (a < b) (a ≡ b) (b < a) (nat_cmp a b) (ranked a b (nat_cmp a b) refl)
    (λ e low. absurd (omega (arith, same, low))) (λ e _. ap (λ o. ordering_then o (nat_cmp p q)) e ∙ less p q l)
    (λ e high. absurd (omega (arith, same, high)))

own_all : (put : Seq) (rs : List SecretRow) → AllByRecursion (λ (r : SecretRow). r.endpoint ≡ put)
    (filter (λ r. r.endpoint == put) rs)
own_all put [] = tt
own_all put (r ∷ rs) = at (r.endpoint == put) refl (own_all put rs)
  where
    at : (b : Bool) → r.endpoint == put ≡ b → AllByRecursion (λ (s : SecretRow). s.endpoint ≡ put)
        (filter (λ s. s.endpoint == put) rs)
        → AllByRecursion (λ (s : SecretRow). s.endpoint ≡ put)
        (cond b (r ∷ filter (λ s. s.endpoint == put) rs) (filter (λ s. s.endpoint == put) rs))
    at true e rest = (eqb-true r.endpoint put e, rest)
    at false e rest = rest

module _ (put : Seq) where
  abbrev AreNumbered : ℕ → List SecretRow → Type 0
  AreNumbered n rs = list_all (λ (r : ℕ × SecretRow). r.1.place == r.0) (enumerate_from n rs) ≡ true

  behind : (m n : ℕ) (rs : List SecretRow) → m < n → AllByRecursion (λ (r : SecretRow). r.endpoint ≡ put) rs
      → AreNumbered n rs → AllByRecursion (λ (r : SecretRow). (r.endpoint ≡ put) × (m < r.place)) rs
  behind m n [] l own numbered = tt
  behind m n (r ∷ rs) l own numbered =
      let place = eqb-true r.place n (and_first (r.place == n) _ numbered) in (
        (own.0, omega (arith, l, place)),
        behind m (n + 1) rs (omega (arith, l)) own.1
            (and_second (r.place == n) _ numbered),
      )

  numbered_ascend : (n : ℕ) (rs : List SecretRow) → AllByRecursion (λ (r : SecretRow). r.endpoint ≡ put) rs
      → AreNumbered n rs → IsAscending AreBefore rs
  numbered_ascend n [] own numbered = tt
  numbered_ascend n (r ∷ rs) own numbered =
      let place = eqb-true r.place n (and_first (r.place == n) _ numbered) in
      let later = and_second (r.place == n) _ numbered in (
        all_weaker (λ (s : SecretRow). (s.endpoint ≡ put) × (r.place < s.place)) (AreBefore r)
            (λ s h. level r.endpoint s.endpoint r.place s.place (own.0 ∙ sym h.0) h.1) rs
            (behind r.place (n + 1) rs (omega (arith, place)) own.1 later),
        numbered_ascend (n + 1) rs own.1 later,
      )

-- the secrets of each endpoint in their places, one endpoint after another
module _ {P : Type 0} (put : P → ℕ) (rs : List SecretRow) where
  pub flat_ascend : (n : ℕ) (es : List P) → IsRisingFrom put n es
      → AllByRecursion (λ e. rows.are_places (filter (λ r. r.endpoint == put e) rs) ≡ true) es
      → IsAscending AreBefore (flat_map (λ e. filter (λ r. r.endpoint == put e) rs) es)
      × AllByRecursion (λ (r : SecretRow). n ≤ r.endpoint) (flat_map (λ e. filter (λ r. r.endpoint == put e) rs) es)
  flat_ascend n [] rises each = (tt, tt)
  flat_ascend n (e ∷ es) rises each =
      let rest = flat_ascend (put e + 1) es rises.1 each.1 in
      let ours = own_all (put e) rs in (
        ascending-append AreBefore (filter (λ r. r.endpoint == put e) rs)
            (flat_map (λ e. filter (λ r. r.endpoint == put e) rs) es) (numbered_ascend (put e) 0 _ ours each.0) rest.0
            (all_weaker (λ (r : SecretRow). r.endpoint ≡ put e)
            (λ (r : SecretRow). AllByRecursion (AreBefore r)
            (flat_map (λ e. filter (λ r. r.endpoint == put e) rs) es))
            (λ r h. all_weaker (λ (s : SecretRow). put e + 1 ≤ s.endpoint) (AreBefore r)
            (λ s l. lower r.endpoint s.endpoint r.place s.place (omega (arith, h, l))) _ rest.1) _ ours),
        all-append (λ (r : SecretRow). n ≤ r.endpoint) (filter (λ r. r.endpoint == put e) rs) _
            (all_weaker (λ (r : SecretRow). r.endpoint ≡ put e) (λ (r : SecretRow). n ≤ r.endpoint)
            (λ r h. omega (arith, h, rises.0)) _ ours)
            (all_weaker (λ (r : SecretRow). put e + 1 ≤ r.endpoint) (λ (r : SecretRow). n ≤ r.endpoint)
            (λ r l. omega (arith, l, rises.0)) _ rest.1),
      )

zip_of : (rs : List SecretRow) (ss : List Secret) → map row_pair rs ≡ map pair ss → AllZip IsSamePlace rs ss
zip_of [] [] e = tt
zip_of [] (s ∷ ss) e = absurd (cc e)
zip_of (r ∷ rs) [] e = absurd (cc e)
zip_of (r ∷ rs) (s ∷ ss) e =
    let head : row_pair r ≡ pair s = cc in
    let tail : map row_pair rs ≡ map pair ss = cc in
    ((ap (λ p. p.0) head, ap (λ p. p.1) head), zip_of rs ss tail)

-- values in order stand beside the rows that are in that order
pub places_in_order : (read ss : List Secret) (rs : List SecretRow) → IsPermutation read ss → IsSorted by_place ss
    → IsAscending AreBefore rs
    → IsPermutation (map row_pair rs) (map pair read) → AllZip IsSamePlace rs ss
places_in_order read ss rs moved up strict same =
    let pulled = pull_back pair (map pair read) (map row_pair rs) (IsPermutation-sym _ _ same) read refl in
    let to = pulled.0 in
    let rises = ascending_from_map (λ a b. pair_cmp a b ≡ Less) pair to
    (subst (IsAscending (λ a b. pair_cmp a b ≡ Less)) pulled.2
    (ascending-map (λ a b. pair_cmp a b ≡ Less) row_pair rs strict)) in
    let is : ss ≡ to = sorted_unique by_place by_place_total to ss rises
    (IsPermutation-trans _ _ _ (IsPermutation-sym _ _ pulled.1) moved) up in
    subst (AllZip IsSamePlace rs) (sym is) (zip_of rs to pulled.2)

-- ---- the secrets of one endpoint, counted in turn

abbrev pub numbered : ℕ → List ℕ → Bool
numbered n places = list_all (λ (p : ℕ × ℕ). p.1 == p.0) (enumerate_from n places)

numbered_both : (n : ℕ) (xs ys : List ℕ) → numbered n (xs ++ ys) ≡ numbered n xs && numbered (n + length xs) ys
numbered_both n [] ys = ap (λ m. numbered m ys) (sym (add-zero n))
numbered_both n (x ∷ xs) ys =
    let further : n + 1 + length xs ≡ n + suc (length xs) = omega arith in
    at (x == n) (numbered_both (n + 1) xs ys ∙ ap (λ m. numbered (n + 1) xs && numbered m ys) further)
  where
    at : (b : Bool) → numbered (n + 1) (xs ++ ys) ≡ numbered (n + 1) xs && numbered (n + suc (length xs)) ys → b
        && numbered (n + 1) (xs ++ ys) ≡ (b && numbered (n + 1) xs) && numbered (n + suc (length xs)) ys
    at true next = next
    at false next = refl

numbered_last : (xs : List ℕ) (x : ℕ) → numbered 0 (xs ++ x ∷ []) ≡ numbered 0 xs && (x == length xs && true)
numbered_last xs x = numbered_both 0 xs (x ∷ []) ∙ ap (λ m. numbered 0 xs && (x == m && true)) (zero-add (length xs))

module _ (put : Seq) (ss : List Secret) (i : ℕ) (d : Secret) (within : i < length ss) where
  places_more : places_of put (take (i + 1) ss) ≡ places_of put (take i ss) ++ map (λ (s : Secret). s.place)
      (cond ((get_or ss i d).endpoint == put) (get_or ss i d ∷ []) [])
  places_more =
      ap (places_of put) (take_more ss i d within) ∙ ap (map (λ (s : Secret). s.place))
      (filter-append (λ s. s.endpoint == put) (take i ss) (get_or ss i d ∷ []))
      ∙ map-append (λ (s : Secret). s.place) (filter (λ s. s.endpoint == put) (take i ss)) _

  pub places_skipped : (get_or ss i d).endpoint ≢ put → places_of put (take (i + 1) ss) ≡ places_of put (take i ss)
  places_skipped other =
      places_more ∙ ap (λ b. places_of put (take i ss) ++ map (λ (s : Secret). s.place)
      (cond b (get_or ss i d ∷ []) [])) (ne_eqb _ put other) ∙ append-nil (places_of put (take i ss))

  module _ (same : (get_or ss i d).endpoint ≡ put) where
    places_grown : places_of put (take (i + 1) ss) ≡ places_of put (take i ss) ++ (get_or ss i d).place ∷ []
    places_grown = places_more
        ∙ ap (λ b. places_of put (take i ss) ++ map (λ (s : Secret). s.place) (cond b (get_or ss i d ∷ []) []))
        (eq-eqb _ put same)

    pub count_grown : length (places_of put (take (i + 1) ss)) ≡ length (places_of put (take i ss)) + 1
    count_grown = ap length places_grown ∙ length-append (places_of put (take i ss)) ((get_or ss i d).place ∷ [])

    module _ (next : ℕ) (counted : next ≡ length (places_of put (take i ss))) where
      pub numbered_grown : list_all (λ (p : ℕ × ℕ). p.1 == p.0) (enumerate_from 0 (places_of put (take i ss))) ≡ true
          → (get_or ss i d).place ≡ next
          → list_all (λ (p : ℕ × ℕ). p.1 == p.0) (enumerate_from 0 (places_of put (take (i + 1) ss))) ≡ true
      numbered_grown so_far place =
          let test : (get_or ss i d).place == length (places_of put (take i ss)) ≡ true = eq-eqb _ _ (place ∙ counted)
          in
          ap (numbered 0) places_grown ∙ numbered_last (places_of put (take i ss)) (get_or ss i d).place
          ∙ (λ j. so_far j && (test j && true))

      pub places_refused : (get_or ss i d).place ≢ next → false ≡ are_places (places_of put ss)
      places_refused apart = sym (
          ap (λ b. is_between 1 MAX_SECRETS (length (places_of put ss)) && b)
          (ap (numbered 0) whole ∙ numbered_both 0 (places_of put (take (i + 1) ss)) (places_of put (drop (i + 1) ss))
          ∙ ap (λ b. b && numbered (0 + length (places_of put (take (i + 1) ss))) (places_of put (drop (i + 1) ss)))
          refused)
          ∙ and_false (is_between 1 MAX_SECRETS (length (places_of put ss))))
        where
          and_false : (b : Bool) → b && false ≡ false
          and_false true = refl
          and_false false = refl

          other : (get_or ss i d).place == length (places_of put (take i ss)) ≡ false
          other = ne_eqb _ _ (λ place. apart (place ∙ sym counted))

          whole : places_of put ss ≡ places_of put (take (i + 1) ss) ++ places_of put (drop (i + 1) ss)
          whole =
              ap (places_of put) (sym (take-append-drop (i + 1) ss)) ∙ ap (map (λ (s : Secret). s.place))
              (filter-append (λ s. s.endpoint == put) (take (i + 1) ss) (drop (i + 1) ss))
              ∙ map-append (λ (s : Secret). s.place) (filter (λ s. s.endpoint == put) (take (i + 1) ss)) _

          refused : numbered 0 (places_of put (take (i + 1) ss)) ≡ false
          refused =
              ap (numbered 0) places_grown ∙ numbered_last (places_of put (take i ss)) (get_or ss i d).place
              ∙ ap (λ b. numbered 0 (places_of put (take i ss)) && (b && true)) other
              ∙ and_false (numbered 0 (places_of put (take i ss)))
