-- What a Purge takes out of the rows of a legal history, page by page.
use Rattle.std.proofs.Common.{◌≡◌, ◌<◌, ◌≤◌, ◌⊎◌, inl, inr, ℕ, zero, suc, ◌+◌, ◌-◌, ◌==◌, Bool, true, false, ◌&&◌, ◌||◌}
use Rattle.std.proofs.Common.{not, cond, List, [], ◌∷◌, length, map, take, Option, Some, None, nat_le}
use Rattle.std.proofs.Common.{nat_lt}
use Rattle.std.proofs.Common.{refl, sym, ap, subst, ◌∙◌, arith}
use Rattle.std.specs.Prelude.{filter, count_by, slice_get, option_map}
use Rattle.std.specs.List.{list_any}
use Rattle.std.specs.List.Sorted.{IsPermutation, IsNonDecreasingBy}
use Rattle.std.specs.Option.{option_map_or}
use Rattle.std.proofs.lemmas.Bool.{cases_lt, eq-eqb, eqb-true, eqb-false, le-leb, le-ltb, lt-ltb, ltb-true}
use Rattle.std.proofs.lemmas.Bool.{ne_eqb}
use Rattle.std.proofs.lemmas.List.Folds.{fold-map}
use Rattle.relay_types.specs.declared.limits.TheConstants.{MAX_FAILURES}
use Rattle.relay_types.specs.declared.record.Record.{Record}
use Rattle.relay_types.specs.Deliveries.{is_past}
use Rattle.relay_types.specs.Judging.{is_delivered_status, is_failed_status}
use Rattle.relay_types.specs.Legal.{IsLegal}
use Rattle.relay_types.specs.Lists.{last_of}
use Rattle.relay_types.specs.Records.{Attempt}
use Rattle.relay_types.specs.Rows.{Rows, DeliveryRow, AttemptRow, attempt_of, is_past_in, rows_of}
use Rattle.relay_types.specs.Sound.{IsRisingFrom, attempts_before, is_delivery_at}
use Rattle.relay_types.proofs.ConditionLaws.{attempt_values, delivery_below}
use Rattle.relay_types.proofs.FilterLaws.{fewer, filter_all, filter_none, rising_filter, rising_map}
use Rattle.relay_types.proofs.KeyLaws.{legal_sound}
use Rattle.relay_types.proofs.PurgeLaws.{left_of, left_twice}
use Rattle.relay_types.proofs.TableLaws.{In, all_if, any_in, filter_in, in_all, in_any, in_filter, map_in}
use Rattle.relay_types.proofs.TableLaws.{none_if}
use Rattle.relay_types.proofs.TableLaws.{rising_from, some_same}
use Rattle.spool_sql.specs.declared.row.Tried.{Tried}
use Rattle.sqlite_trees.proofs.ListLemmas.{IsPermutation-filter, filter-map}
use Rattle.spool_sql.specs.Stored.{AreTriesBetween, HaveOwnNumbers, IsPage, is_between, page_rows, tried_of}
use Rattle.spool_sql.specs.Stored.{with_records}
use Rattle.spool_sql.specs.Stored.{without_attempts, without_delivery}
use Rattle.spool_sql.proofs.HiddenLemmas.{rises_typed}
use Rattle.spool_write.specs.Entering.{AreInTurn, AreWalkable, are_past, is_past_by, without_events, without_past}
use Rattle.spool_sql.specs.Reading.{IsRising}
use Rattle.spool_sql.proofs.PageLaws.{rising_order}

-- ---- the last of a list

last-map : {X Y : Type 0} (f : X → Y) (xs : List X) → last_of (map f xs) ≡ option_map f (last_of xs)
last-map f [] = refl
last-map f (x ∷ []) = refl
last-map f (x ∷ y ∷ xs) = last-map f (y ∷ xs)

pub last-is : {X : Type 0} (xs : List X) → slice_get xs (length xs - 1) ≡ last_of xs
last-is [] = refl
last-is (x ∷ []) = refl
last-is (x ∷ y ∷ xs) =
    sym (ap (slice_get (x ∷ y ∷ xs)) up) ∙ sym (ap (slice_get (y ∷ xs)) down) ∙ last-is (y ∷ xs)
  where
    down : length (y ∷ xs) - 1 ≡ length xs
    down = omega arith

    up : suc (length xs) ≡ length (x ∷ y ∷ xs) - 1
    up = omega arith

last_tail : {X : Type 0} (x l : X) (xs : List X) → last_of (x ∷ xs) ≡ Some l
    → ((xs ≡ []) × (x ≡ l)) ⊎ (last_of xs ≡ Some l)
last_tail x l [] is = inl (refl, some_same is)
last_tail x l (y ∷ xs) is = inr is

-- ---- what came of the attempts at an event

any_same : (rows : List AttemptRow)
    → list_any (λ (t : Tried). is_delivered_status t.status) (map tried_of rows)
    ≡ list_any (λ (a : Attempt). is_delivered_status a.status) (map attempt_of rows)
any_same [] = refl
any_same (r ∷ rows) = ap (λ b. is_delivered_status r.status || b) (any_same rows)

count_same : (rows : List AttemptRow)
    → count_by (λ (t : Tried). is_failed_status t.status) (map tried_of rows)
    ≡ count_by (λ (a : Attempt). is_failed_status a.status) (map attempt_of rows)
count_same rows =
    fold-map (λ n (t : Tried). n + cond (is_failed_status t.status) 1 0) tried_of 0 rows
    ∙ sym (fold-map (λ n (a : Attempt). n + cond (is_failed_status a.status) 1 0) attempt_of 0 rows)

last_same : (before : ℕ) (rows : List AttemptRow)
    → option_map_or (λ (t : Tried). nat_lt t.at before) (last_of (map tried_of rows)) false
    ≡ option_map_or (λ (a : Attempt). nat_lt a.at before) (last_of (map attempt_of rows)) false
last_same before rows =
    ap (λ o. option_map_or (λ (t : Tried). nat_lt t.at before) o false) (last-map tried_of rows)
    ∙ by (last_of rows)
    ∙ sym (ap (λ o. option_map_or (λ (a : Attempt). nat_lt a.at before) o false) (last-map attempt_of rows))
  where
    by : (o : Option AttemptRow)
        → option_map_or (λ (t : Tried). nat_lt t.at before) (option_map tried_of o) false
        ≡ option_map_or (λ (a : Attempt). nat_lt a.at before) (option_map attempt_of o) false
    by None = refl
    by (Some r) = refl

past_same : (before : ℕ) (rows : List AttemptRow) → are_past before (map tried_of rows)
    ≡ is_past before (map attempt_of rows)
past_same before rows =
    λ i. (any_same rows i || nat_le MAX_FAILURES (count_same rows i)) && last_same before rows i

bound : {X : Type 0} (number : X → ℕ) (n : ℕ) (xs : List X) → IsRisingFrom number n xs
    → (b : ℕ) × IsRising number n b xs
bound number n [] rises = (n, omega arith)
bound number n (x ∷ xs) rises =
    let rest = bound number (number x + 1) xs rises.1 in
    (rest.0, (rises.0, rest.1))

-- ---- rows without some events

past_left : (before : ℕ) (gone : ℕ → Bool) (rows : Rows) (d : ℕ) → gone d ≡ false
    → is_past_in (without_events gone rows) before d ≡ is_past_in rows before d
past_left before gone rows d h =
    ap (λ ts. is_past before (map attempt_of ts)) (left_of (λ (t : AttemptRow). t.delivery) gone d rows.attempts h)

pub none_of : {X : Type 0} (number : X → ℕ) (gone : ℕ → Bool) (d : ℕ) (xs : List X) → gone d ≡ true
    → filter (λ x. number x == d) (filter (λ x. not (gone (number x))) xs) ≡ []
none_of number gone d [] h = refl
none_of number gone d (x ∷ xs) h = grind (arith, none_of number gone d xs h, eqb-true)

-- what is left is in turn as before
pub turn_left : (gone : ℕ → Bool) (rows : Rows) → AreInTurn rows → AreInTurn (without_events gone rows)
turn_left gone rows h = record {
  rise = rising_filter (λ (t : AttemptRow). t.seq) (λ t. not (gone t.delivery)) 0 rows.attempts h.rise;
  turns = λ d. at d (gone d) refl;
}
  where
    at : (d : ℕ) (b : Bool) → gone d ≡ b
        → IsRisingFrom (λ (t : AttemptRow). t.number) 0
        (filter (λ (t : AttemptRow). t.delivery == d)
        (filter (λ (t : AttemptRow). not (gone t.delivery)) rows.attempts))
    at d true e =
        subst (IsRisingFrom (λ (t : AttemptRow). t.number) 0)
        (sym (none_of (λ (t : AttemptRow). t.delivery) gone d rows.attempts e)) tt
    at d false e =
        subst (IsRisingFrom (λ (t : AttemptRow). t.number) 0)
        (sym (left_of (λ (t : AttemptRow). t.delivery) gone d rows.attempts e)) (h.turns d)

both_tests : (p b w m : Bool) → (p ≡ true → b ≡ w || m) → (b && p) ≡ (w && p) || (m && p)
both_tests true true true m h = refl
both_tests true true false true h = refl
both_tests true true false false h = h refl
both_tests true false true m h = h refl
both_tests true false false true h = h refl
both_tests true false false false h = refl
both_tests false true true true h = refl
both_tests false true true false h = refl
both_tests false true false true h = refl
both_tests false true false false h = refl
both_tests false false true true h = refl
both_tests false false true false h = refl
both_tests false false false true h = refl
both_tests false false false false h = refl

-- some events that are past, and then others, are those of both
pub past_twice : (before : ℕ) (walked more both : ℕ → Bool) (rows : Rows)
    → ((d : ℕ) → is_past_in rows before d ≡ true → both d ≡ walked d || more d)
    → without_past before more (without_past before walked rows) ≡ without_past before both rows
past_twice before walked more both rows same = λ i. record rows {
  deliveries = sym (each (λ (d : DeliveryRow). d.seq) rows.deliveries) i;
  attempts = sym (each (λ (t : AttemptRow). t.delivery) rows.attempts) i;
}
  where
    past : ℕ → Bool
    past d = is_past_in rows before d

    gone : ℕ → Bool
    gone d = walked d && past d

    told : ℕ → Bool
    told d = more d && is_past_in (without_past before walked rows) before d

    tests : (d : ℕ) → (both d && past d) ≡ gone d || (more d && past d)
    tests d = both_tests (past d) (both d) (walked d) (more d) (same d)

    each : {X : Type 0} (number : X → ℕ) (xs : List X)
        → filter (λ x. not (both (number x) && past (number x))) xs
        ≡ filter (λ x. not (told (number x))) (filter (λ x. not (gone (number x))) xs)
    each number xs =
        ap (λ p. filter p xs) (λ i x. not (tests (number x) i))
        ∙ left_twice (λ x. gone (number x)) (λ x. more (number x) && past (number x)) (λ x. told (number x)) xs
        (λ x left. ap (λ b. more (number x) && b) (sym (past_left before gone rows (number x) left)))

and_false : (a : Bool) → a && false ≡ false
and_false true = refl
and_false false = refl

-- none is taken out
pub none_gone : (gone : ℕ → Bool) (rows : Rows) → ((d : ℕ) → gone d ≡ false) → rows ≡ without_events gone rows
none_gone gone rows none = λ i. record rows {
  deliveries = sym (filter_all _ rows.deliveries (λ d _. ap not (none d.seq))) i;
  attempts = sym (filter_all _ rows.attempts (λ t _. ap not (none t.delivery))) i;
}

-- no event of which nothing is past
pub none_past : (before : ℕ) (walked : ℕ → Bool) (rows : Rows)
    → ((d : ℕ) → (walked d && is_past_in rows before d) ≡ false) → rows ≡ without_past before walked rows
none_past before walked rows none = none_gone (λ d. walked d && is_past_in rows before d) rows none

-- some events, and then others, are those of both
pub gone_twice : (gone more both : ℕ → Bool) (rows : Rows) → ((d : ℕ) → both d ≡ gone d || more d)
    → without_events more (without_events gone rows) ≡ without_events both rows
gone_twice gone more both rows tests = λ i. record rows {
  deliveries = sym (each (λ (d : DeliveryRow). d.seq) rows.deliveries) i;
  attempts = sym (each (λ (t : AttemptRow). t.delivery) rows.attempts) i;
}
  where
    each : {X : Type 0} (number : X → ℕ) (xs : List X)
        → filter (λ x. not (both (number x))) xs
        ≡ filter (λ x. not (more (number x))) (filter (λ x. not (gone (number x))) xs)
    each number xs =
        ap (λ p. filter p xs) (λ i x. not (tests (number x) i))
        ∙ left_twice (λ x. gone (number x)) (λ x. more (number x)) (λ x. more (number x)) xs (λ x left. refl)

-- ---- one event

-- what came of each attempt at this event, in the order of their numbers
abbrev pub AreTriesOf : ℕ → Rows → List Tried → Type 0
AreTriesOf delivery rows found =
    (all : List AttemptRow) × IsPermutation (filter (λ (a : AttemptRow). a.delivery == delivery) rows.attempts) all
    × IsNonDecreasingBy (λ (a : AttemptRow). a.number) all
    × (found ≡ map tried_of all)

module _ (before delivery : ℕ) (rows : Rows) where
  -- what is read of its attempts tells whether it is past
  pub past_told : AreInTurn rows → (tries : List Tried) → AreTriesOf delivery rows tries
      → are_past before tries ≡ is_past_in rows before delivery
  past_told turn tries told =
      let ts = filter (λ (t : AttemptRow). t.delivery == delivery) rows.attempts in
      let number = λ (t : AttemptRow). t.number in
      let upto = bound number 0 ts (turn.turns delivery) in
      let all = rising_order number 0 upto.0 ts told.0 upto.1 told.1 told.2 in
      ap (are_past before) (told.3 ∙ ap (map tried_of) all) ∙ past_same before ts

module _ (gone : ℕ → Bool) (delivery : ℕ) (rows : Rows) where
  only_it : (b : Bool) → gone delivery ≡ b → (d : ℕ) → ((delivery == d) && gone d) ≡ (delivery == d) && b
  only_it b is d = at (delivery == d) refl
    where
      at : (same : Bool) → delivery == d ≡ same → (same && gone d) ≡ same && b
      at true e = ap gone (sym (eqb-true delivery d e)) ∙ is
      at false e = refl

  pub kept_event : gone delivery ≡ false → rows ≡ without_events (λ d. (delivery == d) && gone d) rows
  kept_event is =
      none_gone (λ d. (delivery == d) && gone d) rows (λ d. only_it false is d ∙ and_false (delivery == d))

  turned : (a b : ℕ) → (a == b) ≡ (b == a)
  turned a b = at (a == b) refl
    where
      at : (s : Bool) → a == b ≡ s → s ≡ (b == a)
      at true e = sym (eq-eqb b a (sym (eqb-true a b e)))
      at false e = sym (ne_eqb b a (λ same. omega (arith, same, eqb-false a b e)))

  and_true : (a : Bool) → a ≡ a && true
  and_true true = refl
  and_true false = refl

  pub taken_event : gone delivery ≡ true
      → without_delivery delivery (without_attempts delivery rows)
      ≡ without_events (λ d. (delivery == d) && gone d) rows
  taken_event is = λ i. record rows {
    deliveries = filter (λ (d : DeliveryRow). not (test d.seq i)) rows.deliveries;
    attempts = filter (λ (t : AttemptRow). not (test t.delivery i)) rows.attempts;
  }
    where
      test : (d : ℕ) → (d == delivery) ≡ (delivery == d) && gone d
      test d = turned d delivery ∙ and_true (delivery == d) ∙ sym (only_it true is d)

-- ---- one of several events

narrowed : {X : Type 0} (p q : X → Bool) (xs : List X) → ((x : X) → p x ≡ true → q x ≡ true)
    → filter p (filter q xs) ≡ filter p xs
narrowed p q [] all = refl
narrowed {X} p q (x ∷ xs) all = at (p x) (q x) refl refl (narrowed p q xs all)
  where
    at : (a b : Bool) → p x ≡ a → q x ≡ b → filter p (filter q xs) ≡ filter p xs
        → filter p (cond b (x ∷ filter q xs) (filter q xs)) ≡ cond a (x ∷ filter p xs) (filter p xs)
    at true true is passes rest = rw is (ap (λ ys. x ∷ ys) rest)
    at false true is passes rest = rw is rest
    at false false is passes rest = rest
    at true false is passes rest = absurd (let no = sym passes ∙ all x is in cc)

module _ (first last : ℕ) (rows : Rows) (tries : List Tried) (told : AreTriesBetween first last rows tries) where
  pub tries_rise : IsNonDecreasingBy (λ (t : Tried). t.delivery) tries
  tries_rise =
      subst (IsNonDecreasingBy (λ (t : Tried). t.delivery)) (sym told.4)
      (rises_typed tried_of (λ (t : Tried). t.delivery) told.0 told.2)

  -- of the attempts at several events, those at one of them
  tries_of : (d : ℕ) → first ≤ d → d ≤ last
      → AreTriesOf d rows (filter (λ (t : Tried). t.delivery == d) tries)
  tries_of d low high =
      let test = λ (a : AttemptRow). a.delivery == d in
      let inner : filter test (filter (is_between first last) rows.attempts) ≡ filter test rows.attempts =
      narrowed test (is_between first last) rows.attempts (λ a is. both a.delivery (eqb-true a.delivery d is)) in (
        filter test told.0,
        subst (λ l. IsPermutation l (filter test told.0)) inner (IsPermutation-filter test _ _ told.1),
        told.3 d,
        ap (filter (λ (t : Tried). t.delivery == d)) told.4
            ∙ filter-map (λ (t : Tried). t.delivery == d) tried_of told.0,
      )
    where
      both : (e : ℕ) → e ≡ d → (nat_le first e && nat_le e last) ≡ true
      both e same =
          rw (le-leb first e (omega (arith, same, low))) (le-leb e last (omega (arith, same, high)))

  pub past_by : (before d : ℕ) → AreInTurn rows → first ≤ d → d ≤ last
      → is_past_by before tries d ≡ is_past_in rows before d
  past_by before d turn low high = past_told before d rows turn _ (tries_of d low high)

once : {X : Type 0} (number : X → ℕ) (n : ℕ) (xs : List X) → IsRisingFrom number n xs → (k : ℕ)
    → length (filter (λ x. number x == k) xs) ≤ 1
once number n [] rises k = omega arith
once {X} number n (x ∷ xs) rises k = at (number x == k) refl (once number (number x + 1) xs rises.1 k)
  where
    rest : List X
    rest = filter (λ y. number y == k) xs

    none : number x ≡ k → rest ≡ []
    none same = filter_none (λ y. number y == k) xs
        (λ y i. ne_eqb (number y) k
        (λ other. omega (arith, same, other, rising_from number (number x + 1) xs y rises.1 i)))

    at : (b : Bool) → number x == k ≡ b → length rest ≤ 1 → length (cond b (x ∷ rest) rest) ≤ 1
    at true e few = omega (arith, ap length (none (eqb-true (number x) k e)))
    at false e few = few

pub own_numbers : (rows : Rows) → AreInTurn rows → HaveOwnNumbers rows.attempts
own_numbers rows turn = once (λ (t : AttemptRow). t.seq) 0 rows.attempts turn.rise

-- ---- a page of numbers that rise

abbrev same : ℕ → ℕ
same n = n

-- whether the page has this number
abbrev pub is_listed : List ℕ → ℕ → Bool
is_listed page d = list_any (λ n. n == d) page

rising_take : (n k : ℕ) (xs : List ℕ) → IsRisingFrom same n xs → IsRisingFrom same n (take k xs)
rising_take n zero xs rises = tt
rising_take n (suc k) [] rises = tt
rising_take n (suc k) (x ∷ xs) rises = (rises.0, rising_take (x + 1) k xs rises.1)

last_greatest : (n l m : ℕ) (xs : List ℕ) → IsRisingFrom same n xs → last_of xs ≡ Some l → In m xs → m ≤ l
last_greatest n l m [] rises is i = absurd i
last_greatest n l m (x ∷ []) rises is (inl first) = omega (arith, first, some_same is)
last_greatest n l m (x ∷ y ∷ xs) rises is (inl first) =
    omega (arith, first, rises.1.0, last_greatest (x + 1) l y (y ∷ xs) rises.1 is (inl refl))
last_greatest n l m (x ∷ []) rises is (inr i) = absurd i
last_greatest n l m (x ∷ y ∷ xs) rises is (inr i) = last_greatest (x + 1) l m (y ∷ xs) rises.1 is i

first_least : (n f m : ℕ) (xs : List ℕ) → IsRisingFrom same n xs → slice_get xs 0 ≡ Some f → In m xs → f ≤ m
first_least n f m [] rises is i = absurd i
first_least n f m (x ∷ xs) rises is (inl same) = omega (arith, same, some_same is)
first_least n f m (x ∷ xs) rises is (inr i) = omega (arith, some_same is, rising_from same (x + 1) xs m rises.1 i)

-- of the events of a page, the attempts at them tell which are past
pub page_past : (before first last : ℕ) (page : List ℕ) (rows : Rows) (tries : List Tried) → AreInTurn rows
    → IsRisingFrom same 0 page → slice_get page 0 ≡ Some first → last_of page ≡ Some last
    → AreTriesBetween first last rows tries
    → without_events (λ d. is_listed page d && is_past_by before tries d) rows
    ≡ without_past before (is_listed page) rows
page_past before first last page rows tries turn rises starts ends told =
    λ i. without_events (λ d. at d (is_listed page d) refl i) rows
  where
    at : (d : ℕ) (b : Bool) → is_listed page d ≡ b
        → (is_listed page d && is_past_by before tries d) ≡ is_listed page d && is_past_in rows before d
    at d true e =
        let x = in_any (λ n. n == d) page e in
        let here : x.0 ≡ d = eqb-true x.0 d x.2 in
        ap (λ b. is_listed page d && b)
        (past_by first last rows tries told before d turn
        (omega (arith, here, first_least 0 first x.0 page rises starts x.1))
        (omega (arith, here, last_greatest 0 last x.0 page rises ends x.1)))
    at d false e = rw e refl

taken_in : (n k l m : ℕ) (xs : List ℕ) → IsRisingFrom same n xs → last_of (take k xs) ≡ Some l → In m xs → m ≤ l
    → In m (take k xs)
taken_in n zero l m xs rises is i low = absurd (let no = is in cc)
taken_in n (suc k) l m [] rises is i low = absurd i
taken_in n (suc k) l m (x ∷ xs) rises is (inl first) low = inl first
taken_in n (suc k) l m (x ∷ xs) rises is (inr i) low =
    at (last_tail x l (take k xs) is) (λ more. taken_in (x + 1) k l m xs rises.1 more i low)
  where
    at : ((take k xs ≡ []) × (x ≡ l)) ⊎ (last_of (take k xs) ≡ Some l)
        → (last_of (take k xs) ≡ Some l → In m (take k xs)) → In m (take (suc k) (x ∷ xs))
    at (inl only) found = absurd (omega (arith, low, only.1, rising_from same (x + 1) xs m rises.1 i))
    at (inr more) found = inr (found more)

module _ (from : ℕ) (numbers page : List ℕ) (rises : IsRisingFrom same 0 numbers)
    (told : IsPage (λ (n : ℕ). n) from numbers page) where
  abbrev rest : List ℕ
  rest = filter (nat_le from) numbers

  rest_rises : IsRisingFrom same 0 rest
  rest_rises = rising_filter same (nat_le from) 0 numbers rises

  page_front : page ≡ take page_rows rest
  page_front =
      let upto = bound same 0 rest rest_rises in
      told.3 ∙ ap (take page_rows) (rising_order same 0 upto.0 rest told.0 upto.1 told.1 told.2)

  in_rest : (d : ℕ) → In d numbers → from ≤ d → In d rest
  in_rest d i from_here = filter_in (nat_le from) numbers d i (le-leb from d from_here)

  pub page_rises : IsRisingFrom same 0 page
  page_rises = subst (IsRisingFrom same 0) (sym page_front) (rising_take 0 page_rows rest rest_rises)

  -- a page has the numbers up to its last one
  pub page_covers : (l d : ℕ) → last_of page ≡ Some l → In d numbers → from ≤ d → is_listed page d ≡ nat_lt d (l + 1)
  page_covers l d last i from_here = elim (cases_lt d (l + 1)) [ inl low ↦ inside low | inr high ↦ outside high ]
    where
      last_taken : last_of (take page_rows rest) ≡ Some l
      last_taken = ap last_of (sym page_front) ∙ last

      inside : d < l + 1 → is_listed page d ≡ nat_lt d (l + 1)
      inside low =
          any_in (λ n. n == d) page d
          (subst (In d) (sym page_front)
          (taken_in 0 page_rows l d rest rest_rises last_taken (in_rest d i from_here) (omega (arith, low))))
          (eq-eqb d d refl)
          ∙ sym (lt-ltb d (l + 1) low)

      outside : l + 1 ≤ d → is_listed page d ≡ nat_lt d (l + 1)
      outside high =
          none_if (λ n. n == d) page (λ n there. ne_eqb n d (λ equal. omega (
            arith,
            equal,
            high,
            last_greatest 0 l n (take page_rows rest) (rising_take 0 page_rows rest rest_rises) last_taken
                (subst (In n) page_front there),
          )))
          ∙ sym (le-ltb d (l + 1) high)

  none_taken : (xs : List ℕ) → take page_rows xs ≡ [] → xs ≡ []
  none_taken [] e = refl
  none_taken (x ∷ xs) e = absurd (let no = e in cc)

  -- after an empty page there is none
  pub page_ends : (d : ℕ) → page ≡ [] → In d numbers → from ≤ d → ⊥
  page_ends d empty i from_here =
      subst (In d) (none_taken rest (sym page_front ∙ empty)) (in_rest d i from_here)

-- ---- the walk over all events

module _ (before upto : ℕ) (rows : Rows) (h : AreWalkable upto rows) where
  abbrev past : ℕ → Bool
  past d = is_past_in rows before d

  -- an event that is past has a row
  past_there : (d : ℕ) → past d ≡ true → is_delivery_at rows d ≡ true
  past_there d is = at (filter (λ (t : AttemptRow). t.delivery == d) rows.attempts) refl is
    where
      at : (ts : List AttemptRow) → filter (λ (t : AttemptRow). t.delivery == d) rows.attempts ≡ ts
          → is_past before (map attempt_of ts) ≡ true → is_delivery_at rows d ≡ true
      at [] e ended = absurd (let no = ended in cc)
      at (t ∷ ts) e ended =
          let found = in_filter (λ (t : AttemptRow). t.delivery == d) rows.attempts t
          (subst (In t) (sym e) (inl refl)) in
          subst (λ n. is_delivery_at rows n ≡ true) (eqb-true t.delivery d found.1)
          (in_all (λ (t : AttemptRow). is_delivery_at rows t.delivery) rows.attempts t h.there found.0)

  -- an event with a row has a number below
  low : (d : ℕ) → is_delivery_at rows d ≡ true → d < upto
  low d there =
      let x = in_any (λ (x : DeliveryRow). x.seq == d) rows.deliveries there in
      let below = ltb-true x.0.seq upto
      (in_all (λ (x : DeliveryRow). nat_lt x.seq upto) rows.deliveries x.0 h.below x.1) in
      omega (arith, below, eqb-true x.0.seq d x.2)

  abbrev walked : ℕ → Rows
  walked from = without_past before (λ d. nat_lt d from) rows

  abbrev numbers : ℕ → List ℕ
  numbers from = map (λ (d : DeliveryRow). d.seq) (walked from).deliveries

  numbers_rise : (from : ℕ) → IsRisingFrom same 0 (numbers from)
  numbers_rise from =
      rising_map (λ (d : DeliveryRow). d.seq) same 0 (walked from).deliveries
      (rising_filter (λ (d : DeliveryRow). d.seq) (λ d. not (nat_lt d.seq from && past d.seq)) 0 rows.deliveries h.rise)

  -- one that wasn't walked yet is still there
  still_there : (from d : ℕ) → past d ≡ true → from ≤ d → In d (numbers from)
  still_there from d is from_here =
      let x = in_any (λ (x : DeliveryRow). x.seq == d) rows.deliveries (past_there d is) in
      let at_d : x.0.seq ≡ d = eqb-true x.0.seq d x.2 in
      let passes : not (nat_lt x.0.seq from && past x.0.seq) ≡ true =
      ap (λ b. not (b && past x.0.seq)) (le-ltb x.0.seq from (omega (arith, at_d, from_here))) in
      subst (λ n. In n (numbers from)) at_d
      (map_in (λ (d : DeliveryRow). d.seq) (walked from).deliveries x.0
      (filter_in (λ (d : DeliveryRow). not (nat_lt d.seq from && past d.seq)) rows.deliveries x.0 x.1 passes))

  step : (from next : ℕ) (page : List ℕ) → from ≤ next
      → ((d : ℕ) → past d ≡ true → from ≤ d → nat_lt d next ≡ is_listed page d)
      → without_past before (is_listed page) (walked from) ≡ walked next
  step from next page up covers =
      past_twice before (λ d. nat_lt d from) (is_listed page) (λ d. nat_lt d next) rows at
    where
      at : (d : ℕ) → past d ≡ true → nat_lt d next ≡ nat_lt d from || is_listed page d
      at d is = elim (cases_lt d from) [
        | inl walked_before ↦
            lt-ltb d next (omega (arith, walked_before, up))
            ∙ sym (ap (λ b. b || is_listed page d) (lt-ltb d from walked_before))
        | inr from_here ↦
            covers d is from_here ∙ sym (ap (λ b. b || is_listed page d) (le-ltb d from from_here))
      ]

  pub walk_rises : (from : ℕ) (page : List ℕ) → IsPage (λ (n : ℕ). n) from (numbers from) page
      → IsRisingFrom same 0 page
  walk_rises from page told = page_rises from (numbers from) page (numbers_rise from) told

  pub walk_some : (from next l : ℕ) (page : List ℕ) → IsPage (λ (n : ℕ). n) from (numbers from) page
      → last_of page ≡ Some l → next ≡ l + 1 → from ≤ next
      → without_past before (is_listed page) (walked from) ≡ walked next
  walk_some from next l page told last is up =
      step from next page up (λ d ended from_here.
      ap (nat_lt d) is
      ∙ sym (page_covers from (numbers from) page (numbers_rise from) told l d last (still_there from d ended from_here)
      from_here))

  pub walk_none : (from next : ℕ) (page : List ℕ) → IsPage (λ (n : ℕ). n) from (numbers from) page
      → page ≡ [] → from ≤ next → without_past before (is_listed page) (walked from) ≡ walked next
  walk_none from next page told empty up =
      step from next page up (λ d ended from_here.
      absurd (page_ends from (numbers from) page (numbers_rise from) told d empty (still_there from d ended from_here)
      from_here))

  pub walk_starts : rows ≡ walked 0
  walk_starts = none_past before (λ d. nat_lt d 0) rows (λ d. ap (λ b. b && past d) (le-ltb d 0 (omega arith)))

  filter_same : {X : Type 0} (p q : X → Bool) (xs : List X) → ((x : X) → In x xs → p x ≡ q x)
      → filter p xs ≡ filter q xs
  filter_same p q [] all = refl
  filter_same p q (x ∷ xs) all =
      λ i. cond (all x (inl refl) i) (x ∷ filter_same p q xs (λ y j. all y (inr j)) i)
      (filter_same p q xs (λ y j. all y (inr j)) i)

  pub walk_ends : (from : ℕ) → upto ≤ from → walked from ≡ without_events (is_past_in rows before) rows
  walk_ends from end = λ i. record rows {
    deliveries = filter_same (λ (d : DeliveryRow). not (nat_lt d.seq from && past d.seq)) (λ d. not (past d.seq))
        rows.deliveries (λ d j. at d.seq (any_in (λ (x : DeliveryRow). x.seq == d.seq) rows.deliveries d j
        (eq-eqb d.seq d.seq refl))) i;
    attempts = filter_same (λ (t : AttemptRow). not (nat_lt t.delivery from && past t.delivery))
        (λ t. not (past t.delivery)) rows.attempts (λ t j. at t.delivery
        (in_all (λ (t : AttemptRow). is_delivery_at rows t.delivery) rows.attempts t h.there j)) i;
  }
    where
      at : (d : ℕ) → is_delivery_at rows d ≡ true → not (nat_lt d from && past d) ≡ not (past d)
      at d there = ap (λ b. not (b && past d)) (lt-ltb d from (omega (arith, end, low d there)))

-- ---- the rows of a legal history

-- a number that grows with another rises where that one does
rising_too : {X : Type 0} (first number : X → ℕ) (m n : ℕ) (xs : List X) → IsRisingFrom first m xs
    → ((x : X) → In x xs → n ≤ number x)
    → ((x y : X) → In x xs → In y xs → first x < first y → number x < number y) → IsRisingFrom number n xs
rising_too first number m n [] rises least follows = tt
rising_too first number m n (x ∷ xs) rises least follows = (
  least x (inl refl),
  rising_too first number (first x + 1) (number x + 1) xs rises.1
      (λ y i. omega (
        arith,
        follows x y (inl refl) (inr i)
            (omega (arith, rising_from first (first x + 1) xs y rises.1 i)),
      ))
      (λ y z i j. follows y z (inr i) (inr j)),
)

module _ (records : List Record) (legal : IsLegal records) (count : ℕ) where
  abbrev all : Rows
  all = rows_of records

  seq : AttemptRow → ℕ
  seq t = t.seq

  numbered : (t : AttemptRow) → In t all.attempts → t.number ≡ length (attempts_before all t) + 1
  numbered t i =
      let sound = legal_sound records legal in
      eqb-true t.number (length (attempts_before all t) + 1) (attempt_values all sound.1 sound.0 t i).1

  in_turn : (d : ℕ) (t s : AttemptRow) → In t (filter (λ (t : AttemptRow). t.delivery == d) all.attempts)
      → In s (filter (λ (t : AttemptRow). t.delivery == d) all.attempts) → t.seq < s.seq → t.number < s.number
  in_turn d t s i j less =
      let at = λ (t : AttemptRow). t.delivery == d in
      let t_in = in_filter at all.attempts t i in
      let s_in = in_filter at all.attempts s j in
      let t_at : t.delivery ≡ d = eqb-true t.delivery d t_in.1 in
      let s_at : s.delivery ≡ d = eqb-true s.delivery d s_in.1 in
      let more = fewer (λ (t : AttemptRow). t.seq) at s.seq all.attempts t t_in.0 t_in.1 less in
      let t_before = ap (λ e. length (filter (λ (s : AttemptRow). s.delivery == e)
      (filter (λ (s : AttemptRow). nat_lt s.seq t.seq) all.attempts))) t_at in
      let s_before = ap (λ e. length (filter (λ (x : AttemptRow). x.delivery == e)
      (filter (λ (x : AttemptRow). nat_lt x.seq s.seq) all.attempts))) s_at in
      omega (arith, numbered t t_in.0, numbered s s_in.0, more, t_before, s_before)

  pub legal_walkable : AreWalkable (length records) (with_records count all)
  legal_walkable =
      let sound = legal_sound records legal in
      record {
        attempts = record {
          rise = sound.1.attempts_rise;
          turns = λ d. rising_too (λ (t : AttemptRow). t.seq) (λ (t : AttemptRow). t.number) 0 0
              (filter (λ (t : AttemptRow). t.delivery == d) all.attempts)
              (rising_filter (λ (t : AttemptRow). t.seq) (λ t. t.delivery == d) 0 all.attempts sound.1.attempts_rise)
              (λ t i. omega arith) (in_turn d);
        };
        rise = sound.1.deliveries_rise;
        below = all_if (λ (d : DeliveryRow). nat_lt d.seq (length records)) all.deliveries
            (λ d i. lt-ltb d.seq (length records) (delivery_below all sound.1 sound.0 d i));
        there = sound.1.deliveries;
      }
