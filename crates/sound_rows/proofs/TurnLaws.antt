-- What comes of the events by attempts that are gone through in order, and what holds of each number up to one.
use Rattle.std.proofs.Common.{◌≡◌, ◌≢◌, ◌<◌, ◌≤◌, ℕ, zero, suc, ◌+◌, ◌==◌, Bool, true, false, ◌&&◌, ◌||◌, List, [], ◌∷◌}
use Rattle.std.proofs.Common.{◌++◌, Some, length, take, get_or, refl, sym, ap, subst, ◌∙◌, arith, cond, append-nil}
use Rattle.std.proofs.Common.{length-append, ⊎_elim}
use Rattle.std.specs.Prelude.{filter, count_by, unwrap_or, nat_lt}
use Rattle.std.specs.List.{list_any, list_all, range_with_len}
use Rattle.std.specs.BTreeMap.{BTreeMap, get, is_at}
use Rattle.std.specs.Ordering.{nat_cmp}
use Rattle.std.proofs.lemmas.Bool.{eq-eqb, ne_eqb, cases_eq, lt-ltb, le-ltb, and_left, and_right, and_from}
use Rattle.std.proofs.lemmas.Bool.Decides.{nat_tests}
use Rattle.std.proofs.lemmas.List.{take_more}
use Rattle.std.proofs.lemmas.List.Elements.{filter-append}
use Rattle.std.proofs.lemmas.List.Folds.{list_any-append, list_all_at, list_all_more}
use Rattle.std.proofs.lemmas.List.Sums.{sum_by-append}
use Rattle.relay_types.specs.Judging.{is_delivered_status, is_failed_status}
use Rattle.sound_rows.specs.declared.numbers.Attempt.{Attempt}
use Rattle.sound_rows.specs.declared.turns.Progress.{Progress}
use Rattle.sound_rows.specs.RowNumbers.{IsAscending}
use Rattle.sound_rows.specs.Checks.{after_status, before, is_turn, may_come, no_progress, progress_of}

-- Numbers from one on

pub all_range : (test : ℕ → Bool) (from count : ℕ) → ((n : ℕ) → from ≤ n → n < from + count → test n ≡ true)
    → list_all test (range_with_len from count) ≡ true
all_range test from zero h = refl
all_range test from (suc count) h =
    and_from (test from) (list_all test (range_with_len (from + 1) count)) (h from (omega arith) (omega arith))
    (all_range test (from + 1) count (λ n l u. h n (omega (arith, l)) (omega (arith, u))))

pub none_range : (test : ℕ → Bool) (from count n : ℕ) → from ≤ n → n < from + count → test n ≡ false
    → list_all test (range_with_len from count) ≡ false
none_range test from zero n l u fails = absurd (omega (arith, l, u))
none_range test from (suc count) n l u fails = ⊎_elim
    (λ e. and_left (test from) (list_all test (range_with_len (from + 1) count)) (ap test e ∙ fails))
    (λ ne. and_right (test from) (list_all test (range_with_len (from + 1) count))
    (none_range test (from + 1) count n (omega (arith, l, ne)) (omega (arith, u)) fails))
    (cases_eq from n)

-- The attempts before one

-- the first so many are those that pass, where they pass and the others don't
take_filter : {X : Type 0} (p : X → Bool) (xs : List X) (n : ℕ) → n ≤ length xs
    → ((k : ℕ) (d : X) → k < n → p (get_or xs k d) ≡ true)
    → ((k : ℕ) (d : X) → n ≤ k → k < length xs → p (get_or xs k d) ≡ false) → filter p xs ≡ take n xs
take_filter p [] zero h in_it out = refl
take_filter p [] (suc n) h in_it out = absurd (omega (arith, h))
take_filter p (x ∷ xs) zero h in_it out =
    ap (λ b. cond b (x ∷ filter p xs) (filter p xs)) (out 0 x (omega arith) (omega arith))
    ∙ take_filter p xs zero (omega arith) (λ k d l. absurd (omega (arith, l)))
    (λ k d l m. out (suc k) d (omega arith) (omega (arith, m)))
take_filter p (x ∷ xs) (suc n) h in_it out =
    ap (λ b. cond b (x ∷ filter p xs) (filter p xs)) (in_it 0 x (omega arith))
    ∙ ap (λ ys. x ∷ ys) (take_filter p xs n (omega (arith, h)) (λ k d l. in_it (suc k) d (omega (arith, l)))
    (λ k d l m. out (suc k) d (omega (arith, l)) (omega (arith, m))))

front : {X : Type 0} (number : X → ℕ) (xs : List X) (place : ℕ) (x : X) → IsAscending number xs → place < length xs
    → x ≡ get_or xs place x → filter (λ y. nat_lt (number y) (number x)) xs ≡ take place xs
front {X} number xs place x up within is = take_filter (λ y. nat_lt (number y) (number x)) xs place
    (omega (arith, within)) lower higher
  where
    same : (d : X) → number (get_or xs place d) ≡ number x
    same d = ap number (sym (here xs place d x within is))
      where
        here : (ys : List X) (n : ℕ) (d y : X) → n < length ys → y ≡ get_or ys n y → y ≡ get_or ys n d
        here [] n d y h e = absurd (omega (arith, h))
        here (z ∷ zs) zero d y h e = e
        here (z ∷ zs) (suc n) d y h e = here zs n d y (omega (arith, h)) e

    lower : (k : ℕ) (d : X) → k < place → nat_lt (number (get_or xs k d)) (number x) ≡ true
    lower k d l = lt-ltb (number (get_or xs k d)) (number x) (omega (arith, up k place d l within, same d))

    higher : (k : ℕ) (d : X) → place ≤ k → k < length xs → nat_lt (number (get_or xs k d)) (number x) ≡ false
    higher k d l m = le-ltb (number (get_or xs k d)) (number x)
        (⊎_elim (λ e. omega (arith, same d, ap (λ j. number (get_or xs j d)) e))
        (λ ne. omega (arith, same d, up place k d (omega (arith, l, ne)) m)) (cases_eq place k))

pub before_at : (ts : List Attempt) (place : ℕ) (t : Attempt) → IsAscending (λ (s : Attempt). s.seq) ts
    → place < length ts → t ≡ get_or ts place t → before ts t ≡ filter (λ (s : Attempt). s.delivery == t.delivery)
    (take place ts)
before_at ts place t up within is = ap (filter (λ (s : Attempt). s.delivery == t.delivery))
    (front (λ (s : Attempt). s.seq) ts place t up within is)

-- One more attempt

progress_more : (ts : List Attempt) (t : Attempt) → progress_of (ts ++ t ∷ []) ≡ after_status (progress_of ts) t.status
progress_more ts t = λ i. record { attempts = count i; failures = failures i; is_delivered = delivered i }
  where
    count : length (ts ++ t ∷ []) ≡ length ts + 1
    count = omega (arith, length-append ts (t ∷ []))

    failures : count_by (λ (s : Attempt). is_failed_status s.status) (ts ++ t ∷ []) ≡ count_by
        (λ (s : Attempt). is_failed_status s.status) ts + cond (is_failed_status t.status) 1 0
    failures = omega (arith, sum_by-append (λ (s : Attempt). cond (is_failed_status s.status) 1 0) ts (t ∷ []))

    or_false : (b : Bool) → b || false ≡ b
    or_false true = refl
    or_false false = refl

    delivered : list_any (λ (s : Attempt). is_delivered_status s.status) (ts ++ t ∷ []) ≡ list_any
        (λ (s : Attempt). is_delivered_status s.status) ts || is_delivered_status t.status
    delivered = list_any-append (λ (s : Attempt). is_delivered_status s.status) ts (t ∷ [])
        ∙ ap (λ b. list_any (λ (s : Attempt). is_delivered_status s.status) ts || b)
        (or_false (is_delivered_status t.status))

at_same : (a : ℕ) → is_at (nat_cmp a) a ≡ true
at_same a = grind (arith, nat_tests)

at_other : (a b : ℕ) → a ≢ b → is_at (nat_cmp a) b ≡ false
at_other a b ne = grind (arith, nat_tests)

-- what is told of each event by the attempts so far, and by one more
abbrev pub Tracks : BTreeMap ℕ Progress → List Attempt → Type 0
Tracks so_far ts = (d : ℕ) → unwrap_or (get nat_cmp so_far d) no_progress ≡ progress_of
    (filter (λ (s : Attempt). s.delivery == d) ts)

pub tells_more : (old new : BTreeMap ℕ Progress) (ts more : List Attempt) (t : Attempt) (p : Progress)
    → ((q : ℕ) → get nat_cmp new q ≡ cond (is_at (nat_cmp t.delivery) q) (Some p) (get nat_cmp old q))
    → more ≡ ts ++ t ∷ [] → Tracks old ts
    → p ≡ after_status (progress_of (filter (λ (s : Attempt). s.delivery == t.delivery) ts)) t.status → Tracks new more
tells_more old new ts more t p updated longer tells is d = subst
    (λ all. unwrap_or (get nat_cmp new d) no_progress ≡ progress_of (filter (λ (s : Attempt). s.delivery == d) all))
    (sym longer) (⊎_elim same other (cases_eq t.delivery d))
  where
    here : unwrap_or (get nat_cmp new t.delivery) no_progress ≡ progress_of
        (filter (λ (s : Attempt). s.delivery == t.delivery) (ts ++ t ∷ []))
    here =
        ap (λ o. unwrap_or o no_progress) (updated t.delivery ∙ ap (λ b. cond b (Some p) (get nat_cmp old t.delivery))
        (at_same t.delivery))
        ∙ is
        ∙ sym (progress_more (filter (λ (s : Attempt). s.delivery == t.delivery) ts) t)
        ∙ ap progress_of (sym (filter-append (λ (s : Attempt). s.delivery == t.delivery) ts (t ∷ [])
        ∙ ap (λ b. filter (λ (s : Attempt). s.delivery == t.delivery) ts ++ cond b (t ∷ []) [])
        (eq-eqb t.delivery t.delivery refl)))

    same : t.delivery ≡ d → unwrap_or (get nat_cmp new d) no_progress ≡ progress_of
        (filter (λ (s : Attempt). s.delivery == d) (ts ++ t ∷ []))
    same e = subst (λ q. unwrap_or (get nat_cmp new q) no_progress ≡ progress_of
        (filter (λ (s : Attempt). s.delivery == q) (ts ++ t ∷ []))) e here

    other : t.delivery ≢ d → unwrap_or (get nat_cmp new d) no_progress ≡ progress_of
        (filter (λ (s : Attempt). s.delivery == d) (ts ++ t ∷ []))
    other ne =
        ap (λ o. unwrap_or o no_progress) (updated d ∙ ap (λ b. cond b (Some p) (get nat_cmp old d))
        (at_other t.delivery d ne))
        ∙ tells d
        ∙ ap progress_of (sym (filter-append (λ (s : Attempt). s.delivery == d) ts (t ∷ [])
        ∙ ap (λ b. filter (λ (s : Attempt). s.delivery == d) ts ++ cond b (t ∷ []) []) (ne_eqb t.delivery d ne)
        ∙ append-nil (filter (λ (s : Attempt). s.delivery == d) ts)))

-- A place of the list, whatever stands for what isn't there

same_at : {X : Type 0} (xs : List X) (n : ℕ) (d e : X) → n < length xs → get_or xs n d ≡ get_or xs n e
same_at [] n d e h = absurd (omega (arith, h))
same_at (x ∷ xs) zero d e h = refl
same_at (x ∷ xs) (suc n) d e h = same_at xs n d e (omega (arith, h))

module _ (ts : List Attempt) (place : ℕ) (d : Attempt) (old : BTreeMap ℕ Progress) (p : Progress) (takes : Bool)
    (up : IsAscending (λ (s : Attempt). s.seq) ts) (within : place < length ts) (tells : Tracks old (take place ts))
    (is : p ≡ unwrap_or (get nat_cmp old (get_or ts place d).delivery) no_progress)
    (judged : takes ≡ may_come p (get_or ts place d)) where
  known : p ≡ progress_of (filter (λ (s : Attempt). s.delivery == (get_or ts place d).delivery) (take place ts))
  known = is ∙ tells (get_or ts place d).delivery

  turn : is_turn ts (get_or ts place d) ≡ takes
  turn = ap (λ q. may_come q (get_or ts place d))
      (ap progress_of (before_at ts place (get_or ts place d) up within (same_at ts place d (get_or ts place d) within))
      ∙ sym known) ∙ sym judged

  -- an attempt that may not come
  pub fails_at : takes ≡ false → false ≡ list_all (is_turn ts) ts
  fails_at no_turn = sym (list_all_at (is_turn ts) ts place d within (turn ∙ no_turn))

  -- one that may
  pub passes_at : takes ≡ true → list_all (is_turn ts) (take place ts) ≡ true
      → list_all (is_turn ts) (take (place + 1) ts) ≡ true
  passes_at a_turn passed = list_all_more (is_turn ts) ts place d within ∙ (λ i. passed i && (turn ∙ a_turn) i)

  pub tells_at : (new : BTreeMap ℕ Progress) (after : Progress) → after ≡ after_status p (get_or ts place d).status
      → ((q : ℕ) → get nat_cmp new q ≡ cond (is_at (nat_cmp (get_or ts place d).delivery) q) (Some after)
      (get nat_cmp old q)) → Tracks new (take (place + 1) ts)
  tells_at new after made updated = tells_more old new (take place ts) (take (place + 1) ts) (get_or ts place d) after
      updated (take_more ts place d within) tells (made ∙ ap (λ q. after_status q (get_or ts place d).status) known)
