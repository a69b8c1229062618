-- What Purges take: which of the records was the first to take a delivery, and that it had ended.
use Rattle.std.proofs.Common.{◌≡◌, ℕ, zero, suc, ◌+◌, ◌≤◌, Bool, true, false, List, [], ◌∷◌, ◌++◌, Option, Some, None}
use Rattle.std.proofs.Common.{length, take, refl, sym, ◌∙◌, ap, arith, cond, leb, ltb, map, ◌&&◌, ◌||◌, not, append-nil}
use Rattle.std.proofs.Common.{append_assoc, length-append}
use Rattle.std.specs.Prelude.{filter, find, count_by, is_some, option_map}
use Rattle.std.specs.List.{list_all}
use Rattle.std.specs.Option.{option_map_or, option_or}
use Rattle.std.proofs.lemmas.Bool.{and_parts, le-leb, leb-true, lt-leb, or_right}
use Rattle.std.proofs.lemmas.List.Folds.{list_any-append}
use Rattle.std.proofs.lemmas.List.Sums.{sum_by-append, sum_by-cons}
use Rattle.relay_types.specs.declared.record.Record.{Record}
use Rattle.relay_types.specs.declared.record.Record.TheVariants.{Put, Secrets, Enabled, Accept, Outcome, Subscribed}
use Rattle.relay_types.specs.declared.record.Record.TheVariants.{Purge}
use Rattle.relay_types.specs.declared.state.State.TheVariants.{Pending, Delivered, Exhausted}
use Rattle.relay_types.specs.Lists.{last_of}
use Rattle.relay_types.specs.Records.{Attempt}
use Rattle.relay_types.specs.Judging.{is_delivered_status, is_failed_status}
use Rattle.relay_types.specs.Deliveries.{attempts_of, is_in_state, is_past, is_purged, purge_among, purged_by, state_of}
use Rattle.relay_types.specs.Deliveries.{takes}
use Rattle.delivery_book.specs.Entries.{failed_among, is_delivered_among, is_done_before, progress_of, state_by}
use Rattle.delivery_book.proofs.Progresses.{attempts_of-append, empty_if}

-- One more record

among-snoc : (before later : List Record) (entry : Record) (d : ℕ)
    → purge_among before (later ++ entry ∷ []) d ≡ option_or (purge_among before later d)
    (cond (takes (before ++ later) d entry) (Some (length (before ++ later))) None)
among-snoc before [] entry d = ap (λ b. cond (takes b d entry) (Some (length b)) None) (sym (append-nil before))
among-snoc before (r ∷ later) entry d =
    at (takes before d r) (among-snoc (before ++ r ∷ []) later entry d
    ∙ ap (λ b. option_or (purge_among (before ++ r ∷ []) later d) (cond (takes b d entry) (Some (length b)) None))
    (append_assoc before (r ∷ []) later))
  where
    at : (b : Bool) → purge_among (before ++ r ∷ []) (later ++ entry ∷ []) d ≡ option_or
        (purge_among (before ++ r ∷ []) later d)
        (cond (takes (before ++ r ∷ later) d entry) (Some (length (before ++ r ∷ later))) None)
        → cond b (Some (length before)) (purge_among (before ++ r ∷ []) (later ++ entry ∷ []) d) ≡ option_or
        (cond b (Some (length before)) (purge_among (before ++ r ∷ []) later d))
        (cond (takes (before ++ r ∷ later) d entry) (Some (length (before ++ r ∷ later))) None)
    at true more = refl
    at false more = more

-- the first that took a delivery takes it still, and the record after takes it if it was there
pub purged_by-snoc : (records : List Record) (entry : Record) (d : ℕ) → purged_by (records ++ entry ∷ []) d ≡ option_or
    (purged_by records d) (cond (takes records d entry) (Some (length records)) None)
purged_by-snoc records entry d = among-snoc [] records entry d

or_none : {X : Type 0} (o : Option X) → option_or o None ≡ o
or_none None = refl
or_none (Some x) = refl

-- where the record takes nothing
pub purged_by-same : (records : List Record) (entry : Record) (d : ℕ) → takes records d entry ≡ false
    → purged_by (records ++ entry ∷ []) d ≡ purged_by records d
purged_by-same records entry d none =
    purged_by-snoc records entry d ∙ ap (λ b. option_or (purged_by records d) (cond b (Some (length records)) None))
    none ∙ or_none (purged_by records d)

-- a delivery without an attempt isn't taken
append_none : {X : Type 0} (xs ys : List X) → xs ++ ys ≡ [] → xs ≡ []
append_none xs ys h = empty_if xs (omega (arith, ap length h, length-append xs ys))

takes_none : (before : List Record) (d : ℕ) (entry : Record) → attempts_of before d ≡ [] → takes before d entry ≡ false
takes_none before d (Purge moment) h = ap (is_past moment) h
takes_none before d (Put name target max secrets) h = refl
takes_none before d (Secrets name secrets) h = refl
takes_none before d (Enabled name flag) h = refl
takes_none before d (Accept name id body at) h = refl
takes_none before d (Outcome delivery attempt status at) h = refl
takes_none before d (Subscribed topic name flag) h = refl

among_none : (before later : List Record) (d : ℕ) → attempts_of (before ++ later) d ≡ []
    → purge_among before later d ≡ None
among_none before [] d h = refl
among_none before (r ∷ later) d h =
    ap (λ b. cond b (Some (length before)) (purge_among (before ++ r ∷ []) later d))
    (takes_none before d r (append_none (attempts_of before d) (attempts_of (r ∷ later) d)
    (sym (attempts_of-append before (r ∷ later) d) ∙ h)))
    ∙ among_none (before ++ r ∷ []) later d (ap (λ rs. attempts_of rs d) (append_assoc before (r ∷ []) later) ∙ h)

pub purged_by-none : (records : List Record) (d : ℕ) → attempts_of records d ≡ [] → purged_by records d ≡ None
purged_by-none records d h = among_none [] records d h

-- The first records alone

among_from : (before later : List Record) (d s : ℕ) → s ≤ length before
    → option_map_or (leb s) (purge_among before later d) true ≡ true
among_from before [] d s h = refl
among_from before (r ∷ later) d s h = at (takes before d r)
    (among_from (before ++ r ∷ []) later d s (omega (arith, h, length-append before (r ∷ []))))
  where
    at : (b : Bool) → option_map_or (leb s) (purge_among (before ++ r ∷ []) later d) true ≡ true
        → option_map_or (leb s) (cond b (Some (length before)) (purge_among (before ++ r ∷ []) later d)) true ≡ true
    at true more = le-leb s (length before) h
    at false more = more

among_left : (before later : List Record) (d k s : ℕ) → length before + k ≡ s
    → option_map_or (leb s) (purge_among before later d) true ≡ not (is_some (purge_among before (take k later) d))
among_left before later d zero s e = among_from before later d s (omega (arith, e))
among_left before [] d (suc k) s e = refl
among_left before (r ∷ later) d (suc k) s e = at (takes before d r)
    (among_left (before ++ r ∷ []) later d k s (omega (arith, e, length-append before (r ∷ []))))
  where
    at : (b : Bool) → option_map_or (leb s) (purge_among (before ++ r ∷ []) later d) true ≡ not
        (is_some (purge_among (before ++ r ∷ []) (take k later) d))
        → option_map_or (leb s) (cond b (Some (length before)) (purge_among (before ++ r ∷ []) later d)) true ≡ not
        (is_some (cond b (Some (length before)) (purge_among (before ++ r ∷ []) (take k later) d)))
    at true more = lt-leb s (length before) (omega (arith, e))
    at false more = more

-- none of the first records took it exactly where the first that did comes after them
pub left-take : (records : List Record) (s d : ℕ) → option_map_or (leb s) (purged_by records d) true ≡ not
    (is_purged (take s records) d)
left-take records s d = among_left [] records d s s (omega arith)

-- a delivery that the first records took is taken
pub taken_first : (records : List Record) (s d : ℕ) → is_purged (take s records) d ≡ true → is_purged records d ≡ true
taken_first records s d h = by (purged_by records d) (left-take records s d ∙ ap not h)
  where
    by : (o : Option ℕ) → option_map_or (leb s) o true ≡ false → is_some o ≡ true
    by None e = absurd (let no = e in cc)
    by (Some n) e = refl

-- what was taken after a number was taken after each below it
pub left_earlier : (s m : ℕ) (o : Option ℕ) → s ≤ m → option_map_or (leb m) o true ≡ true
    → option_map_or (leb s) o true ≡ true
left_earlier s m None h left = refl
left_earlier s m (Some n) h left = le-leb s n (omega (arith, h, leb-true m n left))

-- What is taken has ended

abbrev has_ended : List Attempt → Bool
has_ended attempts = is_delivered_among attempts || leb 10 (failed_among attempts)

ended_more : (xs ys : List Attempt) → has_ended xs ≡ true → has_ended (xs ++ ys) ≡ true
ended_more xs ys h = more (is_delivered_among xs) refl
  where
    more : (b : Bool) → is_delivered_among xs ≡ b → has_ended (xs ++ ys) ≡ true
    more true is = ap (λ b. b || leb 10 (failed_among (xs ++ ys)))
        (list_any-append (λ (a : Attempt). is_delivered_status a.status) xs ys
        ∙ ap (λ b. b || is_delivered_among ys) is)
    more false is = or_right (is_delivered_among (xs ++ ys)) _
        (le-leb 10 (failed_among (xs ++ ys))
        (omega (
          arith,
          leb-true 10 (failed_among xs) (ap (λ b. b || leb 10 (failed_among xs)) (sym is) ∙ h),
          sum_by-append (λ (a : Attempt). cond (is_failed_status a.status) 1 0) xs ys,
        )))

ended_state : (delivered : Bool) (failures : ℕ) → delivered || leb 10 failures ≡ true
    → is_in_state Pending (state_by delivered failures) ≡ false
ended_state true failures h = refl
ended_state false failures h = ap (λ b. is_in_state Pending (cond b Exhausted Pending)) h

takes_ended : (before : List Record) (d : ℕ) (entry : Record) → takes before d entry ≡ true
    → has_ended (attempts_of before d) ≡ true
takes_ended before d (Purge moment) h = (and_parts (has_ended (attempts_of before d)) _ h).0
takes_ended before d (Put name target max secrets) h = absurd (let e = h in cc)
takes_ended before d (Secrets name secrets) h = absurd (let e = h in cc)
takes_ended before d (Enabled name flag) h = absurd (let e = h in cc)
takes_ended before d (Accept name id body at) h = absurd (let e = h in cc)
takes_ended before d (Outcome delivery attempt status at) h = absurd (let e = h in cc)
takes_ended before d (Subscribed topic name flag) h = absurd (let e = h in cc)

among_ended : (before later : List Record) (d : ℕ) → is_some (purge_among before later d) ≡ true
    → has_ended (attempts_of (before ++ later) d) ≡ true
among_ended before [] d h = absurd (let e = h in cc)
among_ended before (r ∷ later) d h = at (among_ended (before ++ r ∷ []) later d) (takes before d r) refl h
  where
    at : (is_some (purge_among (before ++ r ∷ []) later d) ≡ true
        → has_ended (attempts_of ((before ++ r ∷ []) ++ later) d) ≡ true) → (b : Bool) → takes before d r ≡ b
        → is_some (cond b (Some (length before)) (purge_among (before ++ r ∷ []) later d)) ≡ true
        → has_ended (attempts_of (before ++ r ∷ later) d) ≡ true
    at further true is there = ap has_ended (attempts_of-append before (r ∷ later) d)
        ∙ ended_more (attempts_of before d) (attempts_of (r ∷ later) d) (takes_ended before d r is)
    at further false is there = ap (λ rs. has_ended (attempts_of rs d)) (sym (append_assoc before (r ∷ []) later))
        ∙ further there

pub taken_ended : (records : List Record) (d : ℕ) → is_purged records d ≡ true
    → is_in_state Pending (state_of records d) ≡ false
taken_ended records d h = ended_state (is_delivered_among (attempts_of records d))
    (failed_among (attempts_of records d)) (among_ended [] records d h)

-- how far it has come tells whether a Purge takes it
pub done-past : (moment at : ℕ) (attempts : List Attempt) → is_done_before moment (progress_of at attempts)
    ≡ is_past moment attempts
done-past moment at attempts = by (is_delivered_among attempts) (leb 10 (failed_among attempts)) (last_of attempts)
  where
    by : (delivered failed : Bool) (last : Option Attempt)
        → not (is_in_state Pending (cond delivered Delivered (cond failed Exhausted Pending)))
        && option_map_or (λ n. ltb n moment) (option_map (λ (a : Attempt). a.at) last) false
        ≡ (delivered || failed) && option_map_or (λ (a : Attempt). ltb a.at moment) last false
    by true failed None = refl
    by true failed (Some a) = refl
    by false true None = refl
    by false true (Some a) = refl
    by false false None = refl
    by false false (Some a) = refl

-- What filters keep

pub filter-changed : {X : Type 0} (p : X → Bool) (g : X → X) (xs : List X) → ((x : X) → p (g x) ≡ p x)
    → filter p (map g xs) ≡ map g (filter p xs)
filter-changed p g [] same = refl
filter-changed p g (x ∷ xs) same = grind (arith, filter-changed p g xs same)

-- a weaker filter before another keeps nothing back
pub filter-weaker : {X : Type 0} (p q : X → Bool) (xs : List X) → ((x : X) → p x ≡ true → q x ≡ true)
    → filter p (filter q xs) ≡ filter p xs
filter-weaker p q [] weaker = refl
filter-weaker p q (x ∷ xs) weaker = grind (arith, filter-weaker p q xs weaker)

pub find-weaker : {X : Type 0} (p q : X → Bool) (xs : List X) → ((x : X) → p x ≡ true → q x ≡ true)
    → find p (filter q xs) ≡ find p xs
find-weaker p q [] weaker = refl
find-weaker p q (x ∷ xs) weaker = grind (arith, find-weaker p q xs weaker)

pub find-filter : {X : Type 0} (p q : X → Bool) (xs : List X) → find p (filter q xs) ≡ find (λ x. p x && q x) xs
find-filter p q [] = refl
find-filter p q (x ∷ xs) = grind (arith, find-filter p q xs)

-- a filter that all pass
pub filter-passed : {X : Type 0} (p : X → Bool) (xs : List X) → list_all p xs ≡ true → filter p xs ≡ xs
filter-passed p [] h = refl
filter-passed p (x ∷ xs) h =
    let parts = and_parts (p x) (list_all p xs) h in
    ap (λ b. cond b (x ∷ filter p xs) (filter p xs)) parts.0 ∙ ap (λ rest. x ∷ rest) (filter-passed p xs parts.1)

pub count-filter : {X : Type 0} (p q : X → Bool) (xs : List X)
    → count_by p (filter q xs) ≡ count_by (λ x. q x && p x) xs
count-filter p q [] = refl
count-filter {X} p q (x ∷ xs) = at (q x) (count-filter p q xs) ∙ sym (sum_by-cons (λ y. cond (q y && p y) 1 0) x xs)
  where
    at : (b : Bool) → count_by p (filter q xs) ≡ count_by (λ y. q y && p y) xs
        → count_by p (cond b (x ∷ filter q xs) (filter q xs)) ≡ cond (b && p x) 1 0 + count_by (λ y. q y && p y) xs
    at true more = sum_by-cons (λ y. cond (p y) 1 0) x (filter q xs) ∙ ap (λ n. cond (p x) 1 0 + n) more
    at false more = omega (arith, more)
