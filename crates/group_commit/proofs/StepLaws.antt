-- Laws on lists of steps: how many records they have, and how many of each kind they are.
use Rattle.std.proofs.Common.{◌≡◌, ℕ, zero, suc, ◌+◌, ◌-◌, ◌<◌, ◌&&◌, Bool, true, false, nat_le, List, [], ◌∷◌, ◌++◌}
use Rattle.std.proofs.Common.{Some, length, take, drop, refl, sym, ◌∙◌, ap, arith, inl, inr, ◌≤◌, length-append}
use Rattle.std.proofs.Common.{append-nil, append_assoc, add-one}
use Rattle.std.specs.Prelude.{count_by, cond, not, slice_get, if◌then◌else◌, IsTrue}
use Rattle.std.specs.List.{list_all, AllByRecursion}
use Rattle.std.proofs.lemmas.Bool.{le-leb, leb-true, leb-false}
use Rattle.std.proofs.lemmas.List.{length-map, length-take, take-append-drop}
use Rattle.std.proofs.Math.Seq.{drop-nil}
use Rattle.std.proofs.lemmas.List.Sums.{sum_by-append, sum_by-cons}
use Rattle.relay_types.specs.declared.limits.TheConstants.{MAX_STEP_RECORDS}
use Rattle.relay_types.specs.declared.record.Record.{Record}
use Rattle.relay_types.specs.declared.record.Record.TheVariants.{Accept}
use Rattle.relay_types.specs.Values.{Text, Seconds}
use Rattle.relay_types.specs.Steps.{IsStep, accepts}
use Rattle.relay_types.specs.Records.{History, records_of}
use Rattle.group_commit.specs.Steps.{is_outcome_record, is_request_record, is_request, is_outcome, requests_in}
use Rattle.group_commit.specs.Steps.{outcomes_in, fitting, IsLongestPrefix, IsPlaced}

-- the records of steps and then of others
pub length-records_of : (xs ys : History) → length (records_of (xs ++ ys)) ≡ length (records_of xs) + length
    (records_of ys)
length-records_of [] ys = omega arith
length-records_of (x ∷ xs) ys = omega (
  arith,
  length-append x (records_of (xs ++ ys)),
  length-append x
      (records_of xs),
  length-records_of xs ys,
)

pub length-records_of-split : (n : ℕ) (xs : History) → length (records_of xs) ≡ length (records_of (take n xs)) + length
    (records_of (drop n xs))
length-records_of-split n xs = ap (λ steps. length (records_of steps)) (sym (take-append-drop n xs))
    ∙ length-records_of (take n xs) (drop n xs)

-- one more step
pub count_by_snoc : {X : Type 0} (p : X → Bool) (xs : List X) (x : X) → count_by p (xs ++ x ∷ []) ≡ count_by p xs + cond
    (p x) 1 0
count_by_snoc p xs x = omega (arith, sum_by-append (λ y. cond (p y) 1 0) xs (x ∷ []))

-- Kinds

-- the records of steps and of one more
counts_append : (p : Record → Bool) (xs ys : List Record) → count_by p (xs ++ ys) ≡ count_by p xs + count_by p ys
counts_append p xs ys = sum_by-append (λ y. cond (p y) 1 0) xs ys

records_snoc : (steps : History) (step : List Record) → records_of (steps ++ step ∷ []) ≡ records_of steps ++ step
records_snoc [] step = append-nil step
records_snoc (x ∷ xs) step = ap (λ rs. x ++ rs) (records_snoc xs step) ∙ sym (append_assoc x (records_of xs) step)

pub requests_append : (steps : History) (step : List Record)
    → requests_in (steps ++ step ∷ []) ≡ requests_in steps + count_by is_request_record step
requests_append steps step = ap (count_by is_request_record) (records_snoc steps step) ∙ counts_append is_request_record
    (records_of steps) step

pub outcomes_append : (steps : History) (step : List Record)
    → outcomes_in (steps ++ step ∷ []) ≡ outcomes_in steps + count_by is_outcome_record step
outcomes_append steps step = ap (count_by is_outcome_record) (records_snoc steps step) ∙ counts_append is_outcome_record
    (records_of steps) step

first_record : (p : Record → Bool) (r : Record) (rs : List Record)
    → count_by p (r ∷ rs) ≡ cond (p r) 1 0 + count_by p rs
first_record p r rs = sum_by-cons (λ y. cond (p y) 1 0) r rs

abbrev nat_of : Bool → ℕ
nat_of b = cond b 1 0

one_kind : (b : Bool) → cond (not b) 1 0 + cond b 1 0 ≡ 1
one_kind true = refl
one_kind false = refl

pub outcomes_snoc : (steps : History) (entry : Record) → outcomes_in (steps ++ (entry ∷ []) ∷ []) ≡ outcomes_in steps
    + cond (is_outcome_record entry) 1 0
outcomes_snoc steps entry = omega (arith, outcomes_append steps (entry ∷ []), first_record is_outcome_record entry [])

records_both : (xs ys : History) → records_of (xs ++ ys) ≡ records_of xs ++ records_of ys
records_both [] ys = refl
records_both (x ∷ xs) ys = ap (λ rs. x ++ rs) (records_both xs ys)
    ∙ sym (append_assoc x (records_of xs) (records_of ys))

pub outcomes_both : (xs ys : History) → outcomes_in (xs ++ ys) ≡ outcomes_in xs + outcomes_in ys
outcomes_both xs ys = ap (count_by is_outcome_record) (records_both xs ys) ∙ counts_append is_outcome_record
    (records_of xs) (records_of ys)

-- each record is of one kind
pub both_kinds : (rs : List Record) → length rs ≡ count_by is_request_record rs + count_by is_outcome_record rs
both_kinds [] = refl
both_kinds (r ∷ rs) = omega (
  arith,
  both_kinds rs,
  first_record is_request_record r rs,
  first_record is_outcome_record r
      rs,
  one_kind (is_outcome_record r),
)

pub records_count : (steps : History) → length (records_of steps) ≡ requests_in steps + outcomes_in steps
records_count steps = both_kinds (records_of steps)

not_both : (a b : Bool) → not a && b ≡ true → (a ≡ false) × (b ≡ true)
not_both false b h = (refl, h)
not_both true b h = absurd (let no = h in cc)

no_outcome : (rs : List Record) → list_all is_request_record rs ≡ true → count_by is_outcome_record rs ≡ 0
no_outcome [] h = refl
no_outcome (r ∷ rs) h =
    let both = not_both (is_outcome_record r) (list_all is_request_record rs) h in
    omega (arith, no_outcome rs both.1, first_record is_outcome_record r rs, ap nat_of both.0)

-- a request has one record at least, and none of them is an Outcome
pub request_counts : (step : List Record) → IsTrue (is_request step) → (count_by is_request_record step ≡ length step)
    × (count_by is_outcome_record step ≡ 0) × (0 < length step)
request_counts [] h = absurd (let no = h in cc)
request_counts (r ∷ rs) h =
    let none = no_outcome (r ∷ rs) h in
    (omega (arith, none, both_kinds (r ∷ rs)), none, omega arith)

all_requests : (names : List Text) (id body : Text) (at : Seconds)
    → list_all is_request_record (accepts names id body at) ≡ true
all_requests [] id body at = refl
all_requests (name ∷ names) id body at = all_requests names id body at

-- an event at some endpoints is a request
pub event_request : (names : List Text) (id body : Text) (at : Seconds) → 0 < length names
    → IsTrue (is_request (accepts names id body at))
event_request [] id body at some = absurd (omega (arith, some))
event_request (name ∷ names) id body at some = all_requests (name ∷ names) id body at

pub outcome_counts : (step : List Record) → IsTrue (is_outcome step) → (count_by is_request_record step ≡ 0)
    × (count_by is_outcome_record step ≡ 1) × (length step ≡ 1)
outcome_counts [] h = absurd (let no = h in cc)
outcome_counts (r ∷ []) h =
    let one = first_record is_outcome_record r [] in
    let is = ap nat_of h in
    (omega (arith, both_kinds (r ∷ []), one, is), omega (arith, one, is), refl)
outcome_counts (r ∷ s ∷ rest) h = absurd (let no = h in cc)

pub outcome_one : (step : List Record) → IsTrue (is_outcome step) → length step ≡ 1
outcome_one step h = (outcome_counts step h).2

-- the first of some steps
pub counts_first : (x : List Record) (xs : History)
    → (requests_in (x ∷ xs) ≡ count_by is_request_record x + requests_in xs)
    × (outcomes_in (x ∷ xs) ≡ count_by is_outcome_record x + outcomes_in xs)
counts_first x xs = (
  counts_append is_request_record x (records_of xs),
  counts_append is_outcome_record x
      (records_of xs),
)

pub placed_more : (steps : History) (step : List Record) → AllByRecursion IsPlaced steps → IsPlaced step
    → AllByRecursion IsPlaced (steps ++ step ∷ [])
placed_more [] step h is = (is, tt)
placed_more (x ∷ xs) step h is = (h.0, placed_more xs step h.1 is)

-- a step has 256 records at most
pub step_most : (step : List Record) → IsStep step → length step ≤ MAX_STEP_RECORDS
step_most step (inl one) = omega (arith, one)
step_most step (inr event) = omega
    (arith, ap length event.are, length-map event.names (λ name. Accept name event.id event.body event.at), event.most)

-- How many fit

pub fitting_within : (most : ℕ) (steps : History) → fitting most steps ≤ length steps
fitting_within most [] = omega arith
fitting_within most (x ∷ xs) = at (nat_le (length x) most) (fitting_within (most - length x) xs)
  where
    at : (b : Bool) → fitting (most - length x) xs ≤ length xs
        → (if b then fitting (most - length x) xs + 1 else 0) ≤ length (x ∷ xs)
    at true rest = omega (arith, rest)
    at false rest = omega arith

pub fitting_most : (most : ℕ) (steps : History) → length (records_of (take (fitting most steps) steps)) ≤ most
fitting_most most [] = omega arith
fitting_most most (x ∷ xs) = at (nat_le (length x) most) refl (fitting_most (most - length x) xs)
  where
    at : (b : Bool) → nat_le (length x) most ≡ b → length (records_of (take (fitting (most - length x) xs) xs))
        ≤ most - length x → length (records_of (take (if b then fitting (most - length x) xs + 1 else 0) (x ∷ xs)))
        ≤ most
    at true is rest =
        let longer : length (records_of (take (fitting (most - length x) xs + 1) (x ∷ xs)))
        ≡ length (x ++ records_of (take (fitting (most - length x) xs) xs)) =
        ap (λ n. length (records_of (take n (x ∷ xs)))) (add-one (fitting (most - length x) xs)) in
        omega (
          arith,
          rest,
          longer,
          leb-true (length x) most is,
          length-append x
              (records_of (take (fitting (most - length x) xs) xs)),
        )
    at false is rest = omega arith

fitting_next : (most : ℕ) (steps : History) → fitting most steps < length steps
    → most < length (records_of (take (fitting most steps + 1) steps))
fitting_next most [] less = absurd (omega (arith, less))
fitting_next most (x ∷ xs) less = at (nat_le (length x) most) refl (fitting_next (most - length x) xs) less
  where
    at : (b : Bool) → nat_le (length x) most ≡ b
        → (fitting (most - length x) xs < length xs
        → most - length x < length (records_of (take (fitting (most - length x) xs + 1) xs)))
        → (if b then fitting (most - length x) xs + 1 else 0) < length (x ∷ xs)
        → most < length (records_of (take ((if b then fitting (most - length x) xs + 1 else 0) + 1) (x ∷ xs)))
    at true is rest less =
        let n = fitting (most - length x) xs in
        let longer : length (records_of (take (n + 1 + 1) (x ∷ xs))) ≡ length (x ++ records_of (take (n + 1) xs)) =
        ap (λ k. length (records_of (take k (x ∷ xs)))) (add-one (n + 1)) in
        omega (
          arith,
          rest (omega (arith, less)),
          longer,
          leb-true (length x) most is,
          length-append x
              (records_of (take (n + 1) xs)),
        )
    at false is rest less = omega (arith, leb-false (length x) most is, length-append x [])

-- the first steps that fit are the longest prefix that does
pub fitting_longest : (most : ℕ) (steps prefix : History) → prefix ≡ take (fitting most steps) steps
    → IsLongestPrefix most steps prefix
fitting_longest most steps prefix is = record {
  begins = is ∙ ap (λ n. take n steps) (sym count);
  fits = omega (arith, ap (λ s. length (records_of s)) is, fitting_most most steps);
  longest = λ less.
      let next = fitting_next most steps (omega (arith, count, less)) in
      omega (arith, next, ap (λ n. length (records_of (take (n + 1) steps))) count);
}
  where
    count : length prefix ≡ fitting most steps
    count = omega (arith, ap length is, length-take (fitting most steps) steps, fitting_within most steps)

pub fitting_some : (most : ℕ) (steps : History) → AllByRecursion IsPlaced steps → 0 < length steps
    → MAX_STEP_RECORDS ≤ most → 0 < fitting most steps
fitting_some most [] placed some enough = absurd (omega (arith, some))
fitting_some most (x ∷ xs) placed some enough = rw (le-leb (length x) most (omega (arith, placed.0.1, enough)))
    (omega arith)

-- the step at a place
pub drop_at : (k : ℕ) (steps : History) (step : List Record) → slice_get steps k ≡ Some step
    → drop k steps ≡ step ∷ drop (k + 1) steps
drop_at k steps step is = at k steps is ∙ ap (λ n. step ∷ drop n steps) (sym (add-one k))
  where
    same : {X : Type 0} {x y : X} → Some x ≡ Some y → x ≡ y
    same e = cc

    at : (k : ℕ) (steps : History) → slice_get steps k ≡ Some step → drop k steps ≡ step ∷ drop (suc k) steps
    at k [] is = absurd (let no = is in cc)
    at zero (x ∷ xs) is = ap (λ s. s ∷ xs) (same is)
    at (suc k) (x ∷ xs) is = at k xs is

zero_more : (m : ℕ) → m ≡ zero + m
zero_more m = omega arith

one_more : (n m : ℕ) → suc (n + m) ≡ suc n + m
one_more n m = omega arith

pub drop_drop : {X : Type 0} (n m : ℕ) (xs : List X) → drop m (drop n xs) ≡ drop (n + m) xs
drop_drop zero m xs = ap (λ k. drop k xs) (zero_more m)
drop_drop (suc n) m [] = drop-nil m ∙ sym (drop-nil (suc n + m))
drop_drop (suc n) m (x ∷ xs) = drop_drop n m xs ∙ ap (λ k. drop k (x ∷ xs)) (one_more n m)
