-- Keys in order: what a search among them finds, and what stays in order.
use Rattle.std.proofs.Common.{◌≡◌, ℕ, ◌+◌, ◌-◌, ◌<◌, ◌≤◌, ◌⊎◌, inl, inr, Bool, true, false, not, ◌&&◌, ◌||◌, List, ◌∷◌}
use Rattle.std.proofs.Common.{length, refl, sym, ◌∙◌, ap, subst, arith, slice_index_or}
use Rattle.std.specs.List.{AllPairs, insert, list_any, remove}
use Rattle.std.specs.List.Sorted.{IsPartitionedBy}
use Rattle.std.proofs.lemmas.Bool.{ltb-true, lt-ltb, eqb-true, eq-eqb, and_from, and_parts, or_cases, or_left, or_right}
use Rattle.std.proofs.lemmas.Bool.{cases_lt, cases_order, both_ways}
use Rattle.std.proofs.lemmas.List.{get_or_default}
use Rattle.std.proofs.lemmas.List.Edits.{get_or-insert_below, get_or-insert_at, get_or-insert_above}
use Rattle.std.proofs.lemmas.List.Edits.{get_or-remove_below, get_or-remove_above, length-insert, length-remove}
use Rattle.std.proofs.lemmas.List.Folds.{list_any_none}
use Rattle.std.proofs.lemmas.List.Sorted.{IsPermutation-remove, list_any-IsPermutation}
use Rattle.claim_queue.specs.declared.pairs.QueueKey.{QueueKey}
use Rattle.claim_queue.specs.Lanes.{comes_before}

-- The order of keys, in numbers

pub record IsBefore (a b : QueueKey) : Type 0 where
  pub due : a.due ≤ b.due
  pub tie : a.due ≡ b.due → a.seq < b.seq

pub before : (a b : QueueKey) → comes_before a b ≡ true → IsBefore a b
before a b h = grind (arith, or_cases, ltb-true, and_parts, eqb-true)

pub from_before : (a b : QueueKey) → IsBefore a b → comes_before a b ≡ true
from_before a b h = grind (arith, or_left, lt-ltb, or_right, and_from, eq-eqb)

pub record IsNotBefore (a b : QueueKey) : Type 0 where
  pub due : b.due ≤ a.due
  pub tie : a.due ≡ b.due → b.seq ≤ a.seq

pub not_before : (a b : QueueKey) → comes_before a b ≡ false → IsNotBefore a b
not_before a b h = grind (arith, both_ways, from_before)

pub from_not_before : (a b : QueueKey) → IsNotBefore a b → comes_before a b ≡ false
from_not_before a b h = grind (arith, before)

-- the one that comes before does not come after
pub one_way : (a b : QueueKey) → comes_before a b ≡ true → comes_before b a ≡ false
one_way a b h =
    let first = before a b h
    in from_not_before b a (record { due = first.due; tie = λ same. omega (arith, first.tie (sym same)) })

-- b does not come before a, and comes before c
pub before_as_well : (a b c : QueueKey) → comes_before b a ≡ false → comes_before b c ≡ true → comes_before a c ≡ true
before_as_well a b c h g = grind (arith, not_before, before, from_before)

-- a does not come before b, and has another number
pub behind : (a b : QueueKey) → comes_before a b ≡ false → (a.seq ≡ b.seq → ⊥) → comes_before b a ≡ true
behind a b h other = grind (arith, not_before, from_before, cases_order)

-- where none comes before one that stands before it, those that come before a key stand first
pub partitioned : {X : Type 0} (by : X → QueueKey) (xs : List X) (key : QueueKey)
    → AllPairs (λ a b. comes_before (by b) (by a) ≡ false) xs → IsPartitionedBy (λ x. comes_before (by x) key) xs
partitioned {X} by xs key order i j d le within is = pick (cases_lt i j)
  where
    pick : (i < j) ⊎ (j ≤ i) → comes_before (by (slice_index_or xs i d)) key ≡ true
    pick (inl less) = before_as_well (by (slice_index_or xs i d)) (by (slice_index_or xs j d)) key
        (order i j d less within) is
    pick (inr more) = let same : j ≡ i = omega (arith, le, more)
        in subst (λ k. comes_before (by (slice_index_or xs k d)) key ≡ true) same is

-- what is held once the only one of its kind was taken out
pub taken_out : {X : Type 0} (same : X → X → Bool) (xs : List X) (n : ℕ) (x other : X)
    → ((a b : X) → same a b ≡ true → b ≡ a)
    → AllPairs (λ a b. (same a b ≡ false) × (same b a ≡ false)) xs → n < length xs → x ≡ slice_index_or xs n x
    → list_any (same other) (remove xs n) ≡ (list_any (same other) xs && not (same other x))
taken_out {X} same xs n x other is_same apart within is =
    pick (same other x) (list_any (same other) (remove xs n)) refl refl
    ∙ ap (λ b. b && not (same other x))
    (sym (list_any-IsPermutation (same other) xs (x ∷ remove xs n) (IsPermutation-remove xs n x within is)))
  where
    at : (d : X) → slice_index_or xs n d ≡ x
    at d = get_or_default xs n d x within ∙ sym is

    gone : (k : ℕ) (d : X) → k < length (remove xs n) → (k < n) ⊎ (n ≤ k)
        → same x (slice_index_or (remove xs n) k d) ≡ false
    gone k d less (inl below) =
        subst (λ t. same x t ≡ false) (sym (get_or-remove_below xs n d k below within))
        (subst (λ t. same t (slice_index_or xs k d) ≡ false) (at d) (apart k n d below within).1)
    gone k d less (inr from) =
        subst (λ t. same x t ≡ false) (sym (get_or-remove_above xs n d k from within))
        (subst (λ t. same t (slice_index_or xs (k + 1) d) ≡ false) (at d)
        (apart n (k + 1) d (omega (arith, from)) (omega (arith, less, length-remove xs n within))).0)

    pick : (alike rest : Bool) → same other x ≡ alike → list_any (same other) (remove xs n) ≡ rest
        → rest ≡ ((alike || rest) && not alike)
    pick true rest e f = sym f ∙ subst (λ t. list_any (same t) (remove xs n) ≡ false) (is_same other x e)
        (list_any_none (same x) (remove xs n) none)
      where
        none : (k : ℕ) (d : X) → k < length (remove xs n) → same x (slice_index_or (remove xs n) k d) ≡ false
        none k d less = gone k d less (cases_lt k n)
    pick false true e f = refl
    pick false false e f = refl

-- one more element at its place
pub all_pairs_insert : {X : Type 0} (R : X → X → Type 0) (xs : List X) (n : ℕ) (y : X) → n ≤ length xs → AllPairs R xs
    → ((k : ℕ) (d : X) → k < n → R (slice_index_or xs k d) y)
    → ((k : ℕ) (d : X) → n ≤ k → k < length xs → R y (slice_index_or xs k d)) → AllPairs R (insert xs n y)
all_pairs_insert {X} R xs n y le all low high i j d less within = pick (cases_order i n) (cases_order j n)
  where
    above : (k : ℕ) → n < k → slice_index_or (insert xs n y) k d ≡ slice_index_or xs (k - 1) d
    above k h =
        let step : k ≡ (k - 1) + 1 = omega (arith, h) in
        ap (λ m. slice_index_or (insert xs n y) m d) step ∙ get_or-insert_above xs n y d (k - 1) (omega (arith, h)) le

    end : j < length xs + 1
    end = omega (arith, within, length-insert xs n y le)

    both : {a b a' b' : X} → a ≡ a' → b ≡ b' → R a' b' → R a b
    both {a} {b} {a'} {b'} e f h = subst (λ x. R x b) (sym e) (subst (R a') (sym f) h)

    pick : (i ≡ n) ⊎ ((i < n) ⊎ (n < i)) → (j ≡ n) ⊎ ((j < n) ⊎ (n < j))
        → R (slice_index_or (insert xs n y) i d) (slice_index_or (insert xs n y) j d)
    pick (inl at) (inr (inr over)) =
        both (ap (λ m. slice_index_or (insert xs n y) m d) at ∙ get_or-insert_at xs n y d le) (above j over)
        (high (j - 1) d (omega (arith, over)) (omega (arith, over, end)))
    pick (inr (inl under)) (inl at) =
        both (get_or-insert_below xs n y d i under le)
        (ap (λ m. slice_index_or (insert xs n y) m d) at ∙ get_or-insert_at xs n y d le) (low i d under)
    pick (inr (inl under)) (inr (inl low_too)) =
        both (get_or-insert_below xs n y d i under le) (get_or-insert_below xs n y d j low_too le)
        (all i j d less (omega (arith, low_too, le)))
    pick (inr (inl under)) (inr (inr over)) =
        both (get_or-insert_below xs n y d i under le) (above j over)
        (all i (j - 1) d (omega (arith, under, over)) (omega (arith, over, end)))
    pick (inr (inr over)) (inr (inr over_too)) =
        both (above i over) (above j over_too)
        (all (i - 1) (j - 1) d (omega (arith, less, over)) (omega (arith, over_too, end)))
    pick (inl at) (inl at_too) = absurd (omega (arith, less, at, at_too))
    pick (inl at) (inr (inl under)) = absurd (omega (arith, less, at, under))
    pick (inr (inr over)) (inl at) = absurd (omega (arith, less, over, at))
    pick (inr (inr over)) (inr (inl under)) = absurd (omega (arith, less, over, under))
