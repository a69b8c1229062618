-- The first pairs of the endpoints that have room, in order.
use Rattle.std.proofs.Common.{◌≡◌, ℕ, ◌<◌, ◌≤◌, Bool, true, false, not, ◌&&◌, ◌||◌, List, length, Option, Some, None}
use Rattle.std.proofs.Common.{refl, sym, ◌∙◌, subst, arith, slice_index_or}
use Rattle.std.specs.Prelude.{nat_eq, bytes_eq, position}
use Rattle.std.specs.List.{AllPairs, insert, list_any, remove}
use Rattle.std.specs.List.Sorted.{IsPartitionPoint}
use Rattle.std.specs.Cmp.Lexicographic.{bytes_decides}
use Rattle.std.proofs.lemmas.Bool.{eqb-true, eq-eqb, and_parts, and_from, both_ways, false_from_ne_true, ltb-false}
use Rattle.std.proofs.lemmas.List.Folds.{Any-from_list_any, list_any_at}
use Rattle.std.proofs.lemmas.List.Quantifiers.{position-Some}
use Rattle.std.proofs.lemmas.List.Sums.{fails_before_first}
use Rattle.claim_queue.specs.declared.pairs.Pair.{Pair}
use Rattle.claim_queue.specs.declared.pairs.QueueKey.{QueueKey}
use Rattle.claim_queue.specs.Queues.{same_pair}
use Rattle.claim_queue.specs.Lanes.{AreInOrder, comes_before, is_the, key_of}
use Rattle.claim_queue.proofs.OrderLaws.{one_way, all_pairs_insert, taken_out}

-- the same pair by its parts is the same pair
pub is_same : (a b : Pair) → same_pair a b ≡ true → b ≡ a
is_same a b h = grind (arith, and_parts, bytes_decides, eqb-true)

pub same_itself : (a : Pair) → same_pair a a ≡ true
same_itself a = and_from (nat_eq a.seq a.seq) (nat_eq a.due a.due && bytes_eq a.endpoint a.endpoint)
    (eq-eqb a.seq a.seq refl)
    (and_from (nat_eq a.due a.due) (bytes_eq a.endpoint a.endpoint) (eq-eqb a.due a.due refl)
    ((bytes_decides a.endpoint a.endpoint).1 refl))

same_both_ways : (a b : Pair) → same_pair a b ≡ same_pair b a
same_both_ways a b = pick (same_pair a b) (same_pair b a) refl refl
  where
    pick : (p q : Bool) → same_pair a b ≡ p → same_pair b a ≡ q → p ≡ q
    pick true true e f = refl
    pick false false e f = refl
    pick true false e f = sym e ∙ (λ i. same_pair (sym (is_same a b e) i) (is_same a b e i)) ∙ f
    pick false true e f = sym e ∙ (λ i. same_pair (is_same b a f i) (sym (is_same b a f) i)) ∙ f

-- One less

pub lost : (pairs : List Pair) (n : ℕ) (pair other : Pair) → AreInOrder pairs → n < length pairs
    → pair ≡ slice_index_or pairs n pair
    → list_any (same_pair other) (remove pairs n) ≡ (list_any (same_pair other) pairs && not (same_pair other pair))
lost pairs n pair other order within is = taken_out same_pair pairs n pair other is_same apart within is
  where
    apart : AllPairs (λ a b. (same_pair a b ≡ false) × (same_pair b a ≡ false)) pairs
    apart i j d less end =
        let differ = (order i j d less end).1
        in (differ, same_both_ways (slice_index_or pairs j d) (slice_index_or pairs i d) ∙ differ)

-- the pair stands at the place where it is found
pub found : (pairs : List Pair) (n : ℕ) (pair : Pair) → Some n ≡ position (same_pair pair) pairs → (n < length pairs)
    × (pair ≡ slice_index_or pairs n pair)
found pairs n pair at =
    let there = position-Some (same_pair pair) pairs n pair (sym at)
    in (there.0, sym (is_same pair (slice_index_or pairs n pair) there.1))

pub is_found : (pairs : List Pair) (pair : Pair) → list_any (same_pair pair) pairs ≡ true
    → None ≡ position (same_pair pair) pairs → ⊥
is_found pairs pair held none = grind (arith, Any-from_list_any, fails_before_first, ltb-false, both_ways)

-- One more

other_pair : (pairs : List Pair) (pair : Pair) (k : ℕ) (d : Pair) → list_any (same_pair pair) pairs ≡ false
    → k < length pairs → same_pair pair (slice_index_or pairs k d) ≡ false
other_pair pairs pair k d unheld within =
    false_from_ne_true (same_pair pair (slice_index_or pairs k d))
    (λ h. both_ways (list_any (same_pair pair) pairs) unheld (list_any_at (same_pair pair) pairs k d within h))

entered : (pairs : List Pair) (n : ℕ) (pair : Pair) → AreInOrder pairs → list_any (same_pair pair) pairs ≡ false
    → n ≤ length pairs
    → IsPartitionPoint (λ held. comes_before (key_of held) (key_of pair) ≡ true)
    (λ held. comes_before (key_of held) (key_of pair) ≡ false) pairs n → AreInOrder (insert pairs n pair)
entered pairs n pair order unheld le at =
    all_pairs_insert (λ a b. (comes_before (key_of b) (key_of a) ≡ false) × (same_pair a b ≡ false)) pairs n pair le
    order
    (λ k d below. (
      one_way (key_of (slice_index_or pairs k d)) (key_of pair) (at.0 k d (omega arith) below),
      same_both_ways (slice_index_or pairs k d) pair ∙ other_pair pairs pair k d unheld (omega (arith, below, le)),
    ))
    (λ k d from within. (at.1 k d from within, other_pair pairs pair k d unheld within))

pub order_entered : (pairs all : List Pair) (n : ℕ) (pair : Pair) (key : QueueKey) → all ≡ pairs → key ≡ key_of pair
    → AreInOrder pairs → list_any (same_pair pair) pairs ≡ false → n ≤ length all
    → IsPartitionPoint (λ held. comes_before (key_of held) key ≡ true)
    (λ held. comes_before (key_of held) key ≡ false) all n → AreInOrder (insert pairs n pair)
order_entered pairs all n pair key same is order unheld le point =
    entered pairs n pair order unheld (subst (λ xs. n ≤ length xs) same le)
    (subst (IsPoint (key_of pair)) same (subst (λ t. IsPoint t all) is point))
  where
    IsPoint : QueueKey → List Pair → Type 0
    IsPoint t xs = IsPartitionPoint (λ held. comes_before (key_of held) t ≡ true)
        (λ held. comes_before (key_of held) t ≡ false) xs n

-- One in the place of another

-- the same pair stays
pub stays : (pairs : List Pair) (old : Option Pair) (other : Pair)
    → (is_the old other ≡ true → list_any (same_pair other) pairs ≡ true)
    → list_any (same_pair other) pairs ≡ ((list_any (same_pair other) pairs && not (is_the old other))
    || is_the old other)
stays pairs old other held = grind arith
