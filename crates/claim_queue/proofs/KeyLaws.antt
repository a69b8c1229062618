-- Which keys are held once one was put in its place or taken out.
use Rattle.std.proofs.Common.{◌≡◌, ℕ, ◌<◌, ◌≤◌, ◌⊎◌, inl, inr, Bool, true, false, not, ◌&&◌, ◌||◌, List, ◌∷◌, length}
use Rattle.std.proofs.Common.{refl, sym, ◌∙◌, ap, arith, IsTrue, slice_index_or}
use Rattle.std.specs.Prelude.{nat_eq}
use Rattle.std.specs.List.{AllPairs, AllWithin, insert, list_any, remove}
use Rattle.std.proofs.lemmas.Bool.{and_parts, and_from, both_ways, cases_order, eqb-true, eq-eqb, false_from_ne_true}
use Rattle.std.proofs.lemmas.List.Folds.{Any-from_list_any, list_any_at}
use Rattle.std.proofs.lemmas.List.Sorted.{IsPermutation-insert, list_any-IsPermutation}
use Rattle.claim_queue.specs.declared.pairs.QueueKey.{QueueKey}
use Rattle.claim_queue.specs.Lanes.{IsInOrder, comes_before, is_key_numbered, same_key}
use Rattle.claim_queue.proofs.OrderLaws.{behind, one_way, all_pairs_insert, taken_out}

pub is_same_key : (a b : QueueKey) → same_key a b ≡ true → b ≡ a
is_same_key a b h = grind (arith, and_parts, eqb-true)

pub same_key_itself : (a : QueueKey) → same_key a a ≡ true
same_key_itself a = and_from (nat_eq a.seq a.seq) (nat_eq a.due a.due) (eq-eqb a.seq a.seq refl)
    (eq-eqb a.due a.due refl)

not_before_itself : (a : QueueKey) → comes_before a a ≡ true → ⊥
not_before_itself a h = both_ways (comes_before a a) (one_way a a h) h

or_swapped : (a b : Bool) → (a || b) ≡ (b || a)
or_swapped true true = refl
or_swapped true false = refl
or_swapped false true = refl
or_swapped false false = refl

pub any_insert : {X : Type 0} (test : X → Bool) (xs : List X) (n : ℕ) (y : X)
    → list_any test (insert xs n y) ≡ (list_any test xs || test y)
any_insert test xs n y = sym (list_any-IsPermutation test (y ∷ xs) (insert xs n y) (IsPermutation-insert xs n y))
    ∙ or_swapped (test y) (list_any test xs)

-- A key at its place

pub order_inserted : (keys : List QueueKey) (n : ℕ) (key : QueueKey) → IsInOrder keys → n ≤ length keys
    → AllWithin (λ held. IsTrue (comes_before held key)) keys 0 n
    → AllWithin (λ held. comes_before held key ≡ false) keys n (length keys)
    → list_any (is_key_numbered key.seq) keys ≡ false → IsInOrder (insert keys n key)
order_inserted keys n key order le low high unheld =
    all_pairs_insert (λ a b. IsTrue (comes_before a b)) keys n key le order (λ k d below. low k d (omega arith) below)
    (λ k d from within. behind (slice_index_or keys k d) key (high k d from within) (other k d within))
  where
    other : (k : ℕ) (d : QueueKey) → k < length keys → (slice_index_or keys k d).seq ≡ key.seq → ⊥
    other k d within same =
        both_ways (list_any (is_key_numbered key.seq) keys) unheld
        (list_any_at (is_key_numbered key.seq) keys k d within (eq-eqb (slice_index_or keys k d).seq key.seq same))

-- a key that is held stands where the search ends
pub found : (keys : List QueueKey) (n : ℕ) (key : QueueKey) → IsInOrder keys
    → AllWithin (λ held. IsTrue (comes_before held key)) keys 0 n
    → AllWithin (λ held. comes_before held key ≡ false) keys n (length keys)
    → list_any (same_key key) keys ≡ true → (n < length keys) × (key ≡ slice_index_or keys n key)
found keys n key order low high h = grind
    (arith, Any-from_list_any, cases_order, is_same_key, not_before_itself, both_ways)

not_same : (a b : QueueKey) → (comes_before a b ≡ true) ⊎ (comes_before b a ≡ true) → same_key a b ≡ false
not_same a b h = grind (arith, false_from_ne_true, is_same_key, not_before_itself)

pub removed : (keys : List QueueKey) (n : ℕ) (key other : QueueKey) → IsInOrder keys → n < length keys
    → key ≡ slice_index_or keys n key
    → list_any (same_key other) (remove keys n) ≡ (list_any (same_key other) keys && not (same_key other key))
removed keys n key other order within is = taken_out same_key keys n key other is_same_key apart within is
  where
    apart : AllPairs (λ a b. (same_key a b ≡ false) × (same_key b a ≡ false)) keys
    apart i j d less end =
        let first = order i j d less end in (
          not_same (slice_index_or keys i d) (slice_index_or keys j d) (inl first),
          not_same (slice_index_or keys j d)
              (slice_index_or keys i d) (inr first),
        )

-- The numbers of keys

abbrev key_at : (seq due : ℕ) → QueueKey
key_at seq due = record { due = due; seq = seq }

pub none_numbered : (keys : List QueueKey) (seq due : ℕ) → list_any (is_key_numbered seq) keys ≡ false
    → list_any (same_key (record { due = due; seq = seq })) keys ≡ false
none_numbered keys seq due none = grind
    (arith, false_from_ne_true, Any-from_list_any, both_ways, list_any_at, and_parts)

pub none_of_number : (keys : List QueueKey) (seq : ℕ)
    → ((due : ℕ) → list_any (same_key (record { due = due; seq = seq })) keys ≡ false)
    → list_any (is_key_numbered seq) keys ≡ false
none_of_number keys seq none = false_from_ne_true (list_any (is_key_numbered seq) keys)
    (λ h. clash (Any-from_list_any (is_key_numbered seq) keys h))
  where
    clash : (k : ℕ) × (x : QueueKey) × (k < length keys) × (slice_index_or keys k x ≡ x)
        × (is_key_numbered seq x ≡ true)
        → ⊥
    clash (k, x, within, is, same) =
        both_ways (list_any (same_key (key_at seq x.due)) keys) (none x.due)
        (list_any_at (same_key (key_at seq x.due)) keys k x within
        (ap (same_key (key_at seq x.due)) is ∙ and_from (nat_eq x.seq seq) (nat_eq x.due x.due) same
        (eq-eqb x.due x.due refl)))
