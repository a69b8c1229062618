-- The lanes: which is an endpoint's, what they hold, and what a change of one makes of them.
use Rattle.std.proofs.Common.{◌≡◌, ℕ, ◌<◌, Bool, true, false, ◌&&◌, ◌||◌, List, [], ◌∷◌, ◌++◌, length, map, Some, None}
use Rattle.std.proofs.Common.{refl, sym, ◌∙◌, ap, subst, cond, arith, slice_index_or, slice_set}
use Rattle.std.specs.Prelude.{position, bytes_eq, option_map, if◌then◌else◌}
use Rattle.std.specs.List.{flat_map, list_any, position_or_len}
use Rattle.std.specs.Option.{option_map_or}
use Rattle.std.specs.Cmp.Lexicographic.{bytes_decides}
use Rattle.std.proofs.lemmas.Bool.{both_ways, false_from_ne_true, ltb-true, ltb-false, or_from, or_parts, and_left}
use Rattle.std.proofs.lemmas.Option.{slice_get-get_or, slice_get_cases}
use Rattle.std.proofs.lemmas.List.{map-append, map-set, set-get_or, get_or-map}
use Rattle.std.proofs.lemmas.List.Folds.{find_at, find-set, find_past, find-append, flat_map-map, list_any-append}
use Rattle.std.proofs.lemmas.List.Folds.{list_any_at}
use Rattle.std.proofs.lemmas.List.Quantifiers.{position-Some}
use Rattle.claim_queue.specs.declared.lanes.Lane.{Lane}
use Rattle.claim_queue.specs.declared.pairs.Pair.{Pair}
use Rattle.claim_queue.specs.declared.pairs.QueueKey.{QueueKey}
use Rattle.claim_queue.specs.Queues.{lane_state_in, pair_of, same_pair}
use Rattle.claim_queue.specs.Lanes.{AreApart, has_key, is_of, is_key_numbered, lane_in, names_of, pair_at, pairs_of}
use Rattle.claim_queue.specs.Lanes.{same_key, key_of}
use Rattle.claim_queue.proofs.KeyLaws.{none_numbered, none_of_number}

-- An endpoint's lane

-- the place at which the test passes first
placed : {X : Type 0} (p : X → Bool) (xs : List X) (i : ℕ) → Some i ≡ position p xs → (i ≡ position_or_len p xs)
    × (i < length xs)
placed p xs i at = grind (arith, ltb-true)

pub lane_at : (lanes : List Lane) (endpoint : List ℕ) (i : ℕ) (held : Lane) → Some i ≡ position (is_of endpoint) lanes
    → held ≡ slice_index_or lanes i held
    → (lane_in lanes endpoint ≡ Some held) × (i < length lanes) × (held.state.endpoint ≡ endpoint)
lane_at lanes endpoint i held at is = grind (arith, placed, position-Some, find_at, slice_get-get_or, bytes_decides)

pub none_at : (lanes : List Lane) (endpoint : List ℕ) → None ≡ position (is_of endpoint) lanes
    → lane_in lanes endpoint ≡ None
none_at lanes endpoint at = grind (arith, slice_get_cases, ltb-false, find_at)

-- the lane that is found is the endpoint's
pub lane_named : (lanes : List Lane) (endpoint : List ℕ) (lane : Lane) → lane_in lanes endpoint ≡ Some lane
    → lane.state.endpoint ≡ endpoint
lane_named [] endpoint lane e = absurd (let no = e in cc)
lane_named (l ∷ ls) endpoint lane e = grind (arith, bytes_decides, lane_named ls endpoint lane)

-- the lane at an endpoint's place is replaced by another one of this endpoint
pub set_at : (lanes : List Lane) (endpoint : List ℕ) (i : ℕ) (held new : Lane)
    → Some i ≡ position (is_of endpoint) lanes → held ≡ slice_index_or lanes i held
    → new.state.endpoint ≡ held.state.endpoint
    → (other : List ℕ) → lane_in (slice_set lanes i new) other
    ≡ (if bytes_eq endpoint other then Some new else lane_in lanes other)
set_at lanes endpoint i held new at is keeps other =
    grind (
      arith,
      lane_at lanes endpoint i held at is,
      bytes_decides endpoint other,
      placed (is_of endpoint) lanes i at,
      bytes_decides new.state.endpoint endpoint,
      find-set,
      find_past,
    )

-- one more lane, of an endpoint that has none
pub added : (lanes : List Lane) (new : Lane) → lane_in lanes new.state.endpoint ≡ None
    → (other : List ℕ) → lane_in (lanes ++ new ∷ []) other
    ≡ (if bytes_eq new.state.endpoint other then Some new else lane_in lanes other)
added lanes new none other = grind (arith, find-append, bytes_decides)

-- the state of an endpoint is its lane's
pub state_is : (lanes : List Lane) (endpoint : List ℕ) → lane_state_in (map (λ lane. lane.state) lanes) endpoint
    ≡ option_map
    (λ lane. lane.state) (lane_in lanes endpoint)
state_is [] endpoint = refl
state_is (l ∷ ls) endpoint = grind (arith, state_is ls endpoint)

-- what does not tell the new lane from the old one
pub kept_map : {X : Type 0} (f : Lane → X) (lanes : List Lane) (i : ℕ) (held new : Lane)
    → held ≡ slice_index_or lanes i held → i < length lanes → f new ≡ f held
    → map f (slice_set lanes i new) ≡ map f lanes
kept_map f lanes i held new is within same =
    map-set f lanes i new ∙ ap (slice_set (map f lanes) i)
    (same ∙ ap f is ∙ sym (get_or-map f lanes i held (f held) within)) ∙ set-get_or (map f lanes) i (f held)

pub kept_flat : {X : Type 0} (f : Lane → List X) (lanes : List Lane) (i : ℕ) (held new : Lane)
    → held ≡ slice_index_or lanes i held → i < length lanes → f new ≡ f held
    → flat_map f (slice_set lanes i new) ≡ flat_map f lanes
kept_flat f lanes i held new is within same =
    sym (flat_map-map (λ x. x) f (slice_set lanes i new))
    ∙ ap (flat_map (λ x. x)) (kept_map f lanes i held new is within same) ∙ flat_map-map (λ x. x) f lanes

-- Names that are apart

none_named : (lanes : List Lane) (name : List ℕ) → list_any (λ other. bytes_eq other name) (names_of lanes) ≡ false
    → lane_in lanes name ≡ None
none_named [] name h = refl
none_named (l ∷ ls) name h =
    let parts = or_parts (is_of name l) (list_any (λ other. bytes_eq other name) (names_of ls)) h in
    ap (λ b. cond b (Some l) (lane_in ls name)) parts.0 ∙ none_named ls name parts.1

unnamed : (lanes : List Lane) (name : List ℕ) → lane_in lanes name ≡ None
    → list_any (λ other. bytes_eq other name) (names_of lanes) ≡ false
unnamed [] name h = refl
unnamed (l ∷ ls) name h = grind (arith, unnamed ls name)

differ : (a b : List ℕ) → bytes_eq a b ≡ false → bytes_eq b a ≡ false
differ a b h = false_from_ne_true (bytes_eq b a)
    (λ same. both_ways (bytes_eq a b) h ((bytes_decides a b).1 (sym ((bytes_decides b a).0 same))))

apart_push : (names : List (List ℕ)) (name : List ℕ) → AreApart names → list_any (λ other. bytes_eq other name) names
    ≡ false → AreApart (names ++ name ∷ [])
apart_push [] name h none = (refl, tt)
apart_push (n ∷ ns) name h none =
    let parts = or_parts (bytes_eq n name) (list_any (λ other. bytes_eq other name) ns) none in (
      list_any-append (λ other. bytes_eq other n) ns (name ∷ [])
          ∙ or_from (list_any (λ other. bytes_eq other n) ns) (bytes_eq name n || false) h.0
          (or_from (bytes_eq name n) false (differ n name parts.0) refl),
      apart_push ns name h.1 parts.1,
    )

pub apart_added : (lanes : List Lane) (new : Lane) → AreApart (names_of lanes) → lane_in lanes new.state.endpoint ≡ None
    → AreApart (names_of (lanes ++ new ∷ []))
apart_added lanes new h none =
    subst AreApart (sym (map-append (λ lane. lane.state.endpoint) lanes (new ∷ [])))
    (apart_push (names_of lanes) new.state.endpoint h (unnamed lanes new.state.endpoint none))

-- What is held

own_pairs : (endpoint : List ℕ) (keys : List QueueKey) (pair : Pair)
    → list_any (same_pair pair) (map (pair_at endpoint) keys)
    ≡ (list_any (same_key (key_of pair)) keys && bytes_eq endpoint pair.endpoint)
own_pairs endpoint [] pair = refl
own_pairs endpoint (t ∷ ts) pair = grind (arith, own_pairs endpoint ts pair)

-- what is held of an endpoint is what its lane holds
pub held_is : (lanes : List Lane) → AreApart (names_of lanes) → (pair : Pair)
    → list_any (same_pair pair) (flat_map pairs_of lanes) ≡ option_map_or (λ lane. has_key lane (key_of pair))
    (lane_in lanes pair.endpoint) false
held_is [] h pair = refl
held_is (l ∷ ls) h pair = grind (arith, list_any-append, own_pairs, bytes_decides, none_named, held_is ls h.1 pair)

-- Numbers that are held

pub is_new : (lanes : List Lane) (seq : ℕ) → list_any (λ lane. list_any (is_key_numbered seq) lane.keys.items) lanes
    ≡ false
    → (endpoint : List ℕ) (due : ℕ) → list_any (same_pair (pair_of endpoint due seq)) (flat_map pairs_of lanes) ≡ false
is_new [] seq h endpoint due = refl
is_new (l ∷ ls) seq h endpoint due =
    let parts = or_parts (list_any (is_key_numbered seq) l.keys.items)
    (list_any (λ lane. list_any (is_key_numbered seq) lane.keys.items) ls) h in
    let pair = pair_of endpoint due seq in
    list_any-append (same_pair pair) (pairs_of l) (flat_map pairs_of ls)
    ∙ or_from (list_any (same_pair pair) (pairs_of l)) (list_any (same_pair pair) (flat_map pairs_of ls))
    (own_pairs l.state.endpoint l.keys.items pair ∙ and_left (has_key l (key_of pair))
    (bytes_eq l.state.endpoint endpoint) (none_numbered l.keys.items seq due parts.0))
    (is_new ls seq parts.1 endpoint due)

pub none_has : (lanes : List Lane) (seq : ℕ)
    → ((endpoint : List ℕ) (due : ℕ) → list_any (same_pair (pair_of endpoint due seq)) (flat_map pairs_of lanes)
    ≡ false)
    → list_any (λ lane. list_any (is_key_numbered seq) lane.keys.items) lanes ≡ false
none_has [] seq h = refl
none_has (l ∷ ls) seq h =
    or_from (list_any (is_key_numbered seq) l.keys.items)
    (list_any (λ lane. list_any (is_key_numbered seq) lane.keys.items) ls)
    (none_of_number l.keys.items seq (λ due. own (has_key l (record { due = due; seq = seq }))
    (sym (own_pairs l.state.endpoint l.keys.items (pair_of l.state.endpoint due seq)
    ∙ ap (λ b. has_key l (record { due = due; seq = seq }) && b)
    ((bytes_decides l.state.endpoint l.state.endpoint).1 refl)) ∙ (parts l.state.endpoint due).0)))
    (none_has ls seq (λ endpoint due. (parts endpoint due).1))
  where
    parts : (endpoint : List ℕ) (due : ℕ) → (list_any (same_pair (pair_of endpoint due seq)) (pairs_of l) ≡ false)
        × (list_any (same_pair (pair_of endpoint due seq)) (flat_map pairs_of ls) ≡ false)
    parts endpoint due =
        or_parts (list_any (same_pair (pair_of endpoint due seq)) (pairs_of l))
        (list_any (same_pair (pair_of endpoint due seq)) (flat_map pairs_of ls))
        (sym (list_any-append (same_pair (pair_of endpoint due seq)) (pairs_of l) (flat_map pairs_of ls))
        ∙ h endpoint due)

    own : (t : Bool) → (t && true) ≡ false → t ≡ false
    own true e = e
    own false e = refl

-- a lane has no delivery of a number that none has
pub none_in : (lanes : List Lane) (i : ℕ) (held : Lane) (seq : ℕ)
    → list_any (λ lane. list_any (is_key_numbered seq) lane.keys.items) lanes ≡ false
    → held ≡ slice_index_or lanes i held → i < length lanes
    → list_any (is_key_numbered seq) held.keys.items ≡ false
none_in lanes i held seq none is within = grind (arith, false_from_ne_true, both_ways, list_any_at)
