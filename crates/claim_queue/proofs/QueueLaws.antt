-- The queue after a change of one lane, and which pair is next.
use Rattle.std.proofs.Common.{◌≡◌, ℕ, zero, suc, ◌+◌, ◌<◌, ◌≤◌, Bool, true, false, not, ◌&&◌, ◌||◌, List, [], ◌∷◌, ◌++◌}
use Rattle.std.proofs.Common.{length, map, Option, Some, None, refl, sym, ◌∙◌, ap, subst, arith, IsTrue, slice_index_or}
use Rattle.std.proofs.Common.{slice_set}
use Rattle.std.specs.Prelude.{IfSome, is_some, position, bytes_eq, nat_eq, nat_le, option_map, slice_get, sum_by}
use Rattle.std.specs.Prelude.{if◌then◌else◌}
use Rattle.std.specs.List.{list_any}
use Rattle.std.specs.Option.{option_map_or}
use Rattle.std.specs.Cmp.Lexicographic.{bytes_decides}
use Rattle.std.proofs.lemmas.Bool.{and_from, and_parts, both_ways, false_from_ne_true, le-leb, leb-true}
use Rattle.std.proofs.lemmas.Option.{get_or_from_slice_get, none-some, same_Some, slice_get_within}
use Rattle.std.proofs.lemmas.List.Folds.{Any-from_list_any, list_any_at}
use Rattle.std.proofs.lemmas.List.Sums.{sum_by-le, sum_by-set, sum_by_push}
use Rattle.claim_queue.specs.declared.lanes.Lane.{Lane}
use Rattle.claim_queue.specs.declared.lane_state.LaneState.{LaneState}
use Rattle.claim_queue.specs.declared.pairs.Pair.{Pair}
use Rattle.claim_queue.specs.declared.pairs.QueueKey.{QueueKey}
use Rattle.claim_queue.specs.Queues.{IsNext, IsNoLater, NothingIsReady, Sets, free_in, has_room_in, is_held, is_ready}
use Rattle.claim_queue.specs.Queues.{is_ready_by, lane_state_for, lane_state_in, pair_of, same_pair}
use Rattle.claim_queue.specs.Lanes.{AreApart, AreInOrder, IsInOrder, IsQueue, IsSound, Renews, absent, comes_before}
use Rattle.claim_queue.specs.Lanes.{first_of, has_key, is_of, is_the, lane_in, names_of, pair_at, pairs_of, queue_of}
use Rattle.claim_queue.specs.Lanes.{same_key, key_of}
use Rattle.claim_queue.proofs.OrderLaws.{IsNotBefore, from_not_before, not_before, one_way}
use Rattle.claim_queue.proofs.KeyLaws.{is_same_key, same_key_itself}
use Rattle.claim_queue.proofs.FirstLaws.{is_same, same_itself, stays}
use Rattle.claim_queue.proofs.LaneLaws.{apart_added, added, held_is, kept_flat, kept_map, lane_at, lane_named, state_is}
use Rattle.claim_queue.proofs.LaneLaws.{set_at}

-- The first pair of a lane

-- it is of the lane's endpoint, which has room, and its key is the first
pub the_first : (lane : Lane) (pair : Pair) → is_the (first_of lane) pair ≡ true → (lane.state.endpoint ≡ pair.endpoint)
    × (lane.state.room ≡ true) × (slice_get lane.keys.items 0 ≡ Some (key_of pair))
the_first lane pair h = pick lane.state.room (slice_get lane.keys.items 0) refl refl h
  where
    pick : (room : Bool) (key : Option QueueKey) → lane.state.room ≡ room → slice_get lane.keys.items 0 ≡ key
        → is_the (if room then option_map (pair_at lane.state.endpoint) key else None) pair ≡ true
        → (lane.state.endpoint ≡ pair.endpoint) × (lane.state.room ≡ true)
        × (slice_get lane.keys.items 0 ≡ Some (key_of pair))
    pick true (Some key) e f is =
        let same : pair_at lane.state.endpoint key ≡ pair = is_same pair (pair_at lane.state.endpoint key) is in
        (ap (λ (p : Pair). p.endpoint) same, e, f ∙ ap (λ p. Some (key_of p)) same)
    pick true None e f is = absurd (let no = is in cc)
    pick false key e f is = absurd (let no = is in cc)

pub is_its_first : (lane : Lane) (key : QueueKey) → lane.state.room ≡ true → slice_get lane.keys.items 0 ≡ Some key
    → is_the (first_of lane) (pair_at lane.state.endpoint key) ≡ true
is_its_first lane key room first =
    ap (λ b. is_the (if b then option_map (pair_at lane.state.endpoint) (slice_get lane.keys.items 0) else None)
    (pair_at lane.state.endpoint key)) room
    ∙ ap (λ o. is_the (option_map (pair_at lane.state.endpoint) o) (pair_at lane.state.endpoint key)) first
    ∙ same_itself (pair_at lane.state.endpoint key)

other_lane : (lane : Lane) (pair : Pair) → bytes_eq lane.state.endpoint pair.endpoint ≡ false
    → is_the (first_of lane) pair ≡ false
other_lane lane pair differs = false_from_ne_true (is_the (first_of lane) pair) (λ is.
    both_ways (bytes_eq lane.state.endpoint pair.endpoint) differs
    ((bytes_decides lane.state.endpoint pair.endpoint).1 (the_first lane pair is).0))

-- the first pair of a lane is among the first ones
pub is_among : (lanes : List Lane) (firsts : List Pair) (len capacity : ℕ) (endpoint : List ℕ) (lane : Lane)
    → IsQueue lanes firsts len capacity → lane_in lanes endpoint ≡ Some lane
    → (pair : Pair) → is_the (first_of lane) pair ≡ true → list_any (same_pair pair) firsts ≡ true
is_among lanes firsts len capacity endpoint lane q at pair is =
    let name : endpoint ≡ pair.endpoint = sym (lane_named lanes endpoint lane at) ∙ (the_first lane pair is).0 in
    q.firsts pair ∙ ap (λ o. option_map_or (λ l. is_the (first_of l) pair) o false) (ap (lane_in lanes) (sym name) ∙ at)
    ∙ is

pub first_held : (lanes : List Lane) (firsts : List Pair) (len capacity : ℕ) (endpoint : List ℕ) (lane : Lane)
    → IsQueue lanes firsts len capacity → lane_in lanes endpoint ≡ Some lane
    → (first : Option Pair) → first ≡ first_of lane → IfSome first (λ pair. IsTrue (list_any (same_pair pair) firsts))
first_held lanes firsts len capacity endpoint lane q at None is = tt
first_held lanes firsts len capacity endpoint lane q at (Some pair) is =
    is_among lanes firsts len capacity endpoint lane q at pair (ap (λ o. is_the o pair) (sym is) ∙ same_itself pair)

-- of the pairs of an endpoint none but its lane's first one is among the first ones
pub own_held : (lanes : List Lane) (firsts : List Pair) (len capacity : ℕ) (endpoint : List ℕ) (lane new : Lane)
    → IsQueue lanes firsts len capacity → lane_in lanes endpoint ≡ Some lane
    → new.state.endpoint ≡ lane.state.endpoint → (before after : Option Pair) → before ≡ first_of lane
    → after ≡ first_of new → IfSome after (λ pair. list_any (same_pair pair) firsts ≡ is_the before pair)
own_held lanes firsts len capacity endpoint lane new q at keeps before None b a = tt
own_held lanes firsts len capacity endpoint lane new q at keeps before (Some pair) b a =
    let name : endpoint ≡ pair.endpoint = sym (lane_named lanes endpoint lane at) ∙ sym keeps
    ∙ (the_first new pair (ap (λ o. is_the o pair) (sym a) ∙ same_itself pair)).0 in
    q.firsts pair ∙ ap (λ o. option_map_or (λ l. is_the (first_of l) pair) o false) (ap (lane_in lanes) (sym name) ∙ at)
    ∙ ap (λ o. is_the o pair) (sym b)

-- One lane is changed, and the first pair of it is renewed

changed : (lanes : List Lane) (firsts : List Pair) (len capacity : ℕ) (endpoint : List ℕ) (i : ℕ) (held new : Lane)
    (firsts' : List Pair) (len' capacity' : ℕ)
    → IsQueue lanes firsts len capacity → Some i ≡ position (is_of endpoint) lanes → held ≡ slice_index_or lanes i held
    → new.state.endpoint ≡ held.state.endpoint → IsSound new
    → AreInOrder firsts' → Renews (first_of held) (first_of new) firsts firsts'
    → len' + absent (first_of new) ≤ len + absent (first_of held) → capacity' ≡ capacity
    → IsQueue (slice_set lanes i new) firsts' len' capacity'
changed lanes firsts len capacity endpoint i held new firsts' len' capacity' q at is keeps sound order renewed within
    same = record {
      sound = λ name lane found. now_sound name lane (bytes_eq endpoint name) (sym (sets name) ∙ found);
      apart = subst AreApart (sym (kept_map (λ lane. lane.state.endpoint) lanes i held new is own.1 keeps)) q.apart;
      firsts = λ pair. renewed pair ∙ now_first pair (bytes_eq endpoint pair.endpoint) refl
          ∙ sym (ap (λ o. option_map_or (λ l. is_the (first_of l) pair) o false) (sets pair.endpoint));
      order = order;
      within = omega (arith, within, same, q.within, total);
    }
  where
    own : (lane_in lanes endpoint ≡ Some held) × (i < length lanes) × (held.state.endpoint ≡ endpoint)
    own = lane_at lanes endpoint i held at is

    sets : (other : List ℕ)
        → lane_in (slice_set lanes i new) other ≡ (if bytes_eq endpoint other then Some new else lane_in lanes other)
    sets = set_at lanes endpoint i held new at is keeps

    total : sum_by (λ lane. absent (first_of lane)) (slice_set lanes i new) + absent (first_of held) ≡ sum_by
        (λ lane. absent (first_of lane)) lanes + absent (first_of new)
    total = ap (λ (lane : Lane). sum_by (λ lane. absent (first_of lane)) (slice_set lanes i new) + absent
        (first_of lane)) is ∙ sum_by-set (λ lane. absent (first_of lane)) lanes i new held own.1

    now_sound : (name : List ℕ) (lane : Lane) (b : Bool) → (if b then Some new else lane_in lanes name) ≡ Some lane
        → IsSound lane
    now_sound name lane true e = subst IsSound (let this : new ≡ lane = cc in this) sound
    now_sound name lane false e = q.sound name lane e

    replaced : (a b c : Bool) → a ≡ b → ((a && not b) || c) ≡ c
    replaced true true c e = refl
    replaced false b c e = refl
    replaced true false c e = absurd (let no = e in cc)

    untouched : (a b c : Bool) → b ≡ false → c ≡ false → ((a && not b) || c) ≡ a
    untouched true false false e f = refl
    untouched false false false e f = refl
    untouched a true c e f = absurd (let no = e in cc)
    untouched a false true e f = absurd (let no = f in cc)

    now_first : (pair : Pair) (b : Bool) → bytes_eq endpoint pair.endpoint ≡ b
        → ((list_any (same_pair pair) firsts && not (is_the (first_of held) pair)) || is_the (first_of new) pair)
        ≡ option_map_or (λ l. is_the (first_of l) pair) (if b then Some new else lane_in lanes pair.endpoint) false
    now_first pair true e =
        let here : lane_in lanes pair.endpoint ≡ Some held = ap (lane_in lanes)
        (sym ((bytes_decides endpoint pair.endpoint).0 e)) ∙ own.0 in
        replaced (list_any (same_pair pair) firsts) (is_the (first_of held) pair) (is_the (first_of new) pair)
        (q.firsts pair ∙ ap (λ o. option_map_or (λ l. is_the (first_of l) pair) o false) here)
    now_first pair false e =
        untouched (list_any (same_pair pair) firsts) (is_the (first_of held) pair) (is_the (first_of new) pair)
        (other_lane held pair (ap (λ name. bytes_eq name pair.endpoint) own.2 ∙ e))
        (other_lane new pair (ap (λ name. bytes_eq name pair.endpoint) (keeps ∙ own.2) ∙ e))
        ∙ q.firsts pair

pub renewed : (lanes : List Lane) (firsts : List Pair) (len capacity : ℕ) (endpoint : List ℕ) (i : ℕ) (held new : Lane)
    (firsts' : List Pair) (len' capacity' : ℕ) (before after : Option Pair)
    → IsQueue lanes firsts len capacity → Some i ≡ position (is_of endpoint) lanes → held ≡ slice_index_or lanes i held
    → new.state.endpoint ≡ held.state.endpoint → IsSound new
    → before ≡ first_of held → after ≡ first_of new
    → AreInOrder firsts' → Renews before after firsts firsts' → len' + absent after ≤ len + absent before
    → capacity' ≡ capacity
    → IsQueue (slice_set lanes i new) firsts' len' capacity'
renewed lanes firsts len capacity endpoint i held new firsts' len' capacity' before after q at is keeps sound b a order
    renews within same =
    changed lanes firsts len capacity endpoint i held new firsts' len' capacity' q at is keeps sound order
    (subst (λ o. Renews (first_of held) o firsts firsts') a (subst (λ o. Renews o after firsts firsts') b renews))
    (subst (λ o. len' + absent o ≤ len + absent (first_of held)) a
    (subst (λ o. len' + absent after ≤ len + absent o) b within)) same

-- the lane's first pair stays the same
pub kept : (lanes : List Lane) (firsts : List Pair) (len capacity : ℕ) (endpoint : List ℕ) (i : ℕ) (held new : Lane)
    → IsQueue lanes firsts len capacity → Some i ≡ position (is_of endpoint) lanes → held ≡ slice_index_or lanes i held
    → IsSound new
    → new.state.endpoint ≡ held.state.endpoint → new.state.room ≡ held.state.room → new.keys.items ≡ held.keys.items
    → IsQueue (slice_set lanes i new) firsts len capacity
kept lanes firsts len capacity endpoint i held new q at is sound name room keys =
    renewed lanes firsts len capacity endpoint i held new firsts len capacity (first_of held)
    (first_of held) q at is name sound refl same q.order
    (λ other. stays firsts (first_of held) other
    (is_among lanes firsts len capacity endpoint held q (lane_at lanes endpoint i held at is).0 other))
    (omega arith) refl
  where
    same : first_of held ≡ first_of new
    same = sym (λ j. if room j then option_map (pair_at (name j)) (slice_get (keys j) 0) else None)

-- a lane is added, of an endpoint that had none and has no room
pub more : (lanes : List Lane) (firsts : List Pair) (len capacity : ℕ) (new : Lane) (capacity' : ℕ)
    → IsQueue lanes firsts len capacity → lane_in lanes new.state.endpoint ≡ None → IsSound new → new.state.room ≡ false
    → len + (length lanes + 1) ≤ capacity'
    → IsQueue (lanes ++ new ∷ []) firsts len capacity'
more lanes firsts len capacity new capacity' q none sound room fits = record {
  sound = λ name lane found. now_sound name lane (bytes_eq new.state.endpoint name) (sym (added lanes new none name)
      ∙ found);
  apart = apart_added lanes new q.apart none;
  firsts = λ pair. q.firsts pair ∙ now_first pair (bytes_eq new.state.endpoint pair.endpoint) refl
      ∙ sym (ap (λ o. option_map_or (λ l. is_the (first_of l) pair) o false) (added lanes new none pair.endpoint));
  order = q.order;
  within = omega (
    arith,
    fits,
    sum_by_push (λ lane. absent (first_of lane)) lanes new,
    at_most (first_of new),
    sum_by-le (λ lane. absent (first_of lane)) 1 lanes (λ k d below. at_most (first_of (slice_index_or lanes k d))),
  );
}
  where
    at_most : (o : Option Pair) → absent o ≤ 1
    at_most None = omega arith
    at_most (Some pair) = omega arith

    nothing : first_of new ≡ None
    nothing = ap (λ b. if b then option_map (pair_at new.state.endpoint) (slice_get new.keys.items 0) else None) room

    now_sound : (name : List ℕ) (lane : Lane) (b : Bool) → (if b then Some new else lane_in lanes name) ≡ Some lane
        → IsSound lane
    now_sound name lane true e = subst IsSound (let this : new ≡ lane = cc in this) sound
    now_sound name lane false e = q.sound name lane e

    now_first : (pair : Pair) (b : Bool) → bytes_eq new.state.endpoint pair.endpoint ≡ b
        → option_map_or (λ l. is_the (first_of l) pair) (lane_in lanes pair.endpoint) false ≡ option_map_or
        (λ l. is_the (first_of l) pair) (if b then Some new else lane_in lanes pair.endpoint) false
    now_first pair true e =
        ap (λ o. option_map_or (λ l. is_the (first_of l) pair) o false)
        (ap (lane_in lanes) (sym ((bytes_decides new.state.endpoint pair.endpoint).0 e)) ∙ none)
        ∙ sym (ap (λ o. is_the o pair) nothing)
    now_first pair false e = refl

-- which pairs are held then: `op` tells it of the lane
pub now_held : (lanes : List Lane) (endpoint : List ℕ) (i : ℕ) (held new : Lane) (key : QueueKey) (op : Bool → Bool
    → Bool)
    → AreApart (names_of lanes) → Some i ≡ position (is_of endpoint) lanes → held ≡ slice_index_or lanes i held
    → new.state.endpoint ≡ held.state.endpoint
    → ((a : Bool) → op a false ≡ a)
    → ((other : QueueKey) → has_key new other ≡ op (has_key held other) (same_key other key))
    → (pair : Pair) → is_held (queue_of (slice_set lanes i new)) pair ≡ op (is_held (queue_of lanes) pair)
    (same_pair pair (pair_of endpoint key.due key.seq))
now_held lanes endpoint i held new key op apart at is keeps none keys pair =
    held_is (slice_set lanes i new)
    (subst AreApart (sym (kept_map (λ lane. lane.state.endpoint) lanes i held new is own.1 keeps)) apart) pair
    ∙ ap has (set_at lanes endpoint i held new at is keeps pair.endpoint)
    ∙ pick (bytes_eq endpoint pair.endpoint) refl
    ∙ ap (λ b. op b (same_pair pair (pair_of endpoint key.due key.seq))) (sym (held_is lanes apart pair))
  where
    own : (lane_in lanes endpoint ≡ Some held) × (i < length lanes) × (held.state.endpoint ≡ endpoint)
    own = lane_at lanes endpoint i held at is

    has : Option Lane → Bool
    has o = option_map_or (λ lane. has_key lane (key_of pair)) o false

    with_name : (s d : Bool) → (s && d) ≡ (s && (d && true))
    with_name true true = refl
    with_name true false = refl
    with_name false d = refl

    without : (s d : Bool) → (s && (d && false)) ≡ false
    without true true = refl
    without true false = refl
    without false d = refl

    pick : (b : Bool) → bytes_eq endpoint pair.endpoint ≡ b → has (if b then Some new else lane_in lanes pair.endpoint)
        ≡ op (has (lane_in lanes pair.endpoint)) (same_pair pair (pair_of endpoint key.due key.seq))
    pick true same =
        keys (key_of pair)
        ∙ ap (λ o. op (has o) (same_key (key_of pair) key))
        (sym (ap (lane_in lanes) (sym ((bytes_decides endpoint pair.endpoint).0 same)) ∙ own.0))
        ∙ ap (op (has (lane_in lanes pair.endpoint))) (with_name (nat_eq key.seq pair.seq) (nat_eq key.due pair.due)
        ∙ ap (λ b. nat_eq key.seq pair.seq && (nat_eq key.due pair.due && b)) (sym same))
    pick false differs =
        sym (ap (op (has (lane_in lanes pair.endpoint)))
        (ap (λ b. nat_eq key.seq pair.seq && (nat_eq key.due pair.due && b)) differs
        ∙ without (nat_eq key.seq pair.seq) (nat_eq key.due pair.due)) ∙ none (has (lane_in lanes pair.endpoint)))

-- what is kept of each endpoint then
pub state_now : (lanes : List Lane) (endpoint : List ℕ) (i : ℕ) (held new : Lane)
    → Some i ≡ position (is_of endpoint) lanes → held ≡ slice_index_or lanes i held → new.state.endpoint
    ≡ held.state.endpoint
    → (other : List ℕ) → lane_state_in (map (λ lane. lane.state) (slice_set lanes i new)) other
    ≡ (if bytes_eq endpoint other then Some new.state else lane_state_in (map (λ lane. lane.state) lanes) other)
state_now lanes endpoint i held new at is keeps other = grind (
  arith,
  state_is (slice_set lanes i new) other,
  set_at lanes endpoint i held new at is keeps other,
  state_is lanes
      other,
)

pub state_at : (lanes : List Lane) (endpoint : List ℕ) (lane : Lane) → lane_in lanes endpoint ≡ Some lane
    → lane_state_in (map (λ lane. lane.state) lanes) endpoint ≡ Some lane.state
state_at lanes endpoint lane at = state_is lanes endpoint ∙ ap (option_map (λ lane. lane.state)) at

pub state_changed : (lanes : List Lane) (endpoint : List ℕ) (i : ℕ) (held new : Lane) (change : LaneState → LaneState)
    → Some i ≡ position (is_of endpoint) lanes → held ≡ slice_index_or lanes i held
    → new.state.endpoint ≡ held.state.endpoint → new.state ≡ change held.state
    → (other : List ℕ) → lane_state_in (map (λ lane. lane.state) (slice_set lanes i new)) other
    ≡ (if bytes_eq endpoint other then option_map change (lane_state_in (map (λ lane. lane.state) lanes) other) else
    lane_state_in
    (map (λ lane. lane.state) lanes) other)
state_changed lanes endpoint i held new change at is keeps changes other =
    grind (
      arith,
      state_now lanes endpoint i held new at is keeps other,
      bytes_decides endpoint other,
      lane_at lanes endpoint i held at is,
      state_at,
    )

-- Which is next

-- of the keys of a lane none comes before the first
none_earlier : (keys : List QueueKey) (key : QueueKey) → IsInOrder keys → list_any (same_key key) keys ≡ true
    → (first : QueueKey) × (slice_get keys 0 ≡ Some first) × (comes_before key first ≡ false)
none_earlier [] key order h = absurd (let no = h in cc)
none_earlier (t ∷ ts) key order h = at (Any-from_list_any (same_key key) (t ∷ ts) h)
  where
    itself : (a : QueueKey) → comes_before a a ≡ false
    itself a = from_not_before a a (record { due = omega arith; tie = λ same. omega arith })

    at : (k : ℕ) × (x : QueueKey) × (k < length (t ∷ ts)) × (slice_index_or (t ∷ ts) k x ≡ x) × (same_key key x ≡ true)
        → (first : QueueKey) × (slice_get (t ∷ ts) 0 ≡ Some first) × (comes_before key first ≡ false)
    at (zero, x, within, is, same) =
        (t, refl, subst (λ a. comes_before a t ≡ false) (is ∙ is_same_key key x same) (itself t))
    at (suc k, x, within, is, same) = (
      t,
      refl,
      subst (λ a. comes_before a t ≡ false) (is ∙ is_same_key key x same)
          (one_way t (slice_index_or (t ∷ ts) (suc k) x) (order 0 (suc k) x (omega arith) within)),
    )

-- of the first pairs none comes before the first
none_before : (pairs : List Pair) (pair : Pair) → AreInOrder pairs → list_any (same_pair pair) pairs ≡ true
    → (first : Pair) × (slice_get pairs 0 ≡ Some first) × (comes_before (key_of pair) (key_of first) ≡ false)
none_before [] pair order h = absurd (let no = h in cc)
none_before (p ∷ ps) pair order h = at (Any-from_list_any (same_pair pair) (p ∷ ps) h)
  where
    itself : (a : QueueKey) → comes_before a a ≡ false
    itself a = from_not_before a a (record { due = omega arith; tie = λ same. omega arith })

    at : (k : ℕ) × (x : Pair) × (k < length (p ∷ ps)) × (slice_index_or (p ∷ ps) k x ≡ x) × (same_pair pair x ≡ true)
        → (first : Pair) × (slice_get (p ∷ ps) 0 ≡ Some first) × (comes_before (key_of pair) (key_of first) ≡ false)
    at (zero, x, within, is, same) = (
      p,
      refl,
      subst (λ a. comes_before (key_of a) (key_of p) ≡ false) (is ∙ is_same pair x same)
          (itself (key_of p)),
    )
    at (suc k, x, within, is, same) = (
      p,
      refl,
      subst (λ a. comes_before (key_of a) (key_of p) ≡ false) (is ∙ is_same pair x same)
          (order 0 (suc k) x (omega arith) within).0,
    )

-- a state is found where its lane is
lane_of_state : (lanes : List Lane) (endpoint : List ℕ) → has_room_in (map (λ lane. lane.state) lanes) endpoint ≡ true
    → (lane : Lane) × (lane_in lanes endpoint ≡ Some lane) × (lane.state.room ≡ true)
lane_of_state lanes endpoint h = pick (lane_in lanes endpoint) refl
    (sym (ap (λ o. option_map_or (λ m. m.room) o false) (state_is lanes endpoint)) ∙ h)
  where
    pick : (o : Option Lane) → lane_in lanes endpoint ≡ o
        → option_map_or (λ m. m.room) (option_map (λ lane. lane.state) o) false ≡ true → (lane : Lane)
        × (lane_in lanes endpoint ≡ Some lane) × (lane.state.room ≡ true)
    pick None e f = absurd (let no = f in cc)
    pick (Some lane) e f = (lane, e, f)

-- the first of the first pairs is no later than any that is ready
pub ready_behind : (lanes : List Lane) (firsts : List Pair) (len capacity now : ℕ) (other : Pair)
    → IsQueue lanes firsts len capacity → is_ready (queue_of lanes) now other ≡ true
    → (first : Pair) × (slice_get firsts 0 ≡ Some first) × IsNoLater first other
ready_behind lanes firsts len capacity now other q ready =
    at (lane_of_state lanes other.endpoint
    (and_parts (nat_le other.due now) (has_room_in (map (λ lane. lane.state) lanes) other.endpoint) parts.1).1)
  where
    parts : (is_held (queue_of lanes) other ≡ true) × (is_ready_by (map (λ lane. lane.state) lanes) now other ≡ true)
    parts = and_parts (is_held (queue_of lanes) other) (is_ready_by (map (λ lane. lane.state) lanes) now other) ready

    at : (lane : Lane) × (lane_in lanes other.endpoint ≡ Some lane) × (lane.state.room ≡ true) → (first : Pair)
        × (slice_get firsts 0 ≡ Some first) × IsNoLater first other
    at (lane, here, room) =
        from (none_earlier lane.keys.items (key_of other) (q.sound other.endpoint lane here).order
        (sym (held_is lanes q.apart other ∙ ap (λ o. option_map_or (λ l. has_key l (key_of other)) o false) here)
        ∙ parts.0))
      where
        from : (key : QueueKey) × (slice_get lane.keys.items 0 ≡ Some key) × (comes_before (key_of other) key ≡ false)
            → (first : Pair) × (slice_get firsts 0 ≡ Some first) × IsNoLater first other
        from (key, is, later) =
            let own = pair_at lane.state.endpoint key in
            behind (none_before firsts own q.order (is_among lanes firsts len capacity other.endpoint lane q here own
            (is_its_first lane key room is)))
          where
            through : (first : Pair) → IsNotBefore key (key_of first) → IsNotBefore (key_of other) key
                → IsNoLater first other
            through first a b = record { due = omega (arith, a.due, b.due); tie = λ same. tie a b same }
              where
                tie : IsNotBefore key (key_of first) → IsNotBefore (key_of other) key → first.due ≡ other.due
                    → first.seq ≤ other.seq
                tie a b same =
                    let one : key.due ≡ first.due = omega (arith, a.due, b.due, same) in
                    let two : other.due ≡ key.due = omega (arith, a.due, b.due, same) in
                    omega (arith, a.tie one, b.tie two)

            behind : (first : Pair) × (slice_get firsts 0 ≡ Some first) × (comes_before key (key_of first) ≡ false)
                → (first : Pair) × (slice_get firsts 0 ≡ Some first) × IsNoLater first other
            behind (first, at, none) = (
              first,
              at,
              through first (not_before key (key_of first) none)
                  (not_before (key_of other) key later),
            )

-- the first of the first pairs is ready once it is due
pub first_ready : (lanes : List Lane) (firsts : List Pair) (len capacity now : ℕ) (pair : Pair)
    → IsQueue lanes firsts len capacity → slice_get firsts 0 ≡ Some pair → pair.due ≤ now
    → is_ready (queue_of lanes) now pair ≡ true
first_ready lanes firsts len capacity now pair q at due = pick (lane_in lanes pair.endpoint) refl
    (sym (q.firsts pair) ∙ held)
  where
    held : list_any (same_pair pair) firsts ≡ true
    held = list_any_at (same_pair pair) firsts 0 pair (slice_get_within firsts 0 pair at)
        (ap (same_pair pair) (get_or_from_slice_get firsts 0 pair pair at) ∙ same_itself pair)

    pick : (o : Option Lane) → lane_in lanes pair.endpoint ≡ o → option_map_or (λ l. is_the (first_of l) pair) o false
        ≡ true → is_ready (queue_of lanes) now pair ≡ true
    pick None e f = absurd (let no = f in cc)
    pick (Some lane) e f =
        let first = the_first lane pair f in
        and_from (is_held (queue_of lanes) pair) (is_ready_by (map (λ lane. lane.state) lanes) now pair)
        (held_is lanes q.apart pair ∙ ap (λ o. option_map_or (λ l. has_key l (key_of pair)) o false) e
        ∙ list_any_at (same_key (key_of pair)) lane.keys.items 0 (key_of pair)
        (slice_get_within lane.keys.items 0 (key_of pair) first.2)
        (ap (same_key (key_of pair)) (get_or_from_slice_get lane.keys.items 0 (key_of pair) (key_of pair) first.2)
        ∙ same_key_itself (key_of pair)))
        (and_from (nat_le pair.due now) (has_room_in (map (λ lane. lane.state) lanes) pair.endpoint)
        (le-leb pair.due now due)
        (ap (λ o. option_map_or (λ m. m.room) o false) (state_at lanes pair.endpoint lane e) ∙ first.1))

pub no_state : (lanes : List Lane) (endpoint : List ℕ) → lane_in lanes endpoint ≡ None
    → lane_state_in (map (λ lane. lane.state) lanes) endpoint ≡ None
no_state lanes endpoint none = state_is lanes endpoint ∙ ap (option_map (λ lane. lane.state)) none

pub held_in : (lanes : List Lane) (lane : Lane) (pair : Pair) → AreApart (names_of lanes)
    → lane_in lanes pair.endpoint ≡ Some lane → is_held (queue_of lanes) pair ≡ has_key lane (key_of pair)
held_in lanes lane pair apart at = held_is lanes apart pair
    ∙ ap (λ o. option_map_or (λ l. has_key l (key_of pair)) o false) at

pub held_in_none : (lanes : List Lane) (pair : Pair) → AreApart (names_of lanes) → lane_in lanes pair.endpoint ≡ None
    → is_held (queue_of lanes) pair ≡ false
held_in_none lanes pair apart none = held_is lanes apart pair
    ∙ ap (λ o. option_map_or (λ l. has_key l (key_of pair)) o false) none

pub some_map : {X Y : Type 0} (f : X → Y) (o : Option X) → is_some (option_map f o) ≡ is_some o
some_map f None = refl
some_map f (Some x) = refl

-- Places

pub free_at : (lanes : List Lane) (endpoint : List ℕ) (lane : Lane) → lane_in lanes endpoint ≡ Some lane
    → free_in (map (λ lane. lane.state) lanes) endpoint ≡ lane.state.free
free_at lanes endpoint lane at = ap (λ o. option_map_or (λ m. m.free) o 0) (state_at lanes endpoint lane at)

pub none_free : (lanes : List Lane) (endpoint : List ℕ) → lane_in lanes endpoint ≡ None
    → free_in (map (λ lane. lane.state) lanes) endpoint ≡ 0
none_free lanes endpoint none = ap (λ o. option_map_or (λ m. m.free) o 0) (no_state lanes endpoint none)

pub none_reserved : (lanes : List Lane) (endpoint : List ℕ) → lane_in lanes endpoint ≡ None
    → is_some (lane_state_in (map (λ lane. lane.state) lanes) endpoint) ≡ true → ⊥
none_reserved lanes endpoint none some = let clash = sym (ap is_some (no_state lanes endpoint none)) ∙ some in cc

pub free_set : (lanes : List Lane) (endpoint : List ℕ) (i : ℕ) (held new : Lane)
    → Some i ≡ position (is_of endpoint) lanes → held ≡ slice_index_or lanes i held → new.state.endpoint
    ≡ held.state.endpoint
    → free_in (map (λ lane. lane.state) (slice_set lanes i new)) endpoint ≡ new.state.free
free_set lanes endpoint i held new at is keeps =
    ap (λ o. option_map_or (λ m. m.free) o 0) (state_now lanes endpoint i held new at is keeps endpoint
    ∙ ap (λ b. if b then Some new.state else lane_state_in (map (λ lane. lane.state) lanes) endpoint)
    ((bytes_decides endpoint endpoint).1 refl))

-- the state is the one that is asked for
sets_state : (states states' : List LaneState) (endpoint : List ℕ) (state state' : LaneState) → state ≡ state'
    → state.endpoint ≡ endpoint
    → ((other : List ℕ) → lane_state_in states' other
    ≡ (if bytes_eq endpoint other then Some state else lane_state_in states other))
    → Sets states states' state'
sets_state states states' endpoint state state' same name sets =
    subst (Sets states states') same
    (λ other. sets other ∙ ap (λ n. if bytes_eq n other then Some state else lane_state_in states other) (sym name))

pub reserved_at : (lanes : List Lane) (endpoint : List ℕ) (i more : ℕ) (held new : Lane)
    → Some i ≡ position (is_of endpoint) lanes → held ≡ slice_index_or lanes i held
    → new.state.endpoint ≡ held.state.endpoint → new.state ≡ lane_state_for held.state.endpoint more (Some held.state)
    → Sets (map (λ lane. lane.state) lanes) (map (λ lane. lane.state) (slice_set lanes i new))
    (lane_state_for endpoint more (lane_state_in (map (λ lane. lane.state) lanes) endpoint))
reserved_at lanes endpoint i more held new at is keeps set = grind (
  arith,
  lane_at lanes endpoint i held at is,
  state_now lanes endpoint i held new at is keeps,
  sets_state,
  more,
  state_at,
)

pub reserved_new : (lanes : List Lane) (endpoint : List ℕ) (more : ℕ) (first new : Lane) → lane_in lanes endpoint ≡ None
    → first.state ≡ lane_state_for endpoint 0 None → new.state ≡ lane_state_for first.state.endpoint more
    (Some first.state)
    → Sets (map (λ lane. lane.state) lanes) (map (λ lane. lane.state) (lanes ++ new ∷ []))
    (lane_state_for endpoint more (lane_state_in (map (λ lane. lane.state) lanes) endpoint))
reserved_new lanes endpoint more first new none start set = grind (arith, sets_state, more, no_state, state_is, added)

-- What is seen of it is kept

pub seen_the_same : (lanes : List Lane) (i : ℕ) (held new : Lane) → held ≡ slice_index_or lanes i held
    → i < length lanes → new.state ≡ held.state → new.keys.items ≡ held.keys.items
    → queue_of (slice_set lanes i new) ≡ queue_of lanes
seen_the_same lanes i held new is within state keys = grind (arith, kept_flat, kept_map)

pub same_pairs : (lanes : List Lane) (i : ℕ) (held new : Lane) (pair : Pair) → held ≡ slice_index_or lanes i held
    → i < length lanes → new.state.endpoint ≡ held.state.endpoint → new.keys.items ≡ held.keys.items
    → is_held (queue_of (slice_set lanes i new)) pair ≡ is_held (queue_of lanes) pair
same_pairs lanes i held new pair is within name keys = ap (list_any (same_pair pair))
    (kept_flat pairs_of lanes i held new is within (λ k. map (pair_at (name k)) (keys k)))

-- The one that is next

pub next_is : (lanes : List Lane) (firsts : List Pair) (len capacity now : ℕ) (pair : Pair)
    → IsQueue lanes firsts len capacity → slice_get firsts 0 ≡ Some pair → pair.due ≤ now
    → IsNext (queue_of lanes) now pair.endpoint pair.seq
next_is lanes firsts len capacity now pair q at due = record {
  due = pair.due;
  ready = first_ready lanes firsts len capacity now pair q at due;
  first = λ other ready. from other (ready_behind lanes firsts len capacity now other q ready);
}
  where
    from : (other : Pair) → (first : Pair) × (slice_get firsts 0 ≡ Some first) × IsNoLater first other
        → IsNoLater pair other
    from other (first, is, later) = subst (λ p. IsNoLater p other) (same_Some first pair (sym is ∙ at)) later

pub none_first : (lanes : List Lane) (firsts : List Pair) (len capacity now : ℕ) → IsQueue lanes firsts len capacity
    → slice_get firsts 0 ≡ None → NothingIsReady (queue_of lanes) now
none_first lanes firsts len capacity now q at pair =
    false_from_ne_true (is_ready (queue_of lanes) now pair)
    (λ ready. none-some (ready_behind lanes firsts len capacity now pair q ready).0 (sym at
    ∙ (ready_behind lanes firsts len capacity now pair q ready).1))

pub none_due : (lanes : List Lane) (firsts : List Pair) (len capacity now : ℕ) (first : Pair)
    → IsQueue lanes firsts len capacity → slice_get firsts 0 ≡ Some first → now < first.due
    → NothingIsReady (queue_of lanes) now
none_due lanes firsts len capacity now first q at later pair = false_from_ne_true (is_ready (queue_of lanes) now pair)
    (λ ready. clash ready (ready_behind lanes firsts len capacity now pair q ready))
  where
    clash : is_ready (queue_of lanes) now pair ≡ true → (first : Pair) × (slice_get firsts 0 ≡ Some first)
        × IsNoLater first pair → ⊥
    clash ready (other, is, before) =
        let parts = and_parts (is_held (queue_of lanes) pair) (is_ready_by (map (λ lane. lane.state) lanes) now pair)
        ready in
        let due : pair.due ≤ now = leb-true pair.due now
        (and_parts (nat_le pair.due now) (has_room_in (map (λ lane. lane.state) lanes) pair.endpoint) parts.1).0 in
        let same : other.due ≡ first.due = ap (λ (p : Pair). p.due) (same_Some other first (sym is ∙ at)) in
        omega (arith, due, before.due, same, later)
