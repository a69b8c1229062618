-- How the deliveries are kept: a lane of each endpoint, and the first pairs of those that have room. What holds of
-- them.
use Rattle.std.specs.Prelude.{◌≡◌, ℕ, ◌+◌, ◌≤◌, Bool, false, not, ◌&&◌, ◌||◌, nat_eq, nat_lt, bytes_eq, List, [], ◌∷◌}
use Rattle.std.specs.Prelude.{Option, Some, None, map, is_some, option_map, find, sum_by, IsTrue, if◌then◌else◌, ⊤}
use Rattle.std.specs.List.{AllPairs, flat_map, list_any, slice_get}
use Rattle.std.specs.Option.{option_map_or}
use Rattle.std.specs.VecDeque.{deque_len, deque_capacity}
use Rattle.relay_types.specs.Values.{Text, Seq}
use Rattle.claim_queue.specs.declared.lanes.Lane.{Lane}
use Rattle.claim_queue.specs.declared.pairs.Pair.{Pair}
use Rattle.claim_queue.specs.declared.pairs.QueueKey.{QueueKey}
use Rattle.claim_queue.specs.Queues.{QueueValue, is_state_of, same_pair}

-- Keys

abbrev pub key_of : Pair → QueueKey
key_of pair = record { due = pair.due; seq = pair.seq }

abbrev pub pair_at : (endpoint : Text) → QueueKey → Pair
pair_at endpoint key = record { endpoint = endpoint; due = key.due; seq = key.seq }

abbrev pub same_key : QueueKey → QueueKey → Bool
same_key a b = nat_eq b.seq a.seq && nat_eq b.due a.due

abbrev pub is_key_numbered : (seq : Seq) → QueueKey → Bool
is_key_numbered seq key = nat_eq key.seq seq

-- due earlier, or at the same moment with a smaller number
abbrev pub comes_before : QueueKey → QueueKey → Bool
comes_before a b = nat_lt a.due b.due || (nat_eq a.due b.due && nat_lt a.seq b.seq)

-- each comes before those after it
abbrev pub IsInOrder : List QueueKey → Type 0
IsInOrder keys = AllPairs (λ a b. IsTrue (comes_before a b)) keys

-- Lanes

-- its keys are in order, and there is memory for them and for its free places
pub record IsSound (lane : Lane) : Type 0 where
  pub order : IsInOrder lane.keys.items
  pub within : deque_len lane.keys + lane.state.free ≤ deque_capacity lane.keys

abbrev pub has_key : Lane → QueueKey → Bool
has_key lane key = list_any (same_key key) lane.keys.items

abbrev pub pairs_of : Lane → List Pair
pairs_of lane = map (pair_at lane.state.endpoint) lane.keys.items

abbrev pub is_of : (endpoint : Text) → Lane → Bool
is_of endpoint lane = is_state_of endpoint lane.state

abbrev pub lane_in : List Lane → (endpoint : Text) → Option Lane
lane_in lanes endpoint = find (is_of endpoint) lanes

abbrev pub names_of : List Lane → List Text
names_of lanes = map (λ lane. lane.state.endpoint) lanes

-- no name stands twice
abbrev pub AreApart : List Text → Type 0
AreApart [] = ⊤
AreApart (name ∷ names) = (list_any (λ other. bytes_eq other name) names ≡ false) × AreApart names

-- what the queue is seen as
abbrev pub queue_of : List Lane → QueueValue
queue_of lanes = record { pairs = flat_map pairs_of lanes; states = map (λ lane. lane.state) lanes }

-- First pairs

-- the first pair of an endpoint that has room
abbrev pub first_of : Lane → Option Pair
first_of lane = if lane.state.room then option_map (pair_at lane.state.endpoint) (slice_get lane.keys.items 0) else None

abbrev pub is_the : Option Pair → Pair → Bool
is_the first pair = option_map_or (same_pair pair) first false

-- the first pair of its endpoint, which has room
abbrev pub is_first : List Lane → Pair → Bool
is_first lanes pair = option_map_or (λ lane. is_the (first_of lane) pair) (lane_in lanes pair.endpoint) false

-- 1 where there is none
abbrev pub absent : Option Pair → ℕ
absent first = if is_some first then 0 else 1

-- none comes before one that stands before it, and none stands twice
abbrev pub AreInOrder : List Pair → Type 0
AreInOrder firsts = AllPairs (λ a b. (comes_before (key_of b) (key_of a) ≡ false) × (same_pair a b ≡ false)) firsts

-- of the pairs the old first one of an endpoint is gone, and the new one is held
abbrev pub Renews : (old new : Option Pair) (before after : List Pair) → Type 0
Renews old new before after = (other : Pair) → list_any (same_pair other) after
    ≡ ((list_any (same_pair other) before && not (is_the old other)) || is_the new other)

-- each endpoint has one lane, the first pairs are those of the lanes, and there is memory for one of each lane
pub record IsQueue (lanes : List Lane) (pairs : List Pair) (len capacity : ℕ) : Type 0 where
  pub sound : (endpoint : Text) (lane : Lane) → lane_in lanes endpoint ≡ Some lane → IsSound lane
  pub apart : AreApart (names_of lanes)
  pub firsts : (pair : Pair) → list_any (same_pair pair) pairs ≡ is_first lanes pair
  pub order : AreInOrder pairs
  pub within : len + sum_by (λ lane. absent (first_of lane)) lanes ≤ capacity
