-- What a queue is seen as, what each call makes of it, and which pair is next. The order of its two lists means
-- nothing: all that is said of a queue is said by which pairs it holds (`is_held`) and what is kept of which endpoint
-- (`lane_state_of`).
use Rattle.std.specs.Prelude.{◌≡◌, ℕ, ◌+◌, ◌-◌, ◌≤◌, max, Bool, false, not, ◌&&◌, ◌||◌, nat_eq, nat_le, bytes_eq, List}
use Rattle.std.specs.Prelude.{[], Option, Some, None, is_some, option_map, find, IsTrue, if◌then◌else◌}
use Rattle.std.specs.List.{list_any}
use Rattle.std.specs.Option.{option_map_or}
use Rattle.relay_types.specs.Values.{Text, Seq, Seconds}
use Rattle.claim_queue.specs.declared.lane_state.LaneState.{LaneState}
use Rattle.claim_queue.specs.declared.pairs.Pair.{Pair}

-- the deliveries that wait, and what is kept of each endpoint
pub record QueueValue : Type 0 where
  pub pairs : List Pair
  pub states : List LaneState

abbrev pub empty_queue : QueueValue
empty_queue = record { pairs = []; states = [] }

-- The deliveries that wait

abbrev pub pair_of : (endpoint : Text) (due : Seconds) (seq : Seq) → Pair
pair_of endpoint due seq = record { endpoint = endpoint; due = due; seq = seq }

-- the same number, due moment and endpoint
abbrev pub same_pair : Pair → Pair → Bool
same_pair a b = nat_eq b.seq a.seq && (nat_eq b.due a.due && bytes_eq b.endpoint a.endpoint)

abbrev pub is_held : QueueValue → Pair → Bool
is_held q pair = list_any (same_pair pair) q.pairs

-- no pair of this number is held
abbrev pub IsNew : QueueValue → Seq → Type 0
IsNew q seq = (endpoint : Text) (due : Seconds) → is_held q (pair_of endpoint due seq) ≡ false

-- the same pairs are held; one more; one less
abbrev pub HasSamePairs : (old new : QueueValue) → Type 0
HasSamePairs old new = (pair : Pair) → is_held new pair ≡ is_held old pair

abbrev pub Gains : (old new : QueueValue) (gained : Pair) → Type 0
Gains old new gained = (pair : Pair) → is_held new pair ≡ (is_held old pair || same_pair pair gained)

abbrev pub Loses : (old new : QueueValue) (lost : Pair) → Type 0
Loses old new lost = (pair : Pair) → is_held new pair ≡ (is_held old pair && not (same_pair pair lost))

-- What is kept of an endpoint

abbrev pub is_state_of : (endpoint : Text) → LaneState → Bool
is_state_of endpoint m = bytes_eq m.endpoint endpoint

abbrev pub lane_state_in : List LaneState → (endpoint : Text) → Option LaneState
lane_state_in states endpoint = find (is_state_of endpoint) states

abbrev pub lane_state_of : QueueValue → (endpoint : Text) → Option LaneState
lane_state_of q endpoint = lane_state_in q.states endpoint

-- whether places were reserved for it
abbrev pub is_reserved : QueueValue → (endpoint : Text) → Bool
is_reserved q endpoint = is_some (lane_state_of q endpoint)

-- whether it has room; one without a state has none
abbrev pub has_room_in : List LaneState → (endpoint : Text) → Bool
has_room_in states endpoint = option_map_or (λ m. m.room) (lane_state_in states endpoint) false

-- how many of its places are free
abbrev pub free_in : List LaneState → (endpoint : Text) → ℕ
free_in states endpoint = option_map_or (λ m. m.free) (lane_state_in states endpoint) 0

abbrev pub free_places : QueueValue → (endpoint : Text) → ℕ
free_places q endpoint = free_in q.states endpoint

-- this many places are free
pub record IsReservedFor (q : QueueValue) (endpoint : Text) (more : ℕ) : Type 0 where
  pub reserved : IsTrue (is_reserved q endpoint)
  pub free : more ≤ free_places q endpoint

-- the state once this many more can be inserted
abbrev pub lane_state_for : (endpoint : Text) (more : ℕ) → Option LaneState → LaneState
lane_state_for endpoint more None = record { endpoint = endpoint; room = false; free = more }
lane_state_for endpoint more (Some m) = record m { free = max m.free more }

abbrev pub reserved_state : QueueValue → (endpoint : Text) (more : ℕ) → LaneState
reserved_state q endpoint more = lane_state_for endpoint more (lane_state_of q endpoint)

-- the state once a place was taken, once one was given back, and once the room was told
abbrev pub place_taken : LaneState → LaneState
place_taken m = record m { free = m.free - 1 }

abbrev pub place_given : LaneState → LaneState
place_given m = record m { free = m.free + 1 }

abbrev pub with_room : (room : Bool) → LaneState → LaneState
with_room room m = record m { room = room }

-- this is kept of the endpoint that it names, and of each other one what was kept before
abbrev pub Sets : (old new : List LaneState) (state : LaneState) → Type 0
Sets old new state =
    (endpoint : Text) → lane_state_in new endpoint
    ≡ (if bytes_eq state.endpoint endpoint then Some state else lane_state_in old endpoint)

abbrev pub SetsState : (old new : QueueValue) (state : LaneState) → Type 0
SetsState old new state = Sets old.states new.states state

-- what is kept of this endpoint is changed so, and nothing of any other one
abbrev pub ChangesState : (old new : QueueValue) (endpoint : Text) (change : LaneState → LaneState) → Type 0
ChangesState old new endpoint change = (other : Text) → lane_state_of new other
    ≡ (if bytes_eq endpoint other then option_map change (lane_state_of old other) else lane_state_of old other)

-- Which is next

-- due at this moment, and of an endpoint that has room
abbrev pub is_ready_by : List LaneState → (now : Seconds) → Pair → Bool
is_ready_by states now pair = nat_le pair.due now && has_room_in states pair.endpoint

abbrev pub is_ready : QueueValue → (now : Seconds) → Pair → Bool
is_ready q now pair = is_held q pair && is_ready_by q.states now pair

-- not after the other by due moment, nor by number where both are due at one moment
pub record IsNoLater (pair other : Pair) : Type 0 where
  pub due : pair.due ≤ other.due
  pub tie : pair.due ≡ other.due → pair.seq ≤ other.seq

-- the endpoint and the number of a pair that is ready, and no later than each that is
pub record IsNext (q : QueueValue) (now : Seconds) (endpoint : Text) (seq : Seq) : Type 0 where
  pub due : ℕ
  pub ready : IsTrue (is_ready q now (pair_of endpoint due seq))
  pub first : (other : Pair) → IsTrue (is_ready q now other) → IsNoLater (pair_of endpoint due seq) other

abbrev pub NothingIsReady : QueueValue → (now : Seconds) → Type 0
NothingIsReady q now = (pair : Pair) → is_ready q now pair ≡ false
