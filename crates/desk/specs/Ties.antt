-- What ties the permits, the limits and the queue of a desk to its books. No world is named here: this holds of the
-- fields whatever they stand for.
use Rattle.std.specs.Prelude.{◌≡◌, ℕ, ◌+◌, ◌≤◌, Bool, false, ◌&&◌, ◌==◌, not, nat_le, nat_lt, List, [], ◌∷◌, ◌++◌}
use Rattle.std.specs.Prelude.{length, map, Option, Some, None, find, is_some, unwrap_or, option_map, option_and_then}
use Rattle.std.specs.Prelude.{count_by, bytes_eq, IsTrue, if◌then◌else◌}
use Rattle.std.specs.List.{list_all}
use Rattle.std.specs.Option.{option_map_or}
use Rattle.relay_types.specs.declared.limits.TheConstants.{MAX_RECORDS}
use Rattle.relay_types.specs.declared.state.State.TheVariants.{Pending}
use Rattle.relay_types.specs.Values.{Text, Seq}
use Rattle.relay_types.specs.Deliveries.{is_in_state}
use Rattle.vegas.specs.declared.sample.Sample.{Sample}
use Rattle.vegas.specs.Vegas.{limit_of, noload_of, probes_of}
use Rattle.vegas.specs.Estimators.{StandsFor as StandsForSamples}
use Rattle.retry_table.specs.declared.post.PostResult.{PostResult}
use Rattle.retry_table.specs.Judging.{measure_of}
use Rattle.permits.specs.declared.row.Row.{Row}
use Rattle.permits.specs.Rows.{in_flight_of, is_out}
use Rattle.endpoint_book.specs.Book.{enabled_in}
use Rattle.endpoint_book.specs.Entries as endpoint_entries
use Rattle.endpoint_book.specs.declared.entry.Entry.{Entry as EndpointEntry}
use Rattle.delivery_book.specs.declared.entry.Entry.{Entry}
use Rattle.delivery_book.specs.Entries as delivery_entries
use Rattle.delivery_book.specs.declared.entry.Unsettled.{Unsettled}
use Rattle.delivery_book.specs.declared.row.Row.{Row as BookRow}
use Rattle.delivery_book.specs.Entries.{entry_at, is_open, row_in, state_in, settled_row, takes_outcome}
use Rattle.claim_queue.specs.declared.pairs.Pair.{Pair}
use Rattle.claim_queue.specs.Queues.{QueueValue, Gains, Loses, ChangesState, place_taken, place_given, pair_of, is_held}
use Rattle.claim_queue.specs.Queues.{is_reserved, has_room_in, free_places}
use Rattle.group_commit.specs.declared.limits.TheConstants.{MAX_WAITING_OUTCOMES}
use Rattle.group_commit.specs.Steps.{outcomes_in}
use Rattle.group_commit.specs.Waits.{WaitingValue, record_count}
use Rattle.desk.specs.declared.limiter.Limiter.{Limiter}

-- Limits

abbrev pub is_limiter_of : (name : Text) → Limiter → Bool
is_limiter_of name limiter = bytes_eq limiter.endpoint name

abbrev pub limiter_of : List Limiter → (name : Text) → Option Limiter
limiter_of limiters name = find (is_limiter_of name) limiters

-- the limit of an endpoint; one that isn't there has none
abbrev pub limit_by : List Limiter → (name : Text) → ℕ
limit_by limiters name = option_map_or (λ l. l.estimator.state.limit) (limiter_of limiters name) 0

-- an endpoint and its maximum
abbrev pub bound_by : Limiter → Text × ℕ
bound_by l = (l.endpoint, l.estimator.maximum)

abbrev pub bound_of : EndpointEntry → Text × ℕ
bound_of e = (e.name, e.max)

-- each endpoint of the book has its own limiter, with its maximum, in their order
abbrev pub AreLimiters : List Limiter → endpoint_entries.BookValue → Type 0
AreLimiters limiters book = map bound_by limiters ≡ map bound_of book.entries

-- the limiter of an endpoint without samples
abbrev pub new_limiter : (name : Text) (max : ℕ) → Limiter
new_limiter name max = record {
  endpoint = name;
  estimator = record {
    maximum = max;
    state = record { limit = limit_of max []; noload = noload_of max []; probes = probes_of max [] };
    base = record { limit = limit_of max []; noload = noload_of max []; probes = probes_of max [] };
    last = [];
  };
}

-- the limiter of the endpoint stands for these samples; one that isn't there has none
abbrev pub StandsBy : Option Limiter → List Sample → Type 0
StandsBy None samples = samples ≡ []
StandsBy (Some l) samples = StandsForSamples l.estimator samples

abbrev pub StandsAt : List Limiter → (name : Text) → List Sample → Type 0
StandsAt limiters name samples = StandsBy (limiter_of limiters name) samples

-- what a post with this row tells of the endpoint
abbrev pub samples_at : (name : Text) → Row → PostResult → List Sample
samples_at name row post =
    if bytes_eq row.endpoint name then
    option_map_or (λ m. record { rtt = m.rtt; inflight = row.inflight; dropped = m.dropped } ∷ []) (measure_of post) []
    else []

-- the limiter of the row's endpoint has seen its post, and the others are as before
pub record AreSampled (old new : List Limiter) (row : Row) (post : PostResult) : Type 0 where
  pub same : map bound_by new ≡ map bound_by old
  pub follows : (name : Text) (samples : List Sample) → StandsAt old name samples
      → StandsAt new name (samples ++ samples_at name row post)
  pub others : (name : Text) → bytes_eq row.endpoint name ≡ false → limiter_of new name ≡ limiter_of old name

-- whether the endpoint is enabled and its limit allows one more attempt
abbrev pub room_by : endpoint_entries.BookValue → List Limiter → List Row → (name : Text) → Bool
room_by book limiters live name = enabled_in book name && nat_lt (in_flight_of name live) (limit_by limiters name)

-- the queue knows which endpoint has room, those of all permits that are out among them
pub record KnowsRooms (queue : QueueValue) (book : endpoint_entries.BookValue) (limiters : List Limiter)
    (live : List Row) : Type 0 where
  pub listed : IsTrue (list_all (λ row. endpoint_entries.is_known book row.endpoint) live)
  pub known : (name : Text) → IsTrue (endpoint_entries.is_known book name) → IsTrue (is_reserved queue name)
  pub rooms : (name : Text) → IsTrue (is_reserved queue name)
      → has_room_in queue.states name ≡ room_by book limiters live name

-- Attempts

-- the endpoint of a delivery
abbrev pub endpoint_at : delivery_entries.BookValue → (delivery : Seq) → Option Text
endpoint_at book d = option_map (λ e. e.name) (entry_at book.entries d)

-- each delivery that the later book has is one of the same endpoint
abbrev pub HasSameNames : (old new : delivery_entries.BookValue) → Type 0
HasSameNames old new =
    (delivery : Seq) → IsTrue (is_some (endpoint_at new delivery)) → endpoint_at new delivery ≡ endpoint_at old delivery

-- the delivery of the entry as the settled records have it, if it is below their number
abbrev pub row_if_settled : (settled : Seq) → Entry → Option BookRow
row_if_settled settled e = if nat_lt e.seq settled then Some (row_in e.settled e) else None

-- whether the delivery of the row is settled, pending and without an outcome that waits
abbrev pub is_entry_of : Row → Entry → Bool
is_entry_of row e = is_open e && (is_some e.settled.due && bytes_eq e.name row.endpoint)

abbrev pub is_under_way : delivery_entries.BookValue → Row → Bool
is_under_way book row =
    nat_lt row.delivery book.settled_seq && option_map_or (is_entry_of row) (entry_at book.entries row.delivery) false

pub record AreUnderWay (live : List Row) (book : delivery_entries.BookValue) : Type 0 where
  pub each : IsTrue (list_all (is_under_way book) live)
  pub once : (d : Seq) → count_by (λ row. row.delivery == d) live ≤ 1

-- the numbers of these outcomes rise, from this one on and below that one
abbrev pub rises : (from upto : Seq) → List Unsettled → Bool
rises from upto [] = nat_le from upto
rises from upto (o ∷ rest) = nat_le from o.seq && rises (o.seq + 1) upto rest

-- whether the attempts of its delivery tell of an outcome that waits
abbrev pub is_told : delivery_entries.BookValue → Unsettled → Bool
is_told book o = option_map_or (λ e. not (e.latest.attempts == e.settled.attempts)) (entry_at book.entries o.delivery)
    false

-- whether the number of the outcome is that of no delivery
abbrev pub is_own : delivery_entries.BookValue → Unsettled → Bool
is_own book o = not (is_some (entry_at book.entries o.seq))

-- the outcomes that wait stand in the order of their numbers, which no delivery has, and at most one of a delivery
-- waits
pub record AreApart (book : delivery_entries.BookValue) : Type 0 where
  pub in_turn : IsTrue (rises book.settled_seq book.next_seq book.unsettled)
  pub told : IsTrue (list_all (is_told book) book.unsettled)
  pub own : IsTrue (list_all (is_own book) book.unsettled)
  pub once : (d : Seq) → count_by (λ o. o.delivery == d) book.unsettled ≤ 1

-- The queue

-- whether the delivery waits for its next attempt: it is settled and pending, no outcome of it waits, and none of its
-- permits is out
abbrev pub is_idle : (settled : Seq) (live : List Row) → Entry → Bool
is_idle settled live e = nat_lt e.seq settled && (is_open e && not (is_out e.seq live))

-- whether the pair names the entry's endpoint and its settled due moment
abbrev pub is_pair_of : Pair → Entry → Bool
is_pair_of pair e = bytes_eq e.name pair.endpoint && option_map_or (λ due. due == pair.due) e.settled.due false

abbrev pub waits_as : delivery_entries.BookValue → (live : List Row) → Pair → Bool
waits_as book live pair =
    option_map_or (λ e. is_idle book.settled_seq live e && is_pair_of pair e) (entry_at book.entries pair.seq) false

-- the queue holds just the deliveries that wait for their next attempt
abbrev pub AreHeld : QueueValue → delivery_entries.BookValue → (live : List Row) → Type 0
AreHeld queue book live = (pair : Pair) → is_held queue pair ≡ waits_as book live pair

-- the pair of the entry's delivery
abbrev pub own_pair : Entry → Pair
own_pair e = pair_of e.name (unwrap_or e.settled.due 0) e.seq

-- whether the entry's delivery is one of the endpoint that is pending and isn't held
abbrev pub is_unheld : QueueValue → (name : Text) → Entry → Bool
is_unheld queue name e = bytes_eq e.name name
    && (is_in_state Pending (state_in e.latest) && not (is_held queue (own_pair e)))

-- the queue has a free place for each pending delivery that it doesn't hold
abbrev pub HasPlaces : QueueValue → delivery_entries.BookValue → Type 0
HasPlaces queue book = (name : Text) → count_by (is_unheld queue name) book.entries ≤ free_places queue name

-- what ties the queue to the deliveries
pub record AreQueued (queue : QueueValue) (book : delivery_entries.BookValue) (live : List Row) : Type 0 where
  pub apart : AreApart book
  pub under_way : AreUnderWay live book
  pub held : AreHeld queue book live
  pub places : HasPlaces queue book

-- Steps of the queue

-- the pair of a settled delivery that is pending, and of one without an outcome that waits
abbrev pub pair_in : delivery_entries.BookValue → (delivery : Seq) → Option Pair
pair_in book d = option_and_then (λ row. option_map (λ due. pair_of row.endpoint due d) row.due) (settled_row book d)

abbrev pub idle_pair : delivery_entries.BookValue → (delivery : Seq) → Option Pair
idle_pair book d = if takes_outcome book d then pair_in book d else None

-- the pair is held from now on, in a place of its endpoint; where there is none, nothing changes
pub record HoldsPair (old new : QueueValue) (pair : Pair) : Type 0 where
  pub pairs : Gains old new pair
  pub state : ChangesState old new pair.endpoint place_taken

abbrev pub Holds : (old new : QueueValue) → Option Pair → Type 0
Holds old new None = new ≡ old
Holds old new (Some pair) = HoldsPair old new pair

-- the pair is held no more, and its place is free; where there is none, nothing changes
pub record LetsPairGo (old new : QueueValue) (pair : Pair) : Type 0 where
  pub pairs : Loses old new pair
  pub state : ChangesState old new pair.endpoint place_given
  pub place : free_places new pair.endpoint ≡ free_places old pair.endpoint + 1

abbrev pub LetsGo : (old new : QueueValue) → Option Pair → Type 0
LetsGo old new None = new ≡ old
LetsGo old new (Some pair) = LetsPairGo old new pair

-- the same endpoints are in the queue, and the same of them have room
pub record KeepsRooms (old new : QueueValue) : Type 0 where
  pub reserved : (name : Text) → is_reserved new name ≡ is_reserved old name
  pub rooms : (name : Text) → has_room_in new.states name ≡ has_room_in old.states name

-- the same endpoints have room, and each has as many free places at least
abbrev pub HasSameRooms : (old new : QueueValue) → Type 0
HasSameRooms old new = (name : Text) → has_room_in new.states name ≡ has_room_in old.states name

abbrev pub KeepsPlaces : (old new : QueueValue) → Type 0
KeepsPlaces old new = (name : Text) → free_places old name ≤ free_places new name

-- Desks

-- each attempt has a place and a number for its outcome
pub record HasRoomForAll (waiting : WaitingValue) (live : List Row) : Type 0 where
  pub places : outcomes_in waiting.waiting + length live ≤ MAX_WAITING_OUTCOMES
  pub numbers : record_count waiting + length live ≤ MAX_RECORDS

pub record AreTied (endpoints : endpoint_entries.BookValue) (deliveries : delivery_entries.BookValue)
    (waiting : WaitingValue) (live : List Row) (limiters : List Limiter) (queue : QueueValue) : Type 0 where
  pub limited : AreLimiters limiters endpoints
  pub room : HasRoomForAll waiting live
  pub lanes : KnowsRooms queue endpoints limiters live
  pub queued : AreQueued queue deliveries live
