-- What ties a desk's fields stays so as an event for a topic waits.
use Rattle.desk.proofs.Words.{◌≡◌, ℕ, suc, ◌+◌, ◌<◌, ◌≤◌, false, List, [], ◌∷◌, ◌++◌, Some, length, max, take, get_or}
use Rattle.desk.proofs.Words.{refl, sym, ◌∙◌, ap, subst, arith, cond, ◌&&◌, append_assoc, is_some, option_map_or}
use Rattle.desk.proofs.Words.{if◌then◌else◌, by_option, bytes_eq, bytes_eq-Decides, count_by, count_by_snoc, Record}
use Rattle.desk.proofs.Words.{Accept, records_of, MAX_RECORDS, Pending, is_in_state, BookValue, HasWaiting}
use Rattle.desk.proofs.Words.{is_pending_of, new_entry, pending_in, state_in, with_event, HasChanges, WaitingValue}
use Rattle.desk.proofs.Words.{outcomes_in, record_count, with_step, Row, Limiter, QueueValue, HasSamePairs, SetsState}
use Rattle.desk.proofs.Words.{lane_state_of, reserved_state, AreTied, endpoint_at, IsDesk}
use Rattle.std.specs.Prelude.{◌≢◌, All, AllPairs}
use Rattle.std.proofs.lemmas.List.Elements.{All-more, All-weaker}
use Rattle.relay_types.specs.Steps.{accepts as event_accepts}
use Rattle.claim_queue.specs.Queues.{IsReservedFor, lane_state_for}
use Rattle.claim_queue.specs.declared.lane_state.LaneState.{LaneState}
use Rattle.endpoint_book.specs.Entries as endpoint_entries
use Rattle.delivery_book.specs.Entries.{events_from, with_events}
use Rattle.group_commit.specs.Steps.{is_outcome_record}
use Rattle.desk.specs.Desks.{HasMorePlaces, HasPlaceFor}
use Rattle.desk.proofs.DeskLaws.{one_more, records_of-snoc, records_of-step}
use Rattle.desk.proofs.RequestTies.{by_name, is_still_reserved, places_reserved, queued_reserved, reserved_free}
use Rattle.desk.proofs.RequestTies.{reserved_named, reserved_own, room_is, room_reserved}
use Rattle.desk.proofs.SettleLaws.{desk_accept}

-- texts that differ aren't equal by their bytes
pub differ : (a b : List ℕ) → a ≢ b → bytes_eq a b ≡ false
differ a b other = by_name a b (λ same. absurd (other same)) (λ apart. apart)

-- Places

same_lane_state : (m : LaneState) (more : ℕ) → more ≤ m.free → record m { free = max m.free more } ≡ m
same_lane_state m more enough = let same : max m.free more ≡ m.free = omega (arith, enough)
    in λ i. record m { free = same i }

-- an endpoint with so many free places keeps its lane's state
kept_lane_state : (queue : QueueValue) (name : List ℕ) (more : ℕ) → IsReservedFor queue name more
    → SetsState queue queue (reserved_state queue name more)
kept_lane_state queue name more h = by_option (lane_state_of queue name)
    (λ none. let there = h.reserved in absurd (grind (arith, none, there)))
    (λ m there.
    let enough : more ≤ m.free = subst (λ o. more ≤ option_map_or (λ (x : LaneState). x.free) o 0) there h.free in
    let same : reserved_state queue name more ≡ m = ap (lane_state_for name more) there ∙ same_lane_state m more enough
    in
    λ n. by_name name n
    (λ own. ap (lane_state_of queue) (sym own) ∙ there ∙ ap Some (sym same)
    ∙ ap (λ b. if b then Some (reserved_state queue name more) else lane_state_of queue n)
    (sym ((bytes_eq-Decides (reserved_state queue name more).endpoint n).1 (reserved_named queue name more ∙ own))))
    (λ apart. ap (λ b. if b then Some (reserved_state queue name more) else lane_state_of queue n)
    (sym (ap (λ text. bytes_eq text n) (reserved_named queue name more) ∙ apart))))

-- Places are made for one endpoint after another

pub more_first : (queue : QueueValue) → HasMorePlaces queue queue
more_first queue = record {
  pairs = λ pair. refl;
  rooms = λ n. refl;
  reserved = λ n there. there;
  places = λ n. omega arith;
}

-- places for one more endpoint
pub more_then : (first queue new : QueueValue) (name : List ℕ) (more : ℕ) → HasSamePairs queue new
    → SetsState queue new (reserved_state queue name more) → HasMorePlaces first queue → HasMorePlaces first new
more_then first queue new name more same sets was = record {
  pairs = λ pair. same pair ∙ was.pairs pair;
  rooms = λ n. room_reserved queue new name n more sets ∙ was.rooms n;
  reserved = λ n there. is_still_reserved queue new name n more sets (was.reserved n there);
  places = λ n. let kept = places_reserved queue new name more sets n in omega (arith, was.places n, kept);
}

place_kept : (queue new : QueueValue) (book : BookValue) (name n : List ℕ) (more : ℕ)
    → SetsState queue new (reserved_state queue name more)
    → HasPlaceFor queue book n → HasPlaceFor new book n
place_kept queue new book name n more sets h = record {
  reserved = is_still_reserved queue new name n more sets h.reserved;
  free = let kept = places_reserved queue new name more sets n in omega (arith, h.free, kept);
}

place_made : (queue new : QueueValue) (book : BookValue) (name : List ℕ)
    → SetsState queue new (reserved_state queue name (pending_in book name + 1)) → HasPlaceFor new book name
place_made queue new book name sets = record {
  reserved = ap is_some (reserved_own queue new name (pending_in book name + 1) sets);
  free = reserved_free queue new name (pending_in book name + 1) sets;
}

-- the endpoints before this place in the list have a place, and one more
pub each_then : (queue new : QueueValue) (book : BookValue) (names : List (List ℕ)) (place pending : ℕ)
    (name : List ℕ) → pending ≡ pending_in book name
    → name ≡ get_or names place name → place < length names
    → SetsState queue new (reserved_state queue name (pending + 1))
    → All (HasPlaceFor queue book) (take place names) → All (HasPlaceFor new book) (take (place + 1) names)
each_then queue new book names place pending name counted is within sets was =
    All-more (HasPlaceFor new book) names place name within
    (All-weaker (HasPlaceFor queue book) (HasPlaceFor new book)
    (λ n. place_kept queue new book name n (pending + 1) sets) (take place names) was)
    (subst (HasPlaceFor new book) is
    (place_made queue new book name (subst (λ n. SetsState queue new (reserved_state queue name (n + 1))) counted
    sets)))

-- the desk with more places
tied_places : {endpoints : endpoint_entries.BookValue} {deliveries : BookValue} {waiting : WaitingValue}
    {live : List Row} {limiters : List Limiter} {queue new : QueueValue} → HasMorePlaces queue new
    → AreTied endpoints deliveries waiting live limiters queue → AreTied endpoints deliveries waiting live limiters new
tied_places {endpoints} {deliveries} {waiting} {live} {limiters} {queue} {new} more h = record {
  limited = h.limited;
  room = h.room;
  lanes = record {
    listed = h.lanes.listed;
    known = λ n k. more.reserved n (h.lanes.known n k);
    rooms = λ n there. more.rooms n ∙ room_is queue endpoints limiters live n h.limited h.lanes;
  };
  queued = queued_reserved queue new deliveries live more.pairs more.places h.queued;
}

pub desk_places : {endpoints : endpoint_entries.BookValue} {deliveries : BookValue} {waiting : WaitingValue}
    {live : List Row} {limiters : List Limiter} {queue new : QueueValue} → HasMorePlaces queue new
    → IsDesk endpoints deliveries waiting live limiters queue → IsDesk endpoints deliveries waiting live limiters new
desk_places more h = assumption (tied_places more h.tied)

-- The event waits at one endpoint after another

-- the same records that wait, in other steps
recut : {endpoints : endpoint_entries.BookValue} {deliveries : BookValue} {waiting later : WaitingValue}
    {live : List Row} {limiters : List Limiter} {queue : QueueValue} → later.settled ≡ waiting.settled
    → records_of later.waiting ≡ records_of waiting.waiting
    → IsDesk endpoints deliveries waiting live limiters queue → IsDesk endpoints deliveries later live limiters queue
recut {endpoints} {deliveries} {waiting} {later} {live} {limiters} {queue} settled records h =
    let count : record_count later ≡ record_count waiting = λ i. settled i + length (records i) in
    let outcomes : outcomes_in later.waiting ≡ outcomes_in waiting.waiting = ap (count_by is_outcome_record) records in
    record {
      endpoints_staged = omega (arith, h.endpoints_staged, count);
      endpoints_settled = h.endpoints_settled ∙ sym settled;
      flags_few = h.flags_few;
      endpoints_wait = subst (HasChanges (endpoint_at deliveries) endpoints) (sym records) h.endpoints_wait;
      deliveries_staged = omega (arith, h.deliveries_staged, count);
      deliveries_settled = h.deliveries_settled ∙ sym settled;
      deliveries_wait = subst (HasWaiting deliveries) (sym records) h.deliveries_wait;
      tied = record {
        limited = h.tied.limited;
        room = record {
          places = omega (arith, h.tied.room.places, outcomes);
          numbers = omega (arith, h.tied.room.numbers, count);
        };
        lanes = h.tied.lanes;
        queued = h.tied.queued;
      };
    }

-- an event of another endpoint leaves its place enough
place_other : (queue : QueueValue) (book : BookValue) (seq : ℕ) (name n id body : List ℕ) (at : ℕ)
    → bytes_eq name n ≡ false
    → HasPlaceFor queue book n → HasPlaceFor queue (with_event book seq name id body at) n
place_other queue book seq name n id body at other h =
    let x = new_entry seq name id body at in
    let pushed = count_by_snoc (is_pending_of n) book.entries x in
    let none : cond (is_pending_of n x) 1 0 ≡ 0 =
    ap {B = ℕ} (λ b. cond (b && is_in_state Pending (state_in x.latest)) 1 0) other in
    let same : pending_in (with_event book seq name id body at) n ≡ pending_in book n = omega (arith, pushed, none) in
    subst (λ pending. IsReservedFor queue n (pending + 1)) (sym same) h

-- the event waits at the first endpoint
desk_first : {endpoints : endpoint_entries.BookValue} {deliveries : BookValue} {waiting : WaitingValue}
    {live : List Row} {limiters : List Limiter} {queue : QueueValue} (seq : ℕ) (name id body : List ℕ) (at : ℕ)
    → seq ≡ record_count waiting → record_count waiting + length live < MAX_RECORDS → HasPlaceFor queue deliveries name
    → IsDesk endpoints deliveries waiting live limiters queue
    → IsDesk endpoints (with_event deliveries seq name id body at) (with_step waiting (Accept name id body at ∷ []))
    live limiters queue
desk_first {deliveries = deliveries} {queue = queue} seq name id body at count numbers place h =
    desk_accept seq name id body body at (pending_in deliveries name) count refl refl refl refl numbers (λ pair. refl)
    (kept_lane_state queue name (pending_in deliveries name + 1) place) h

desk_each : {endpoints : endpoint_entries.BookValue} {deliveries : BookValue} {waiting : WaitingValue}
    {live : List Row} {limiters : List Limiter} {queue : QueueValue} (seq : ℕ) (name : List ℕ) (names : List (List ℕ))
    (id body : List ℕ) (at : ℕ) (later : WaitingValue)
    → seq ≡ record_count waiting → record_count waiting + length live + length (name ∷ names) ≤ MAX_RECORDS
    → AllPairs (λ a b. a ≢ b) (name ∷ names) → All (HasPlaceFor queue deliveries) (name ∷ names)
    → later.settled ≡ waiting.settled
    → records_of later.waiting ≡ records_of waiting.waiting ++ event_accepts (name ∷ names) id body at
    → IsDesk endpoints deliveries waiting live limiters queue
    → IsDesk endpoints (with_events deliveries seq (event_accepts (name ∷ names) id body at)) later live limiters queue
desk_each {endpoints} {deliveries} {waiting} {live} {limiters} {queue} seq name [] id body at later count numbers apart
    places settled records h =
    recut settled (records ∙ sym (records_of-snoc waiting.waiting (Accept name id body at)))
    (desk_first seq name id body at count (omega (arith, numbers)) (places 0 name (omega arith)) h)
desk_each {endpoints} {deliveries} {waiting} {live} {limiters} {queue} seq name
    (other ∷ rest) id body at later count numbers apart places settled records h =
    subst (λ book. IsDesk endpoints book later live limiters queue) same
    (desk_each {deliveries = with_event deliveries seq name id body at} {waiting = with_step waiting (a ∷ [])}
    (seq + 1) other rest id body at later (omega (arith, count, one_more waiting a))
    (omega (arith, numbers, one_more waiting a))
    (λ i j d below within. apart (suc i) (suc j) d (omega (arith, below)) (omega (arith, within)))
    (λ k d within. place_other queue deliveries seq name _ id body at
    (differ name _ (apart 0 (suc k) d (omega arith) (omega (arith, within))))
    (places (suc k) d (omega (arith, within))))
    settled more
    (desk_first seq name id body at count (omega (arith, numbers)) (places 0 name (omega arith)) h))
  where
    a : Record
    a = Accept name id body at

    others : List Record
    others = event_accepts (other ∷ rest) id body at

    more : records_of later.waiting ≡ records_of (with_step waiting (a ∷ [])).waiting ++ others
    more =
        records ∙ sym (append_assoc (records_of waiting.waiting) (a ∷ []) others)
        ∙ ap (λ rs. rs ++ others) (sym (records_of-snoc waiting.waiting a))

    next : seq + 1 + length others ≡ seq + length (a ∷ others)
    next = omega arith

    same : with_events (with_event deliveries seq name id body at) (seq + 1) others
        ≡ with_events deliveries seq (a ∷ others)
    same i = record deliveries {
      entries = append_assoc deliveries.entries (new_entry seq name id body at ∷ []) (events_from (seq + 1) others) i;
      next_seq = next i;
    }

-- the event waits at all of them, in one step
pub desk_publish : {endpoints : endpoint_entries.BookValue} {deliveries taken : BookValue}
    {waiting later : WaitingValue}
    {live : List Row} {limiters : List Limiter} {queue new : QueueValue} (seq : ℕ) (names : List (List ℕ))
    (id body : List ℕ) (at : ℕ) (step : List Record)
    → seq ≡ record_count waiting → taken ≡ with_events deliveries seq (event_accepts names id body at)
    → step ≡ event_accepts names id body at → later ≡ with_step waiting step → 0 < length names
    → record_count waiting + length live + length names ≤ MAX_RECORDS → AllPairs (λ a b. a ≢ b) names
    → HasMorePlaces queue new → All (HasPlaceFor new deliveries) names
    → IsDesk endpoints deliveries waiting live limiters queue → IsDesk endpoints taken later live limiters new
desk_publish seq [] id body at step count is made waits some numbers apart more places h = absurd (omega (arith, some))
desk_publish {endpoints} {deliveries} {taken} {waiting} {later} {live} {limiters} {queue} {new} seq
    (name ∷ names) id body at step count is made waits some numbers apart more places h =
    subst (λ book. IsDesk endpoints book later live limiters new) (sym is)
    (desk_each seq name names id body at later count numbers apart places
    (ap (λ (w : WaitingValue). w.settled) waits)
    (ap (λ (w : WaitingValue). records_of w.waiting) waits ∙ records_of-step waiting.waiting step
    ∙ ap (λ rs. records_of waiting.waiting ++ rs) made)
    (desk_places more h))
