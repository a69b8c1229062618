-- What the book keeps: an entry for each event, in the order in which they were taken in, and the outcomes that wait.
use Rattle.std.specs.Prelude.{◌≡◌, ℕ, ◌+◌, ◌≤◌, ◌&&◌, ◌||◌, ◌==◌, not, Bool, true, false, nat_le, nat_lt, List, [], ◌∷◌}
use Rattle.std.specs.Prelude.{◌++◌}
use Rattle.std.specs.Prelude.{length, map, Option, Some, None, is_some, option_map, bytes_eq, filter, filter_map, find}
use Rattle.std.specs.Prelude.{count_by, max, IsTrue, if◌then◌else◌}
use Rattle.std.specs.List.{AllByRecursion, enumerate_from, list_all, list_any}
use Rattle.std.specs.Option.{option_map_or}
use Rattle.relay_types.specs.declared.limits.TheConstants.{MAX_FAILURES, MAX_RECORDS}
use Rattle.relay_types.specs.declared.record.Record.{Record}
use Rattle.relay_types.specs.declared.state.State.{State}
use Rattle.relay_types.specs.declared.state.State.TheVariants.{Pending, Delivered, Exhausted}
use Rattle.relay_types.specs.Values.{Text, Seq, Seconds}
use Rattle.relay_types.specs.Lists.{last_of}
use Rattle.relay_types.specs.Records.{Attempt, accepted_by}
use Rattle.relay_types.specs.Judging.{is_delivered_status, is_failed_status}
use Rattle.relay_types.specs.Deliveries.{is_in_state, due_after}
use Rattle.delivery_book.specs.declared.entry.Entry.{Entry}
use Rattle.delivery_book.specs.declared.entry.Unsettled.{Unsettled}
use Rattle.delivery_book.specs.declared.row.Row.{Row}
use Rattle.delivery_book.specs.Progress.{Progress}

-- How far a delivery has come

abbrev pub state_by : (is_delivered : Bool) (failures : ℕ) → State
state_by is_delivered failures =
    if is_delivered then Delivered else (
    if nat_le MAX_FAILURES failures then Exhausted else Pending)

abbrev pub state_in : Progress → State
state_in p = state_by p.is_delivered p.failures

-- the moment of the next attempt, while one is to come
abbrev pub due_by : (is_delivered : Bool) (failures : ℕ) (due : Seconds) → Option Seconds
due_by is_delivered failures due = if is_in_state Pending (state_by is_delivered failures) then Some due else None

abbrev pub failed_among : List Attempt → ℕ
failed_among attempts = count_by (λ a. is_failed_status a.status) attempts

abbrev pub is_delivered_among : List Attempt → Bool
is_delivered_among attempts = list_any (λ a. is_delivered_status a.status) attempts

-- after these attempts at an event of this moment
abbrev pub progress_of : (at : Seconds) → List Attempt → Progress
progress_of at attempts = record {
  attempts = length attempts;
  failures = failed_among attempts;
  is_delivered = is_delivered_among attempts;
  due = due_by (is_delivered_among attempts) (failed_among attempts)
      (option_map_or (λ last. due_after last (failed_among attempts)) (last_of attempts) at);
  last_status = option_map (λ a. a.status) (last_of attempts);
  last_at = option_map (λ a. a.at) (last_of attempts);
}

-- after so many attempts, of which this was the last
abbrev pub progress_with : (last : Attempt) (is_delivered : Bool) (failures attempts : ℕ) → Progress
progress_with last is_delivered failures attempts = record {
  attempts = attempts;
  failures = failures;
  is_delivered = is_delivered;
  due = due_by is_delivered failures (due_after last failures);
  last_status = Some last.status;
  last_at = Some last.at;
}

-- after one more attempt, whatever its number
abbrev pub progress_after : (status : ℕ) (at : Seconds) → Progress → Progress
progress_after status at p =
    progress_with (record { number = 0; status = status; at = at })
    (p.is_delivered || is_delivered_status status)
    (p.failures + (if is_failed_status status then 1 else 0))
    (p.attempts + 1)

-- whether the delivery has ended, by an attempt before this moment
abbrev pub is_done_before : (moment : Seconds) → Progress → Bool
is_done_before moment p =
    not (is_in_state Pending (state_in p)) && option_map_or (λ at. nat_lt at moment) p.last_at false

-- Entries

-- whether no Purge took the delivery
abbrev pub is_kept : Entry → Bool
is_kept entry = not (is_some entry.taken_by)

-- whether no Purge below this number took it
abbrev pub is_left : Seq → Entry → Bool
is_left seq entry = option_map_or (nat_le seq) entry.taken_by true

-- whether the delivery is pending, and none of its outcomes waits to be settled
abbrev pub is_open : Entry → Bool
is_open entry = is_in_state Pending (state_in entry.latest) && entry.latest.attempts == entry.settled.attempts

-- the delivery as told where it has come this far
abbrev pub row_in : Progress → Entry → Row
row_in progress entry = record {
  endpoint = entry.name;
  id = entry.id;
  at = entry.at;
  attempts = progress.attempts;
  state = state_in progress;
  due = progress.due;
  last_status = progress.last_status;
}

-- the entry of an event that the record with this number takes in
abbrev pub new_entry : (seq : Seq) (name id body : Text) (at : Seconds) → Entry
new_entry seq name id body at = record {
  seq = seq;
  name = name;
  id = id;
  body = body;
  at = at;
  latest = progress_of at [];
  settled = progress_of at [];
  taken_by = None;
}

-- the entry of an event before any attempt
abbrev pub event_by : (Seq × Record) → Option Entry
event_by e = option_map (λ a. new_entry e.0 a.endpoint a.id a.body a.at) (accepted_by e.1)

-- the events among records of which the first has this number
abbrev pub events_from : Seq → List Record → List Entry
events_from seq records = filter_map event_by (enumerate_from seq records)

abbrev pub with_attempt : (status : ℕ) (at : Seconds) → Entry → Entry
with_attempt status at entry = record entry { latest = progress_after status at entry.latest }

abbrev pub with_attempt_restored : (status : ℕ) (at : Seconds) → Entry → Entry
with_attempt_restored status at entry = record entry {
  latest = progress_after status at entry.latest;
  settled = progress_after status at entry.latest;
}

abbrev pub with_latest_settled : Entry → Entry
with_latest_settled entry = record entry { settled = entry.latest }

-- the entry, changed where it is that of this delivery, or of one of these outcomes
abbrev pub at_delivery : (d : Seq) (change : Entry → Entry) → Entry → Entry
at_delivery d change entry = if d == entry.seq then change entry else entry

abbrev pub at_outcomes : List Unsettled → (change : Entry → Entry) → Entry → Entry
at_outcomes outcomes change entry =
    if list_any (λ o. o.delivery == entry.seq) outcomes then change entry else entry

-- whether the entry is of this endpoint and id
abbrev pub is_entry_as : (name id : Text) → Entry → Bool
is_entry_as name id entry = bytes_eq entry.name name && bytes_eq entry.id id

-- the entry, taken by the Purge of this number if it has ended before this moment, and none took it yet
abbrev pub marked : (seq : Seq) (moment : Seconds) → Entry → Entry
marked seq moment entry =
    if is_kept entry && is_done_before moment entry.latest then record entry { taken_by = Some seq } else entry

-- the entry of this number, and if no Purge took it
abbrev pub entry_at : List Entry → Seq → Option Entry
entry_at entries seq = find (λ entry. entry.seq == seq) entries

abbrev pub kept_at : List Entry → Seq → Option Entry
kept_at entries seq = find (λ entry. entry.seq == seq && is_kept entry) entries

-- The book

-- the entries, the outcomes that wait, the least number that the next record may have, and the number below which the
-- records are settled
pub record BookValue : Type 0 where
  pub entries : List Entry
  pub unsettled : List Unsettled
  pub next_seq : Seq
  pub settled_seq : Seq

abbrev pub empty_book : BookValue
empty_book = record { entries = []; unsettled = []; next_seq = 0; settled_seq = 0 }

-- the number of the event that the endpoint knows by this id, by all records and by the settled ones, which no settled
-- Purge took
abbrev pub known_in : BookValue → (name id : Text) → Option Seq
known_in book name id =
    option_map (λ entry. entry.seq) (find (λ entry. is_entry_as name id entry && is_kept entry) book.entries)

abbrev pub is_settled_as : (name id : Text) (settled : Seq) → Entry → Bool
is_settled_as name id settled entry =
    is_entry_as name id entry && (nat_lt entry.seq settled && is_left settled entry)

abbrev pub known_settled_in : BookValue → (name id : Text) → Option Seq
known_settled_in book name id =
    option_map (λ entry. entry.seq)
    (find (is_settled_as name id book.settled_seq) book.entries)

-- whether the delivery is pending, and none of its outcomes waits to be settled
abbrev pub takes_outcome : BookValue → (delivery : Seq) → Bool
takes_outcome book delivery = option_map_or is_open (entry_at book.entries delivery) false

-- no two entries are of one delivery
abbrev pub HasOneEach : BookValue → Type 0
HasOneEach book = (delivery : Seq) → count_by (λ entry. entry.seq == delivery) book.entries ≤ 1

-- the entry has come as far by the settled records as by all, unless one of these outcomes is of its delivery
abbrev pub IsCaughtUp : List Unsettled → Entry → Type 0
IsCaughtUp outcomes entry = list_any (λ o. o.delivery == entry.seq) outcomes ≡ false → entry.latest ≡ entry.settled

-- the outcome is of a delivery that no earlier Purge took
abbrev pub is_of_left : List Entry → Unsettled → Bool
is_of_left entries o = option_map_or (is_left o.seq) (entry_at entries o.delivery) false

-- whether it has ended, if a Purge took it
abbrev pub is_ended : Entry → Bool
is_ended entry = is_kept entry || not (is_in_state Pending (state_in entry.latest))

-- Each delivery has a number below that of the next record, and one without an outcome that waits has come as far by
-- the settled records as by all. An outcome that waits is of a delivery that no earlier Purge took, and what a Purge
-- took has ended.
pub record IsInStep (book : BookValue) : Type 0 where
  pub numbered : IsTrue (list_all (λ entry. nat_lt entry.seq book.next_seq) book.entries)
  pub caught_up : AllByRecursion (IsCaughtUp book.unsettled) book.entries
  pub left : IsTrue (list_all (is_of_left book.entries) book.unsettled)
  pub ended : IsTrue (list_all is_ended book.entries)

-- the delivery as all records have it, and as the settled ones have it
abbrev pub latest_row : BookValue → (delivery : Seq) → Option Row
latest_row book delivery = option_map (λ e. row_in e.latest e) (kept_at book.entries delivery)

abbrev pub settled_row : BookValue → (delivery : Seq) → Option Row
settled_row book delivery =
    if nat_lt delivery book.settled_seq then option_map (λ e. row_in e.settled e) (entry_at book.entries delivery) else
    None

-- how many deliveries of the endpoint are pending, as all records have it
abbrev pub is_pending_of : (name : Text) → Entry → Bool
is_pending_of name entry = bytes_eq entry.name name && is_in_state Pending (state_in entry.latest)

abbrev pub pending_in : BookValue → (name : Text) → ℕ
pending_in book name = count_by (is_pending_of name) book.entries

-- the delivery of an outcome with this number, where it is the first that waits
abbrev pub first_outcome : Seq → List Unsettled → Option Seq
first_outcome seq [] = None
first_outcome seq (o ∷ rest) = if o.seq == seq then Some o.delivery else None

-- the delivery that is concerned where the next record is settled
abbrev pub next_settled : BookValue → Option Seq
next_settled book =
    if is_some (entry_at book.entries book.settled_seq) then Some book.settled_seq
    else first_outcome book.settled_seq book.unsettled

-- whether an outcome of it can be restored: nothing is settled, nothing waits, and there is room to count one more
-- attempt
abbrev pub has_room_for_attempt : Entry → Bool
has_room_for_attempt entry = is_open entry && nat_lt entry.latest.attempts MAX_RECORDS

abbrev pub may_restore : BookValue → (delivery : Seq) → Bool
may_restore book delivery = book.settled_seq == 0 && (length book.unsettled == 0
    && option_map_or has_room_for_attempt (entry_at book.entries delivery) false)

-- the book with one more event, by the record with this number
abbrev pub with_event : BookValue → (seq : Seq) (name id body : Text) (at : Seconds) → BookValue
with_event book seq name id body at = record book {
  entries = book.entries ++ new_entry seq name id body at ∷ [];
  next_seq = seq + 1;
}

-- the book with the events among these records, of which the first has this number
abbrev pub with_events : BookValue → (seq : Seq) → List Record → BookValue
with_events book seq records = record book {
  entries = book.entries ++ events_from seq records;
  next_seq = seq + length records;
}

-- the book with one more outcome of this delivery
abbrev pub with_outcome : BookValue → (seq delivery : Seq) (status : ℕ) (at : Seconds) → BookValue
with_outcome book seq delivery status at = record book {
  entries = map (at_delivery delivery (with_attempt status at)) book.entries;
  unsettled = book.unsettled ++ record { seq = seq; delivery = delivery } ∷ [];
  next_seq = seq + 1;
}

-- the book with one more outcome of this delivery, which is settled
abbrev pub with_outcome_restored : BookValue → (delivery : Seq) (status : ℕ) (at : Seconds) → BookValue
with_outcome_restored book delivery status at = record book {
  entries = map (at_delivery delivery (with_attempt_restored status at)) book.entries;
}

-- the book with a Purge of this number, which takes what has ended before the moment
abbrev pub with_purge : BookValue → (seq : Seq) (moment : Seconds) → BookValue
with_purge book seq moment = record book {
  entries = map (marked seq moment) book.entries;
  next_seq = seq + 1;
}

-- the outcomes in front that are below this number, and those after them
abbrev pub front_below : Seq → List Unsettled → List Unsettled
front_below seq [] = []
front_below seq (o ∷ rest) = if nat_lt o.seq seq then o ∷ front_below seq rest else []

abbrev pub rest_from : Seq → List Unsettled → List Unsettled
rest_from seq [] = []
rest_from seq (o ∷ rest) = if nat_lt o.seq seq then rest_from seq rest else o ∷ rest

-- the book in which the events below this number are settled, but none of the outcomes that wait
abbrev pub with_events_settled : BookValue → Seq → BookValue
with_events_settled book seq = record book { next_seq = max book.next_seq seq; settled_seq = seq }

-- the book in which the first of these outcomes is settled, if its number is below the settled one
abbrev pub settle_first : BookValue → List Unsettled → Option BookValue
settle_first book [] = None
settle_first book (o ∷ rest) =
    if nat_lt o.seq book.settled_seq then Some (record book {
      entries = map (at_delivery o.delivery with_latest_settled) book.entries;
      unsettled = rest;
    }) else None

-- the book in which these outcomes are settled, as far as their numbers are below the settled one
abbrev pub settle_all : BookValue → List Unsettled → BookValue
settle_all book outcomes = record book {
  entries = map (at_outcomes (front_below book.settled_seq outcomes) with_latest_settled) book.entries;
  unsettled = rest_from book.settled_seq outcomes;
}

-- the book that has given up what the Purges below this number took
abbrev pub without_taken : BookValue → Seq → BookValue
without_taken book seq = record book { entries = filter (is_left seq) book.entries }

-- the book whose records below this number are settled
abbrev pub with_settled : BookValue → Seq → BookValue
with_settled book seq = without_taken (settle_all (with_events_settled book seq) book.unsettled) seq
