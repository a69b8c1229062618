-- The histories for which a book stands, and what it tells of them.
use Rattle.std.specs.Prelude.{◌≡◌, ℕ, ◌≤◌, ◌&&◌, ◌==◌, Bool, true, false, List, [], ◌∷◌, ◌++◌, length, take, drop}
use Rattle.std.specs.Prelude.{Option, Some, None, option_map, filter, filter_map, count_by, if◌then◌else◌}
use Rattle.std.specs.List.{enumerate_from}
use Rattle.relay_types.specs.declared.record.Record.{Record}
use Rattle.relay_types.specs.declared.record.Record.TheVariants.{Accept, Outcome, Purge}
use Rattle.relay_types.specs.declared.state.State.{State}
use Rattle.relay_types.specs.declared.state.State.TheVariants.{Pending, Delivered, Exhausted}
use Rattle.relay_types.specs.Values.{Text, Seq}
use Rattle.relay_types.specs.Lists.{last_of}
use Rattle.relay_types.specs.Records.{Accepted, Attempt, accepted_by, numbered}
use Rattle.relay_types.specs.Deliveries.{accept_at, accepted, purged_by, is_purged, deliveries, deliveries_of}
use Rattle.relay_types.specs.Deliveries.{attempts_of, state_of, is_in_state, is_pending, due_if_pending}
use Rattle.delivery_book.specs.declared.entry.Entry.{Entry}
use Rattle.delivery_book.specs.declared.entry.Unsettled.{Unsettled}
use Rattle.delivery_book.specs.declared.row.Counts.{Counts}
use Rattle.delivery_book.specs.declared.row.Row.{Row}
use Rattle.delivery_book.specs.Entries.{BookValue, is_left, progress_of}

-- the entry of an Accept with this number, where these are the latest attempts at each delivery, the settled ones, and
-- the Purge that took it
abbrev pub entry_for : (latest settled : Seq → List Attempt) (taken : Seq → Option Seq) → Seq → Accepted → Entry
entry_for latest settled taken seq a = record {
  seq = seq;
  name = a.endpoint;
  id = a.id;
  body = a.body;
  at = a.at;
  latest = progress_of a.at (latest seq);
  settled = progress_of a.at (settled seq);
  taken_by = taken seq;
}

abbrev pub entry_by : (latest settled : Seq → List Attempt) (taken : Seq → Option Seq) → (Seq × Record) → Option Entry
entry_by latest settled taken e = option_map (entry_for latest settled taken e.0) (accepted_by e.1)

-- the entries of a history of which so many records are settled: what a settled Purge took is given up
abbrev pub entries_of : List Record → (settled : ℕ) → List Entry
entries_of records settled =
    filter (is_left settled)
    (filter_map (entry_by (attempts_of records) (attempts_of (take settled records)) (purged_by records))
    (numbered records))

-- the delivery that the record speaks of, if it is an Outcome
abbrev pub delivery_by : Record → Option Seq
delivery_by (Outcome delivery attempt status at) = Some delivery
delivery_by entry = None

abbrev pub outcome_by : (Seq × Record) → Option Unsettled
outcome_by e = option_map (λ d. record { seq = e.0; delivery = d }) (delivery_by e.1)

-- the outcomes among records of which the first has this number
abbrev pub outcomes_from : Seq → List Record → List Unsettled
outcomes_from seq records = filter_map outcome_by (enumerate_from seq records)

-- The book stands for these records, of which so many are settled. No delivery has two outcomes that aren't settled,
-- and none has an attempt before it is there.
pub record StandsFor (book : BookValue) (records : List Record) (settled : ℕ) : Type 0 where
  pub entries : book.entries ≡ entries_of records settled
  pub unsettled : book.unsettled ≡ outcomes_from settled (drop settled records)
  pub next_seq : book.next_seq ≤ length records
  pub settled_seq : book.settled_seq ≡ settled
  pub within : settled ≤ length records
  pub once : (d : Seq) → length (attempts_of (drop settled records) d) ≤ 1
  pub in_order : (d : Seq) → length records ≤ d → attempts_of records d ≡ []

-- what holds of every history for which the book stands
abbrev pub OverHistories : BookValue → (List Record → (settled : ℕ) → Type 0) → Type 0
OverHistories book P = (records : List Record) (settled : ℕ) → StandsFor book records settled → P records settled

-- with one more record, which has this number, the later book stands for them
abbrev pub Takes : (old : BookValue) → Seq → Record → (new : BookValue) → Type 0
Takes old seq entry new =
    OverHistories old (λ records settled. seq ≡ length records → StandsFor new (records ++ entry ∷ []) settled)

-- with these records added, of which the first has this number, the later book stands for them
abbrev pub TakesAll : (old : BookValue) → Seq → (more : List Record) → (new : BookValue) → Type 0
TakesAll old seq more new =
    OverHistories old (λ records settled. seq ≡ length records → StandsFor new (records ++ more) settled)

-- with the records below this number settled, the later book stands for them
abbrev pub Settles : (old : BookValue) → Seq → (new : BookValue) → Type 0
Settles old seq new = OverHistories old (λ records settled. seq ≤ length records → StandsFor new records seq)

-- a record that concerns no delivery
abbrev pub is_other : Record → Bool
is_other (Accept name id body at) = false
is_other (Outcome delivery attempt status at) = false
is_other (Purge moment) = false
is_other entry = true

-- whether the delivery is pending, and no outcome of it waits after the settled records
abbrev pub is_free : List Record → (settled : ℕ) → Seq → Bool
is_free records settled d = is_pending records d && length (attempts_of (drop settled records) d) == 0

-- the delivery of this number
abbrev pub row_of : List Record → Seq → Option Row
row_of records d = option_map (λ a. record {
  endpoint = a.endpoint;
  id = a.id;
  at = a.at;
  attempts = length (attempts_of records d);
  state = state_of records d;
  due = due_if_pending records d;
  last_status = option_map (λ t. t.status) (last_of (attempts_of records d));
}) (accepted records d)

-- the body of its event
abbrev pub body_of : List Record → Seq → Option Text
body_of records d = option_map (λ a. a.body) (accepted records d)

-- the body of its event, until a Purge that took it is settled
abbrev pub body_left : List Record → (settled : ℕ) → Seq → Option Text
body_left records settled d =
    option_map (λ a. a.body) (if is_purged (take settled records) d then None else accept_at records d)

-- how many of these deliveries are in this state, and how many in each
abbrev pub count_in : State → List Record → List Seq → ℕ
count_in state records those = count_by (λ d. is_in_state state (state_of records d)) those

abbrev pub counts_in : List Record → List Seq → Counts
counts_in records those = record {
  pending = count_in Pending records those;
  delivered = count_in Delivered records those;
  exhausted = count_in Exhausted records those;
}

-- how many deliveries of the endpoint are in each state, and how many of all endpoints
abbrev pub counts_of : List Record → (name : Text) → Counts
counts_of records name = counts_in records (deliveries_of records name)

abbrev pub counts_of_all : List Record → Counts
counts_of_all records = counts_in records (deliveries records)
