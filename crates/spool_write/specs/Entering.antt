-- What the statements of a transaction make of the rows of a legal history.
use Rattle.std.specs.Prelude.{◌≡◌, ℕ, ◌+◌, ◌==◌, Bool, false, ◌&&◌, ◌||◌, not, nat_le, nat_lt, List, ◌++◌}
use Rattle.std.specs.Prelude.{length}
use Rattle.std.specs.Prelude.{filter}
use Rattle.std.specs.Prelude.{count_by, is_some, IsTrue, Option, Some, None, Result, IfOk, if◌then◌else◌}
use Rattle.std.specs.List.{list_any, list_all}
use Rattle.std.specs.Option.{option_map_or}
use Rattle.sqlite.specs.declared.error.Error.{Error}
use Rattle.sqlite.specs.State.{State}
use Rattle.sqlite.specs.Held.{Held}
use Rattle.sqlite.specs.Effect.{Database}
use Rattle.sqlite_trees.specs.declared.store.Store.{Ghosts}
use Rattle.relay_types.specs.declared.limits.TheConstants.{MAX_ENDPOINTS, MAX_FAILURES, MAX_SUBSCRIPTIONS}
use Rattle.relay_types.specs.declared.record.Record.{Record}
use Rattle.relay_types.specs.Judging.{is_delivered_status, is_gone_status, is_failed_status}
use Rattle.relay_types.specs.Deliveries.{known_as, is_pending, attempts_of}
use Rattle.relay_types.specs.Endpoints.{endpoints, has_endpoint}
use Rattle.relay_types.specs.Legal.{is_status, is_legal, IsLegal}
use Rattle.relay_types.specs.Lists.{last_of}
use Rattle.relay_types.specs.Rows.{Rows, DeliveryRow, AttemptRow, is_past_in, put_of, put_by_delivery, rows_of}
use Rattle.relay_types.specs.Rows.{secret_rows}
use Rattle.relay_types.specs.Sound.{IsRisingFrom, is_delivery_at}
use Rattle.relay_types.specs.Values.{Seq, Seconds}
use Rattle.relay_types.specs.Subscriptions.{is_pair_named, subscriptions}
use Rattle.spool_sql.specs.declared.row.Tried.{Tried}
use Rattle.spool_sql.specs.Readable.{IsRefusal}
use Rattle.spool_sql.specs.Stored.{IsTables, with_records, with_endpoint, new_endpoint, with_enabled}
use Rattle.spool_sql.specs.Stored.{with_secrets_by, without_secrets}
use Rattle.spool_sql.specs.Steps.{GoesOn, IfClean}

-- ---- what is asked before a record is written

-- whether an endpoint of this name may be put after the records
abbrev pub may_put : List Record → List ℕ → Bool
may_put records name = not (has_endpoint records name) && nat_lt (length (endpoints records)) MAX_ENDPOINTS

-- whether an event of this id may be taken in after the records for the endpoint of this name
abbrev pub may_accept : List Record → List ℕ → List ℕ → Bool
may_accept records name id = has_endpoint records name && not (is_some (known_as records name id))

-- the number of that endpoint's Put, if the event may be taken in
abbrev pub accepting : List Record → List ℕ → List ℕ → Option ℕ
accepting records name id = if may_accept records name id then Some (put_of records name) else None

-- whether the endpoint of this name may be subscribed to the topic after the records
abbrev pub may_subscribe : List Record → List ℕ → List ℕ → Bool
may_subscribe records topic name = has_endpoint records name
    && (is_pair_named records topic name || nat_lt (length (subscriptions records)) MAX_SUBSCRIPTIONS)

-- the number of that endpoint's Put, if it may be
abbrev pub subscribing : List Record → List ℕ → List ℕ → Option ℕ
subscribing records topic name = if may_subscribe records topic name then Some (put_of records name) else None

-- whether an attempt of this number and status may be recorded after the records for the event
abbrev pub may_attempt : (records : List Record) (delivery attempt status : ℕ) → Bool
may_attempt records delivery attempt status = is_pending records delivery
    && (attempt == length (attempts_of records delivery) + 1 && is_status status)

-- the number of the Put of the event's endpoint, if the attempt may be recorded
abbrev pub attempting : (records : List Record) (delivery attempt status : ℕ) → Option ℕ
attempting records delivery attempt status =
    if may_attempt records delivery attempt status then Some (put_by_delivery (rows_of records) delivery) else None

-- whether an event is pending whose attempts had these statuses: none delivered it, and fewer failed than may fail
abbrev pub are_pending : List ℕ → Bool
are_pending statuses = not (list_any is_delivered_status statuses)
    && nat_lt (count_by is_failed_status statuses) MAX_FAILURES

-- whether an attempt of this number and status may be the next one after those of these statuses
abbrev pub may_be_next : (statuses : List ℕ) (attempt status : ℕ) → Bool
may_be_next statuses attempt status = are_pending statuses && (attempt == length statuses + 1 && is_status status)

-- ---- what the statements of a record change, beside the number of records

abbrev pub with_secrets : ℕ → List (List ℕ) → Rows → Rows
with_secrets put secrets rows = record rows { secrets = rows.secrets ++ secret_rows put secrets }

-- the rows of a Put with this number
abbrev pub with_put : ℕ → List ℕ → List ℕ → ℕ → List (List ℕ) → Rows → Rows
with_put put name url max secrets rows = with_secrets put secrets (with_endpoint (new_endpoint put name url max) rows)

-- these are the secrets of the endpoint that the record with number `put` made, as the record with number `by` says
abbrev pub with_secrets_replaced : (put by : ℕ) → List (List ℕ) → Rows → Rows
with_secrets_replaced put by secrets rows = with_secrets_by put by (with_secrets put secrets (without_secrets put rows))

-- where the status is that of a gone endpoint, the endpoint that the record with number `put` made is disabled
abbrev pub disabled_if_gone : (put status by : ℕ) → Rows → Rows
disabled_if_gone put status by rows = if is_gone_status status then with_enabled put false by rows else rows

-- ---- what a Purge takes out

-- whether attempts with these results ended an event, the last of them before this moment
abbrev pub are_past : (before : Seconds) → List Tried → Bool
are_past before tries =
    (list_any (λ t. is_delivered_status t.status) tries
    || nat_le MAX_FAILURES (count_by (λ t. is_failed_status t.status) tries))
    && option_map_or (λ last. nat_lt last.at before) (last_of tries) false

-- whether attempts at several events ended this one, the last at it before this moment
abbrev pub is_past_by : (before : Seconds) → List Tried → Seq → Bool
is_past_by before tries d = are_past before (filter (λ t. t.delivery == d) tries)

-- the rows without some events and the attempts at them
abbrev pub without_events : (gone : Seq → Bool) → Rows → Rows
without_events gone rows = record rows {
  deliveries = filter (λ d. not (gone d.seq)) rows.deliveries;
  attempts = filter (λ t. not (gone t.delivery)) rows.attempts;
}

-- the rows without the events that pass a test and are past, and the attempts at them
abbrev pub without_past : (before : Seconds) → (walked : Seq → Bool) → Rows → Rows
without_past before walked rows = without_events (λ d. walked d && is_past_in rows before d) rows

-- the numbers of attempts rise, and so do those of the attempts at each event
pub record AreInTurn (rows : Rows) : Type 0 where
  pub rise : IsRisingFrom (λ (t : AttemptRow). t.seq) 0 rows.attempts
  pub turns : (delivery : Seq)
      → IsRisingFrom (λ (t : AttemptRow). t.number) 0
      (filter (λ (t : AttemptRow). t.delivery == delivery) rows.attempts)

-- The same, and the numbers of events rise and are below this one, and each attempt is at one of these events.
pub record AreWalkable (upto : Seq) (rows : Rows) : Type 0 where
  pub attempts : AreInTurn rows
  pub rise : IsRisingFrom (λ (d : DeliveryRow). d.seq) 0 rows.deliveries
  pub below : IsTrue (list_all (λ (d : DeliveryRow). nat_lt d.seq upto) rows.deliveries)
  pub there : IsTrue (list_all (λ (t : AttemptRow). is_delivery_at rows t.delivery) rows.attempts)

-- ---- inside a transaction

-- The tables have the rows of this legal history, but for the number of records: it is `count` until the transaction
-- writes it.
pub record HasRows (db : Database) (count : ℕ) (records : List Record) : Type 0 where
  pub legal : IsLegal records
  pub tables : IsTables db (with_records count (rows_of records))

-- while the disk has returned what was written, an answer says so much of each legal history whose rows the tables have
abbrev pub LooksAt : {S X : Type 0} → Ghosts S → Held S → Held S → Result X Error → (X → List Record → Type 0) → Type 0
LooksAt g old new result P =
    IfClean g old new (λ a b. IfOk result (λ x. (count : ℕ) (records : List Record) → HasRows a.now count records
    → P x records))

-- and an error is that of a refusal
abbrev pub IsLookRefusal : (old new : State) → Error → Type 0
IsLookRefusal old new error =
    (count : ℕ) (records : List Record) → HasRows old.now count records → IsRefusal old new error

-- the records with these numbers are written, and their number isn't, exactly where the longer history is legal
pub record Enters (old new : State) (next : ℕ) (entries : List Record) (legal : Bool) : Type 0 where
  pub on : GoesOn old new
  pub judges : (count : ℕ) (records : List Record) → next ≡ length records → HasRows old.now count records
      → legal ≡ is_legal (records ++ entries)
  pub makes : IsTrue legal → (count : ℕ) (records : List Record) → next ≡ length records → HasRows old.now count records
      → HasRows new.now count (records ++ entries)

-- the same where the number of records is written too
pub record EntersWhole (old new : State) (next : ℕ) (entries : List Record) (legal : Bool) : Type 0 where
  pub on : GoesOn old new
  pub judges : (records : List Record) → IsLegal records → next ≡ length records → IsTables old.now (rows_of records)
      → legal ≡ is_legal (records ++ entries)
  pub makes : IsTrue legal → (records : List Record) → IsLegal records → next ≡ length records
      → IsTables old.now (rows_of records) → IsTables new.now (rows_of (records ++ entries))
