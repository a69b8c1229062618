-- What a load reads of the tables, and the books that it gives.
use Rattle.std.specs.Prelude.{◌≡◌, ◌≤◌, ◌==◌, ◌&&◌, ◌++◌, ℕ, Bool, false, List, [], ◌∷◌, map, max, find, length}
use Rattle.std.specs.Prelude.{slice_get, bytes_eq, filter_map, option_map, Option, Some, None, Result}
use Rattle.std.specs.Prelude.{IfOk, IfErr, OnOk, IsTrue, if◌then◌else◌}
use Rattle.std.specs.Option.{option_map_or}
use Rattle.sqlite.specs.State.{State, HasCleanDisk, IsUnchanged}
use Rattle.sqlite.specs.Held.{Held, state}
use Rattle.sqlite_trees.specs.declared.store.Store.{Ghosts}
use Rattle.relay_types.specs.declared.record.Record.{Record}
use Rattle.relay_types.specs.Values.{Text, Seq, Seconds}
use Rattle.relay_types.specs.Records.{Attempt}
use Rattle.relay_types.specs.Endpoints.{secrets_of}
use Rattle.relay_types.specs.Legal.{IsLegal}
use Rattle.relay_types.specs.Rows.{EndpointRow, DeliveryRow, AttemptRow, TopicRow, rows_of}
use Rattle.endpoint_book.specs.declared.entry.Entry.{Entry}
use Rattle.endpoint_book.specs.Entries.{BookValue, is_known, restored_entry}
use Rattle.endpoint_book.specs.Topics.{TellsTopics, TopicsValue, flag_of}
use Rattle.delivery_book.specs.declared.entry.Entry.{Entry as DeliveryEntry}
use Rattle.delivery_book.specs.Progress.{Progress}
use Rattle.delivery_book.specs.Entries.{BookValue as DeliveryBookValue, known_in, new_entry, progress_of}
use Rattle.delivery_book.specs.Book.{entries_of}
use Rattle.spool_sql.specs.declared.row.RowFault.{RowFault}
use Rattle.spool_sql.specs.Readable.{IsRowRefusal, WasRowRefusal}
use Rattle.spool_sql.specs.Stored.{IsTables}
use Rattle.spool_sql.specs.Steps.{IfClean}
use Rattle.spool_sql.specs.Reading.{ComeNext, IsRising, ReadsOn}
use Rattle.spool_load.specs.declared.deliveries.Deliveries.{Deliveries}
use Rattle.spool_load.specs.declared.endpoints.Endpoints.{Endpoints}
use Rattle.spool_load.specs.declared.endpoints.NamedPut.{NamedPut}

-- ---- the clauses that the functions share

-- an answer of a store that was open changed nothing
abbrev pub LeavesOpen : {S X E : Type 0} → Ghosts S → Held S → Held S → Result X E → Type 0
LeavesOpen g old new result = IfClean g old new (λ a b. OnOk result (IsTrue a.is_open → IsUnchanged a b))

-- an answer says so much of each legal history whose rows the tables have
abbrev pub Reads : {S X E : Type 0} → Ghosts S → Held S → Held S → Result X E → (X → List Record → Type 0) → Type 0
Reads g old new result P =
    HasCleanDisk (state g new) → IfOk result (λ x. (records : List Record) → IsLegal records
    → IsTables (state g old).now (rows_of records) → P x records)

-- Of each legal history whose rows an open store has, and of which so much is given, no row is told as unreadable: a
-- read is refused for memory, or by the store.
abbrev pub IsReadRefusal : (old new : State) → (Given : List Record → Type 0) → RowFault → Type 0
IsReadRefusal old new Given fault =
    IsTrue old.is_open → (records : List Record) → IsLegal records → IsTables old.now (rows_of records) → Given records
    → IsRowRefusal old new fault

-- the same after the transaction
abbrev pub WasReadRefusal : (old new : State) → RowFault → Type 0
WasReadRefusal old new fault =
    IsTrue old.is_open → (records : List Record) → IsLegal records → IsTables old.now (rows_of records)
    → WasRowRefusal old new fault

abbrev pub IsRefusedOnly : {S X : Type 0} → Ghosts S → Held S → Held S → Result X RowFault → (List Record → Type 0)
    → Type 0
IsRefusedOnly g old new result Given = IfClean g old new (λ a b. IfErr result (IsReadRefusal a b Given))

-- ---- endpoints

abbrev pub named_put_of : EndpointRow → NamedPut
named_put_of e = record { put = e.put; name = e.name }

-- the endpoint of this number and name may be the next one of the book
abbrev pub MayRestore : BookValue → (put : Seq) (name : Text) → Type 0
MayRestore book put name = (book.next_seq ≤ put) × (is_known book name ≡ false)

-- the endpoint of a row, as these records left it
abbrev pub entry_of_row : List Record → EndpointRow → Entry
entry_of_row records e = restored_entry e.put e.name e.url e.max (secrets_of records e.name) e.enabled

-- the endpoints of these rows were read
pub record AreRestored (loaded : Endpoints) (records : List Record) (rows : List EndpointRow) : Type 0 where
  pub entries : loaded.book.entries ≡ map (entry_of_row records) rows
  pub changes : loaded.book.changes ≡ []
  pub topics : loaded.book.topics ≡ []
  pub left : (after : List EndpointRow) → (rows_of records).endpoints ≡ rows ++ after
      → IsRising (λ (e : EndpointRow). e.put) loaded.book.next_seq (length records) after
  pub settled_seq : loaded.book.settled_seq ≤ length records
  pub names : loaded.names.items ≡ map named_put_of rows

-- these rows of the table were read after those before
abbrev pub Restores : (old new : Endpoints) → List EndpointRow → List Record → Type 0
Restores old new more records = ReadsOn (rows_of records).endpoints (AreRestored old records)
    (AreRestored new records) more

-- these rows are the next ones
abbrev pub NextToRestore : (loaded : Endpoints) → List EndpointRow → List Record → Type 0
NextToRestore loaded more records = ComeNext (rows_of records).endpoints (AreRestored loaded records) more

-- ---- topics

-- these are the numbers and names of the endpoints of these records
abbrev pub AreNames : List NamedPut → List Record → Type 0
AreNames names records = names ≡ map named_put_of (rows_of records).endpoints

-- the name of the endpoint with this number
abbrev pub name_put : List EndpointRow → (put : Seq) → Text
name_put rows put = option_map_or (λ e. e.name) (find (λ e. e.put == put) rows) []

-- whether the row is of this topic and of the endpoint of this name
abbrev pub is_topic_of : List EndpointRow → (topic name : Text) → TopicRow → Bool
is_topic_of endpoints topic name t = bytes_eq t.topic topic && bytes_eq (name_put endpoints t.endpoint) name

-- each topic and endpoint has the flag of its row, and none has one without a row
pub record HaveFlags (topics : TopicsValue) (endpoints : List EndpointRow) (rows : List TopicRow) : Type 0 where
  pub flags : (topic name : Text) → flag_of topics topic name
      ≡ option_map (λ t. t.subscribed) (find (is_topic_of endpoints topic name) rows)
  pub count : length topics ≡ length rows

-- all endpoints were read, and the topics of these rows
pub record HaveTopics (loaded : Endpoints) (records : List Record) (rows : List TopicRow) : Type 0 where
  pub entries : loaded.book.entries ≡ map (entry_of_row records) (rows_of records).endpoints
  pub changes : loaded.book.changes ≡ []
  pub topics : HaveFlags loaded.book.topics (rows_of records).endpoints rows
  pub next_seq : loaded.book.next_seq ≤ length records
  pub settled_seq : loaded.book.settled_seq ≤ length records
  pub names : AreNames loaded.names.items records

-- these rows of the table were read after those before
abbrev pub Subscribes : (old new : Endpoints) → List TopicRow → List Record → Type 0
Subscribes old new more records =
    ReadsOn (rows_of records).topics (HaveTopics old records) (HaveTopics new records) more

-- these rows are the next ones
abbrev pub NextToSubscribe : (loaded : Endpoints) → List TopicRow → List Record → Type 0
NextToSubscribe loaded more records = ComeNext (rows_of records).topics (HaveTopics loaded records) more

-- all endpoints and topics of these records were read, and nothing else
pub record AreSubscribed (loaded : Endpoints) (records : List Record) : Type 0 where
  pub entries : loaded.book.entries ≡ map (entry_of_row records) (rows_of records).endpoints
  pub changes : loaded.book.changes ≡ []
  pub topics : TellsTopics loaded.book.topics records
  pub next_seq : loaded.book.next_seq ≤ length records
  pub settled_seq : loaded.book.settled_seq ≤ length records
  pub names : AreNames loaded.names.items records

-- ---- events

-- the greatest of these moments, 0 where there is none
abbrev pub greatest : List Seconds → Seconds
greatest [] = 0
greatest (at ∷ rest) = max at (greatest rest)

-- an endpoint of this number has this name
abbrev pub IsNameOf : List NamedPut → (put : Seq) (name : Text) → Type 0
IsNameOf names put name = (at : ℕ) × (slice_get names at ≡ Some (record { put = put; name = name }))

-- the event of this number, endpoint and id may be the next one of the book
abbrev pub MayAccept : DeliveryBookValue → (seq : Seq) (name id : Text) → Type 0
MayAccept book seq name id = (book.next_seq ≤ seq) × (known_in book name id ≡ None)

-- the event of a row, without an attempt
abbrev pub fresh_entry : List Record → DeliveryRow → DeliveryEntry
fresh_entry records d = new_entry d.seq (name_put (rows_of records).endpoints d.endpoint) d.id d.body d.at

-- the events of these rows were read
pub record AreAccepted (loaded : Deliveries) (records : List Record) (rows : List DeliveryRow) : Type 0 where
  pub entries : loaded.book.entries ≡ map (fresh_entry records) rows
  pub unsettled : loaded.book.unsettled ≡ []
  pub left : (after : List DeliveryRow) → (rows_of records).deliveries ≡ rows ++ after
      → IsRising (λ (d : DeliveryRow). d.seq) loaded.book.next_seq (length records) after
  pub settled_seq : loaded.book.settled_seq ≡ 0
  pub clock : loaded.clock ≡ greatest (map (λ (d : DeliveryRow). d.at) rows)

-- these rows of the table were read after those before
abbrev pub Accepts : (old new : Deliveries) → List DeliveryRow → List Record → Type 0
Accepts old new more records = ReadsOn (rows_of records).deliveries (AreAccepted old records)
    (AreAccepted new records) more

-- these rows are the next ones
abbrev pub NextToAccept : (loaded : Deliveries) → List DeliveryRow → List Record → Type 0
NextToAccept loaded more records = ComeNext (rows_of records).deliveries (AreAccepted loaded records) more

-- ---- attempts

-- what the row says of an attempt at this delivery, if it is one
abbrev pub attempt_by_row : (delivery : Seq) → AttemptRow → Option Attempt
attempt_by_row d row =
    if row.delivery == d then Some (record { number = row.number; status = row.status; at = row.at }) else None

-- how far the event of a row has come after the attempts of these rows
abbrev pub progress_by : List AttemptRow → DeliveryRow → Progress
progress_by attempts d = progress_of d.at (filter_map (attempt_by_row d.seq) attempts)

abbrev pub attempted_entry : List Record → List AttemptRow → DeliveryRow → DeliveryEntry
attempted_entry records attempts d = record (fresh_entry records d) {
  latest = progress_by attempts d;
  settled = progress_by attempts d;
}

-- the greatest moment of these events and attempts
abbrev pub greatest_of : List DeliveryRow → List AttemptRow → Seconds
greatest_of deliveries attempts =
    max (greatest (map (λ (d : DeliveryRow). d.at) deliveries)) (greatest (map (λ (a : AttemptRow). a.at) attempts))

-- all events were read, and the attempts of these rows
pub record HaveAttempts (loaded : Deliveries) (records : List Record) (rows : List AttemptRow) : Type 0 where
  pub entries : loaded.book.entries ≡ map (attempted_entry records rows) (rows_of records).deliveries
  pub unsettled : loaded.book.unsettled ≡ []
  pub next_seq : loaded.book.next_seq ≤ length records
  pub settled_seq : loaded.book.settled_seq ≡ 0
  pub clock : loaded.clock ≡ greatest_of (rows_of records).deliveries rows

-- these rows of the table were read after those before
abbrev pub Attempts : (old new : Deliveries) → List AttemptRow → List Record → Type 0
Attempts old new more records =
    ReadsOn (rows_of records).attempts (HaveAttempts old records) (HaveAttempts new records) more

-- these rows are the next ones
abbrev pub NextToAttempt : (loaded : Deliveries) → List AttemptRow → List Record → Type 0
NextToAttempt loaded more records = ComeNext (rows_of records).attempts (HaveAttempts loaded records) more

-- all events and attempts of these records were read, and none of the records is settled yet
pub record AreAttempted (loaded : Deliveries) (records : List Record) : Type 0 where
  pub entries : loaded.book.entries ≡ entries_of records (length records)
  pub unsettled : loaded.book.unsettled ≡ []
  pub next_seq : loaded.book.next_seq ≤ length records
  pub settled_seq : loaded.book.settled_seq ≡ 0
  pub clock : loaded.clock ≡ greatest_of (rows_of records).deliveries (rows_of records).attempts
