-- Which rows can be read back, and why a read of them gives nothing.
use Rattle.std.specs.Prelude.{◌≡◌, ◌⊎◌, ◌<◌, ◌^◌, ℕ, pos, false, List, [], ◌∷◌, length, IsTrue, IsSome, Result, IfErr}
use Rattle.std.specs.List.{AllByRecursion}
use Rattle.sqlite_disk.specs.Disk.{MoreFaults}
use Rattle.sqlite_trees.specs.declared.store.Store.{Ghosts}
use Rattle.sqlite_trees.specs.View.{Tells}
use Rattle.sqlite_trees.specs.declared.error.StoreError.{StoreError}
use Rattle.sqlite_trees.specs.declared.error.StoreError.TheVariants as store
use Rattle.sqlite.specs.declared.types.Value.{Value}
use Rattle.sqlite.specs.declared.types.Value.TheVariants.{Int, Text as Words, Blob as Bytes}
use Rattle.sqlite.specs.declared.error.Error.{Error}
use Rattle.sqlite.specs.declared.error.Error.TheVariants.{SqliteFailure}
use Rattle.sqlite.specs.declared.error.ErrorCode.TheVariants as code
use Rattle.sqlite.specs.Order.{Row}
use Rattle.sqlite.specs.State.{State, HasCleanDisk, store_error}
use Rattle.sqlite.specs.Held.{Held, state}
use Rattle.sqlite_value.specs.Order.{column}
use Rattle.relay_types.specs.declared.limits.TheConstants.{MAX_RECORDS}
use Rattle.relay_types.specs.Values.{Seq, is_name, is_target, is_max_limit, is_secret, is_msg_id, is_body, is_moment}
use Rattle.relay_types.specs.Rows.{Rows, EndpointRow, SecretRow, DeliveryRow, AttemptRow, TopicRow}
use Rattle.spool_sql.specs.declared.row.RowFault.{RowFault}
use Rattle.spool_sql.specs.declared.row.RowFault.TheVariants.{Failed, Unreadable}
use Rattle.spool_sql.specs.Stored.{IsTables, flag_number}

-- ---- which rows can be read back

-- a number that a record may have
abbrev pub IsSeq : Seq → Type 0
IsSeq seq = seq < MAX_RECORDS

pub record IsReadableEndpoint (e : EndpointRow) : Type 0 where
  pub put : IsSeq e.put
  pub name : IsTrue (is_name e.name)
  pub url : IsTrue (is_target e.url)
  pub max : IsTrue (is_max_limit e.max)
  pub enabled_by : IsSeq e.enabled_by
  pub secrets_by : IsSeq e.secrets_by

abbrev pub IsReadableSecret : SecretRow → Type 0
IsReadableSecret s = IsTrue (is_secret s.secret)

pub record IsReadableDelivery (d : DeliveryRow) : Type 0 where
  pub seq : IsSeq d.seq
  pub endpoint : IsSeq d.endpoint
  pub id : IsTrue (is_msg_id d.id)
  pub at : IsTrue (is_moment d.at)
  pub body : IsTrue (is_body d.body)

pub record IsReadableAttempt (a : AttemptRow) : Type 0 where
  pub seq : IsSeq a.seq
  pub delivery : IsSeq a.delivery
  pub status : a.status < 2 ^ 16
  pub at : IsTrue (is_moment a.at)

pub record IsReadableTopic (t : TopicRow) : Type 0 where
  pub topic : IsTrue (is_name t.topic)
  pub endpoint : IsSeq t.endpoint
  pub set_by : IsSeq t.set_by

-- the values of all rows keep their limits
pub record AreReadable (rows : Rows) : Type 0 where
  pub endpoints : AllByRecursion IsReadableEndpoint rows.endpoints
  pub secrets : AllByRecursion IsReadableSecret rows.secrets
  pub deliveries : AllByRecursion IsReadableDelivery rows.deliveries
  pub attempts : AllByRecursion IsReadableAttempt rows.attempts
  pub topics : AllByRecursion IsReadableTopic rows.topics

-- ---- the rows that a query shows of them

-- the row has this value at this place
abbrev pub IsAt : Row → ℕ → Value → Type 0
IsAt row at value = (at < length row) × (column row at ≡ value)

abbrev pub endpoint_shown : EndpointRow → Row
endpoint_shown e = Int (pos e.put) ∷ Words e.name ∷ Words e.url ∷ Int (pos e.max) ∷ Int (pos (flag_number e.enabled))
    ∷ Int (pos e.enabled_by) ∷ Int (pos e.secrets_by) ∷ []

abbrev pub delivery_shown : DeliveryRow → Row
delivery_shown d = Int (pos d.seq) ∷ Int (pos d.endpoint) ∷ Words d.id ∷ Int (pos d.at) ∷ Bytes d.body ∷ []

abbrev pub attempt_shown : AttemptRow → Row
attempt_shown a = Int (pos a.seq) ∷ Int (pos a.delivery) ∷ Int (pos a.number) ∷ Int (pos a.status) ∷ Int (pos a.at) ∷ []

abbrev pub topic_shown : TopicRow → Row
topic_shown t = Words t.topic ∷ Int (pos t.endpoint) ∷ Int (pos (flag_number t.subscribed)) ∷ Int (pos t.set_by) ∷ []

abbrev pub tried_shown : AttemptRow → Row
tried_shown a = Int (pos a.delivery) ∷ Int (pos a.status) ∷ Int (pos a.at) ∷ []

-- a row of a query shows one of them that can be read back
abbrev pub ShowsEndpoint : Row → Type 0
ShowsEndpoint row = (e : EndpointRow) × (row ≡ endpoint_shown e) × IsReadableEndpoint e

abbrev pub ShowsSecret : Row → Type 0
ShowsSecret row = (secret : List ℕ) × (row ≡ Bytes secret ∷ []) × IsTrue (is_secret secret)

abbrev pub ShowsDelivery : Row → Type 0
ShowsDelivery row = (d : DeliveryRow) × (row ≡ delivery_shown d) × IsReadableDelivery d

abbrev pub ShowsAttempt : Row → Type 0
ShowsAttempt row = (a : AttemptRow) × (row ≡ attempt_shown a) × IsReadableAttempt a

abbrev pub ShowsTried : Row → Type 0
ShowsTried row = (a : AttemptRow) × (row ≡ tried_shown a) × IsReadableAttempt a

abbrev pub ShowsTopic : Row → Type 0
ShowsTopic row = (t : TopicRow) × (row ≡ topic_shown t) × IsReadableTopic t

-- a row of a query shows one number below a bound
abbrev pub ShowsBelow : ℕ → Row → Type 0
ShowsBelow bound row = (n : ℕ) × (row ≡ Int (pos n) ∷ []) × (n < bound)

-- ---- why a read gives nothing

-- memory was refused
abbrev pub IsMemory : Error → Type 0
IsMemory error = error ≡ SqliteFailure code.OutOfMemory

-- the same of a row
abbrev pub IsMemoryFault : RowFault → Type 0
IsMemoryFault (Failed error) = IsMemory error
IsMemoryFault Unreadable = ⊥

-- since the first of two states the store has failed, or it was shut already
abbrev pub HasFailed : State → State → Type 0
HasFailed old new = MoreFaults old.faults new.faults ⊎ (old.is_open ≡ false)

-- since the first of two states the store has had this fault; of one that is told as closed, it has failed or was
-- shut already
abbrev pub HasFault : State → State → StoreError → Type 0
HasFault old new store.OutOfMemory = ⊥
HasFault old new store.Io = MoreFaults old.faults new.faults
HasFault old new store.Corrupt = MoreFaults old.faults new.faults
HasFault old new store.Full = MoreFaults old.faults new.faults
HasFault old new store.Broken = HasFailed old new
HasFault old new store.Unstorable = ⊥

-- The error is that of a refusal: memory was refused, the store failed and told this fault last, or a query took more
-- steps than the connection may.
abbrev pub IsRefusal : State → State → Error → Type 0
IsRefusal old new error =
    IsMemory error
    ⊎ (((fault : StoreError) × (error ≡ store_error fault) × HasFault old new fault × Tells new.blamed fault)
    ⊎ ((error ≡ SqliteFailure code.OperationInterrupted) × IsSome old.step_limit))

-- The same of a call after which the store was used again: it may have told another fault since.
abbrev pub WasRefusal : State → State → Error → Type 0
WasRefusal old new error =
    IsMemory error
    ⊎ (((fault : StoreError) × (error ≡ store_error fault) × HasFault old new fault)
    ⊎ ((error ≡ SqliteFailure code.OperationInterrupted) × IsSome old.step_limit))

-- a row is never told as unreadable
abbrev pub IsRowRefusal : State → State → RowFault → Type 0
IsRowRefusal old new (Failed error) = IsRefusal old new error
IsRowRefusal old new Unreadable = ⊥

abbrev pub WasRowRefusal : State → State → RowFault → Type 0
WasRowRefusal old new (Failed error) = WasRefusal old new error
WasRowRefusal old new Unreadable = ⊥

module _ {S X E : Type 0} (g : Ghosts S) (old new : Held S) (result : Result X E) where
  -- of tables whose rows can be read back, an error says so much
  abbrev pub RefusesFor : (State → State → E → Type 0) → Type 0
  RefusesFor P = HasCleanDisk (state g new) → IfErr result (λ e. (rows : Rows) → IsTables (state g old).now rows
      → AreReadable rows → P (state g old) (state g new) e)

-- what a query of the relay's tables is refused for
abbrev pub IsRefusedFor : {S X : Type 0} → Ghosts S → Held S → Held S → Result X Error → Type 0
IsRefusedFor g old new result = RefusesFor g old new result IsRefusal

-- and what a read of their rows is
abbrev pub AreRowsRefusedFor : {S X : Type 0} → Ghosts S → Held S → Held S → Result X RowFault → Type 0
AreRowsRefusedFor g old new result = RefusesFor g old new result IsRowRefusal
