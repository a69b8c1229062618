-- What the vault of tables that stand holds, and why there is none.
use Rattle.std.specs.Prelude.{◌≡◌, ◌⊎◌, ℕ, List, Result, Ok, Err, IsTrue}
use Rattle.sqlite.specs.declared.error.Error.{Error}
use Rattle.sqlite.specs.State.{State, Fails, IsUnchanged, store_error}
use Rattle.sqlite_trees.specs.View.{Tells}
use Rattle.sqlite_trees.specs.declared.error.StoreError.{StoreError}
use Rattle.sqlite.specs.Effect.{Database}
use Rattle.sqlite.specs.Tree.{Trees}
use Rattle.sqlite_trees.specs.declared.store.Store.{Ghosts}
use Rattle.relay_types.specs.declared.record.Record.{Record}
use Rattle.relay_types.specs.Legal.{IsLegal}
use Rattle.relay_types.specs.Rows.{Rows, rows_of}
use Rattle.spool_sql.specs.Causes.{cause}
use Rattle.spool_sql.specs.declared.cause.Cause.{Cause}
use Rattle.spool_sql.specs.declared.cause.Cause.TheVariants as of
use Rattle.spool_sql.specs.Readable.{IsRefusal}
use Rattle.spool_sql.specs.Stored.{IsFirstTables, IsTables}
use Rattle.spool_sql.specs.Steps.{MayLeave}
use Rattle.sound_tables.specs.Checks as tables
use Rattle.sound_tables.specs.declared.fault.TableFault.{TableFault}
use Rattle.sound_tables.specs.declared.fault.TableFault.TheVariants as table
use Rattle.sqlite.specs.declared.error.Error.TheVariants.{SqliteFailure}
use Rattle.sqlite.specs.declared.error.ErrorCode.TheVariants as code
use Rattle.spool.specs.declared.faults.LoadFault.{LoadFault}
use Rattle.spool.specs.declared.faults.LoadFault.TheVariants as load
use Rattle.spool.specs.declared.faults.OpenFault.{OpenFault}
use Rattle.spool.specs.declared.faults.OpenFault.TheVariants.{NotOurs, NewerVersion, OldVersion, Damaged, Store}
use Rattle.spool.specs.declared.faults.OpenFault.TheVariants.{OutOfMemory}
use Rattle.spool.specs.Books.{KeepsOpen}
use Rattle.spool.specs.Commits.{HoldsOnDisk}
use Rattle.spool.specs.Vaults.{VaultValue, HoldsAt}

-- The tables have sound rows, and the vault holds each legal history that has these rows. There is one: `history_from`
-- of the rows.
pub record IsAdopted {S : Type 0} (g : Ghosts S) (db : Database) (v : VaultValue S) : Type 0 where
  pub rows : Rows
  pub stand : tables.AreSoundTables db rows
  pub holds : (records : List Record) → IsLegal records → IsTables db (rows_of records) → HoldsOnDisk g v records

-- what stood stands if the store is open, and a stop leaves what it left
pub record IsOnlyRead (old new : State) : Type 0 where
  pub stays : KeepsOpen old new
  pub leaves : (db : Trees) → new.may_leave db → old.may_leave db

-- and the store was seen to be open
abbrev pub IsReadOpen : State → State → Type 0
IsReadOpen old new = IsOnlyRead old new × IsTrue new.is_open

-- What each refusal says of the tables. A fault of the store is that of a statement, or of the look at the store after
-- them.
abbrev pub IsUnadopted : (old new : State) → OpenFault → Type 0
IsUnadopted old new NotOurs = tables.IsRefusedAt old.now table.NotOurs
IsUnadopted old new NewerVersion = tables.IsRefusedAt old.now table.NewerVersion
IsUnadopted old new OldVersion = tables.IsRefusedAt old.now table.OldVersion
IsUnadopted old new Damaged = tables.IsRefusedAt old.now table.Damaged
IsUnadopted old new (Store error) = cause error ≡ of.Store
IsUnadopted old new OutOfMemory = Unit {0}

-- they have the rows of a legal history
abbrev pub HaveHistory : Database → Type 0
HaveHistory db = (records : List Record) × IsLegal records × IsTables db (rows_of records)

-- Tables that have the rows of a legal history are refused only for memory, or because the store failed under this
-- name, or a query took more steps than the connection may.
abbrev pub IsOfStore : (old new : State) → OpenFault → Type 0
IsOfStore old new (Store error) = (cause error ≡ of.Store) × IsRefusal old new error
IsOfStore old new OutOfMemory = Unit {0}
IsOfStore old new _ = ⊥

-- they are of version 1, and have the rows of a legal history
abbrev pub HaveFirstHistory : Database → Type 0
HaveFirstHistory db = (records : List Record) × IsLegal records × IsFirstTables db (rows_of records)

-- These are told as such, or refused only so.
abbrev pub IsOldOrOfStore : (old new : State) → OpenFault → Type 0
IsOldOrOfStore old new OldVersion = Unit {0}
IsOldOrOfStore old new fault = IsOfStore old new fault

-- As what a store without a table `meta` is told: as none of the relay's, or the look at it was refused.
abbrev pub IsForeign : OpenFault → Type 0
IsForeign NewerVersion = ⊥
IsForeign OldVersion = ⊥
IsForeign Damaged = ⊥
IsForeign _ = Unit {0}

-- a fault of the store that is told is one that was met at it
abbrev pub FailsIfOfStore : State → OpenFault → Type 0
FailsIfOfStore new (Store error) = (why : StoreError) × (error ≡ store_error why) × Tells new.blamed why
FailsIfOfStore new _ = Unit {0}

-- what each refusal leaves: where it is of the tables, the store was seen to be open
abbrev pub LeavesRead : State → State → OpenFault → Type 0
LeavesRead old new (Store error) = IsOnlyRead old new
LeavesRead old new OutOfMemory = IsOnlyRead old new
LeavesRead old new _ = IsReadOpen old new

-- ---- between the check and the look at the store after it

-- The tables have sound rows, and the store holds each legal history that has these, of so many records.
pub record AreAdopted (old new : State) (count : ℕ) : Type 0 where
  pub rows : Rows
  pub stand : tables.AreSoundTables old.now rows
  pub holds : (records : List Record) → IsLegal records → IsTables old.now (rows_of records) → HoldsAt new count records
      × MayLeave new (λ r. r ≡ rows_of records)

-- as what a refused statement is told, by its cause: under the relay's schema there is no other
abbrev pub fault_by : Error → Cause → OpenFault
fault_by error of.Memory = OutOfMemory
fault_by error of.Store = Store error
fault_by error of.Other = NotOurs

-- as what a fault of the check is told
abbrev pub fault_of : TableFault → OpenFault
fault_of table.NotOurs = NotOurs
fault_of table.NewerVersion = NewerVersion
fault_of table.OldVersion = OldVersion
fault_of table.Damaged = Damaged
fault_of (table.Failed error) = fault_by error (cause error)

-- as what an opening is told whose books weren't loaded
abbrev pub unloaded_fault : LoadFault → OpenFault
unloaded_fault load.Closed = Store (SqliteFailure code.Closed)
unloaded_fault (load.Store error) = Store error
unloaded_fault load.OutOfMemory = OutOfMemory

abbrev pub IsToldAs : Result ℕ TableFault → OpenFault → Type 0
IsToldAs checked told = (fault : TableFault) × (checked ≡ Err fault) × (told ≡ fault_of fault)

-- What is told of a check with this answer. A fault of the store, and a failed allocation, is the check's own, or that
-- of the look at the store after it. If it is the check's, the store told no other since.
abbrev pub TellsCheck : State → State → Result ℕ TableFault → Result ℕ OpenFault → Type 0
TellsCheck old new checked (Ok records) = (checked ≡ Ok records) × IsUnchanged old new
TellsCheck old new checked (Err NotOurs) = IsToldAs checked NotOurs × IsUnchanged old new
TellsCheck old new checked (Err NewerVersion) = IsToldAs checked NewerVersion × IsUnchanged old new
TellsCheck old new checked (Err OldVersion) = IsToldAs checked OldVersion × IsUnchanged old new
TellsCheck old new checked (Err Damaged) = IsToldAs checked Damaged × IsUnchanged old new
TellsCheck old new checked (Err OutOfMemory) =
    (IsToldAs checked OutOfMemory × IsUnchanged old new)
    ⊎ ((error : Error) × (cause error ≡ of.Memory) × Fails old new ⊥ error)
TellsCheck old new checked (Err (Store error)) =
    (IsToldAs checked (Store error) × KeepsOpen old new × (new.blamed ≡ old.blamed))
    ⊎ ((cause error ≡ of.Store) × Fails old new ⊥ error)
