-- Which store takes the tables, and what is left of one in which they were to be made.
use Rattle.std.specs.Prelude.{◌≡◌, ◌⊎◌, ℕ, Bool, ◌||◌, false, List, [], codes, IsTrue}
use Rattle.sqlite.specs.declared.error.Error.{Error}
use Rattle.sqlite.specs.State.{State, HasCleanDisk, Fails}
use Rattle.sqlite.specs.Schema.{Schema}
use Rattle.sqlite.specs.Tree.{Trees}
use Rattle.sqlite_catalog.specs.Change.{is_used}
use Rattle.relay_types.specs.Rows.{rows_of}
use Rattle.spool_sql.specs.Tables.{no_schema}
use Rattle.spool_sql.specs.Stored.{AreTablesOf}
use Rattle.spool_sql.specs.Steps.{IsBegun}
use Rattle.spool_sql.specs.Causes.{cause}
use Rattle.spool_sql.specs.declared.cause.Cause.TheVariants.{Memory}
use Rattle.spool.specs.Writing.{IsCause, Rests}
use Rattle.spool.specs.declared.faults.OpenFault.{OpenFault}
use Rattle.spool.specs.declared.faults.OpenFault.TheVariants.{NotOurs, NewerVersion, OldVersion, Damaged, Store}
use Rattle.spool.specs.declared.faults.OpenFault.TheVariants.{OutOfMemory}

-- a table, an index or a view of the store has the name of one of the six tables, in any case of its letters
abbrev pub has_ours : Schema → Bool
has_ours schema =
    is_used schema (codes "meta") || (is_used schema (codes "endpoints") || (is_used schema (codes "secrets")
    || (is_used schema (codes "deliveries") || (is_used schema (codes "attempts") || is_used schema (codes "topics")))))

-- NotOurs comes of such a store, and every other refusal of another
abbrev pub IsRefusedFor : Schema → OpenFault → Type 0
IsRefusedFor schema NotOurs = IsTrue (has_ours schema)
IsRefusedFor schema OutOfMemory = has_ours schema ≡ false
IsRefusedFor schema (Store cause) = has_ours schema ≡ false
IsRefusedFor schema _ = ⊥

-- how a refusal is printed
abbrev pub fault_name : OpenFault → List ℕ
fault_name NotOurs = codes "NotOurs"
fault_name NewerVersion = codes "NewerVersion"
fault_name Damaged = codes "Damaged"
fault_name (Store cause) = codes "Store"
fault_name OldVersion = codes "OldVersion"
fault_name OutOfMemory = codes "OutOfMemory"

-- the last commit stands, in no transaction
pub record IsBack (old new : State) : Type 0 where
  pub now : new.now ≡ old.committed
  pub committed : new.committed ≡ old.committed
  pub autocommit : new.in_transaction ≡ false

-- what the commit writes to the disk of a store that had no table
abbrev pub Founded : State → Trees → Type 0
Founded old db = IsBegun no_schema old.now → AreTablesOf db (rows_of [])

-- a store that had no table has the rows of the empty history, and a stop leaves them
abbrev pub IsFounded : State → State → Type 0
IsFounded old new = IsBegun no_schema old.now → Rests new (rows_of [])

-- the store is open, with the tables of the last commit, and a stop leaves these
pub record KeepsTables (old new : State) : Type 0 where
  pub is_open : IsTrue new.is_open
  pub back : IsBack old new
  pub leaves : (db : Trees) → new.may_leave db → db ≡ old.committed.trees

-- a stop leaves what it left before, or, where no table of ours was there, what the commit writes
abbrev pub MayBeMade : State → State → Type 0
MayBeMade old new = (db : Trees) → new.may_leave db → old.may_leave db
    ⊎ ((has_ours old.now.schema ≡ false) × Founded old db)

-- What each refusal leaves. A fault of the store is the one that it told last, or nothing was written to the disk.
abbrev pub LeavesAt : State → State → OpenFault → Type 0
LeavesAt old new NotOurs = (db : Trees) → new.may_leave db → old.may_leave db
LeavesAt old new OutOfMemory = KeepsTables old new
LeavesAt old new (Store cause) = MayBeMade old new × IsCause old new cause
LeavesAt old new _ = ⊥

-- What is told of an error for which the tables weren't made. A fault of the store has that error, and the store told
-- no other since, or that of the look at the store after it, where the store failed.
abbrev pub TellsFault : State → State → Error → OpenFault → Type 0
TellsFault old new error OutOfMemory = cause error ≡ Memory
TellsFault old new error (Store told) =
    ((told ≡ error) × (¬ (cause error ≡ Memory)) × (new.blamed ≡ old.blamed))
    ⊎ ((cause error ≡ Memory) × (HasCleanDisk new → Fails old new ⊥ told))
TellsFault old new error _ = ⊥
