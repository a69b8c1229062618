-- What a commit makes of the rows of a legal history, what a stop leaves of it, and how its end is reported.
use Rattle.std.specs.Prelude.{◌≡◌, ◌⊎◌, ℕ, ◌+◌, Bool, true, false, List, ◌++◌}
use Rattle.std.specs.Prelude.{IsTrue, Result, Ok, Err}
use Rattle.sqlite.specs.declared.error.Error.{Error}
use Rattle.sqlite.specs.State.{State, HasCleanDisk, Fails}
use Rattle.sqlite.specs.Tree.{Trees}
use Rattle.relay_types.specs.declared.record.Record.{Record}
use Rattle.relay_types.specs.Legal.{is_legal, IsLegal}
use Rattle.relay_types.specs.Rows.{Rows, rows_of}
use Rattle.spool_sql.specs.Readable.{IsRefusal}
use Rattle.spool_sql.specs.Stored.{AreTablesOf}
use Rattle.spool_sql.specs.Steps.{Stands, MayLeave}
use Rattle.spool_sql.specs.Causes.{cause}
use Rattle.spool_sql.specs.declared.cause.Cause.TheVariants.{Memory}
use Rattle.spool.specs.Vaults.{HoldsAt}
use Rattle.spool.specs.declared.transaction.WriteEnd.{WriteEnd}
use Rattle.spool.specs.declared.transaction.WriteEnd.TheVariants.{Committed, Illegal, OutOfMemory, Doubtful}

-- ---- between transactions

-- the records with these numbers are committed exactly where the longer history is legal
pub record Commits (old new : State) (next : ℕ) (entries : List Record) (legal : Bool) : Type 0 where
  pub judges : (records : List Record) → HoldsAt old next records → legal ≡ is_legal (records ++ entries)
  pub makes : IsTrue legal → (records : List Record) → HoldsAt old next records
      → Stands new (rows_of (records ++ entries))

-- What a commit of the records writes to the disk. Records that aren't legal are never committed.
abbrev pub CommitsAll : State → ℕ → List Record → Trees → Type 0
CommitsAll old next entries db = (records : List Record) → HoldsAt old next records → IsLegal (records ++ entries)
    × AreTablesOf db (rows_of (records ++ entries))

-- the connection stands as it stood
abbrev pub StaysAs : State → State → Type 0
StaysAs old new = (rows : Rows) → Stands old rows → Stands new rows

-- the rows stand, and a stop leaves them
abbrev pub Rests : State → Rows → Type 0
Rests s rows = Stands s rows × MayLeave s (λ r. r ≡ rows)

-- A stop leaves the rows of the history, or it goes on legally with these records, and a stop leaves the rows of both.
-- If the store is still open, the rows of the history stand.
pub record RestsInDoubt (s : State) (records entries : List Record) : Type 0 where
  pub leaves : MayLeave s (λ r. (r ≡ rows_of records)
      ⊎ (IsLegal (records ++ entries) × (r ≡ rows_of (records ++ entries))))
  pub stands : IsTrue s.is_open → Stands s (rows_of records)

-- how the write of records ends
abbrev pub WriteEndsAs : State → State → ℕ → List Record → WriteEnd → Type 0
WriteEndsAs old new next entries Committed = (records : List Record) → HoldsAt old next records
    → IsLegal (records ++ entries) × Rests new (rows_of (records ++ entries))
WriteEndsAs old new next entries Illegal = (records : List Record) → HoldsAt old next records
    → (¬ IsLegal (records ++ entries)) × Rests new (rows_of records)
WriteEndsAs old new next entries OutOfMemory = (rows : Rows) → Stands old rows → Rests new rows
WriteEndsAs old new next entries (Doubtful cause) = (records : List Record) → HoldsAt old next records
    → RestsInDoubt new records entries

-- ---- why it isn't known how the write ended

-- a stop leaves no more than it left before
abbrev pub LeavesAsBefore : (old new : State) → Type 0
LeavesAsBefore old new = (db : Trees) → new.may_leave db → old.may_leave db

-- The error is that of a refusal: the store failed and told this fault last, or memory was refused. Or else nothing
-- was written to the disk.
abbrev pub IsCause : (old new : State) → Error → Type 0
IsCause old new error = IsRefusal old new error ⊎ LeavesAsBefore old new

abbrev pub HasCause : (old new : State) → WriteEnd → Type 0
HasCause old new (Doubtful error) = IsCause old new error
HasCause old new _ = Unit {0}

-- ---- which error was met where

-- nothing was written, and the store was seen to be usable
abbrev pub IsUnwritten : WriteEnd → Type 0
IsUnwritten Committed = ⊥
IsUnwritten Illegal = Unit {0}
IsUnwritten OutOfMemory = Unit {0}
IsUnwritten (Doubtful error) = ⊥

-- a look at the store is owed after a transaction that was left, or refused for memory
abbrev pub AsksForLook : Result Bool Error → Type 0
AsksForLook (Ok made) = made ≡ false
AsksForLook (Err error) = cause error ≡ Memory

-- What is told of a transaction with this answer. A doubt has the transaction's own error, and the store told no other
-- since, or that of the look at the store after it, where the store failed.
abbrev pub ReportsWrite : State → State → Result Bool Error → WriteEnd → Type 0
ReportsWrite old new tried Committed = tried ≡ Ok true
ReportsWrite old new tried Illegal = tried ≡ Ok false
ReportsWrite old new tried OutOfMemory = (error : Error) × (tried ≡ Err error) × (cause error ≡ Memory)
ReportsWrite old new tried (Doubtful error) =
    ((tried ≡ Err error) × (¬ (cause error ≡ Memory)) × (new.blamed ≡ old.blamed))
    ⊎ (AsksForLook tried × (HasCleanDisk new → Fails old new ⊥ error))
