-- What a load answers, and what it leaves of a vault.
use Rattle.std.specs.Prelude.{◌≡◌, ◌≤◌, ◌⊎◌, ℕ, List, [], codes, length, IsTrue, Result, Ok, Err}
use Rattle.sqlite.specs.declared.error.Error.{Error}
use Rattle.sqlite.specs.State.{State, HasCleanDisk, Fails}
use Rattle.sqlite.specs.Held.{state}
use Rattle.sqlite_trees.specs.declared.store.Store.{Ghosts}
use Rattle.relay_types.specs.declared.limits.TheConstants.{MAX_RECORDS}
use Rattle.relay_types.specs.declared.record.Record.{Record}
use Rattle.relay_types.specs.Legal.{IsLegal}
use Rattle.relay_types.specs.Rows.{rows_of}
use Rattle.endpoint_book.specs.Entries.{flags_in}
use Rattle.endpoint_book.specs.Book.{StandsFor as StandsForEndpoints}
use Rattle.delivery_book.specs.Book.{StandsFor as StandsForDeliveries}
use Rattle.spool_sql.specs.declared.row.RowFault.{RowFault}
use Rattle.spool_sql.specs.declared.cause.Cause.TheVariants.{Memory}
use Rattle.spool_sql.specs.Causes.{cause}
use Rattle.spool_sql.specs.Readable.{WasRefusal}
use Rattle.spool_sql.specs.Reading.{error_of}
use Rattle.spool_sql.specs.Steps.{Stands, MayLeave}
use Rattle.spool.specs.declared.faults.LoadFault.{LoadFault}
use Rattle.spool.specs.declared.faults.LoadFault.TheVariants.{Closed, Store, OutOfMemory}
use Rattle.spool.specs.declared.load.Books.{Books}
use Rattle.spool_load.specs.Loading.{greatest_of}
use Rattle.spool.specs.Vaults.{VaultValue, Holds}
use Rattle.spool.specs.Writing.{StaysAs}
use Rattle.spool.specs.Commits.{HoldsOnDisk}

-- the books stand for this history, all of it settled
pub record AreBooks (books : Books) (history : List Record) : Type 0 where
  pub endpoints : StandsForEndpoints books.endpoints history (length history)
  pub deliveries : StandsForDeliveries books.deliveries history (length history)
  pub records : books.records ≡ length history
  pub clock : books.clock ≡ greatest_of (rows_of history).deliveries (rows_of history).attempts

-- they do so for each legal history whose rows stand
abbrev pub AreBooksOn : State → Books → Type 0
AreBooksOn s books = (history : List Record) → IsLegal history → Stands s (rows_of history) → AreBooks books history

-- and for each that the vault holds
abbrev pub AreBooksOf : {S : Type 0} → Ghosts S → VaultValue S → Books → Type 0
AreBooksOf g v books = (history : List Record) → Holds g v history → AreBooks books history

-- Whatever the rows were: both books stand at the number of records, all of them settled, no outcome waits, and a
-- history may have so many.
pub record AreSettled (books : Books) : Type 0 where
  pub endpoints_next : books.endpoints.next_seq ≡ books.records
  pub endpoints_settled : books.endpoints.settled_seq ≡ books.records
  pub no_flags : flags_in books.endpoints ≡ 0
  pub deliveries_next : books.deliveries.next_seq ≡ books.records
  pub deliveries_settled : books.deliveries.settled_seq ≡ books.records
  pub no_outcomes : books.deliveries.unsettled ≡ []
  pub room : books.records ≤ MAX_RECORDS

-- Why a load gives no books: the vault is closed, memory was refused, the store failed under this name while it was
-- read, or a query took more steps than the connection may.
abbrev pub IsLoadRefusal : State → State → LoadFault → Type 0
IsLoadRefusal old new Closed = Unit {0}
IsLoadRefusal old new OutOfMemory = Unit {0}
IsLoadRefusal old new (Store error) = WasRefusal old new error

-- the store was seen to be usable after the reads
abbrev pub IsSeen : Result Books LoadFault → Type 0
IsSeen (Ok books) = Unit {0}
IsSeen (Err Closed) = ⊥
IsSeen (Err OutOfMemory) = Unit {0}
IsSeen (Err (Store error)) = ⊥

-- where the store is open it was so, and what stood stands
abbrev pub KeepsOpen : State → State → Type 0
KeepsOpen old new = IsTrue new.is_open → IsTrue old.is_open × StaysAs old new

-- a history that the vault held it holds, and a stop leaves its rows
abbrev pub StillHolds : {S : Type 0} → Ghosts S → VaultValue S → VaultValue S → Type 0
StillHolds g old new = (history : List Record) → Holds g old history → HoldsOnDisk g new history

-- a stop leaves its rows, and the vault holds it if the store is still open
abbrev pub StillOnDisk : {S : Type 0} → Ghosts S → VaultValue S → VaultValue S → Type 0
StillOnDisk g old new =
    (history : List Record) → Holds g old history
    → (IsTrue (state g new.conn).is_open → Holds g new history) × MayLeave (state g new.conn) (λ r. r ≡ rows_of history)

-- what is left of a history that the vault held, by the answer
abbrev pub LeavesHeld : {S : Type 0} → Ghosts S → VaultValue S → VaultValue S → Result Books LoadFault → Type 0
LeavesHeld g old new (Ok books) = StillHolds g old new
LeavesHeld g old new (Err Closed) = StillHolds g old new
LeavesHeld g old new (Err OutOfMemory) = StillHolds g old new
LeavesHeld g old new (Err (Store error)) = StillOnDisk g old new

-- how a refusal is printed
abbrev pub load_fault_name : LoadFault → List ℕ
load_fault_name Closed = codes "Closed"
load_fault_name (Store cause) = codes "Store"
load_fault_name OutOfMemory = codes "OutOfMemory"

-- a look at the store is owed after reads that were answered, or refused for memory
abbrev pub AsksForLookBehind : Result Books RowFault → Type 0
AsksForLookBehind (Ok books) = Unit {0}
AsksForLookBehind (Err fault) = cause (error_of fault) ≡ Memory

-- what is told of reads whose fault has this error, if it isn't out of memory
abbrev pub IsOwnFault : Result Books RowFault → Error → Type 0
IsOwnFault read told = (fault : RowFault) × (read ≡ Err fault) × (told ≡ error_of fault) × (¬ (cause told ≡ Memory))

-- What is told of reads with this answer. A fault of the store has their own error, or that of the look at the store
-- after them, where the store failed.
abbrev pub TellsLoad : State → State → Result Books RowFault → Result Books LoadFault → Type 0
TellsLoad old new read (Ok books) = read ≡ Ok books
TellsLoad old new read (Err Closed) = ⊥
TellsLoad old new read (Err OutOfMemory) = (fault : RowFault) × (read ≡ Err fault) × (cause (error_of fault) ≡ Memory)
TellsLoad old new read (Err (Store told)) =
    IsOwnFault read told ⊎ (AsksForLookBehind read × (HasCleanDisk new → Fails old new ⊥ told))
