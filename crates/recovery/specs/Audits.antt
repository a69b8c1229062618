-- What an audit compares.
use Rattle.std.specs.Prelude.{◌⊎◌, ℕ, List, Result, Ok, Err, codes, IsSome, IsTrue}
use Rattle.sqlite.specs.Store.{Ghosts}
use Rattle.sqlite.specs.State.{State}
use Rattle.relay_types.specs.declared.record.Record.{Record}
use Rattle.spool_sql.specs.Causes.{cause}
use Rattle.spool_sql.specs.declared.cause.Cause.{Cause}
use Rattle.spool_sql.specs.declared.cause.Cause.TheVariants as of
use Rattle.spool_sql.specs.Readable.{HasFailed}
use Rattle.spool_sql.specs.Steps.{IfClean}
use Rattle.spool.specs.declared.faults.LoadFault.{LoadFault}
use Rattle.spool.specs.declared.faults.LoadFault.TheVariants as load
use Rattle.spool.specs.declared.load.Books.{Books}
use Rattle.spool.specs.Books.{AreBooksOf}
use Rattle.spool.specs.Vaults.{VaultValue, Holds}
use Rattle.desk.specs.Desks.{DeskValue}
use Rattle.desk.specs.OwnBooks.{AreTold}
use Rattle.recovery.specs.declared.audits.AuditFault.{AuditFault}
use Rattle.recovery.specs.declared.audits.AuditFault.TheVariants.{Mismatch, Store, OutOfMemory}

-- this holds of the books of what the vault held
abbrev pub OfRows : {S : Type 0} → Ghosts S → (old new : VaultValue S) → (Books → Type 0) → Type 0
OfRows g old new P = (books : Books) × IfClean g old.conn new.conn (λ _ _. AreBooksOf g old books) × P books

-- the rows tell what the desk tells: of all that is settled, of each endpoint, and of each event
abbrev pub IsTold : {S : Type 0} → Ghosts S → (old new : VaultValue S) → DeskValue → Type 0
IsTold g old new desk = OfRows g old new (AreTold desk)

-- they don't
abbrev pub IsToldOtherwise : {S : Type 0} → Ghosts S → (old new : VaultValue S) → DeskValue → Type 0
IsToldOtherwise g old new desk = OfRows g old new (λ books. ¬ AreTold desk books)

-- the store failed while it was read, or a query took more steps than the connection may
abbrev pub HasRefused : (old new : State) → Type 0
HasRefused old new = HasFailed old new ⊎ IsSome old.step_limit

-- What an audit tells. Of a vault that is open and holds a legal history it tells `Store` only if the store failed.
abbrev pub TellsAudit : {S X : Type 0} → Ghosts S → (old new : VaultValue S) → DeskValue → Result X AuditFault → Type 0
TellsAudit g old new desk (Ok done) = IsTold g old new desk
TellsAudit g old new desk (Err Mismatch) = IsToldOtherwise g old new desk
TellsAudit g old new desk (Err Store) =
    IsTrue old.closed ⊎ IfClean g old.conn new.conn (λ a b. (history : List Record) → Holds g old history
    → HasRefused a b)
TellsAudit g old new desk (Err OutOfMemory) = Unit {0}

-- as what a load that was refused is told, by the cause where it is an error of the store
abbrev pub refusal_by : Cause → AuditFault
refusal_by of.Memory = OutOfMemory
refusal_by of.Store = Store
refusal_by of.Other = Store

abbrev pub refusal_of : LoadFault → AuditFault
refusal_of load.Closed = Store
refusal_of (load.Store error) = refusal_by (cause error)
refusal_of load.OutOfMemory = OutOfMemory

-- how a fault is printed
abbrev pub fault_name : AuditFault → List ℕ
fault_name Mismatch = codes "Mismatch"
fault_name Store = codes "Store"
fault_name OutOfMemory = codes "OutOfMemory"
