-- What is in the store after a relay that served.
use Rattle.std.specs.Prelude.{◌≡◌, List, ◌++◌, Option, Result, Err, IfSome, IsTrue}
use Rattle.sqlite.specs.Held.{state}
use Rattle.sqlite.specs.Store.{Ghosts}
use Rattle.relay_types.specs.declared.record.Record.{Record}
use Rattle.relay_types.specs.Records.{History}
use Rattle.relay_types.specs.Rows.{rows_of}
use Rattle.spool_sql.specs.Steps as tables
use Rattle.spool_sql.specs.Steps.{IfClean, MayLeave}
use Rattle.spool.specs.Commits.{HoldsOnDisk}
use Rattle.spool.specs.Writing.{RestsInDoubt}
use Rattle.spool.specs.Vaults.{VaultValue}
use Rattle.desk.specs.Desks.{DeskValue, StandsFor}
use Rattle.desk.specs.World.{World, settled_records}
use Rattle.delivery.specs.Keepers.{HoldsAtEnd, records_in}
use Rattle.delivery.specs.declared.committer.CommitterEnd.{CommitterEnd}
use Rattle.delivery.specs.declared.committer.CommitterEnd.TheVariants as committer
use Rattle.intake_shed.specs.Acks.{EventValue, HasEvent}
use Rattle.relay_serve.specs.declared.fault.ServeFault.{ServeFault}
use Rattle.relay_serve.specs.declared.served.Served.{Served}
use Rattle.relay_serve.specs.declared.fault.ServeFault.TheVariants.{Halted}

-- how the committer ended, as the relay's end tells: it finished, unless it is told to be halted
abbrev pub committer_end : Result Served ServeFault → CommitterEnd
committer_end (Err (Halted cause)) = committer.Halted cause
committer_end _ = committer.Finished

module _ {S : Type 0} (g : Ghosts S) where
  -- the store, if it is open, has the rows of these records, and a stop leaves them
  abbrev pub HasRows : VaultValue S → List Record → Type 0
  HasRows v records = (IsTrue (state g v.conn).is_open → tables.Stands (state g v.conn) (rows_of records))
      × MayLeave (state g v.conn) (λ r. r ≡ rows_of records)

  -- the same, but that a stop may leave the rows of more records after them
  abbrev pub LeavesDoubt : VaultValue S → List Record → List Record → Type 0
  LeavesDoubt v records more = RestsInDoubt (state g v.conn) records more

  -- Of each history that the vault held, it has the rows, followed by those of other records or of none, and a crash
  -- leaves these. If the store was at fault, a crash leaves these, or these and other records after them.
  abbrev pub AddsBatches : (old new : VaultValue S) → CommitterEnd → Type 0
  AddsBatches old new end = (records : List Record) → HoldsOnDisk g old records
      → (batches : List History) × HoldsAtEnd HasRows LeavesDoubt new (records ++ records_in batches) end

  -- so it is at this end, if the disk has returned what was written
  abbrev pub KeepsHistory : (old new : VaultValue S) → Result Served ServeFault → Type 0
  KeepsHistory old new ended = IfClean g old.conn new.conn (λ _ _. AddsBatches old new (committer_end ended))

  -- If the vault held these records, it has the rows of them, followed by those of other records or of none, and a
  -- crash now leaves these. The event is one of all these records: at its number, with its endpoint, its id and its
  -- body. If the store was at fault, a crash leaves these, or these and other records after them.
  abbrev pub AddsEvent : (old new : VaultValue S) → CommitterEnd → Option EventValue → List Record → Type 0
  AddsEvent old new end acknowledged records = HoldsOnDisk g old records → (batches : List History)
      × HoldsAtEnd HasRows LeavesDoubt new (records ++ records_in batches) end
      × IfSome acknowledged (λ event. HasEvent (records ++ records_in batches) event.seq event.name event.id event.body)

  -- It is so of the settled records of each state that the desk represented, if the disk has returned what was written.
  abbrev pub KeepsAcknowledged : DeskValue → (old new : VaultValue S) → Result Served ServeFault → Option EventValue
      → Type 0
  KeepsAcknowledged desk old new ended acknowledged = IfClean g old.conn new.conn (λ _ _.
      (w : World) → StandsFor desk w → AddsEvent old new (committer_end ended) acknowledged (settled_records w))
