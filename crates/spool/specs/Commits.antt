-- How a commit ends, and what it leaves of a vault.
use Rattle.std.specs.Prelude.{◌≡◌, ◌⊎◌, ◌++◌, List, Result, Ok, Err}
use Rattle.sqlite.specs.State.{State}
use Rattle.sqlite.specs.Held.{state}
use Rattle.sqlite_trees.specs.declared.store.Store.{Ghosts}
use Rattle.relay_types.specs.Rows.{rows_of, put_rows}
use Rattle.relay_types.specs.declared.record.Record.{Record}
use Rattle.relay_types.specs.Records.{records_of}
use Rattle.relay_types.specs.Legal.{IsLegal}
use Rattle.spool_sql.specs.Steps.{MayLeave}
use Rattle.spool.specs.declared.faults.CommitEnd.{CommitEnd}
use Rattle.spool.specs.declared.faults.CommitEnd.TheVariants as ends
use Rattle.spool.specs.declared.faults.Unchanged.TheVariants as why
use Rattle.spool.specs.declared.transaction.WriteEnd.{WriteEnd}
use Rattle.spool.specs.declared.transaction.WriteEnd.TheVariants.{Committed, Illegal, OutOfMemory, Doubtful}
use Rattle.spool.specs.Batches.{BatchValue, doubt_of}
use Rattle.spool.specs.Writing.{IsCause, Rests, RestsInDoubt}
use Rattle.spool.specs.Vaults.{VaultValue, Holds}

-- the vault holds this history, and a stop leaves its rows
abbrev pub HoldsOnDisk : {S : Type 0} → Ghosts S → VaultValue S → List Record → Type 0
HoldsOnDisk g v records = Holds g v records × MayLeave (state g v.conn) (λ r. r ≡ rows_of records)

-- the batch is of the vault's opening, and begins with its next record
abbrev pub IsNext : {S : Type 0} → VaultValue S → BatchValue → Type 0
IsNext v batch = (batch.mark ≡ v.mark) × (batch.from ≡ v.next)

-- the batch comes back, or of a doubtful one the places
abbrev pub HandsBack : BatchValue → CommitEnd → Type 0
HandsBack batch (ends.Unchanged back reason) = back ≡ batch
HandsBack batch (ends.Doubtful doubt cause) = doubt ≡ doubt_of batch

-- the vault didn't look at the store
abbrev pub IsRefused : CommitEnd → Type 0
IsRefused (ends.Unchanged batch why.Closed) = Unit {0}
IsRefused (ends.Unchanged batch why.OutOfTurn) = Unit {0}
IsRefused _ = ⊥

-- what is answered of a batch whose write ended so
abbrev pub answer_of : BatchValue → WriteEnd → Result BatchValue CommitEnd
answer_of batch Committed = Ok batch
answer_of batch Illegal = Err (ends.Unchanged batch why.Illegal)
answer_of batch OutOfMemory = Err (ends.Unchanged batch why.OutOfMemory)
answer_of batch (Doubtful cause) = Err (ends.Doubtful (doubt_of batch) cause)

-- nobody knows whether the batch was written
abbrev pub IsDoubt : Result BatchValue CommitEnd → Type 0
IsDoubt (Err (ends.Doubtful doubt cause)) = Unit {0}
IsDoubt _ = ⊥

-- Why nobody knows it: the store failed under this name, or memory was refused. Or else nothing was written to the
-- disk.
abbrev pub IsDoubtedFor : (old new : State) → Result BatchValue CommitEnd → Type 0
IsDoubtedFor old new (Err (ends.Doubtful doubt cause)) = IsCause old new cause
IsDoubtedFor old new _ = Unit {0}

module _ {S : Type 0} (g : Ghosts S) (old new : VaultValue S) (batch : BatchValue) where
  -- what the answer says of the rows of a history that the vault held
  abbrev pub LeavesRows : Result BatchValue CommitEnd → Type 0
  LeavesRows (Ok receipt) = (records : List Record) → Holds g old records
      → Rests (state g new.conn) (put_rows (rows_of records) (records_of batch.steps))
  LeavesRows (Err (ends.Unchanged back reason)) =
      (records : List Record) → Holds g old records → Rests (state g new.conn) (rows_of records)
  LeavesRows (Err (ends.Doubtful doubt cause)) =
      (records : List Record) → Holds g old records → MayLeave (state g new.conn)
      (λ r. (r ≡ rows_of records) ⊎ (r ≡ put_rows (rows_of records) (records_of batch.steps)))

  -- what the answer says of the history itself
  abbrev pub LeavesHistory : Result BatchValue CommitEnd → Type 0
  LeavesHistory (Ok receipt) = (records : List Record) → Holds g old records
      → HoldsOnDisk g new (records ++ records_of batch.steps)
  LeavesHistory (Err (ends.Unchanged back reason)) =
      (records : List Record) → Holds g old records → HoldsOnDisk g new records
  LeavesHistory (Err (ends.Doubtful doubt cause)) = (records : List Record) → Holds g old records
      → RestsInDoubt (state g new.conn) records (records_of batch.steps)

-- the batch isn't legal after a history that the vault holds
abbrev pub IsIllegal : {S : Type 0} → Ghosts S → VaultValue S → BatchValue → Type 0
IsIllegal g old batch = (records : List Record) → Holds g old records → ¬ IsLegal (records ++ records_of batch.steps)
