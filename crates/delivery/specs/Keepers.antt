-- What a commit leaves of the histories that a keeper holds, and what a run of commits leaves.
use Rattle.std.specs.Prelude.{◌≡◌, ◌⊎◌, ℕ, ◌+◌, length, List, [], ◌∷◌, ◌++◌, Option, Some, None, Result, Ok, Err}
use Rattle.relay_types.specs.declared.record.Record.{Record}
use Rattle.relay_types.specs.Records.{History, records_of}
use Rattle.spool.specs.declared.faults.CommitEnd.{CommitEnd}
use Rattle.spool.specs.declared.faults.CommitEnd.TheVariants as ends
use Rattle.spool.specs.declared.faults.Unchanged.{Unchanged}
use Rattle.spool.specs.declared.faults.Unchanged.TheVariants as why
use Rattle.spool.specs.Batches.{BatchValue}
use Rattle.delivery.specs.declared.committer.CommitterEnd.{CommitterEnd}
use Rattle.delivery.specs.declared.committer.CommitterEnd.TheVariants.{Finished, Halted}
use Rattle.delivery.specs.declared.committer.HaltCause.{HaltCause}
use Rattle.delivery.specs.declared.committer.HaltCause.TheVariants as cause
use Rattle.delivery.specs.declared.committer.Next.{Next}
use Rattle.delivery.specs.declared.committer.Next.TheVariants as next

module _ {K : Type 0} (holds : K → List Record → Type 0) (in_doubt : K → List Record → List Record → Type 0) where
  -- Of each history that was held: a commit adds the batch's records, or nothing; of a doubtful one nobody knows.
  abbrev pub HistoryAfterCommit : (old new : K) → BatchValue → Result BatchValue CommitEnd → Type 0
  HistoryAfterCommit old new batch (Ok receipt) =
      (records : List Record) → holds old records → holds new (records ++ records_of batch.steps)
  HistoryAfterCommit old new batch (Err (ends.Unchanged back reason)) =
      (records : List Record) → holds old records → holds new records
  HistoryAfterCommit old new batch (Err (ends.Doubtful doubt reason)) =
      (records : List Record) → holds old records → in_doubt new records (records_of batch.steps)

  -- what is held at the end: the history, and if the store was at fault perhaps other records after it
  abbrev pub HoldsAtEnd : K → List Record → CommitterEnd → Type 0
  HoldsAtEnd new records (Halted (cause.Store error)) = (last : History) × in_doubt new records (records_of last)
  HoldsAtEnd new records _ = holds new records

-- the number of the next record: a batch that is committed begins with it
module _ {K : Type 0} (next : K → ℕ) where
  abbrev pub AdvancesNext : (old new : K) → BatchValue → Result BatchValue CommitEnd → Type 0
  AdvancesNext old new batch (Ok receipt) =
      (batch.from ≡ next old) × (next new ≡ next old + length (records_of batch.steps))
  AdvancesNext old new batch (Err end) = next new ≡ next old

-- the records of these histories, one after another
abbrev pub records_in : (batches : List History) → List Record
records_in [] = []
records_in (steps ∷ batches) = records_of steps ++ records_in batches

module _ {K : Type 0} (holds : K → List Record → Type 0) (in_doubt : K → List Record → List Record → Type 0) where
  -- Each history that was held is held at the end, followed by other records or by none.
  abbrev pub AddsRecords : (old new : K) → CommitterEnd → Type 0
  AddsRecords old new end = (records : List Record) → holds old records
      → (batches : List History) × HoldsAtEnd holds in_doubt new (records ++ records_in batches) end

-- the log is what it was before, followed by other records or by none
abbrev pub AppendsBatches : (log now : List Record) → Type 0
AppendsBatches log now = (batches : List History) × (now ≡ log ++ records_in batches)

module _ {K : Type 0} (holds : K → List Record → Type 0) (in_doubt : K → List Record → List Record → Type 0) where
  -- If the keeper held some records and the log before, it holds these and the log now.
  abbrev pub KeepsLog : (old : K) (log : List Record) (new : K) (now : List Record) → CommitterEnd → Type 0
  KeepsLog old log new now end =
      (records : List Record) → holds old (records ++ log) → HoldsAtEnd holds in_doubt new (records ++ now) end

-- As what a commit that changed nothing ends a committer.
abbrev pub cause_of : Unchanged → HaltCause
cause_of why.Closed = cause.Closed
cause_of why.OutOfTurn = cause.OutOfTurn
cause_of why.Illegal = cause.Illegal
cause_of why.OutOfMemory = cause.OutOfMemory

-- How a committer ends after a commit, if it ends. If an allocation failed, it may go on.
abbrev pub EndsAfterCommit : Result BatchValue CommitEnd → Option CommitterEnd → Type 0
EndsAfterCommit (Ok receipt) end = end ≡ None
EndsAfterCommit (Err (ends.Unchanged batch why.OutOfMemory)) end =
    (end ≡ None) ⊎ (end ≡ Some (Halted cause.OutOfMemory))
EndsAfterCommit (Err (ends.Unchanged batch why.Closed)) end = end ≡ Some (Halted cause.Closed)
EndsAfterCommit (Err (ends.Unchanged batch why.OutOfTurn)) end = end ≡ Some (Halted cause.OutOfTurn)
EndsAfterCommit (Err (ends.Unchanged batch why.Illegal)) end = end ≡ Some (Halted cause.Illegal)
EndsAfterCommit (Err (ends.Doubtful doubt error)) end = end ≡ Some (Halted (cause.Store error))

-- the end names a fault of the store, or a keeper that takes no batch any more
abbrev pub IsOfKeeper : CommitterEnd → Type 0
IsOfKeeper (Halted (cause.Store error)) = Unit {0}
IsOfKeeper (Halted cause.Closed) = Unit {0}
IsOfKeeper _ = ⊥

-- the desk alone brings such an end
abbrev pub IsOfDesk : CommitterEnd → Type 0
IsOfDesk end = (end ≡ Finished) ⊎ (end ≡ Halted cause.Halted)

abbrev pub EndsByDesk : Next → Type 0
EndsByDesk (next.End end) = IsOfDesk end
EndsByDesk _ = Unit {0}
