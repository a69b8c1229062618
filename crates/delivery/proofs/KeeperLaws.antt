-- What a run of commits leaves of a history.
use Rattle.std.proofs.Common.{◌≡◌, sym, ◌∙◌, ap, subst, ⊎_elim, inr, List, [], ◌∷◌, ◌++◌}
use Rattle.std.specs.Prelude.{Some, None, Result, Ok, Err, IfOk, IfErr}
use Rattle.std.proofs.lemmas.List.{append_assoc, append-nil}
use Rattle.sqlite.specs.Held.{state}
use Rattle.sqlite.specs.Store.{Ghosts}
use Rattle.relay_types.specs.declared.record.Record.{Record}
use Rattle.relay_types.specs.Records.{History, records_of}
use Rattle.spool.specs.declared.faults.CommitEnd.{CommitEnd}
use Rattle.spool.specs.declared.faults.CommitEnd.TheVariants as ends
use Rattle.spool.specs.declared.faults.Unchanged.{Unchanged}
use Rattle.spool.specs.declared.faults.Unchanged.TheVariants as why
use Rattle.spool.specs.Batches.{BatchValue}
use Rattle.spool.specs.Commits.{HoldsOnDisk, LeavesHistory}
use Rattle.spool.specs.Writing.{RestsInDoubt}
use Rattle.spool.specs.Vaults.{VaultValue}
use Rattle.delivery.specs.declared.committer.CommitterEnd.{CommitterEnd}
use Rattle.delivery.specs.declared.committer.CommitterEnd.TheVariants.{Halted}
use Rattle.delivery.specs.declared.committer.HaltCause.TheVariants as cause
use Rattle.delivery.specs.Keepers.{AppendsBatches, EndsAfterCommit, HistoryAfterCommit, HoldsAtEnd, cause_of}
use Rattle.delivery.specs.Keepers.{records_in}
use Rattle.delivery.specs.Logs.{CommittedValue, receipt_of}

-- what a vault's commit leaves, as a keeper says it
pub vault_leaves : {S : Type 0} (g : Ghosts S) (old new : VaultValue S) (batch : BatchValue)
    (result : Result BatchValue CommitEnd) → LeavesHistory g old new batch result
    → HistoryAfterCommit (HoldsOnDisk g) (λ v records more. RestsInDoubt (state g v.conn) records more)
    old new batch result
vault_leaves g old new batch (Ok receipt) h = λ records held. h records held.0
vault_leaves g old new batch (Err (ends.Unchanged back reason)) h = λ records held. h records held.0
vault_leaves g old new batch (Err (ends.Doubtful doubt reason)) h = λ records held. h records held.0

records_in-last : (batches : List History) (steps : History) → records_in (batches ++ steps ∷ []) ≡ records_in batches
    ++ records_of steps
records_in-last [] steps = append-nil (records_of steps)
records_in-last (first ∷ batches) steps =
    ap (λ rest. records_of first ++ rest) (records_in-last batches steps)
    ∙ sym (append_assoc (records_of first) (records_in batches) (records_of steps))

-- a commit after which the committer goes on adds a whole batch, or nothing
pub goes_on : {K : Type 0} (holds : K → List Record → Type 0) (in_doubt : K → List Record → List Record → Type 0)
    (old new : K) (batch : BatchValue) (result : Result BatchValue CommitEnd)
    → EndsAfterCommit result None → HistoryAfterCommit holds in_doubt old new batch result
    → (records : List Record) (batches : List History)
    → holds old (records ++ records_in batches)
    → (more : List History) × holds new (records ++ records_in more)
goes_on holds in_doubt old new batch (Ok receipt) e h records batches held =
    let same : (records ++ records_in batches) ++ records_of batch.steps ≡ records ++ records_in
    (batches ++ batch.steps ∷ []) =
    append_assoc records (records_in batches) (records_of batch.steps) ∙ ap (λ rest. records ++ rest)
    (sym (records_in-last batches batch.steps)) in
    (batches ++ batch.steps ∷ [], subst (holds new) same (h (records ++ records_in batches) held))
goes_on holds in_doubt old new batch (Err (ends.Unchanged back why.OutOfMemory)) e h records batches held =
    (batches, h (records ++ records_in batches) held)
goes_on holds in_doubt old new batch (Err (ends.Unchanged back why.Closed)) e h records batches held = cc
goes_on holds in_doubt old new batch (Err (ends.Unchanged back why.OutOfTurn)) e h records batches held = cc
goes_on holds in_doubt old new batch (Err (ends.Unchanged back why.Illegal)) e h records batches held = cc
goes_on holds in_doubt old new batch (Err (ends.Doubtful doubt reason)) e h records batches held = cc

-- after a commit with which the committer goes on, the keeper holds the same records and the log
module _ {K : Type 0} (holds : K → List Record → Type 0) (in_doubt : K → List Record → List Record → Type 0)
    (old new : K)
    (batch : BatchValue) where
  pub keeps_log : (ended : Result CommittedValue CommitEnd) (log now : List Record)
      → EndsAfterCommit (receipt_of ended) None → HistoryAfterCommit holds in_doubt old new batch (receipt_of ended)
      → IfOk ended (λ committed. (now ≡ log ++ records_of batch.steps) × (committed.prefix ≡ now))
      → IfErr ended (λ _. now ≡ log)
      → (records : List Record) → holds old (records ++ log) → holds new (records ++ now)
  keeps_log (Ok committed) log now e leaves logged same records held =
      let all = append_assoc records log (records_of batch.steps) ∙ ap (λ more. records ++ more) (sym logged.0) in
      subst (holds new) all (leaves (records ++ log) held)
  keeps_log (Err (ends.Unchanged back why.OutOfMemory)) log now e leaves logged same records held =
      subst (λ more. holds new (records ++ more)) (sym same) (leaves (records ++ log) held)
  keeps_log (Err (ends.Unchanged back why.Closed)) log now e leaves logged same records held = cc
  keeps_log (Err (ends.Unchanged back why.OutOfTurn)) log now e leaves logged same records held = cc
  keeps_log (Err (ends.Unchanged back why.Illegal)) log now e leaves logged same records held = cc
  keeps_log (Err (ends.Doubtful doubt reason)) log now e leaves logged same records held = cc

-- what is at the end of a run whose last commit ended it
module _ {K : Type 0} (holds : K → List Record → Type 0) (in_doubt : K → List Record → List Record → Type 0)
    (old new : K)
    (batch : BatchValue) where
  pub ends_so : (ended : Result BatchValue CommitEnd) (end : CommitterEnd) → EndsAfterCommit ended (Some end)
      → HistoryAfterCommit holds in_doubt old new batch ended → (records : List Record) → holds old records
      → HoldsAtEnd holds in_doubt new records end
  ends_so (Ok receipt) end e leaves records held = absurd cc
  ends_so (Err (ends.Unchanged back why.OutOfMemory)) end e leaves records held =
      ⊎_elim (λ no. absurd cc) (λ (is : Some end ≡ Some (Halted cause.OutOfMemory)). stands (cc is)) e
    where
      stands : end ≡ Halted cause.OutOfMemory → HoldsAtEnd holds in_doubt new records end
      stands is = subst (HoldsAtEnd holds in_doubt new records) (sym is) (leaves records held)
  ends_so (Err (ends.Unchanged back why.Closed)) end e leaves records held =
      let is : end ≡ Halted cause.Closed = cc e in subst (HoldsAtEnd holds in_doubt new records) (sym is)
      (leaves records held)
  ends_so (Err (ends.Unchanged back why.OutOfTurn)) end e leaves records held =
      let is : end ≡ Halted cause.OutOfTurn = cc e in subst (HoldsAtEnd holds in_doubt new records) (sym is)
      (leaves records held)
  ends_so (Err (ends.Unchanged back why.Illegal)) end e leaves records held =
      let is : end ≡ Halted cause.Illegal = cc e in subst (HoldsAtEnd holds in_doubt new records) (sym is)
      (leaves records held)
  ends_so (Err (ends.Doubtful doubt reason)) end e leaves records held =
      let is : end ≡ Halted (cause.Store reason) = cc e in
      subst (HoldsAtEnd holds in_doubt new records) (sym is) (batch.steps, leaves records held)

-- a commit that changed nothing ends a committer for its cause
pub ends_unchanged : (batch : BatchValue) (reason : Unchanged) (end : CommitterEnd) → end ≡ Halted (cause_of reason)
    → EndsAfterCommit (Err (ends.Unchanged batch reason)) (Some end)
ends_unchanged batch why.OutOfMemory end is = inr (ap (λ (e : CommitterEnd). Some e) is)
ends_unchanged batch why.Closed end is = ap (λ (e : CommitterEnd). Some e) is
ends_unchanged batch why.OutOfTurn end is = ap (λ (e : CommitterEnd). Some e) is
ends_unchanged batch why.Illegal end is = ap (λ (e : CommitterEnd). Some e) is

-- a commit appends its batch, or nothing
pub appends_on : (ended : Result CommittedValue CommitEnd) (batch : BatchValue) (begun log now : List Record)
    → IfOk ended (λ committed. (now ≡ log ++ records_of batch.steps) × (committed.prefix ≡ now))
    → IfErr ended (λ _. now ≡ log)
    → AppendsBatches begun log → AppendsBatches begun now
appends_on (Ok committed) batch begun log now logged same (batches, is) = (
  batches ++ batch.steps ∷ [],
  logged.0 ∙ ap (λ l. l ++ records_of batch.steps) is ∙ append_assoc begun (records_in batches) (records_of batch.steps)
      ∙ ap (λ more. begun ++ more) (sym (records_in-last batches batch.steps)),
)
appends_on (Err end) batch begun log now logged same (batches, is) = (batches, same ∙ is)
