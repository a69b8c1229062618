-- What is answered of a batch, by how its write ended.
use Rattle.std.proofs.Common.{◌≡◌, ◌+◌, length, cond, is_ok, ◌∙◌}
use Rattle.sqlite.specs.Held.{state}
use Rattle.sqlite.specs.State.{State}
use Rattle.sqlite_trees.specs.declared.store.Store.{Ghosts}
use Rattle.relay_types.specs.Records.{records_of}
use Rattle.spool.specs.declared.transaction.WriteEnd.{WriteEnd}
use Rattle.spool.specs.declared.transaction.WriteEnd.TheVariants.{Committed, Illegal, OutOfMemory, Doubtful}
use Rattle.spool.specs.Batches.{BatchValue}
use Rattle.spool.specs.Vaults.{VaultValue}
use Rattle.spool.specs.Writing.{HasCause, WriteEndsAs}
use Rattle.spool.specs.Commits.{IsDoubtedFor, LeavesRows, LeavesHistory, answer_of}
use Rattle.spool.proofs.VaultLemmas.{rows_made, rows_doubted, history_made, history_unwritten}

module _ {S : Type 0} (g : Ghosts S) (old new : VaultValue S) (batch : BatchValue) where
  pub leaves_history : (end : WriteEnd) → new.next ≡ cond (is_ok (answer_of batch end))
      (old.next + length (records_of batch.steps)) old.next
      → WriteEndsAs (state g old.conn) (state g new.conn) old.next (records_of batch.steps) end
      → LeavesHistory g old new batch (answer_of batch end)
  leaves_history Committed is ended = history_made (state g old.conn) (state g new.conn) old.next new.next
      (records_of batch.steps) is ended
  leaves_history Illegal is ended = λ records on. let made = ended records on
      in (record { legal = on.legal; stands = made.1.0; next = is ∙ on.next }, made.1.1)
  leaves_history OutOfMemory is ended = history_unwritten (state g old.conn) (state g new.conn) old.next new.next
      is ended
  leaves_history (Doubtful cause) is ended = ended

  pub leaves_rows : (end : WriteEnd) → LeavesHistory g old new batch (answer_of batch end)
      → LeavesRows g old new batch (answer_of batch end)
  leaves_rows Committed over = rows_made (state g old.conn) (state g new.conn) old.next new.next
      (records_of batch.steps) over
  leaves_rows Illegal over = λ records on. let kept = over records on in (kept.0.stands, kept.1)
  leaves_rows OutOfMemory over = λ records on. let kept = over records on in (kept.0.stands, kept.1)
  leaves_rows (Doubtful cause) over = rows_doubted (state g old.conn) (state g new.conn) old.next
      (records_of batch.steps) over

pub doubted_for : (old new : State) (batch : BatchValue) (end : WriteEnd) → HasCause old new end
    → IsDoubtedFor old new (answer_of batch end)
doubted_for old new batch Committed h = tt
doubted_for old new batch Illegal h = tt
doubted_for old new batch OutOfMemory h = tt
doubted_for old new batch (Doubtful cause) h = h
