-- What a committer's run, and a look at the rows after it, leave of the histories that a vault held.
use Rattle.std.proofs.Common.{sym, subst, List, [], ◌++◌}
use Rattle.std.specs.Prelude.{◌≡◌, Option, Some, None, IfSome, IsTrue}
use Rattle.std.proofs.lemmas.List.{append-nil}
use Rattle.sqlite.specs.Held.{state}
use Rattle.sqlite.specs.State.{State}
use Rattle.sqlite.specs.Store.{Ghosts}
use Rattle.relay_types.specs.declared.record.Record.{Record}
use Rattle.relay_types.specs.Rows.{Rows, rows_of}
use Rattle.spool_sql.specs.Steps as tables
use Rattle.spool_sql.specs.Steps.{MayLeave}
use Rattle.spool.specs.Adopting.{IsOnlyRead}
use Rattle.spool.specs.Commits.{HoldsOnDisk}
use Rattle.spool.specs.Writing.{RestsInDoubt}
use Rattle.spool.specs.Vaults.{VaultValue}
use Rattle.delivery.specs.Keepers.{AddsRecords, AppendsBatches, KeepsLog, HoldsAtEnd, records_in}
use Rattle.delivery.specs.declared.committer.CommitterEnd.{CommitterEnd}
use Rattle.delivery.specs.declared.committer.CommitterEnd.TheVariants.{Finished, Halted}
use Rattle.delivery.specs.declared.committer.HaltCause.TheVariants as cause
use Rattle.intake_shed.specs.Acks.{EventValue, HasEvent}
use Rattle.relay_serve.specs.Serving.{AddsBatches, AddsEvent, LeavesDoubt, HasRows}

-- what stands of one thing stands of another that has as much
module _ {A B : Type 0} (holds : A → List Record → Type 0) (in_doubt : A → List Record → List Record → Type 0)
    (holds' : B → List Record → Type 0) (in_doubt' : B → List Record → List Record → Type 0) (a : A) (b : B)
    (held : (records : List Record) → holds a records → holds' b records)
    (doubted : (records more : List Record) → in_doubt a records more → in_doubt' b records more) where
  stands_so : (records : List Record) (end : CommitterEnd) → HoldsAtEnd holds in_doubt a records end
      → HoldsAtEnd holds' in_doubt' b records end
  stands_so records Finished stands = held records stands
  stands_so records (Halted (cause.Store error)) (last, doubt) = (last, doubted records _ doubt)
  stands_so records (Halted cause.Closed) stands = held records stands
  stands_so records (Halted cause.OutOfTurn) stands = held records stands
  stands_so records (Halted cause.Illegal) stands = held records stands
  stands_so records (Halted cause.OutOfMemory) stands = held records stands
  stands_so records (Halted cause.Halted) stands = held records stands

-- an event that the log has after each history that it goes on from, after this one
pub event_of_base : (is_base : List Record → Type 0) (log : List Record) (acknowledged : Option EventValue)
    (base : List Record) → is_base base
    → IfSome acknowledged (λ event. (base : List Record) → is_base base
    → HasEvent (base ++ log) event.seq event.name event.id event.body)
    → IfSome acknowledged (λ event. HasEvent (base ++ log) event.seq event.name event.id event.body)
event_of_base is_base log None base is has = has
event_of_base is_base log (Some event) base is has = has base is

-- rows that stand while the store is open stand, and are left, while it is only read
still_there : (old new : State) → IsOnlyRead old new → (rows : Rows)
    → (IsTrue old.is_open → tables.Stands old rows) × MayLeave old (λ r. r ≡ rows)
    → (IsTrue new.is_open → tables.Stands new rows) × MayLeave new (λ r. r ≡ rows)
still_there old new read rows (stood, left) = (
  λ is_open. let before = read.stays is_open in before.1 rows (stood before.0),
  λ db may. left db (read.leaves db may),
)

-- a doubt stays while the store is only read
still_doubted : (old new : State) → IsOnlyRead old new → (records more : List Record) → RestsInDoubt old records more
    → RestsInDoubt new records more
still_doubted old new read records more doubt = record {
  leaves = λ db may. doubt.leaves db (read.leaves db may);
  stands = λ is_open. let before = read.stays is_open in before.1 _ (doubt.stands before.0);
}

module _ {S : Type 0} (g : Ghosts S) where
  module _ {K : Type 0} (vault_of : K → VaultValue S) where
    abbrev holds : K → List Record → Type 0
    holds k records = HoldsOnDisk g (vault_of k) records

    abbrev in_doubt : K → List Record → List Record → Type 0
    in_doubt k records more = RestsInDoubt (state g (vault_of k).conn) records more

    -- what a run of commits adds to the vault that a keeper has
    pub added : (old new : K) (end : CommitterEnd) → AddsRecords holds in_doubt old new end
        → AddsBatches g (vault_of old) (vault_of new) end
    added old new end adds records held =
        let more = adds records held in (
          more.0,
          stands_so holds in_doubt (HasRows g) (LeavesDoubt g) new (vault_of new)
              (λ _ held. (λ _. held.0.stands, held.1)) (λ _ _ doubt. doubt) (records ++ records_in more.0) end more.1,
        )

    -- a keeper that held these records holds them and the log, which is whole batches, and the event is in these
    pub logged_event : (old new : K) (log : List Record) (end : CommitterEnd) (acknowledged : Option EventValue)
        (records : List Record)
        → KeepsLog holds in_doubt old [] new log end → AppendsBatches [] log
        → IfSome acknowledged (λ event. HasEvent (records ++ log) event.seq event.name event.id event.body)
        → AddsEvent g (vault_of old) (vault_of new) end acknowledged records
    logged_event old new log end acknowledged records keeps (batches, are) has held =
        let held_all = keeps records (subst (holds old) (sym (append-nil records)) held) in
        let left = stands_so holds in_doubt (HasRows g) (LeavesDoubt g) new (vault_of new)
        (λ _ held. (λ _. held.0.stands, held.1))
        (λ _ _ doubt. doubt) (records ++ log) end held_all in
        let Has = λ (more : List Record). HoldsAtEnd (HasRows g) (LeavesDoubt g) (vault_of new) (records ++ more) end
        × IfSome acknowledged (λ event. HasEvent (records ++ more) event.seq event.name event.id event.body) in
        let both = subst Has are (left, has) in (batches, both.0, both.1)

  -- a look at the rows takes nothing away
  pub added_still : (old mid new : VaultValue S) (end : CommitterEnd) → AddsBatches g old mid end
      → IsOnlyRead (state g mid.conn) (state g new.conn)
      → AddsBatches g old new end
  added_still old mid new end adds read records held =
      let more = adds records held in (
        more.0,
        stands_so (HasRows g) (LeavesDoubt g) (HasRows g) (LeavesDoubt g) mid new
            (λ records. still_there (state g mid.conn) (state g new.conn) read (rows_of records))
            (still_doubted (state g mid.conn) (state g new.conn) read) (records ++ records_in more.0) end more.1,
      )

  -- nothing is added where nobody touched the vault
  pub nothing_added : (v : VaultValue S) → AddsBatches g v v Finished
  nothing_added v records held = ([], subst (HasRows g v) (sym (append-nil records)) (λ _. held.0.stands, held.1))

  pub event_still : (old mid new : VaultValue S) (end : CommitterEnd) (acknowledged : Option EventValue)
      (records : List Record)
      → AddsEvent g old mid end acknowledged records → IsOnlyRead (state g mid.conn) (state g new.conn)
      → AddsEvent g old new end acknowledged records
  event_still old mid new end acknowledged records adds read held =
      let more = adds held in (
        more.0,
        stands_so (HasRows g) (LeavesDoubt g) (HasRows g) (LeavesDoubt g) mid new
            (λ records. still_there (state g mid.conn) (state g new.conn) read (rows_of records))
            (still_doubted (state g mid.conn) (state g new.conn) read) (records ++ records_in more.0) end more.1,
        more.2,
      )

  pub no_event : (v : VaultValue S) (records : List Record) → AddsEvent g v v Finished None records
  no_event v records held = ([], subst (HasRows g v) (sym (append-nil records)) (λ _. held.0.stands, held.1), tt)
