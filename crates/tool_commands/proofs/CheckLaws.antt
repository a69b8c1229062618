-- What an opening counts.
use Rattle.std.proofs.Common.{◌≡◌, ◌≢◌, [], Bool, false, Result, Ok, Err, Some, inl, inr, refl, sym, subst}
use Rattle.sqlite.specs.Store.{Ghosts}
use Rattle.sqlite.specs.State.{State, IsLive, Opens}
use Rattle.sqlite.specs.Effect.{Database}
use Rattle.sqlite.specs.Files.{file_state, over_files, IsOpened}
use Rattle.sqlite.specs.Held.{Held, state}
use Rattle.sqlite.specs.Recovery.{Image}
use Rattle.sqlite.specs.Start.{FindsIn}
use Rattle.sqlite_disk.specs.declared.Disk as disk
use Rattle.sqlite_store.specs.declared.store.FileStore.{FileStore}
use Rattle.relay_types.specs.Records.{History, records_of}
use Rattle.relay_types.specs.Legal.{IsLegal}
use Rattle.relay_types.specs.Rows.{rows_of}
use Rattle.spool_sql.specs.Tables.{no_schema}
use Rattle.spool_sql.specs.Steps.{IfClean}
use Rattle.sound_tables.specs.Keys.{has_meta}
use Rattle.spool.specs.Migrating.{HaveRows, LeavesMigrated}
use Rattle.spool.specs.Vaults.{VaultValue}
use Rattle.spool.specs.declared.faults.OpenFault.{OpenFault}
use Rattle.spool.specs.declared.faults.OpenFault.TheVariants.{NotOurs, NewerVersion, OldVersion, Damaged, Store}
use Rattle.spool.specs.declared.faults.OpenFault.TheVariants.{OutOfMemory}
use Rattle.desk.specs.World.{settled_records}
use Rattle.desk.specs.Queries.{totals}
use Rattle.desk.specs.Desks.{DeskValue, OverWorlds}
use Rattle.desk.specs.declared.pages.Totals.{Totals}
use Rattle.recovery.specs.Files.{HoldsEither, IsMadeOrReopened}
use Rattle.recovery.specs.Left.{IsCleanAt}
use Rattle.recovery.specs.Openings.{IsNewStore}
use Rattle.recovery.specs.Reopenings.{IsOfReading, IsOpenBehind, IsUnopened, opening_of, steps_from}
use Rattle.recovery.proofs.FileLaws.{finds_either, finds_trees, not_both, own_rows}
use Rattle.tool_commands.specs.Checks.{AreTotalsFound, AreTotalsIn, IsCountOf, IsCountedIn, IsRefusedIn, SaysOf}

pub totals_found : {S : Type 0} (g : Ghosts S) (db : Database) (desk : DeskValue) (vault : VaultValue S) (t : Totals)
    → IsMadeOrReopened g db desk vault → OverWorlds desk (λ w. t ≡ totals (settled_records w)) → AreTotalsFound db t
totals_found g db desk vault t (inl (none, made)) are = inl (none, are (opening_of []) made.0)
totals_found g db desk vault t (inr (stand, reopened)) are = inr (
  stand,
  λ ours.
      let it = reopened ours in
      record {
        rows = it.rows;
        sound = it.sound;
        counts = are (opening_of (steps_from it.rows)) it.stands.0;
        each =
            λ history legal have. are (opening_of history) (it.each history legal have).0;
      },
)

pub totals_in : {D : Type 0} {g : disk.Ghosts D} (image : Image) (old new : Held (FileStore D g)) (t : Totals)
    → IsLive (file_state old) → Opens (file_state old) → FindsIn image (file_state old)
    → AreTotalsFound (file_state old).now t
    → ((file_state old).now.schema ≢ no_schema → IsOpenBehind (file_state old) (file_state new))
    → AreTotalsIn image new t
totals_in image old new t live opens finds counts behind = record {
  found = (file_state old).now;
  finds = finds_trees image (file_state old) opens finds;
  lists = (live opens.is_open).0;
  counts =
      counts;
  each = each;
  leaves = λ some. (old, refl, opens, behind some);
}
  where
    of_tables : AreTotalsFound (file_state old).now t → (history : History) → IsLegal (records_of history)
        → HaveRows (file_state old).now (rows_of (records_of history))
        → t ≡ totals (settled_records (opening_of history))
    of_tables (inl (none, is)) history legal have =
        not_both (file_state old).now.schema none (own_rows (file_state old).now _ have)
    of_tables (inr (stand, of)) history legal have = (of (own_rows (file_state old).now _ have)).each history legal have

    each : (history : History) → IsLegal (records_of history) → HoldsEither image (rows_of (records_of history))
        → t ≡ totals (settled_records (opening_of history))
    each history legal held = of_tables counts history legal
        (finds_either image (file_state old) live opens finds (rows_of (records_of history)) held)

says_of : (old new : State) (why : OpenFault) → IsUnopened old new why → SaysOf old.now why
says_of old new NotOurs (inl unmigrated) = unmigrated
says_of old new NotOurs (inr (none, rows, sound)) = absurd none
says_of old new NewerVersion (inl unmigrated) = unmigrated
says_of old new NewerVersion (inr (none, rows, sound)) = absurd none
says_of old new OldVersion (inl none) = none
says_of old new OldVersion (inr (none, rows, sound)) = absurd none
says_of old new Damaged (inl unmigrated) = unmigrated
says_of old new Damaged (inr (none, rows, sound)) = absurd none
says_of old new (Store error) unopened = tt
says_of old new OutOfMemory unopened = tt

-- a store that is refused as none of the relay's isn't a new one without tables
not_new : {S : Type 0} (g : Ghosts S) (is_new : Bool) (old new : Held S) (why : OpenFault)
    → IsCountOf g is_new old new (Err why) → why ≡ NotOurs → ¬ IsNewStore is_new (state g old).now.schema
not_new g is_new old new why of told new_store = subst IsOfReading told (of.made new_store)

pub refused_in : {D : Type 0} {g : disk.Ghosts D} (image : Image) (is_new : Bool) (old new : Held (FileStore D g))
    (why : OpenFault) → IsLive (file_state old) → Opens (file_state old) → FindsIn image (file_state old)
    → IsCleanAt over_files new → IsCountOf over_files is_new old new (Err why) → IsRefusedIn image new why
refused_in image is_new old new why live opens finds now is = record {
  found = (file_state old).now;
  finds = finds_trees image (file_state old) opens finds;
  lists = (live opens.is_open).0;
  says = λ ours. says_of (file_state old) (file_state new) why (is.counts now ours);
  ours = is.ours;
  read = λ told. (
    old,
    refl,
    opens,
    subst (LeavesMigrated (file_state old) (file_state new)) told
        (is.leaves (not_new over_files is_new old new why is told) now),
  );
  leaves = λ some. (old, refl, opens, is.leaves (λ new_store. some new_store.1) now);
}

pub counted_in : {D : Type 0} {g : disk.Ghosts D} (image : Image) (is_new : Bool) (old new : Held (FileStore D g))
    (counted : Result Totals OpenFault) → (IsCleanAt over_files new → IsCleanAt over_files old)
    → (IsCleanAt over_files old → IsOpened old) → (IsCleanAt over_files old → FindsIn image (file_state old))
    → IsCountOf over_files is_new old new counted
    → IsCountedIn image (Some new) counted
counted_in image is_new old new (Ok t) clean opened finds is = λ now.
    let before = clean now in
    totals_in image old new t (opened before).1 (opened before).0 (finds before) (is.counts now)
    (λ some. is.leaves (λ new_store. some new_store.1) now)
counted_in image is_new old new (Err why) clean opened finds is = λ now.
    let before = clean now in
    refused_in image is_new old new why (opened before).1 (opened before).0 (finds before) now is

-- what is counted of a store once its vault gave the connection back
pub count_of : {S : Type 0} (g : Ghosts S) (is_new : Bool) (old new back : Held S) (t : Totals) → back ≡ new
    → (IsCleanAt g new → AreTotalsFound (state g old).now t)
    → (has_meta (state g old).now.schema ≡ false → IsNewStore is_new (state g old).now.schema)
    → (¬ IsNewStore is_new (state g old).now.schema → IfClean g old new IsOpenBehind)
    → IsCountOf g is_new old back (Ok t)
count_of {S} g is_new old new back t same counts ours leaves = record {
  counts = λ clean. counts (subst (IsCleanAt g) same clean);
  ours = ours;
  foreign = λ none is_old. tt;
  made = λ new_store. tt;
  leaves = λ is_old. subst (λ (it : Held S). IfClean g old it IsOpenBehind) (sym same) (leaves is_old);
}
