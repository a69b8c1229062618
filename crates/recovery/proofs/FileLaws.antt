-- A file is opened as what it and its log held.
use Rattle.std.proofs.Common.{◌≡◌, ◌≢◌, ◌⊎◌, List, [], ◌∷◌, Bool, false, Result, Ok, Err, inl, inr, refl, sym, subst}
use Rattle.std.proofs.Common.{◌∙◌}
use Rattle.std.proofs.lemmas.Bool.{false≢true}
use Rattle.std.specs.Prelude.{IsTrue, IfOk, IfErr, MatchResult}
use Rattle.sqlite.specs.Store.{Ghosts}
use Rattle.sqlite.specs.State.{State, HasCleanDisk, IsLive, Opens}
use Rattle.sqlite.specs.Effect.{Database}
use Rattle.sqlite.specs.Held.{Held, state}
use Rattle.sqlite.specs.Tree.{Trees}
use Rattle.sqlite.specs.Schema.{Schema}
use Rattle.sqlite.specs.Table.{Table}
use Rattle.sqlite.specs.Recovery.{Image}
use Rattle.sqlite.specs.Files.{AreFoundIn}
use Rattle.sqlite.specs.Start.{FindsIn}
use Rattle.relay_types.specs.Records.{History, records_of}
use Rattle.relay_types.specs.Legal.{IsLegal}
use Rattle.relay_types.specs.Rows.{Rows, rows_of}
use Rattle.spool_sql.specs.Stored.{AreFirstTablesOf, AreTablesOf, IsFirstTables, IsTables}
use Rattle.spool_sql.specs.Tables.{IsOwn, no_schema}
use Rattle.spool_sql.proofs.StepLemmas.{opened_first, opened_tables}
use Rattle.sound_tables.specs.Keys.{has_first_tables, has_meta}
use Rattle.spool.specs.Adopting.{FailsIfOfStore, HaveFirstHistory, HaveHistory, IsForeign, IsOnlyRead}
use Rattle.spool.specs.Migrating.{HaveRows, LeavesMigrated, MayMigrate}
use Rattle.spool.proofs.MigrateLemmas.{only_read}
use Rattle.spool.specs.Opening.{IsBack, LeavesAt}
use Rattle.spool.specs.declared.faults.OpenFault.{OpenFault}
use Rattle.spool.specs.declared.faults.OpenFault.TheVariants.{NotOurs, NewerVersion, OldVersion, Damaged, Store}
use Rattle.spool.specs.declared.faults.OpenFault.TheVariants.{OutOfMemory}
use Rattle.spool.specs.Vaults.{VaultValue}
use Rattle.desk.specs.Desks.{DeskValue}
use Rattle.desk.specs.World.{World, all_records}
use Rattle.recovery.specs.Files.{HoldsEither, HoldsFirstRows, HoldsFirstTables, HoldsRows, HoldsLeftOf}
use Rattle.recovery.specs.Files.{IsMadeOrReopened, IsFileOpened, IsFileRefused}
use Rattle.recovery.specs.Openings.{IsNewStore, KeepsOr, LeavesOr}
use Rattle.recovery.specs.Reopenings.{AreOpenedAt, AreOpenedAtOne, IsNotMigrated, IsOfReading, IsOpenBehind}
use Rattle.recovery.specs.Reopenings.{IsReadingRefusal, IsUnopened}
use Rattle.recovery.proofs.ReopeningLaws.{opens_one}

abbrev HasNone : List Table → Type 0
HasNone [] = Unit {0}
HasNone (table ∷ tables) = ⊥

pub not_both : {P : Type 0} (schema : Schema) → schema ≡ no_schema → IsOwn schema → P
not_both schema none (inl first) = absurd (subst (λ (it : Schema). HasNone it.tables) (sym none ∙ first) tt)
not_both schema none (inr ours) = absurd (subst (λ (it : Schema). HasNone it.tables) (sym none ∙ ours) tt)

pub own_rows : (db : Database) (rows : Rows) → HaveRows db rows → IsOwn db.schema
own_rows db rows (inl second) = inr second.schema_is
own_rows db rows (inr first) = inl first.schema_is

-- the relay's tables of these rows are what the connection shows
pub finds_rows : (image : Image) (s : State) → IsLive s → Opens s → FindsIn image s → (rows : Rows)
    → HoldsRows image rows → IsTables s.now rows
finds_rows image s live opens finds rows (db, holds, tables) =
    subst (λ (it : Database). IsTables it rows) (sym opens.clean)
    (opened_tables s.committed rows (live opens.is_open).1
    (subst (λ (trees : Trees). AreTablesOf trees rows) (sym (finds.holds db holds)) tables))

pub finds_first : (image : Image) (s : State) → IsLive s → Opens s → FindsIn image s → (rows : Rows)
    → HoldsFirstRows image rows → IsFirstTables s.now rows
finds_first image s live opens finds rows (db, holds, tables) =
    subst (λ (it : Database). IsFirstTables it rows) (sym opens.clean)
    (opened_first s.committed rows (live opens.is_open).1
    (subst (λ (trees : Trees). AreFirstTablesOf trees rows) (sym (finds.holds db holds)) tables))

pub finds_either : (image : Image) (s : State) → IsLive s → Opens s → FindsIn image s → (rows : Rows)
    → HoldsEither image rows → HaveRows s.now rows
finds_either image s live opens finds rows (inl held) = inl (finds_rows image s live opens finds rows held)
finds_either image s live opens finds rows (inr held) = inr (finds_first image s live opens finds rows held)

pub finds_trees : (image : Image) (s : State) → Opens s → FindsIn image s → AreFoundIn image s.now.trees
finds_trees image s opens finds = subst (λ (db : Database). AreFoundIn image db.trees) (sym opens.clean) finds.reads

-- the file held the five tables that the connection shows
pub holds_first : (image : Image) (s : State) → IsLive s → Opens s → FindsIn image s
    → IsTrue (has_first_tables s.now.schema) → HoldsFirstTables image
holds_first image s live opens finds whole = (s.now, finds_trees image s opens finds, (live opens.is_open).0, whole)

module _ {S : Type 0} (g : Ghosts S) (desk : DeskValue) (vault : VaultValue S) where
  of_tables : (db : Database) → IsMadeOrReopened g db desk vault → (history : History) → IsLegal (records_of history)
      → HaveRows db (rows_of (records_of history)) → AreOpenedAt g desk vault history
  of_tables db (inl (none, made)) history legal have = not_both db.schema none (own_rows db _ have)
  of_tables db (inr (stand, reopened)) history legal have = (reopened (own_rows db _ have)).each history legal have

  pub file_opened : (image : Image) (conn : Held S) → IsLive (state g conn) → Opens (state g conn)
      → FindsIn image (state g conn) → IsMadeOrReopened g (state g conn).now desk vault
      → ((state g conn).now.schema ≢ no_schema → IsOpenBehind (state g conn) (state g vault.conn))
      → IsFileOpened g image desk vault
  file_opened image conn live opens finds made behind = record {
    found = (state g conn).now;
    finds = finds_trees image (state g conn) opens finds;
    lists = (live opens.is_open).0;
    opens =
        made;
    each = each;
    left = left;
    leaves = λ some. (conn, refl, opens, behind some);
  }
    where
      each : (history : History) → IsLegal (records_of history) → HoldsEither image (rows_of (records_of history))
          → AreOpenedAt g desk vault history
      each history legal held = of_tables (state g conn).now made history legal
          (finds_either image (state g conn) live opens finds (rows_of (records_of history)) held)

      left : (w : World) → IsLegal (all_records w) → HoldsLeftOf image w → AreOpenedAtOne g desk vault w w.left
      left w legal (rows, is_left, held) = opens_one g desk vault w legal rows is_left
          (λ history of is. each history of (inl (subst (HoldsRows image) is held)))

-- What a refusal says of what was found is said of what the file and its log held.
pub file_refused : (image : Image) (old new : State) (fault : OpenFault) (is_new : Bool) → IsLive old → Opens old
    → FindsIn image old
    → (has_meta old.now.schema ≡ false → IsForeign fault)
    → (has_meta old.now.schema ≡ false → ¬ IsNewStore is_new old.now.schema → FailsIfOfStore new fault)
    → (has_meta old.now.schema ≡ false → ¬ IsNewStore is_new old.now.schema → IsTrue new.is_open → IsBack old new)
    → (IsOwn old.now.schema → IsUnopened old new fault) → (HaveHistory old.now → IsReadingRefusal old new fault)
    → (HaveFirstHistory old.now → IsNotMigrated old new fault)
    → (IsTrue is_new → old.now.schema ≡ no_schema → IsOfReading fault × (IsOnlyRead old new ⊎ LeavesAt old new fault))
    → (¬ IsNewStore is_new old.now.schema → LeavesMigrated old new fault) → IsFileRefused image is_new old new fault
file_refused image old new fault is_new live opens finds ours foreign back says sound first made leaves = record {
  finds = finds_trees image old opens finds;
  lists = (live opens.is_open).0;
  opened = opens;
  ours = ours;
  foreign = foreign;
  back = back;
  says = says;
  made = λ new none. (made new none).0;
  unmade = λ new. (made new.0 new.1).1;
  leaves = leaves;
  sound = λ history legal held. sound (
    records_of history,
    legal,
    finds_rows image old live opens finds (rows_of (records_of history)) held,
  );
  first = λ history legal held. first (
    records_of history,
    legal,
    finds_first image old live opens finds
        (rows_of (records_of history)) held,
  );
}

-- ---- What is said of every store

-- a store is left as it is found
pub read_same : (s : State) → IsOnlyRead s s
read_same s = record { stays = λ is_open. (is_open, λ rows stands. stands); leaves = λ db may. may }

pub may_stay : (s : State) → MayMigrate s s
may_stay s = only_read s s (read_same s)

-- a file that was there before isn't new
pub not_new : (is_new : Bool) (schema : Schema) → is_new ≡ false → ¬ IsNewStore is_new schema
not_new is_new schema old new = false≢true (sym old ∙ new.0)

-- what a refusal to make the tables leaves, also where the connection came back as it was
pub left_or : {S : Type 0} (g : Ghosts S) (old new : Held S) (fault : OpenFault) → HasCleanDisk (state g new)
    → LeavesOr g old new fault → IsOnlyRead (state g old) (state g new) ⊎ LeavesAt (state g old) (state g new) fault
left_or {S} g old new fault clean (inl same) =
    inl (subst (λ (it : Held S). IsOnlyRead (state g old) (state g it)) (sym same) (read_same (state g old)))
left_or g old new fault clean (inr leaves) = inr (leaves clean)

-- what was found stands, also where the connection came back as it was
pub back_or : {S : Type 0} (g : Ghosts S) (old new : Held S) → Opens (state g old) → HasCleanDisk (state g new)
    → KeepsOr g old new → IsTrue (state g new).is_open → IsBack (state g old) (state g new)
back_or {S} g old new opens clean (inl same) is_open =
    subst (λ (it : Held S). IsBack (state g old) (state g it)) (sym same)
    (record { now = opens.clean; committed = refl; autocommit = opens.autocommit })
back_or g old new opens clean (inr back) is_open = back clean is_open

-- what is never answered may be answered only so
pub of_none : {A E : Type 0} (N : Type 0) (Q : E → Type 0) (r : Result A E) → MatchResult r (λ _. ⊥) Q
    → MatchResult r (λ _. N) Q
of_none N Q (Ok x) none = absurd none
of_none N Q (Err e) q = q

-- What was opened had the tables.
pub of_whole : {A E : Type 0} (P Q R : A → Type 0) (r : Result A E) → IfOk r P → IfOk r Q → ((x : A) → P x → Q x → R x)
    → IfOk r R
of_whole P Q R (Ok x) p q then = then x p q
of_whole P Q R (Err e) p q then = tt

-- What a refusal leaves may be migrated.
pub may_migrate : (old new : State) (fault : OpenFault) → LeavesMigrated old new fault → MayMigrate old new
may_migrate old new NotOurs (read, is_open) = only_read old new read
may_migrate old new NewerVersion (read, is_open) = only_read old new read
may_migrate old new OldVersion (read, is_open) = only_read old new read
may_migrate old new Damaged (read, is_open) = only_read old new read
may_migrate old new (Store cause) may = may
may_migrate old new OutOfMemory may = may

-- what is said of an error is so of what follows from it
pub refused_so : {A E : Type 0} (P Q : E → Type 0) (result : Result A E) → ((e : E) → P e → Q e) → IfErr result P
    → IfErr result Q
refused_so P Q (Ok value) so h = h
refused_so P Q (Err e) so h = so e h
