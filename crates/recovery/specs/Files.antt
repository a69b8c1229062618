-- What the opening of a file gives, by what the file held.
use Rattle.std.specs.Prelude.{◌≡◌, ◌≢◌, ◌⊎◌, [], Bool, false, IsTrue, Result, IfErr}
use Rattle.sqlite.specs.Store.{Ghosts}
use Rattle.sqlite.specs.Effect.{Database, IsDatabase}
use Rattle.sqlite.specs.Tree.{Trees}
use Rattle.sqlite.specs.Held.{Held, state}
use Rattle.sqlite.specs.Recovery.{Image}
use Rattle.sqlite.specs.Files.{HoldsDatabase, AreFoundIn, file_state, over_files}
use Rattle.sqlite.specs.State.{State, Opens}
use Rattle.sqlite_disk.specs.declared.Disk as disk
use Rattle.sqlite_store.specs.declared.store.FileStore.{FileStore}
use Rattle.relay_types.specs.Records.{History, records_of}
use Rattle.relay_types.specs.Legal.{IsLegal}
use Rattle.relay_types.specs.Rows.{Rows, rows_of}
use Rattle.spool_sql.specs.Stored.{AreFirstTablesOf, AreTablesOf}
use Rattle.spool_sql.specs.Tables.{IsOwn, no_schema}
use Rattle.sound_tables.specs.Keys.{has_first_tables, has_meta}
use Rattle.spool.specs.Adopting.{FailsIfOfStore, IsForeign, IsOnlyRead}
use Rattle.spool.specs.Migrating.{LeavesMigrated}
use Rattle.spool.specs.Opening.{IsBack, LeavesAt}
use Rattle.spool.specs.Vaults.{VaultValue}
use Rattle.spool.specs.declared.faults.OpenFault.{OpenFault}
use Rattle.desk.specs.World.{World, all_records}
use Rattle.desk.specs.Desks.{DeskValue}
use Rattle.recovery.specs.Left.{AreLeft, IsCleanAt}
use Rattle.recovery.specs.Openings.{IsNewStore}
use Rattle.recovery.specs.Paths.{IsOfLook, IsUnconnected}
use Rattle.recovery.specs.Reopenings.{AreOpenedAt, AreOpenedAtOne, IsNotMigrated, IsOfReading, IsOpenBehind}
use Rattle.recovery.specs.Reopenings.{IsReadingRefusal, IsReopened, IsUnopened}

-- the file and its log hold the relay's tables of these rows
abbrev pub HoldsRows : Image → Rows → Type 0
HoldsRows image rows = (db : Trees) × HoldsDatabase image db × AreTablesOf db rows

-- they hold those of version 1
abbrev pub HoldsFirstRows : Image → Rows → Type 0
HoldsFirstRows image rows = (db : Trees) × HoldsDatabase image db × AreFirstTablesOf db rows

-- they hold those of either version
abbrev pub HoldsEither : Image → Rows → Type 0
HoldsEither image rows = HoldsRows image rows ⊎ HoldsFirstRows image rows

-- they hold what a stop may leave of the world
abbrev pub HoldsLeftOf : Image → World → Type 0
HoldsLeftOf image w = (rows : Rows) × AreLeft w rows × HoldsRows image rows

-- Where there was no table, desk and vault stand for the opening of the empty history. Otherwise the five of version 1
-- stood with their keys, and where the schema was the relay's, of either version, they stand for that of their rows.
abbrev pub IsMadeOrReopened : {S : Type 0} → Ghosts S → Database → DeskValue → VaultValue S → Type 0
IsMadeOrReopened g db desk vault =
    ((db.schema ≡ no_schema) × AreOpenedAt g desk vault [])
    ⊎ (IsTrue (has_first_tables db.schema) × (IsOwn db.schema → IsReopened g db desk vault))

-- the same of what a connection found
abbrev pub IsFoundOpened : {S : Type 0} → Ghosts S → Held S → DeskValue → VaultValue S → Type 0
IsFoundOpened g conn desk vault = IsMadeOrReopened g (state g conn).now desk vault

-- A connection was opened and found this database. So much holds of its state then, and of that of this connection now.
abbrev pub SinceFound : {S : Type 0} → Ghosts S → Database → Held S → (State → State → Type 0) → Type 0
SinceFound {S} g db conn P =
    (first : Held S) × ((state g first).now ≡ db) × Opens (state g first) × P (state g first) (state g conn)

-- the file and its log held the five tables of version 1 with their keys, whatever else they held
abbrev pub HoldsFirstTables : Image → Type 0
HoldsFirstTables image =
    (found : Database) × AreFoundIn image found.trees × IsDatabase found × IsTrue (has_first_tables found.schema)

-- What the opening of a file gives.
pub record IsFileOpened {S : Type 0} (g : Ghosts S) (image : Image) (desk : DeskValue)
    (vault : VaultValue S) : Type 0 where
  pub found : Database
  -- what was found is what the file and its log held
  pub finds : AreFoundIn image found.trees
  -- its trees list its schema, and obey it
  pub lists : IsDatabase found
  pub opens : IsMadeOrReopened g found desk vault
  -- Of a legal history whose rows they held, desk and vault stand for the opening.
  pub each : (history : History) → IsLegal (records_of history) → HoldsEither image (rows_of (records_of history))
      → AreOpenedAt g desk vault history
  -- Of what a stop left of a world, they stand for the opening of its first steps, for one of the numbers that the
  -- world says.
  pub left : (w : World) → IsLegal (all_records w) → HoldsLeftOf image w → AreOpenedAtOne g desk vault w w.left
  -- If there was a table, an index or a view, the store was seen to be open. A crash leaves what it left when the file
  -- was opened, or what a migration writes.
  pub leaves : found.schema ≢ no_schema → SinceFound g found vault.conn IsOpenBehind

-- What a refusal says of what a file and its log held, by the connection as it found this and as it is since.
pub record IsFileRefused (image : Image) (is_new : Bool) (old new : State) (fault : OpenFault) : Type 0 where
  -- what was found is what the file and its log held
  pub finds : AreFoundIn image old.now.trees
  -- its trees list its schema, and obey it
  pub lists : IsDatabase old.now
  -- the connection was just opened
  pub opened : Opens old
  -- A file without `meta` is refused as none of the relay's, by the store or for memory.
  pub ours : has_meta old.now.schema ≡ false → IsForeign fault
  -- If it isn't a new file without tables, a fault of the store was met at it.
  pub foreign : has_meta old.now.schema ≡ false → ¬ IsNewStore is_new old.now.schema → FailsIfOfStore new fault
  -- Then all its tables are as they were, if the store is still open.
  pub back : has_meta old.now.schema ≡ false → ¬ IsNewStore is_new old.now.schema → IsTrue new.is_open → IsBack old new
  pub says : IsOwn old.now.schema → IsUnopened old new fault
  -- A new file without tables is refused only for memory or by the store.
  pub made : IsTrue is_new → old.now.schema ≡ no_schema → IsOfReading fault
  -- It was only read, or a crash leaves what the making of the tables lets it leave at this refusal.
  pub unmade : IsNewStore is_new old.now.schema → IsOnlyRead old new ⊎ LeavesAt old new fault
  -- Of a legal history whose rows they held, memory was refused or the store failed.
  pub sound : (history : History) → IsLegal (records_of history) → HoldsRows image (rows_of (records_of history))
      → IsReadingRefusal old new fault
  -- Of one whose rows those of version 1 had, the same, or nothing was written.
  pub first : (history : History) → IsLegal (records_of history)
      → HoldsFirstRows image (rows_of (records_of history)) → IsNotMigrated old new fault
  -- Of every other file, a crash leaves what `reopen` lets it leave at this refusal.
  pub leaves : ¬ IsNewStore is_new old.now.schema → LeavesMigrated old new fault

-- Why a file isn't opened: there is no connection, or one found what it held, which says so much while its disk returns
-- what was written.
abbrev pub IsFileUnopened : {D : Type 0} → disk.Ghosts D → Image → Bool → OpenFault → Type 0
IsFileUnopened {D} g image is_new fault =
    IsUnconnected g image fault
    ⊎ ((old new : Held (FileStore D g))
    × (IsCleanAt over_files new → IsFileRefused image is_new (file_state old) (file_state new) fault))

-- it is opened, or this is why it isn't
abbrev pub OpensOr : {D : Type 0} {g : disk.Ghosts D} → Image → Bool
    → Result (DeskValue × VaultValue (FileStore D g)) OpenFault → Type 0
OpensOr {D} {g} image is_new result = IfErr result (IsFileUnopened g image is_new)

-- The file at a path is opened, or this is why it isn't: the look at the path gave no file that may be a database, or
-- as above.
abbrev pub OpensPathOr : {D : Type 0} {g : disk.Ghosts D} → Image
    → Result (DeskValue × VaultValue (FileStore D g)) OpenFault → Type 0
OpensPathOr {D} {g} image result =
    IfErr result (λ fault. IsOfLook fault ⊎ ((is_new : Bool) × IsFileUnopened g image is_new fault))
