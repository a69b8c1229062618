-- How tables of version 1 become those of version 2, and what is left of a store in which they were to.
use Rattle.std.specs.Prelude.{◌≡◌, ◌≤◌, ◌⊎◌, ℕ, Bool, ◌||◌, false, List, codes, IsTrue}
use Rattle.sqlite.specs.Effect.{Database}
use Rattle.sqlite.specs.Schema.{Schema}
use Rattle.sqlite.specs.State.{State}
use Rattle.sqlite.specs.Tree.{Trees}
use Rattle.sqlite_catalog.specs.Change.{is_used}
use Rattle.sqlite_trees.specs.declared.store.Store.{Ghosts}
use Rattle.relay_types.specs.declared.record.Record.{Record}
use Rattle.relay_types.specs.Legal.{IsLegal}
use Rattle.relay_types.specs.Rows.{Rows, rows_of}
use Rattle.spool_sql.specs.Causes.{cause}
use Rattle.spool_sql.specs.declared.cause.Cause.TheVariants as of
use Rattle.spool_sql.specs.Steps.{MayLeave}
use Rattle.spool_sql.specs.Stored.{AreTablesOf, IsFirstTables, IsTables}
use Rattle.spool_sql.specs.Tables.{first_schema}
use Rattle.sound_tables.specs.Checks as tables
use Rattle.sound_tables.specs.Keys.{has_first_tables}
use Rattle.sound_tables.specs.declared.fault.TableFault.TheVariants as table
use Rattle.spool.specs.Adopting.{LeavesRead}
use Rattle.spool.specs.Books.{KeepsOpen}
use Rattle.spool.specs.Commits.{HoldsOnDisk}
use Rattle.spool.specs.Writing.{IsCause, Rests}
use Rattle.spool.specs.Vaults.{VaultValue, HoldsAt}
use Rattle.spool.specs.declared.faults.OpenFault.{OpenFault}
use Rattle.spool.specs.declared.faults.OpenFault.TheVariants.{NotOurs, NewerVersion, OldVersion, Damaged, Store}
use Rattle.spool.specs.declared.faults.OpenFault.TheVariants.{OutOfMemory}

-- tables of either version have these rows
abbrev pub HaveRows : Database → Rows → Type 0
HaveRows db rows = IsTables db rows ⊎ IsFirstTables db rows

-- and they are such as a legal history has
abbrev pub AreSoundRows : Database → Rows → Type 0
AreSoundRows db rows = tables.AreSoundTables db rows ⊎ tables.AreSoundFirstTables db rows

-- The tables, of either version, have sound rows, and the vault holds each legal history that has these rows.
pub record IsMigrated {S : Type 0} (g : Ghosts S) (db : Database) (v : VaultValue S) : Type 0 where
  pub rows : Rows
  pub stand : AreSoundRows db rows
  pub holds : (records : List Record) → IsLegal records → HaveRows db (rows_of records) → HoldsOnDisk g v records

-- ---- what is left

-- A table, an index or a view has the name of the table of topics, or of the index that it brings, in any case of its
-- letters.
abbrev pub has_topics : Schema → Bool
has_topics schema = is_used schema (codes "topics") || is_used schema (codes "sqlite_autoindex_topics_1")

-- what the commit of a migration writes to the disk
abbrev pub Migrated : State → Trees → Type 0
Migrated old db = (rows : Rows) → IsFirstTables old.now rows → AreTablesOf db rows

-- The rows that tables of version 1 had stand in those of version 2, and a stop leaves them.
abbrev pub IsMigratedTo : State → State → Type 0
IsMigratedTo old new = (rows : Rows) → IsFirstTables old.now rows → Rests new rows

-- If the schema was that of version 1, its tables had sound rows, and the tables of version 2 on the disk have these.
-- So damaged tables aren't migrated.
abbrev pub AreSoundIfFirst : State → Trees → Type 0
AreSoundIfFirst old db =
    old.now.schema ≡ first_schema → (rows : Rows) × tables.AreSoundFirstTables old.now rows × AreTablesOf db rows

-- The tables of version 2 on the disk have all rows that tables of version 1 had, and these were sound. The five tables
-- of version 1 were there, and none of topics. So a database without these is never changed.
pub record MigratesRows (old : State) (db : Trees) : Type 0 where
  pub whole : IsTrue (has_first_tables old.now.schema)
  pub free : has_topics old.now.schema ≡ false
  pub kept : Migrated old db
  pub sound : AreSoundIfFirst old db

-- If the store is still open it was so, and tables of version 2 that stood stand. A crash leaves what it left before,
-- or the rows of version 1 in version 2.
pub record MayMigrate (old new : State) : Type 0 where
  pub stays : KeepsOpen old new
  pub leaves : (db : Trees) → new.may_leave db → old.may_leave db ⊎ MigratesRows old db

-- What each refusal leaves. Tables that were refused were only read.
abbrev pub LeavesMigrated : State → State → OpenFault → Type 0
LeavesMigrated old new (Store error) = MayMigrate old new
LeavesMigrated old new OutOfMemory = MayMigrate old new
LeavesMigrated old new fault = LeavesRead old new fault

-- ---- why tables aren't taken

-- What each refusal says of tables of either version. They aren't the relay's either where meta tells version 1 and
-- something has the name of the table of topics; damaged ones are of no later version, and have no sound rows of
-- either. A fault of the store is that of a statement, or of the look at the store after them; of the transaction it
-- is one that the store told last, or nothing was written.
abbrev pub IsUnmigrated : (old new : State) → OpenFault → Type 0
IsUnmigrated old new NotOurs =
    tables.IsRefusedAt old.now table.NotOurs
    ⊎ (tables.HasVersion old.now (λ version. version ≡ 1) × IsTrue (has_topics old.now.schema))
IsUnmigrated old new NewerVersion = tables.IsRefusedAt old.now table.NewerVersion
IsUnmigrated old new OldVersion = ⊥
IsUnmigrated old new Damaged =
    tables.HasNoVersionBut old.now (λ version. version ≤ 2) × ((rows : Rows) → ¬ AreSoundRows old.now rows)
IsUnmigrated old new (Store error) =
    (cause error ≡ of.Store) ⊎ (tables.HasVersion old.now (λ version. version ≡ 1) × IsCause old new error)
IsUnmigrated old new OutOfMemory = Unit {0}

-- Why tables of version 1 that have the rows of a legal history aren't migrated: memory was refused, the store failed
-- and told this fault last, or nothing was written to the disk.
abbrev pub IsUnmade : (old new : State) → OpenFault → Type 0
IsUnmade old new (Store error) = IsCause old new error
IsUnmade old new OutOfMemory = Unit {0}
IsUnmade old new _ = ⊥

-- ---- between the check and the vault

-- the store holds each legal history that has these rows, of so many records
pub record AreMigrated (old new : State) (count : ℕ) : Type 0 where
  pub rows : Rows
  pub stand : AreSoundRows old.now rows
  pub holds : (records : List Record) → IsLegal records → HaveRows old.now (rows_of records)
      → HoldsAt new count records × MayLeave new (λ r. r ≡ rows_of records)

-- what each refusal of the five tables says of those of version 1
abbrev pub IsFirstUnadopted : (old new : State) → OpenFault → Type 0
IsFirstUnadopted old new NotOurs = tables.IsFirstRefusedAt old.now table.NotOurs
IsFirstUnadopted old new NewerVersion = tables.IsFirstRefusedAt old.now table.NewerVersion
IsFirstUnadopted old new OldVersion = tables.IsFirstRefusedAt old.now table.OldVersion
IsFirstUnadopted old new Damaged = tables.IsFirstRefusedAt old.now table.Damaged
IsFirstUnadopted old new (Store error) = cause error ≡ of.Store
IsFirstUnadopted old new OutOfMemory = Unit {0}

-- As `MayMigrate` for the transaction, which comes after the check and doesn't know whether the rows are sound. A crash
-- leaves what it left before, or, where no table of topics was there, what the migration writes.
pub record MayCommit (old new : State) : Type 0 where
  pub stays : KeepsOpen old new
  pub leaves : (db : Trees) → new.may_leave db
      → old.may_leave db ⊎ ((has_topics old.now.schema ≡ false) × Migrated old db)

-- why the table of topics wasn't made beside them: its name was taken, or as above
abbrev pub IsUnmadeFor : (old new : State) → OpenFault → Type 0
IsUnmadeFor old new NotOurs = IsTrue (has_topics old.now.schema)
IsUnmadeFor old new fault = IsUnmade old new fault

-- one of the two
abbrev pub IsFirstUnmigrated : (old new : State) → OpenFault → Type 0
IsFirstUnmigrated old new fault = IsFirstUnadopted old new fault ⊎ IsUnmadeFor old new fault
