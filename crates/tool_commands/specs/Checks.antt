-- What `relayd check` writes, by how it ends.
use Rattle.std.specs.Prelude.{◌≡◌, ◌≢◌, ◌≤◌, ◌⊎◌, ℕ, Bool, false, List, [], ◌∷◌, Option, Some, None, Result, Ok, Err}
use Rattle.std.specs.Prelude.{IfErr, IsTrue, MatchResult, codes, decimal}
use Rattle.std.specs.Io.KnownBytes.{Appends, Keeps}
use Rattle.sqlite.specs.Store.{Ghosts}
use Rattle.sqlite.specs.Effect.{Database, IsDatabase}
use Rattle.sqlite.specs.Held.{Held, state}
use Rattle.sqlite.specs.Recovery.{Image}
use Rattle.sqlite.specs.Files.{AreFoundIn, over_files}
use Rattle.sqlite_disk.specs.declared.Disk as disk
use Rattle.sqlite_store.specs.declared.store.FileStore.{FileStore}
use Rattle.relay_types.specs.Records.{History, records_of}
use Rattle.relay_types.specs.Legal.{IsLegal}
use Rattle.relay_types.specs.Rows.{Rows, rows_of}
use Rattle.spool_sql.specs.Steps.{IfClean}
use Rattle.spool_sql.specs.Tables.{IsOwn, no_schema}
use Rattle.sound_tables.specs.Checks.{HasNoVersionBut, HasVersion, IsRefusedAt}
use Rattle.sound_tables.specs.declared.fault.TableFault.TheVariants as table
use Rattle.sound_tables.specs.Keys.{has_first_tables, has_meta}
use Rattle.spool.specs.Adopting.{FailsIfOfStore, IsForeign, IsReadOpen}
use Rattle.spool.specs.Migrating.{AreSoundRows, HaveRows, LeavesMigrated, has_topics}
use Rattle.spool.specs.declared.faults.OpenFault.{OpenFault}
use Rattle.spool.specs.declared.faults.OpenFault.TheVariants.{NotOurs, NewerVersion, OldVersion, Damaged, Store}
use Rattle.spool.specs.declared.faults.OpenFault.TheVariants as opening
use Rattle.desk.specs.World.{settled_records}
use Rattle.desk.specs.Queries.{totals}
use Rattle.desk.specs.declared.pages.Totals.{Totals}
use Rattle.recovery.specs.Files.{HoldsEither, SinceFound}
use Rattle.recovery.specs.Left.{IsCleanAt}
use Rattle.recovery.specs.Openings.{IsNewStore}
use Rattle.recovery.specs.Paths.{IsOfLook, IsUnconnected}
use Rattle.recovery.specs.Reopenings.{IsOfReading, IsOpenBehind, IsUnopened, opening_of, steps_from}
use Rattle.text_lines.specs.declared.fault.StreamFault.TheVariants.{Write, OutOfMemory}
use Rattle.text_lines.specs.Parts.{line}
use Rattle.text_lines.specs.Streams.{AppendsFront, with_feed}
use Rattle.command_interface.specs.declared.exit_status.CommandFault.{CommandFault}
use Rattle.command_interface.specs.declared.exit_status.CommandFault.TheVariants.{Ended}
use Rattle.command_interface.specs.Reports.{Reports, open_fault}

-- the totals as they are printed, and a line feed
abbrev pub counts_text : Totals → List ℕ
counts_text t = line
    (codes "ok" ∷ codes "records" ∷ decimal t.records ∷ codes "endpoints" ∷ decimal t.endpoints ∷ codes "pending"
    ∷ decimal t.pending ∷ [])

abbrev pub counts_line : Totals → List ℕ
counts_line t = with_feed (counts_text t)

-- The tables, of either version, have sound rows, and these are the totals of the opening of their history, and of each
-- legal history that has these rows.
pub record AreTotalsOf (db : Database) (t : Totals) : Type 0 where
  pub rows : Rows
  pub sound : AreSoundRows db rows
  pub counts : t ≡ totals (settled_records (opening_of (steps_from rows)))
  pub each : (history : History) → IsLegal (records_of history) → HaveRows db (rows_of (records_of history))
      → t ≡ totals (settled_records (opening_of history))

-- Where there was no table, they are the totals of no record. Otherwise the five of version 1 stood with their keys,
-- and where the schema was the relay's, of either version, they are those of their history.
abbrev pub AreTotalsFound : Database → Totals → Type 0
AreTotalsFound db t =
    ((db.schema ≡ no_schema) × (t ≡ totals []))
    ⊎ (IsTrue (has_first_tables db.schema) × (IsOwn db.schema → AreTotalsOf db t))

-- What was counted of a store: its totals, or why it wasn't opened, which is said of the relay's schema.
abbrev pub IsCounted : {S : Type 0} → Ghosts S → (old new : Held S) → Result Totals OpenFault → Type 0
IsCounted g old new (Ok t) = IfClean g old new (λ a b. AreTotalsFound a.now t)
IsCounted g old new (Err why) = IfClean g old new (λ a b. IsOwn a.now.schema → IsUnopened a b why)

-- What a crash leaves of a store: if it was counted, what it left before or what a migration writes, and the store was
-- seen to be open. Otherwise what `reopen` lets it leave at this refusal.
abbrev pub LeavesCounted : {S : Type 0} → Ghosts S → (old new : Held S) → Result Totals OpenFault → Type 0
LeavesCounted g old new (Ok t) = IfClean g old new IsOpenBehind
LeavesCounted g old new (Err why) = IfClean g old new (λ a b. LeavesMigrated a b why)

-- What an opening says of a store that it counted or refused.
pub record IsCountOf {S : Type 0} (g : Ghosts S) (is_new : Bool) (old new : Held S)
    (counted : Result Totals OpenFault) : Type 0 where
  pub counts : IsCounted g old new counted
  -- A store without `meta` is counted only if it is new and has no table. It is refused as none of the relay's, by the
  -- store or for memory.
  pub ours : has_meta (state g old).now.schema ≡ false
      → MatchResult counted (λ _. IsNewStore is_new (state g old).now.schema) IsForeign
  -- If it isn't a new one without tables, a fault of the store was met at it.
  pub foreign : has_meta (state g old).now.schema ≡ false → ¬ IsNewStore is_new (state g old).now.schema
      → IfErr counted (λ why. IfClean g old new (λ _ b. FailsIfOfStore b why))
  -- A new store without tables is refused only for memory or by the store.
  pub made : IsNewStore is_new (state g old).now.schema → IfErr counted IsOfReading
  -- Of every other store, a crash leaves what `reopen` lets it leave.
  pub leaves : ¬ IsNewStore is_new (state g old).now.schema → LeavesCounted g old new counted

-- They are the totals of what a file and its log held, and of each legal history whose rows these were.
pub record AreTotalsIn {D : Type 0} {g : disk.Ghosts D} (image : Image) (conn : Held (FileStore D g))
    (t : Totals) : Type 0 where
  pub found : Database
  pub finds : AreFoundIn image found.trees
  -- its trees list its schema, and obey it
  pub lists : IsDatabase found
  pub counts : AreTotalsFound found t
  pub each : (history : History) → IsLegal (records_of history) → HoldsEither image (rows_of (records_of history))
      → t ≡ totals (settled_records (opening_of history))
  -- If there was a table, an index or a view, the store was seen to be open. A crash leaves what it left when the file
  -- was opened, or what a migration writes.
  pub leaves : found.schema ≢ no_schema → SinceFound over_files found conn IsOpenBehind

-- what a refusal says of the tables
abbrev pub SaysOf : Database → OpenFault → Type 0
SaysOf db NotOurs =
    IsRefusedAt db table.NotOurs ⊎ (HasVersion db (λ version. version ≡ 1) × IsTrue (has_topics db.schema))
SaysOf db NewerVersion = IsRefusedAt db table.NewerVersion
SaysOf db OldVersion = ⊥
SaysOf db Damaged = HasNoVersionBut db (λ version. version ≤ 2) × ((rows : Rows) → ¬ AreSoundRows db rows)
SaysOf db (Store error) = Unit {0}
SaysOf db opening.OutOfMemory = Unit {0}

-- What a refusal says of what a file and its log held.
pub record IsRefusedIn {D : Type 0} {g : disk.Ghosts D} (image : Image) (conn : Held (FileStore D g))
    (why : OpenFault) : Type 0 where
  pub found : Database
  pub finds : AreFoundIn image found.trees
  -- its trees list its schema, and obey it
  pub lists : IsDatabase found
  -- what it says if the schema was the relay's
  pub says : IsOwn found.schema → SaysOf found why
  -- A file without `meta` is refused as none of the relay's, by the store or for memory.
  pub ours : has_meta found.schema ≡ false → IsForeign why
  -- One that is refused as none of the relay's was only read.
  pub read : why ≡ NotOurs → SinceFound over_files found conn IsReadOpen
  -- Of one with a table, an index or a view, a crash leaves what `reopen` lets it leave at this refusal.
  pub leaves : found.schema ≢ no_schema → SinceFound over_files found conn (λ a b. LeavesMigrated a b why)

-- What was counted of the file that held so much, where it was opened, and while its disk returns what was written.
-- Otherwise why it wasn't: the look at the path gave no file, or there is no connection to it.
abbrev pub IsCountedIn : {D : Type 0} {g : disk.Ghosts D} → Image → (opened : Option (Held (FileStore D g)))
    → Result Totals OpenFault → Type 0
IsCountedIn image (Some conn) (Ok t) = IsCleanAt over_files conn → AreTotalsIn image conn t
IsCountedIn image (Some conn) (Err why) = IsCleanAt over_files conn → IsRefusedIn image conn why
IsCountedIn image None (Ok t) = ⊥
IsCountedIn {D} {g} image None (Err why) = IsOfLook why ⊎ IsUnconnected g image why

-- what is written of the totals where their line isn't: a front of it where the writer failed, and nothing without
-- memory
abbrev pub WritesFront : Totals → Option (List ℕ) → Option (List ℕ) → CommandFault → Type 0
WritesFront t old new (Ended Write) = AppendsFront old new (counts_line t)
WritesFront t old new (Ended OutOfMemory) = Keeps old new
WritesFront t old new fault = ⊥

-- What is written at an end: the line of the totals, and nothing where the store wasn't opened.
abbrev pub WritesCounts : Result Totals OpenFault → Option (List ℕ) → Option (List ℕ) → Result (Unit {0}) CommandFault
    → Type 0
WritesCounts (Ok t) old new (Ok done) = Appends old new (counts_line t)
WritesCounts (Ok t) old new (Err fault) = WritesFront t old new fault
WritesCounts (Err why) old new end = (end ≡ Err (open_fault why)) × Keeps old new

-- The exit status and standard error tell of the same end, at which this was written of what was read.
abbrev pub ReportsChecked : Result Totals OpenFault → Option (List ℕ) → Option (List ℕ) → Option (List ℕ)
    → Option (List ℕ) → ℕ → Type 0
ReportsChecked counted old new untold told status = Reports (WritesCounts counted old new) untold told status

-- the same, of what was counted of the store of a connection, which may be new
abbrev pub ReportsCheck : {S : Type 0} → Ghosts S → (is_new : Bool) → (conn back : Held S) → Option (List ℕ)
    → Option (List ℕ) → Option (List ℕ) → Option (List ℕ) → ℕ → Type 0
ReportsCheck g is_new conn back old new untold told status =
    (counted : Result Totals OpenFault) × IsCountOf g is_new conn back counted
    × ReportsChecked counted old new untold told status

-- the same, of what was counted of a file
abbrev pub ReportsFileCheck : {D : Type 0} {g : disk.Ghosts D} → Image → (opened : Option (Held (FileStore D g)))
    → Option (List ℕ) → Option (List ℕ) → Option (List ℕ) → Option (List ℕ) → ℕ → Type 0
ReportsFileCheck image opened old new untold told status =
    (counted : Result Totals OpenFault) × IsCountedIn image opened counted
    × ReportsChecked counted old new untold told status
