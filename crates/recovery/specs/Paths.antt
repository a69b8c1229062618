-- Why the file at a path isn't opened.
use Rattle.std.specs.Prelude.{◌≡◌, ◌≢◌, ◌⊎◌, IsTrue, Result, IfErr}
use Rattle.sqlite.specs.Disk.{MoreFaults}
use Rattle.sqlite.specs.FileStore.{blamed, view}
use Rattle.sqlite.specs.Files.{HoldsDatabase, IsCleanLeft, IsFullLeft, faults_left, faults_of, image_of, tally_left}
use Rattle.sqlite.specs.Held.{Held}
use Rattle.sqlite.specs.Opening.{is_open_error}
use Rattle.sqlite.specs.Recovery.{Image}
use Rattle.sqlite.specs.State.{store_error}
use Rattle.sqlite.specs.Tree.{Trees}
use Rattle.sqlite.specs.View.{IsClean}
use Rattle.sqlite.specs.WalReads.{tally_of_files}
use Rattle.sqlite.specs.declared.error.Error.{Error}
use Rattle.sqlite.specs.declared.error.Error.TheVariants.{SqliteFailure}
use Rattle.sqlite.specs.declared.error.ErrorCode.TheVariants as code
use Rattle.sqlite.specs.declared.file.Leftover.{Leftover}
use Rattle.sqlite.specs.declared.file.Leftover.TheVariants as left
use Rattle.sqlite_disk.specs.declared.Disk as disk
use Rattle.sqlite_disk.specs.declared.Files.{Files}
use Rattle.sqlite_store.specs.Report as report
use Rattle.sqlite_store.specs.declared.store.FileStore.{FileStore}
use Rattle.sqlite_trees.specs.declared.error.StoreError.{StoreError}
use Rattle.sound_tables.specs.Unsound.{IsToldUnsound, TellsFailed}
use Rattle.sound_tables.specs.declared.fault.TableFault.{TableFault}
use Rattle.spool_sql.specs.Causes.{cause}
use Rattle.spool_sql.specs.declared.cause.Cause.TheVariants as of
use Rattle.spool.specs.Adopting.{fault_of}
use Rattle.spool.specs.declared.faults.OpenFault.{OpenFault}
use Rattle.spool.specs.declared.faults.OpenFault.TheVariants.{NotOurs, Store}
use Rattle.spool.specs.declared.faults.OpenFault.TheVariants.{OutOfMemory}

-- the path can't be looked at or opened, or memory was refused
abbrev pub IsOfPath : OpenFault → Type 0
IsOfPath fault = (fault ≡ Store (SqliteFailure code.CannotOpen)) ⊎ (fault ≡ OutOfMemory)

-- or its file is too short to be a database
abbrev pub IsOfLook : OpenFault → Type 0
IsOfLook fault = IsOfPath fault ⊎ (fault ≡ NotOurs)

-- no file was opened: it can't be, memory was refused, or another program has it open
abbrev pub IsNoFile : OpenFault → Type 0
IsNoFile fault = IsOfPath fault ⊎ (fault ≡ Store (SqliteFailure code.DatabaseBusy))

-- a fault of the store is that the file can't be opened, that another program has it open, or that the store failed
abbrev pub IsOfOpen : OpenFault → Type 0
IsOfOpen (Store error) = (error ≡ SqliteFailure code.CannotOpen)
    ⊎ ((error ≡ SqliteFailure code.DatabaseBusy) ⊎ (cause error ≡ of.Store))
IsOfOpen _ = Unit {0}

-- as what the store's refusal of an open is told, if it isn't that the file is none of SQLite's
abbrev pub unopened_fault : Error → OpenFault
unopened_fault (SqliteFailure code.OutOfMemory) = OutOfMemory
unopened_fault error = Store error

module _ {D : Type 0} {g : disk.Ghosts D} where
  -- As what files are told that are none of SQLite's: if their store was read, as its `meta` says, or with the fault
  -- that the store told last, and otherwise as none of ours.
  abbrev pub IsToldUnfit : Leftover D g → OpenFault → Type 0
  IsToldUnfit (left.Files files) fault = fault ≡ NotOurs
  IsToldUnfit (left.Unopened files) fault = fault ≡ NotOurs
  IsToldUnfit (left.Store store) fault =
      (told : TableFault) × (fault ≡ fault_of told) × (after : FileStore D g)
      × (IsClean (view after) → IsToldUnsound (view store) told) × TellsFailed (blamed after) told

  -- memory was refused, the disk failed under this name, or the file has no room
  abbrev pub IsOfDiskAs : StoreError → Files D → Leftover D g → OpenFault → Type 0
  IsOfDiskAs kind files rest fault =
      (fault ≡ OutOfMemory)
      ⊎ (((fault ≡ Store (store_error kind)) × MoreFaults (faults_of g files) (faults_left rest))
      ⊎ ((fault ≡ Store (SqliteFailure code.DiskFull)) × IsFullLeft rest))

  -- a fault of the disk is named by what the two files met during the open
  abbrev pub IsOfDisk : Files D → Leftover D g → OpenFault → Type 0
  IsOfDisk files rest = IsOfDiskAs (report.named (tally_of_files g (files.log, files.db)) (tally_left rest)) files rest

-- SQLite refused files that held this, by this error, and so much is left of them.
pub record IsRefusedBySqlite {D : Type 0} (g : disk.Ghosts D) (image : Image) (fault : OpenFault) : Type 0 where
  pub files : Files D
  pub rest : Leftover D g
  pub error : Error
  pub held : image_of g files ≡ image
  pub named : IsTrue (is_open_error error)
  pub unfit : error ≡ SqliteFailure code.NotADatabase → IsToldUnfit rest fault
  pub told : error ≢ SqliteFailure code.NotADatabase → fault ≡ unopened_fault error
  -- Files that held a database were refused only for memory or for the disk.
  pub sound : IsCleanLeft rest → (db : Trees) → HoldsDatabase image db → IsOfDisk files rest fault

-- why there is no connection to files that held this
abbrev pub IsUnconnected : {D : Type 0} → disk.Ghosts D → Image → OpenFault → Type 0
IsUnconnected g image fault = IsNoFile fault ⊎ IsRefusedBySqlite g image fault

-- there is one, or this is why there is none
abbrev pub ConnectsOr : {D : Type 0} {g : disk.Ghosts D} → Image → Result (Held (FileStore D g)) OpenFault → Type 0
ConnectsOr {D} {g} image result = IfErr result (IsUnconnected g image)
