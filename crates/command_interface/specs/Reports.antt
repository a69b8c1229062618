-- How a command ends: its exit status, and what it tells on standard error.
use Rattle.std.specs.Prelude.{◌≡◌, ℕ, List, ◌++◌, Option, Result, Ok, Err, codes}
use Rattle.std.specs.Io.KnownBytes.{Keeps}
use Rattle.sqlite.specs.declared.error.Error.{Error}
use Rattle.sqlite.specs.declared.error.Error.TheVariants.{SqliteFailure}
use Rattle.sqlite.specs.declared.error.ErrorCode.TheVariants.{DatabaseBusy, CannotOpen, DatabaseCorrupt, DiskFull}
use Rattle.relay_types.specs.Faults.{fault_name}
use Rattle.relay_types.specs.declared.fault.ReadFault.{ReadFault}
use Rattle.relay_types.specs.declared.fault.ReadFault.TheVariants as reader
use Rattle.text_lines.specs.declared.fault.StreamFault.TheVariants as command
use Rattle.spool.specs.declared.faults.OpenFault.{OpenFault}
use Rattle.spool.specs.declared.faults.OpenFault.TheVariants as opening
use Rattle.text_lines.specs.Ends.{status_of, fault_text}
use Rattle.text_lines.specs.Streams.{AppendsFront, with_feed}
use Rattle.command_interface.specs.declared.exit_status.CommandFault.{CommandFault}
use Rattle.command_interface.specs.declared.exit_status.CommandFault.TheVariants.{Argument, Ended, File, Store}
use Rattle.command_interface.specs.declared.exit_status.FileFault.{FileFault}
use Rattle.command_interface.specs.declared.exit_status.FileFault.TheVariants.{NotOurs, NewerVersion, OldVersion}
use Rattle.command_interface.specs.declared.exit_status.FileFault.TheVariants.{Damaged}
use Rattle.command_interface.specs.declared.exit_status.StoreFault.{StoreFault}
use Rattle.command_interface.specs.declared.exit_status.StoreFault.TheVariants as of

-- the fault of a command whose argument is refused so
abbrev pub argument_fault : ReadFault → CommandFault
argument_fault reader.OutOfMemory = Ended command.OutOfMemory
argument_fault fault = Argument fault

-- the fault of a command whose store has this error
abbrev pub store_fault : Error → CommandFault
store_fault (SqliteFailure DatabaseBusy) = Store of.Busy
store_fault (SqliteFailure CannotOpen) = Store of.CannotOpen
store_fault (SqliteFailure DatabaseCorrupt) = Store of.Corrupt
store_fault (SqliteFailure DiskFull) = Store of.Full
store_fault other = Ended command.Lost

-- the fault of a command whose store isn't opened for this
abbrev pub open_fault : OpenFault → CommandFault
open_fault opening.NotOurs = File NotOurs
open_fault opening.NewerVersion = File NewerVersion
open_fault opening.OldVersion = File OldVersion
open_fault opening.Damaged = File Damaged
open_fault (opening.Store error) = store_fault error
open_fault opening.OutOfMemory = Ended command.OutOfMemory

-- the exit status of an end: 0 done, 1 an argument is refused, 2 what was read, 4 the relay doesn't take what is in the
-- file, 3 the rest
abbrev pub exit_status : Result (Unit {0}) CommandFault → ℕ
exit_status (Ok done) = 0
exit_status (Err (Argument fault)) = 1
exit_status (Err (Ended fault)) = status_of (Err fault)
exit_status (Err (File fault)) = 4
exit_status (Err (Store fault)) = 3

-- how a fault is told
abbrev pub file_fault_name : FileFault → List ℕ
file_fault_name NotOurs = codes "NotOurs"
file_fault_name NewerVersion = codes "NewerVersion"
file_fault_name OldVersion = codes "OldVersion"
file_fault_name Damaged = codes "Damaged"

abbrev pub store_fault_name : StoreFault → List ℕ
store_fault_name of.Busy = codes "Busy"
store_fault_name of.CannotOpen = codes "CannotOpen"
store_fault_name of.Corrupt = codes "Corrupt"
store_fault_name of.Full = codes "Full"

abbrev pub told_text : CommandFault → List ℕ
told_text (Argument fault) = fault_name fault
told_text (Ended fault) = fault_text fault
told_text (File fault) = file_fault_name fault
told_text (Store fault) = store_fault_name fault

-- the line that tells a fault of this text
abbrev pub fault_line : List ℕ → List ℕ
fault_line text = with_feed (codes "relayd: " ++ text)

-- the line that tells it
abbrev pub told_line : CommandFault → List ℕ
told_line fault = fault_line (told_text fault)

-- What standard error gets: nothing where the command is done, and else a front of the fault's line (all of it where
-- the writer takes it).
abbrev pub ReportsEnd : Result (Unit {0}) CommandFault → Option (List ℕ) → Option (List ℕ) → Type 0
ReportsEnd (Ok done) old new = Keeps old new
ReportsEnd (Err fault) old new = AppendsFront old new (told_line fault)

-- The exit status and standard error, as it was and is, tell of one end, of which this holds.
abbrev pub Reports : (Result (Unit {0}) CommandFault → Type 0) → Option (List ℕ) → Option (List ℕ) → ℕ → Type 0
Reports Holds old new status =
    (end : Result (Unit {0}) CommandFault) × (status ≡ exit_status end) × ReportsEnd end old new × Holds end
