-- How the end of a relay that serves is told: its exit status, and a line on standard error.
use Rattle.std.specs.Prelude.{ℕ, List, Option, Result, Ok, Err, codes}
use Rattle.std.specs.Io.KnownBytes.{Keeps}
use Rattle.text_lines.specs.Streams.{AppendsFront}
use Rattle.recovery.specs.Audits.{fault_name}
use Rattle.command_interface.specs.Reports.{exit_status, fault_line, told_text}
use Rattle.relay_serve.specs.declared.fault.ServeFault.{ServeFault}
use Rattle.relay_serve.specs.declared.served.Served.{Served}
use Rattle.relay_serve.specs.declared.fault.ServeFault.TheVariants.{BadAddress, File, CannotListen, NoThread, Halted}
use Rattle.relay_serve.specs.declared.fault.ServeFault.TheVariants.{Audit, Write, OutOfMemory}

-- the exit status: 0 where the end was asked for, 1 a bad address, that of a command whose file wasn't opened, 3 the
-- rest
abbrev pub serving_status : Result Served ServeFault → ℕ
serving_status (Ok done) = 0
serving_status (Err BadAddress) = 1
serving_status (Err (File fault)) = exit_status (Err fault)
serving_status _ = 3

-- how a fault is told
abbrev pub serving_text : ServeFault → List ℕ
serving_text BadAddress = codes "BadAddress"
serving_text (File fault) = told_text fault
serving_text CannotListen = codes "CannotListen"
serving_text NoThread = codes "NoThread"
serving_text (Halted cause) = codes "Halted"
serving_text (Audit fault) = fault_name fault
serving_text Write = codes "Write"
serving_text OutOfMemory = codes "OutOfMemory"

-- What standard error gets: nothing where the end was asked for, and else a front of the fault's line (all of it where
-- the writer takes it).
abbrev pub TellsEnd : Result Served ServeFault → Option (List ℕ) → Option (List ℕ) → Type 0
TellsEnd (Ok done) old new = Keeps old new
TellsEnd (Err fault) old new = AppendsFront old new (fault_line (serving_text fault))
