-- What `relayd replay` writes, by how it ends.
use Rattle.std.specs.Prelude.{ℕ, List, Option, Result, Ok, Err}
use Rattle.drill.specs.Replays.{Replays}
use Rattle.command_interface.specs.declared.exit_status.CommandFault.{CommandFault}
use Rattle.command_interface.specs.declared.exit_status.CommandFault.TheVariants.{Ended}
use Rattle.command_interface.specs.Reports.{Reports}

-- what is written at an end; there are no arguments and no file
abbrev pub WritesReplies : Option (List ℕ) → Option (List ℕ) → Option (List ℕ) → Result (Unit {0}) CommandFault → Type 0
WritesReplies input old new (Ok done) = Replays input old new (Ok done)
WritesReplies input old new (Err (Ended fault)) = Replays input old new (Err fault)
WritesReplies input old new _ = ⊥

-- The replies to the script on the reader are written, and the exit status and standard error tell of the same end.
abbrev pub ReportsReplay : Option (List ℕ) → Option (List ℕ) → Option (List ℕ) → Option (List ℕ) → Option (List ℕ) → ℕ
    → Type 0
ReportsReplay input old new untold told status = Reports (WritesReplies input old new) untold told status
