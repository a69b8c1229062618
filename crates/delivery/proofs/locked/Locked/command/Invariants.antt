use Rattle.std.specs.Prelude.{[], ◌∷◌}
use Rattle.delivery.specs.Logs.{entry_of}
use Rattle.delivery.proofs.locked.Locked.command.Given as goal

abbrev pub ghosts-command_as : goal.ghosts-command_as
ghosts-command_as g a = record { records = entry_of a.command ∷ [] }
