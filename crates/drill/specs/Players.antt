-- The states of a script between two lines.
use Rattle.std.specs.Prelude.{Bool, true, false, not}
use Rattle.sqlite.specs.Store.{Ghosts}
use Rattle.drill.specs.declared.player.State.{State}
use Rattle.drill.specs.declared.player.State.TheVariants.{Open, Shut, Between}

-- there is a runner, or a connection outside a transaction that wasn't opened again
abbrev pub is_there : {L S : Type 0} → {g : Ghosts S} → State L S g → Bool
is_there (Open runner) = true
is_there (Shut conn) = not conn.in_transaction
is_there Between = false
