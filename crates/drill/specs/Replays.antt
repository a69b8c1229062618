-- What the replay of a script writes, by how it ends.
use Rattle.std.specs.Prelude.{◌≡◌, ◌⊎◌, ℕ, List, Option, Result, Err}
use Rattle.sqlite.specs.Store.{Ghosts}
use Rattle.sqlite.specs.Held.{Held}
use Rattle.script_lines.specs.declared.call.Line.{Line}
use Rattle.text_lines.specs.declared.fault.StreamFault.{StreamFault}
use Rattle.text_lines.specs.declared.fault.StreamFault.TheVariants.{Lost, OutOfMemory}
use Rattle.script_lines.specs.declared.reply.Reply.{Reply}
use Rattle.text_lines.specs.Ends.{Ends}
use Rattle.script_lines.specs.Replies.{reply_text}
use Rattle.script_lines.specs.Script.{IsLine}
use Rattle.recovery.specs.Left.{KeepsRows, IsCleanAt}
use Rattle.drill.specs.Moves.{Session}
use Rattle.drill.specs.declared.player.Player.{Player}
use Rattle.drill.specs.declared.player.State.{State}
use Rattle.drill.specs.declared.player.State.TheVariants.{Open, Shut, Between}
use Rattle.drill.specs.declared.runner.Runner.{Runner}
use Rattle.drill.specs.Events.{SurvivesCrash}
use Rattle.drill.specs.Restarts.{IsNoLine, Replies, RepliesSuchThat, LineMove}
use Rattle.drill.specs.Runners.{RunStandsFor}
use Rattle.drill.specs.Unrecorded.{ArePendingAgain}

-- The replies to the lines of the reader's text are written, as far as this end says.
abbrev pub Replays : Option (List ℕ) → Option (List ℕ) → Option (List ℕ) → Result (Unit {0}) StreamFault → Type 0
Replays input old new end = Ends Replies IsNoLine input old new end

-- the store wasn't opened
abbrev pub IsUnopened : Result (Unit {0}) StreamFault → Type 0
IsUnopened end = (end ≡ Err Lost) ⊎ (end ≡ Err OutOfMemory)

-- What survives a crash of the connection at the end of a run: rows of the run, with all records
-- that were shown as settled. Each attempt without an outcome there is pending again.
pub record LeavesRun {S : Type 0} (g : Ghosts S) (conn : Held S) (last : Session) (acknowledged : ℕ) : Type 0 where
  pub leaves : KeepsRows g conn last.world
  pub kept : SurvivesCrash last.world acknowledged
  pub again : ArePendingAgain last.world

-- The replies are those of a run whose rows the connection has.
abbrev pub KeepsRun : {S : Type 0} → Ghosts S → Held S → Option (List ℕ) → Option (List ℕ) → Option (List ℕ)
    → Result (Unit {0}) StreamFault → Type 0
KeepsRun g conn input old new end = Ends (RepliesSuchThat (LeavesRun g conn)) IsNoLine input old new end

-- the script's store is open, and its core and its store represent the session
abbrev pub StateStandsFor : {L S : Type 0} → (g : Ghosts S) → State L S g → Session → Type 0
StateStandsFor {L} {S} g state s = (runner : Runner L S g) × (state ≡ Open runner)
    × RunStandsFor g runner.core runner.vault s

-- From each session that the old state represented, the line's reply leads to one that the new
-- state represents.
abbrev pub AnswersLine : {L S : Type 0} → (g : Ghosts S) → State L S g → Line → Reply → State L S g → Type 0
AnswersLine g old line reply new =
    (s : Session) → StateStandsFor g old s → (next : Session) × LineMove s line reply next × StateStandsFor g new next

-- from one state to the other, the line is answered by this text
abbrev pub AnswersText : {L S : Type 0} → (g : Ghosts S) → Player L S g → List ℕ → List ℕ → Player L S g → Type 0
AnswersText g old text told new = (line : Line) × (reply : Reply) × IsLine text line
    × AnswersLine g old.state line reply new.state × (told ≡ reply_text reply)

-- the disk has returned what was written, whether the store is open or not
abbrev pub IsStateClean : {L S : Type 0} → (g : Ghosts S) → State L S g → Type 0
IsStateClean g (Open runner) = IsCleanAt g runner.vault.conn
IsStateClean g (Shut conn) = IsCleanAt g conn
IsStateClean g Between = Unit {0}

-- the connection of this state
abbrev pub IsConnOf : {L S : Type 0} → (g : Ghosts S) → State L S g → Held S → Type 0
IsConnOf g (Open runner) conn = conn ≡ runner.vault.conn
IsConnOf g (Shut left) conn = conn ≡ left
IsConnOf g Between conn = ⊥
