-- What was shown as settled survives restarts.
use Rattle.std.specs.Prelude.{◌≡◌, ◌⊎◌, ℕ, List, [], ◌∷◌}
use Rattle.sqlite.specs.Store.{Ghosts}
use Rattle.spool.specs.Vaults.{VaultValue}
use Rattle.script_lines.specs.declared.call.Line.{Line}
use Rattle.script_lines.specs.declared.reply.Reply as line
use Rattle.desk.specs.World.{World, all_records}
use Rattle.desk.specs.Desks.{DeskValue, StandsFor}
use Rattle.recovery.specs.Left.{VaultStandsFor, records_of_first}
use Rattle.recovery.specs.Reopenings.{AreOpenedAtOne}
use Rattle.drill.specs.declared.events.Event.{Event}
use Rattle.drill.specs.declared.events.Reply.{Reply}
use Rattle.drill.specs.declared.runs.World as left
use Rattle.drill.specs.Events.{EventRun, KeepsFirst}
use Rattle.drill.specs.Moves.{Session, begun}
use Rattle.drill.specs.Restarts.{LineRun}
use Rattle.drill.specs.BesideCommit.{HasCountsInOrder}
use Rattle.drill.specs.Worlds.{GoesOn, IsOpening, IsRunFrom, session_of}

-- A law: a run leads to a world that goes on from the one in which it began. So a run loses no
-- step, and what is settled stays settled.
abbrev pub RunsGoOn : Type 0
RunsGoOn =
    (s last : Session) (events : List Event) (replies : List Reply) (acknowledged : ℕ)
    → HasCountsInOrder s.world → EventRun s events replies last acknowledged → GoesOn s.world last.world

-- the other world has the records of this world's first steps, for one of these numbers of steps
abbrev pub HasRecordsLeft : World → (numbers : List ℕ) → World → Type 0
HasRecordsLeft w [] other = ⊥
HasRecordsLeft w (steps ∷ others) other = (all_records other ≡ records_of_first w steps) ⊎ HasRecordsLeft w others other

-- Runs one after another, each from an opening of what survived a crash of the world before.
abbrev pub RunsAfterCrashes : World → (runs : List (List Event × List Reply)) → (last : World) → Type 0
RunsAfterCrashes w [] last = last ≡ w
RunsAfterCrashes w (run ∷ runs) last = (opening : World) × (next : Session) × (acknowledged : ℕ)
    × IsOpening opening × HasRecordsLeft w w.left opening × EventRun (session_of opening) run.0 run.1 next acknowledged
    × RunsAfterCrashes next.world runs last

-- A law of any number of restarts: what a run showed as settled survives any crash of a later run,
-- in the same places.
abbrev pub RestartsKeepWhatWasShown : Type 0
RestartsKeepWhatWasShown =
    (w last : World) (events : List Event) (replies : List Reply) (first : Session) (acknowledged : ℕ)
    (runs : List (List Event × List Reply))
    → IsOpening w → EventRun (session_of w) events replies first acknowledged → RunsAfterCrashes first.world runs last
    → KeepsFirst last acknowledged (all_records first.world)

-- The same law for scripts: what the first lines showed survives a stop after further lines,
-- however many stops are among them.
abbrev pub StopsKeepWhatWasShown : Type 0
StopsKeepWhatWasShown =
    (lines more : List Line) (replies others : List line.Reply) (first last : Session) (acknowledged later : ℕ)
    → LineRun begun lines replies first acknowledged → LineRun first more others last later
    → KeepsFirst last.world acknowledged (all_records first.world)

-- The same by the contracts alone: of `run`, of `reopen` on what survived a crash, and of `run`
-- from there.
abbrev pub CallsKeepWhatWasShown : (L : Type 0) {S : Type 0} → Ghosts S → Type 0
CallsKeepWhatWasShown L {S} g =
    (s : Session) (events more : List Event) (to later : left.World L S) (desk : DeskValue) (vault : VaultValue S)
    → (one : IsRunFrom g s events to) → AreOpenedAtOne g desk vault one.last.world one.last.world.left
    → ((w : World) → IsOpening w → StandsFor desk w → VaultStandsFor g vault w → IsRunFrom g (session_of w) more later)
    → (w : World) × (two : IsRunFrom g (session_of w) more later) × KeepsFirst two.last.world one.acknowledged
    (all_records one.last.world)
