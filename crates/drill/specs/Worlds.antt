-- What a run of events leaves.
use Rattle.std.specs.Prelude.{◌≡◌, ℕ, ◌≤◌, List, [], ◌++◌, length, Option, Some, None}
use Rattle.std.specs.List.{AllByRecursion}
use Rattle.sqlite.specs.Store.{Ghosts}
use Rattle.relay_types.specs.declared.record.Record.{Record}
use Rattle.relay_types.specs.Values.{Seconds}
use Rattle.relay_types.specs.Records.{History}
use Rattle.spool.specs.Batches.{BatchValue, doubt_of}
use Rattle.spool.specs.Vaults.{VaultValue}
use Rattle.group_commit.specs.declared.held.Held as waiting
use Rattle.group_commit.specs.declared.held.Held.TheVariants as held
use Rattle.desk.specs.World.{World, Nothing, Batch, Receipt, Doubt, all_records, settled_records}
use Rattle.desk.specs.Moves.{opened, sealed_batch}
use Rattle.desk.specs.Desks.{StandsFor}
use Rattle.recovery.specs.Left.{VaultStandsFor, KeepsRows, records_of_first}
use Rattle.drill.specs.declared.calls.Core.{Core}
use Rattle.drill.specs.declared.events.Event.{Event}
use Rattle.drill.specs.declared.events.Reply.{Reply}
use Rattle.drill.specs.declared.runs.World as left
use Rattle.drill.specs.Moves.{Session}
use Rattle.drill.specs.Events.{EventMove, EventRun, SurvivesCrash}
use Rattle.drill.specs.Unrecorded.{ArePendingAgain}
use Rattle.drill.specs.Runners.{RunStandsFor}

-- everything is settled, and nothing is out or under way
abbrev pub IsOpening : World → Type 0
IsOpening w = (history : History) × (clock : Seconds) × (w ≡ opened history clock)

-- the session in which a run from this world begins: no ticket was given
abbrev pub session_of : World → Session
session_of w = record { world = w; tickets = [] }

-- From each session that core and store represented, the event got this reply, and they represent
-- the session after it.
abbrev pub AnswersEvent : {L S : Type 0} → Ghosts S → Core L → VaultValue S → Event → Reply → Core L → VaultValue S
    → Type 0
AnswersEvent g old vault event told new later =
    (s : Session) → RunStandsFor g old vault s → (next : Session) × EventMove s event told next
    × RunStandsFor g new later next

-- The same for events one after another. What their replies show is settled.
abbrev pub AnswersEvents : {L S : Type 0} → Ghosts S → Core L → VaultValue S → List Event → List Reply → Core L
    → VaultValue S → Type 0
AnswersEvents g old vault events replies new later = (s : Session) → RunStandsFor g old vault s
    → (last : Session) × (acknowledged : ℕ) × EventRun s events replies last acknowledged
    × RunStandsFor g new later last
    × (acknowledged ≤ length (settled_records last.world))

-- what is out in the world was handed out: a receipt, a batch or a doubt
abbrev pub IsOut : (mark : ℕ) → World → (receipt : Option BatchValue) → (given : waiting.Held) → Type 0
IsOut mark w None held.Nothing = w.out ≡ Nothing
IsOut mark w None (held.Batch batch) = (w.out ≡ Batch) × (batch ≡ sealed_batch mark w)
IsOut mark w None (held.Doubt doubt) = (w.out ≡ Doubt) × (doubt ≡ doubt_of (sealed_batch mark w))
IsOut mark w (Some receipt) held.Nothing = (w.out ≡ Receipt) × (receipt ≡ sealed_batch mark w)
IsOut mark w (Some receipt) given = ⊥

-- The second world goes on from the first: more steps may have come to its history, and no fewer
-- are settled.
pub record GoesOn (w next : World) : Type 0 where
  pub more : History
  pub history : next.history ≡ w.history ++ more
  pub settled : w.settled ≤ next.settled

-- Whatever survives a crash of the world begins with these records.
abbrev pub ArePrefixAfterCrash : (records : List Record) → World → Type 0
ArePrefixAfterCrash records w = AllByRecursion (λ steps. (more : List Record)
    × (records_of_first w steps ≡ records ++ more))
    w.left

-- These are the replies of a run of the events from the session. What is left represents the run's
-- last world: the desk, the permits of the attempts under way, what is out, and the store. The last
-- world goes on from the session's. It says what survives a crash of the store: that begins with
-- all records of the session, it has all that were shown, and each event whose attempt has no
-- outcome there is pending.
pub record IsRunFrom {L S : Type 0} (g : Ghosts S) (s : Session) (events : List Event) (to : left.World L S) :
    Type 0 where
  pub last : Session
  pub acknowledged : ℕ
  pub runs : EventRun s events to.replies.items last acknowledged
  pub desk : StandsFor to.desk last.world
  pub permits : to.permits.items ≡ last.world.live
  pub out : IsOut to.desk.waiting.mark last.world to.receipt to.held
  pub vault : VaultStandsFor g to.vault last.world
  pub mark : to.desk.waiting.mark ≡ to.vault.mark
  pub goes : GoesOn s.world last.world
  pub leaves : KeepsRows g to.vault.conn last.world
  pub begins : ArePrefixAfterCrash (all_records s.world) last.world
  pub kept : SurvivesCrash last.world acknowledged
  pub again : ArePendingAgain last.world

-- A law of runs from any opening: in whatever survives a crash, each event with an attempt that has
-- no outcome there is pending.
abbrev pub AreAttemptsPendingAgain : Type 0
AreAttemptsPendingAgain =
    (w : World) (events : List Event) (replies : List Reply) (last : Session) (acknowledged : ℕ)
    → IsOpening w → EventRun (session_of w) events replies last acknowledged → ArePendingAgain last.world
