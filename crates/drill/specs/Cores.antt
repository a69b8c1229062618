-- The desk with what it has handed out, and the sessions that they represent.
use Rattle.std.specs.Prelude.{◌≡◌, ℕ, ◌+◌, ◌≤◌, Bool, true, false, List, Option, Some, None, option_map, count_by, ◌==◌}
use Rattle.std.specs.Prelude.{[], Vec, vec_len, vec_capacity}
use Rattle.std.specs.declared.alloc.Global.{Global}
use Rattle.std.specs.HashMap.{spare}
use Rattle.relay_types.specs.declared.limits.TheConstants.{MAX_ENDPOINTS}
use Rattle.relay_types.specs.Values.{Seq}
use Rattle.permits.specs.declared.row.Row.{Row}
use Rattle.spool.specs.Batches.{BatchValue, doubt_of}
use Rattle.group_commit.specs.Waits.{batch_out}
use Rattle.group_commit.specs.declared.held.Held as waiting
use Rattle.group_commit.specs.declared.held.Held.TheVariants as waiting_held
use Rattle.script_lines.specs.declared.call.Call.{Call}
use Rattle.script_lines.specs.declared.call.Call.TheVariants as on
use Rattle.script_lines.specs.declared.reply.Reply.{Reply}
use Rattle.script_lines.specs.declared.reply.Reply.TheVariants as says
use Rattle.drill.specs.declared.events.Event.{Event}
use Rattle.drill.specs.declared.events.Event.TheVariants as events
use Rattle.drill.specs.declared.held.Held.{Held}
use Rattle.drill.specs.declared.held.Held.TheVariants as held
use Rattle.drill.specs.declared.calls.Core.{Core}
use Rattle.desk.specs.World.{World, Nothing, Batch, Receipt, Doubt}
use Rattle.desk.specs.Moves.{sealed_batch, with_halt}
use Rattle.desk.specs.Desks.{StandsFor, IsHeldOf}
use Rattle.drill.specs.Moves.{Session, Answer, MayReply, wrong_turn}
use Rattle.drill.specs.declared.tickets.AnyTicket.{AnyTicket}
use Rattle.drill.specs.Tickets as tickets

-- the runner holds what is out at the desk
abbrev pub IsHeld : (mark : ℕ) → World → Held → Type 0
IsHeld mark w held.Nothing = w.out ≡ Nothing
IsHeld mark w (held.Batch batch) = (w.out ≡ Batch) × (batch ≡ sealed_batch mark w)
IsHeld mark w (held.Receipt receipt) = (w.out ≡ Receipt) × (receipt ≡ sealed_batch mark w)
IsHeld mark w (held.Doubt doubt) = (w.out ≡ Doubt) × (doubt ≡ doubt_of (sealed_batch mark w))

-- at most one attempt at each delivery is under way
abbrev pub AreOnePerDelivery : List Row → Type 0
AreOnePerDelivery rows = (delivery : Seq) → count_by (λ row. row.delivery == delivery) rows ≤ 1

-- The desk, what is held, the permits and the tickets represent one session. Everything that is out
-- is held.
pub record CoreStandsFor {L : Type 0} (core : Core L) (s : Session) : Type 0 where
  pub desk : StandsFor core.desk s.world
  pub held : IsHeld core.desk.waiting.mark s.world core.held
  pub permits : core.permits.items ≡ s.world.live
  pub once : AreOnePerDelivery s.world.live
  pub tickets : tickets.KeepsTickets core.tickets s.tickets

-- what is held is the batch that is out, in whichever form
abbrev pub HoldsOut : (out : Option BatchValue) → Held → Type 0
HoldsOut out held.Nothing = out ≡ None
HoldsOut out (held.Batch batch) = out ≡ Some batch
HoldsOut out (held.Receipt receipt) = out ≡ Some receipt
HoldsOut out (held.Doubt doubt) = option_map doubt_of out ≡ Some doubt

-- The permits are those that are out at the desk, and what is held is what is out there, even if
-- the store returned wrong data.
pub record HoldsAll {L : Type 0} (core : Core L) : Type 0 where
  pub permits : core.permits.items ≡ core.desk.live
  pub out : HoldsOut (batch_out core.desk.waiting) core.held

abbrev pub IsCore : {L : Type 0} → Core L → Type 0
IsCore core = ∥ HoldsAll core ∥₁

-- so many more tickets and permits can be kept without an allocation
abbrev pub HasRoom : {L : Type 0} → Core L → (given permits : ℕ) → Type 0
HasRoom core given permits = tickets.HasTicketRoom core.tickets given
    × (vec_len core.permits + permits ≤ vec_capacity core.permits)

-- the most tickets that a call can get: an event for a topic gets one for each subscriber
abbrev pub most_tickets : Call → ℕ
most_tickets (on.Publish now topic id body) = MAX_ENDPOINTS
most_tickets event = 1

-- there is room for the numbers in the call's reply
abbrev pub HasSeqs : Call → Vec ℕ Global → Type 0
HasSeqs (on.Publish now topic id body) seqs = (seqs.items ≡ []) × (MAX_ENDPOINTS ≤ vec_capacity seqs)
HasSeqs event seqs = Unit {0}

abbrev pub most_tickets_of : Event → ℕ
most_tickets_of (events.Line event) = most_tickets event
most_tickets_of (events.Look asked) = 0

abbrev pub HasSeqsOf : Event → Vec ℕ Global → Type 0
HasSeqsOf (events.Line event) seqs = HasSeqs event seqs
HasSeqsOf (events.Look asked) seqs = Unit {0}

-- a call used the room of at most so many tickets, and of at most one permit
pub record TakesRoom {L : Type 0} (count : ℕ) (old new : Core L) : Type 0 where
  pub tickets : spare old.tickets.given ≤ spare new.tickets.given + count
  pub permits : vec_len new.permits ≤ vec_len old.permits + 1
  pub capacity : vec_capacity new.permits ≡ vec_capacity old.permits

-- Room was made, and nothing else changed.
pub record OnlyMakesRoom {L : Type 0} (old new : Core L) : Type 0 where
  pub desk : new.desk ≡ old.desk
  pub held : new.held ≡ old.held
  pub permits : new.permits.items ≡ old.permits.items
  pub tickets : (given : List AnyTicket) → tickets.KeepsTickets old.tickets given
      → tickets.KeepsTickets new.tickets given

-- From each session that they represented, the call got a reply that this answer allows, and they
-- represent the session after it.
pub record CoreAnswers {L : Type 0} (old : Core L) (answer : Session → Answer) (reply : Reply)
    (new : Core L) : Type 0 where
  pub mark : new.desk.waiting.mark ≡ old.desk.waiting.mark
  pub moves : (s : Session) → CoreStandsFor old s → (next : Session) × MayReply (answer s) reply next
      × CoreStandsFor new next
  pub keeps : IsCore old → IsCore new

-- whether the call is one of the store
abbrev pub is_commit : Call → Bool
is_commit on.Commit = true
is_commit event = false

-- the receipt that is held, and what a committer that halts the desk hands over of what is held
abbrev pub receipt_of : Held → Option BatchValue
receipt_of (held.Receipt receipt) = Some receipt
receipt_of _ = None

abbrev pub given_of : Held → waiting.Held
given_of held.Nothing = waiting_held.Nothing
given_of (held.Batch batch) = waiting_held.Batch batch
given_of (held.Receipt receipt) = waiting_held.Nothing
given_of (held.Doubt doubt) = waiting_held.Doubt doubt

-- The desk is halted if what is handed over is what is out. Otherwise it goes on as before.
abbrev pub HandsOver : {L : Type 0} → Core L → waiting.Held → Reply → Core L → Type 0
HandsOver old given reply new =
    (w : World) → StandsFor old.desk w → IsHeldOf old.desk.waiting.mark w given
    → (reply ≡ says.Halted) × (new.held ≡ old.held) × StandsFor new.desk (with_halt w)

abbrev pub RefusesHandOver : {L : Type 0} → Core L → waiting.Held → Reply → Core L → Type 0
RefusesHandOver old given reply new =
    (w : World) → StandsFor old.desk w → ¬ IsHeldOf old.desk.waiting.mark w given
    → (reply ≡ wrong_turn) × StandsFor new.desk w

-- what may be held after a commit of the batch
abbrev pub IsOfBatch : BatchValue → Held → Type 0
IsOfBatch batch held.Nothing = ⊥
IsOfBatch batch (held.Batch back) = back ≡ batch
IsOfBatch batch (held.Receipt receipt) = receipt ≡ batch
IsOfBatch batch (held.Doubt doubt) = doubt ≡ doubt_of batch
