-- Which faults can refuse a move.
use Rattle.std.proofs.Common.{◌≡◌, ℕ, List, [], ◌∷◌, Option, Some, None, Result, Ok, Err, inl, inr, refl, sym, ap}
use Rattle.std.proofs.Common.{subst}
use Rattle.permits.specs.declared.row.Row.{Row}
use Rattle.retry_table.specs.declared.post.PostResult.{PostResult}
use Rattle.script_lines.specs.declared.call.Call as line
use Rattle.script_lines.specs.declared.call.Call.TheVariants as on_line
use Rattle.script_lines.specs.declared.reply.Fault.{Fault}
use Rattle.script_lines.specs.declared.reply.Reply as line_reply
use Rattle.script_lines.specs.declared.reply.Reply.TheVariants as says
use Rattle.spool.specs.Batches.{BatchValue}
use Rattle.desk.specs.declared.command.Command.{Command}
use Rattle.desk.specs.declared.command.Command.TheVariants.{PutEndpoint, SetSecrets, SetEnabled, SetSubscribed, Purge}
use Rattle.desk.specs.declared.refusal.Fault as desk_refusal
use Rattle.desk.specs.declared.refusal.Fault.TheVariants as desk_fault
use Rattle.desk.specs.declared.refusal.Refusal.{Refusal}
use Rattle.desk.specs.declared.spent.Limits.{Limits}
use Rattle.desk.specs.declared.ticket.Ticket.{Ticket}
use Rattle.delivery_book.specs.declared.row.Row as delivery
use Rattle.desk.specs.Claims.{JobValue, claim, limits}
use Rattle.desk.specs.Queries.{EndpointShown, endpoint_page, event_page}
use Rattle.desk.specs.Moves.{submit, publish, change, seal}
use Rattle.desk.specs.World.{World, Out, Nothing, Batch, Receipt, Doubt, settled_records}
use Rattle.drill.specs.declared.events.Event.{Event}
use Rattle.drill.specs.declared.events.Event.TheVariants as on
use Rattle.drill.specs.declared.events.Look.{Look}
use Rattle.drill.specs.declared.events.Look.TheVariants as look
use Rattle.drill.specs.declared.events.Reply.{Reply}
use Rattle.drill.specs.declared.events.Reply.TheVariants as reply
use Rattle.drill.specs.declared.tickets.AnyTicket.{AnyTicket}
use Rattle.drill.specs.declared.tickets.AnyTicket.TheVariants.{Submission, Command as OfCommand}
use Rattle.drill.specs.Events.{look_reply}
use Rattle.drill.specs.Moves.{Session, Answer, IsOneOf, answer_to, fault_of, lacks, published_reply, staged_reply}
use Rattle.drill.specs.Moves.{seal_reply}
use Rattle.drill.specs.Moves.{claim_reply, limits_reply, told_reply, endpoint_reply, event_reply, commits, settles}
use Rattle.drill.specs.Moves.{unseals, halts, spends, permit_of}
use Rattle.drill.specs.Refusals.{CanRefuse, RefusalsOfMoves}
use Rattle.drill.specs.Runs.{CallMove}
use Rattle.drill.specs.Tickets.{find_ticket}

-- if the call is refused, then by a fault that can be
abbrev IsAllowed : World → line.Call → line_reply.Reply → Type 0
IsAllowed w event (says.Refused number fault) = CanRefuse w (on.Line event) fault
IsAllowed w event other = Unit {0}

abbrev AreAllowed : World → line.Call → List (line_reply.Reply × Session) → Type 0
AreAllowed w event [] = Unit {0}
AreAllowed w event (one ∷ others) = IsAllowed w event one.0 × AreAllowed w event others

by_unserved : (w : World) (event : line.Call) (unserved : List (line_reply.Reply × Session)) (told : line_reply.Reply)
    (next : Session) → AreAllowed w event unserved → IsOneOf unserved told next → IsAllowed w event told
by_unserved w event [] told next h none = absurd none
by_unserved w event (one ∷ others) told next h (inl given) = subst (IsAllowed w event) (sym given.0) h.0
by_unserved w event (one ∷ others) told next h (inr more) = by_unserved w event others told next h.1 more

-- by the call

by_desk : (w : World) (event : Event) (fault : desk_refusal.Fault) → CanRefuse w event (fault_of fault)
by_desk w event desk_fault.Halted = tt
by_desk w event desk_fault.UnknownEndpoint = tt
by_desk w event desk_fault.UnknownTopic = tt
by_desk w event desk_fault.Conflict = tt
by_desk w event desk_fault.Exists = tt
by_desk w event desk_fault.EndpointBacklog = tt
by_desk w event desk_fault.Backlog = tt
by_desk w event desk_fault.TooManyEndpoints = tt
by_desk w event desk_fault.TooManySubscriptions = tt
by_desk w event desk_fault.WaitingFull = tt
by_desk w event desk_fault.SeqExhausted = tt
by_desk w event desk_fault.BatchOut = tt
by_desk w event desk_fault.OutOfMemory = tt

by_lack : (s : Session) (event : line.Call) (memory : Option ℕ) → AreAllowed s.world event (lacks s memory)
by_lack s event None = tt
by_lack s event (Some number) = (tt, tt)

by_staged : {A : Type 0} (of : A → AnyTicket) (w : World) (event : line.Call) (result : Result A Refusal)
    → IsAllowed w event (staged_reply of result)
by_staged of w event (Ok ticket) = tt
by_staged of w event (Err refusal) = by_desk w (on.Line event) refusal.fault

by_published : (w : World) (event : line.Call) (result : Result (List Ticket) Refusal)
    → IsAllowed w event (published_reply result)
by_published w event (Ok tickets) = tt
by_published w event (Err refusal) = by_desk w (on.Line event) refusal.fault

by_seal : (w : World) (result : Result (Option BatchValue) Refusal) → IsAllowed w on_line.Seal (seal_reply result)
by_seal w (Ok None) = tt
by_seal w (Ok (Some batch)) = tt
by_seal w (Err refusal) = by_desk w (on.Line on_line.Seal) refusal.fault

by_claim : (w : World) (now : ℕ) (result : Result (Option JobValue) Refusal)
    → IsAllowed w (on_line.Claim now) (claim_reply result)
by_claim w now (Ok None) = tt
by_claim w now (Ok (Some job)) = tt
by_claim w now (Err refusal) = by_desk w (on.Line (on_line.Claim now)) refusal.fault

by_told : (w : World) (event : line.Call) (given : Option AnyTicket) → IsAllowed w event (told_reply w given)
by_told w event None = tt
by_told w event (Some (Submission ticket)) = tt
by_told w event (Some (OfCommand ticket)) = tt

by_limits : (w : World) (event : line.Call) (shown : Option Limits) → IsAllowed w event (limits_reply shown)
by_limits w event None = tt
by_limits w event (Some shown) = tt

by_endpoint : (w : World) (event : line.Call) (shown : Option EndpointShown) → IsAllowed w event (endpoint_reply shown)
by_endpoint w event None = tt
by_endpoint w event (Some shown) = tt

by_event : (w : World) (event : line.Call) (shown : Option delivery.Row) → IsAllowed w event (event_reply shown)
by_event w event None = tt
by_event w event (Some row) = tt

-- a call's reply is allowed, and so is each reply that it may get if it isn't served
abbrev MayBeTold : World → line.Call → Answer → Type 0
MayBeTold w event answer = IsAllowed w event answer.reply × AreAllowed w event answer.unserved

by_spend : (s : Session) (event : line.Call) (post : PostResult) (now : ℕ) (permit : Option Row)
    → MayBeTold s.world event (spends s permit post now)
by_spend s event post now None = (tt, tt)
by_spend s event post now (Some row) = (tt, tt)

by_commit : (s : Session) (o : Out) → MayBeTold s.world on_line.Commit (commits s o)
by_commit s Nothing = (tt, tt)
by_commit s Batch = (tt, (tt, (tt, tt)))
by_commit s Receipt = (tt, tt)
by_commit s Doubt = (tt, tt)

by_settle : (s : Session) (o : Out) → MayBeTold s.world on_line.Settle (settles s o)
by_settle s Nothing = (tt, tt)
by_settle s Batch = (tt, tt)
by_settle s Receipt = (tt, tt)
by_settle s Doubt = (tt, tt)

by_unseal : (s : Session) (o : Out) → MayBeTold s.world on_line.Unseal (unseals s o)
by_unseal s Nothing = (tt, tt)
by_unseal s Batch = (tt, tt)
by_unseal s Receipt = (tt, tt)
by_unseal s Doubt = (tt, tt)

by_halt : (s : Session) (o : Out) → s.world.out ≡ o → MayBeTold s.world on_line.Halt (halts s o)
by_halt s Nothing is = (tt, tt)
by_halt s Batch is = (tt, tt)
by_halt s Receipt is = ((refl, is), tt)
by_halt s Doubt is = (tt, tt)

may_be_told : (s : Session) (event : line.Call) → MayBeTold s.world event (answer_to s event)
may_be_told s event = at event
  where
    changed : (event : line.Call) (command : Command) → MayBeTold s.world event (record {
      reply = staged_reply OfCommand (change s.world command).reply;
      next = s;
      unserved = lacks s (change s.world command).memory;
    })
    changed event command = (
      by_staged OfCommand s.world event (change s.world command).reply,
      by_lack s event
          (change s.world command).memory,
    )

    at : (event : line.Call) → MayBeTold s.world event (answer_to s event)
    at (on_line.Put name target max secrets) = changed _ (PutEndpoint name target max secrets)
    at (on_line.Secrets name secrets) = changed _ (SetSecrets name secrets)
    at (on_line.Enabled name flag) = changed _ (SetEnabled name flag)
    at (on_line.Subscribed topic name flag) = changed _ (SetSubscribed topic name flag)
    at (on_line.Purge before) = changed _ (Purge before)
    at (on_line.Submit now name id body) = (
      by_staged Submission s.world _ (submit s.world now name id body).reply,
      by_lack s _
          (submit s.world now name id body).memory,
    )
    at (on_line.Publish now topic id body) = (
      by_published s.world _ (publish s.world now topic id body).reply,
      by_lack s _ (publish s.world now topic id body).memory,
    )
    at (on_line.Told seq) = (by_told s.world _ (find_ticket s.tickets seq), tt)
    at (on_line.Claim now) = (by_claim s.world now (claim s.world now).reply, by_lack s _ (claim s.world now).memory)
    at (on_line.Spend delivery now post) = by_spend s _ post now (permit_of s.world delivery)
    at (on_line.Limits name) = (by_limits s.world _ (limits s.world name), tt)
    at on_line.Seal = (by_seal s.world (seal 0 s.world).reply, by_lack s _ (seal 0 s.world).memory)
    at on_line.Commit = by_commit s s.world.out
    at on_line.Settle = by_settle s s.world.out
    at on_line.Unseal = by_unseal s s.world.out
    at on_line.Halt = by_halt s s.world.out refl
    at (on_line.ShowEndpoint name) = (by_endpoint s.world _ (endpoint_page (settled_records s.world) name), tt)
    at (on_line.Show name id) = (by_event s.world _ (event_page (settled_records s.world) name id), tt)

line_allowed : (s next : Session) (event : line.Call) (told : line_reply.Reply) → CallMove s event told next
    → IsAllowed s.world event told
line_allowed s next event told (inl given) = subst (IsAllowed s.world event) (sym given.0) (may_be_told s event).0
line_allowed s next event told (inr one) = by_unserved s.world event (answer_to s event).unserved told next
    (may_be_told s event).1 one

abbrev line_in : Reply → line_reply.Reply
line_in (reply.Line told) = told
line_in other = says.Absent

-- no look is refused
not_refused : (w : World) (asked : Look) (number : ℕ) (fault : Fault)
    → reply.Line (says.Refused number fault) ≡ look_reply w asked → ⊥
not_refused w (look.Told ticket) number fault e = cc
not_refused w (look.ToldCommand ticket) number fault e = cc
not_refused w (look.SettledBody ticket) number fault e = cc
not_refused w look.Totals number fault e = cc
not_refused w look.Records number fault e = cc
not_refused w look.SettledRecords number fault e = cc
not_refused w look.IsHalted number fault e = cc

pub refusals : RefusalsOfMoves
refusals s next (on.Line event) number fault (told, is, move) = subst (IsAllowed s.world event) (sym (ap line_in is))
    (line_allowed s next event told move)
refusals s next (on.Look asked) number fault (is, same) = absurd (not_refused s.world asked number fault is)
