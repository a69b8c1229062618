-- The moves of a script's calls: the reply to each, and the session after it. A reply represents
-- the desk's answer.
use Rattle.std.specs.Prelude.{◌≡◌, ℕ, ◌+◌, ◌==◌, List, [], ◌∷◌, ◌++◌, length, find, map, reverse, Option, Some, None}
use Rattle.std.specs.Prelude.{Result, Ok, Err, ◌⊎◌}
use Rattle.relay_types.specs.Values.{Seq, Seconds}
use Rattle.relay_types.specs.Records.{records_of}
use Rattle.delivery_book.specs.declared.row.Row.{Row}
use Rattle.permits.specs.declared.row.Row as under_way
use Rattle.retry_table.specs.declared.post.PostResult.{PostResult}
use Rattle.retry_table.specs.Judging.{spend_of}
use Rattle.spool.specs.Batches.{BatchValue}
use Rattle.script_lines.specs.declared.call.Call.{Call}
use Rattle.script_lines.specs.declared.call.Call.TheVariants as on
use Rattle.script_lines.specs.declared.reply.Fault.{Fault}
use Rattle.script_lines.specs.declared.reply.Fault.TheVariants as fault
use Rattle.script_lines.specs.declared.reply.Told.{Told}
use Rattle.script_lines.specs.declared.reply.Told.TheVariants as as_told
use Rattle.script_lines.specs.declared.reply.Reply.{Reply}
use Rattle.script_lines.specs.declared.reply.Reply.TheVariants as says
use Rattle.desk.specs.declared.command.Command as desk_command
use Rattle.desk.specs.declared.command.Command.TheVariants.{PutEndpoint, SetSecrets, SetEnabled, SetSubscribed, Purge}
use Rattle.desk.specs.declared.refusal.Fault as desk_refusal
use Rattle.desk.specs.declared.refusal.Fault.TheVariants as desk_fault
use Rattle.desk.specs.declared.refusal.Refusal.{Refusal}
use Rattle.desk.specs.declared.spent.Limits.{Limits}
use Rattle.desk.specs.declared.ticket.Ticket.{Ticket}
use Rattle.desk.specs.declared.ticket.Told as desk_ticket
use Rattle.desk.specs.declared.ticket.Told.TheVariants as desk_told
use Rattle.desk.specs.Claims.{JobValue, SpentValue, claim, limits, spent_by, with_attempt_over}
use Rattle.desk.specs.Queries.{EndpointShown, told, told_command, event_page, endpoint_page}
use Rattle.desk.specs.Moves as desk
use Rattle.desk.specs.World.{World, Out, Batch, Receipt, Doubt, settled_records, sealed_records}
use Rattle.drill.specs.declared.tickets.AnyTicket.{AnyTicket}
use Rattle.drill.specs.declared.tickets.AnyTicket.TheVariants.{Submission, Command}
use Rattle.drill.specs.Tickets.{seq_of, find_ticket}

-- The state of a script: the world, and the tickets since the opening, the newest first.
pub record Session : Type 0 where
  pub world : World
  pub tickets : List AnyTicket

-- the session in which a script over a store without tables begins
abbrev pub begun : Session
begun = record { world = desk.opened [] 0; tickets = [] }

-- The reply to a call and the session after it, if no allocation fails and the store doesn't; and
-- each reply that is possible if one fails, with the session after it.
pub record Answer : Type 0 where
  pub reply : Reply
  pub next : Session
  pub unserved : List (Reply × Session)

-- A call with this answer may get this reply, and lead to next.
abbrev pub IsOneOf : List (Reply × Session) → Reply → Session → Type 0
IsOneOf [] reply next = ⊥
IsOneOf (one ∷ others) reply next = ((reply ≡ one.0) × (next ≡ one.1)) ⊎ IsOneOf others reply next

abbrev pub MayReply : Answer → Reply → Session → Type 0
MayReply answer reply next = ((reply ≡ answer.reply) × (next ≡ answer.next)) ⊎ IsOneOf answer.unserved reply next

-- Replies

-- the name of the desk's refusal
abbrev pub fault_of : desk_refusal.Fault → Fault
fault_of desk_fault.Halted = fault.Halted
fault_of desk_fault.UnknownEndpoint = fault.UnknownEndpoint
fault_of desk_fault.UnknownTopic = fault.UnknownTopic
fault_of desk_fault.Conflict = fault.Conflict
fault_of desk_fault.Exists = fault.Exists
fault_of desk_fault.EndpointBacklog = fault.EndpointBacklog
fault_of desk_fault.Backlog = fault.Backlog
fault_of desk_fault.TooManyEndpoints = fault.TooManyEndpoints
fault_of desk_fault.TooManySubscriptions = fault.TooManySubscriptions
fault_of desk_fault.WaitingFull = fault.WaitingFull
fault_of desk_fault.SeqExhausted = fault.SeqExhausted
fault_of desk_fault.BatchOut = fault.BatchOut
fault_of desk_fault.OutOfMemory = fault.OutOfMemory

abbrev pub refusal_reply : Refusal → Reply
refusal_reply refusal = says.Refused refusal.number (fault_of refusal.fault)

abbrev pub staged_reply : {A : Type 0} → (of : A → AnyTicket) → Result A Refusal → Reply
staged_reply of (Ok ticket) = says.Staged (seq_of (of ticket))
staged_reply of (Err refusal) = refusal_reply refusal

-- the number of each ticket, in their order
abbrev pub published_reply : Result (List Ticket) Refusal → Reply
published_reply (Ok tickets) = says.Published (map (λ ticket. ticket.seq) tickets)
published_reply (Err refusal) = refusal_reply refusal

abbrev pub seal_reply : Result (Option BatchValue) Refusal → Reply
seal_reply (Ok None) = says.NothingWaits
seal_reply (Ok (Some batch)) = says.Sealed batch.from (batch.from + length (records_of batch.steps))
seal_reply (Err refusal) = refusal_reply refusal

abbrev pub permit_reply : JobValue → Reply
permit_reply job = says.Permit job.row.delivery job.row.endpoint job.id job.attempt job.at job.row.inflight

abbrev pub claim_reply : Result (Option JobValue) Refusal → Reply
claim_reply (Ok None) = says.NothingDue
claim_reply (Ok (Some job)) = permit_reply job
claim_reply (Err refusal) = refusal_reply refusal

abbrev pub spent_reply : SpentValue → Reply
spent_reply spent = says.Spent (spend_of spent.post) spent.limit spent.in_flight spent.staged

abbrev pub limits_reply : Option Limits → Reply
limits_reply None = says.Absent
limits_reply (Some limits) = says.Limits limits.limit limits.in_flight limits.noload

abbrev pub told_as : desk_ticket.Told → Told
told_as desk_told.Settled = as_told.Settled
told_as desk_told.Waiting = as_told.Waiting
told_as desk_told.Unknown = as_told.Unknown

abbrev pub told_reply : World → Option AnyTicket → Reply
told_reply w None = says.NoTicket
told_reply w (Some (Submission ticket)) = says.ToldAs (told_as (told w ticket))
told_reply w (Some (Command ticket)) = says.ToldAs (told_as (told_command w ticket))

abbrev pub endpoint_reply : Option EndpointShown → Reply
endpoint_reply None = says.Absent
endpoint_reply (Some shown) = says.Endpoint shown.view.enabled shown.counts.pending shown.counts.delivered
    shown.counts.exhausted

abbrev pub event_reply : Option Row → Reply
event_reply None = says.Absent
event_reply (Some row) = says.Event row.state row.due row.attempts

-- the reply if what is handed in isn't what is out
abbrev pub wrong_turn : Reply
wrong_turn = says.Refused 1 fault.WrongTurn

-- Answers

-- the call gets this reply, and only the world may change
abbrev pub moves : Session → Reply → World → Answer
moves s reply next = record { reply = reply; next = record s { world = next }; unserved = [] }

-- the call gets this reply, and changes nothing
abbrev pub stays : Session → Reply → Answer
stays s reply = moves s reply s.world

-- the desk's refusal as out of memory, by this number, if the call allocates
abbrev pub lacks : Session → Option ℕ → List (Reply × Session)
lacks s None = []
lacks s (Some number) = (says.Refused number fault.OutOfMemory, s) ∷ []

-- the reply to the desk's answer, and the tickets that are kept of it
abbrev pub gives : {A : Type 0} → (told : Result A Refusal → Reply)
    → (kept : Result A Refusal → List AnyTicket → List AnyTicket) → Session → desk.Answer A → Answer
gives told kept s answer = record {
  reply = told answer.reply;
  next = record { world = answer.next; tickets = kept answer.reply s.tickets };
  unserved = lacks s answer.memory;
}

-- the ticket is kept, if one was given
abbrev pub with_ticket : {A : Type 0} → (of : A → AnyTicket) → Result A Refusal → List AnyTicket → List AnyTicket
with_ticket of (Ok ticket) tickets = of ticket ∷ tickets
with_ticket of (Err refusal) tickets = tickets

abbrev pub stages : {A : Type 0} → (of : A → AnyTicket) → Session → desk.Answer A → Answer
stages of s answer = gives (staged_reply of) (with_ticket of) s answer

-- the tickets of all subscribers are kept, if they were given
abbrev pub with_tickets : Result (List Ticket) Refusal → List AnyTicket → List AnyTicket
with_tickets (Ok given) tickets = reverse (map Submission given) ++ tickets
with_tickets (Err refusal) tickets = tickets

abbrev pub publishes : Session → desk.Answer (List Ticket) → Answer
publishes s answer = gives published_reply with_tickets s answer

abbrev pub commands : Session → desk_command.Command → Answer
commands s command = stages Command s (desk.change s.world command)

-- the reply to the desk's answer, of which no ticket is kept
abbrev pub tells : {A : Type 0} → (told : Result A Refusal → Reply) → Session → desk.Answer A → Answer
tells told s answer = record {
  reply = told answer.reply;
  next = record s { world = answer.next };
  unserved = lacks s answer.memory;
}

-- A batch has the mark of its opening. No reply shows it, so any mark will do.
abbrev pub seals : Session → Answer
seals s = tells seal_reply s (desk.seal 0 s.world)

-- the permit that was given for the delivery
abbrev pub permit_of : (w : World) (delivery : Seq) → Option under_way.Row
permit_of w delivery = find (λ row. row.delivery == delivery) w.live

-- the end of the attempt with this permit
abbrev pub spends : Session → (permit : Option under_way.Row) → PostResult → (now : Seconds) → Answer
spends s None post now = stays s says.NoPermit
spends s (Some row) post now = moves s (spent_reply (spent_by s.world row post now))
    (with_attempt_over s.world row post now)

-- the store has the whole batch, and it survives a crash
abbrev pub with_receipt : World → World
with_receipt w = record w { out = Receipt; left = w.sealed ∷ [] }

-- a commit that the store doesn't finish: a crash leaves what was there before, or also the whole
-- batch
abbrev pub in_doubt : World → World
in_doubt w = record w { out = Doubt; left = w.settled ∷ w.sealed ∷ [] }

-- A commit that is out of memory leaves everything as it was.
abbrev pub commits_batch : Session → Answer
commits_batch s = record {
  reply = says.Committed (length (sealed_records s.world));
  next = record s { world = with_receipt s.world };
  unserved =
      (says.Refused 4 fault.OutOfMemory, s)
      ∷ (says.Refused 5 fault.Store, record s { world = in_doubt s.world })
      ∷ [];
}

-- the replies to the calls on a batch, by what is out

abbrev pub commits : Session → Out → Answer
commits s Batch = commits_batch s
commits s _ = stays s says.NoBatch

abbrev pub settles : Session → Out → Answer
settles s Receipt = moves s (says.SettledTo (length (sealed_records s.world))) (desk.with_sealed_settled s.world)
settles s _ = stays s says.NoReceipt

-- the places of the records that were sealed
abbrev pub unsealed_reply : World → Reply
unsealed_reply w = says.Unsealed (length (settled_records w)) (length (sealed_records w))

abbrev pub unseals : Session → Out → Answer
unseals s Batch = moves s (unsealed_reply s.world) (desk.with_batch_back s.world)
unseals s _ = stays s says.NoBatch

abbrev pub halts : Session → Out → Answer
halts s Receipt = stays s wrong_turn
halts s _ = moves s says.Halted (desk.with_halt s.world)

-- The answer to a call in a session.
abbrev pub answer_to : Session → Call → Answer
answer_to s (on.Put name target max secrets) = commands s (PutEndpoint name target max secrets)
answer_to s (on.Secrets name secrets) = commands s (SetSecrets name secrets)
answer_to s (on.Enabled name flag) = commands s (SetEnabled name flag)
answer_to s (on.Subscribed topic name flag) = commands s (SetSubscribed topic name flag)
answer_to s (on.Purge before) = commands s (Purge before)
answer_to s (on.Submit now name id body) = stages Submission s (desk.submit s.world now name id body)
answer_to s (on.Publish now topic id body) = publishes s (desk.publish s.world now topic id body)
answer_to s (on.Told seq) = stays s (told_reply s.world (find_ticket s.tickets seq))
answer_to s (on.Claim now) = tells claim_reply s (claim s.world now)
answer_to s (on.Spend delivery now post) = spends s (permit_of s.world delivery) post now
answer_to s (on.Limits name) = stays s (limits_reply (limits s.world name))
answer_to s on.Seal = seals s
answer_to s on.Commit = commits s s.world.out
answer_to s on.Settle = settles s s.world.out
answer_to s on.Unseal = unseals s s.world.out
answer_to s on.Halt = halts s s.world.out
answer_to s (on.ShowEndpoint name) = stays s (endpoint_reply (endpoint_page (settled_records s.world) name))
answer_to s (on.Show name id) = stays s (event_reply (event_page (settled_records s.world) name id))
