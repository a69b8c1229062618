-- The reply lines of a script, without their line feed.
use Rattle.std.specs.Prelude.{ℕ, Bool, List, [], ◌∷◌, ◌++◌, map, Option, Some, None, codes, decimal, if◌then◌else◌}
use Rattle.std.specs.List.{join_with_byte}
use Rattle.relay_types.specs.declared.state.State.{State}
use Rattle.relay_types.specs.declared.state.State.TheVariants.{Pending, Delivered, Exhausted}
use Rattle.retry_table.specs.declared.post.Spend.{Spend}
use Rattle.retry_table.specs.declared.post.Spend.TheVariants.{Success, Dropped, Ignored}
use Rattle.script_lines.specs.declared.reply.Fault.{Fault}
use Rattle.script_lines.specs.declared.reply.Fault.TheVariants as fault
use Rattle.script_lines.specs.declared.reply.Told.{Told}
use Rattle.script_lines.specs.declared.reply.Told.TheVariants.{Settled, Waiting, Unknown}
use Rattle.script_lines.specs.declared.reply.Reply.{Reply}
use Rattle.script_lines.specs.declared.reply.Reply.TheVariants as says

abbrev pub fault_text : Fault → List ℕ
fault_text fault.Halted = codes "Halted"
fault_text fault.UnknownEndpoint = codes "UnknownEndpoint"
fault_text fault.UnknownTopic = codes "UnknownTopic"
fault_text fault.Conflict = codes "Conflict"
fault_text fault.Exists = codes "Exists"
fault_text fault.EndpointBacklog = codes "EndpointBacklog"
fault_text fault.Backlog = codes "Backlog"
fault_text fault.TooManyEndpoints = codes "TooManyEndpoints"
fault_text fault.TooManySubscriptions = codes "TooManySubscriptions"
fault_text fault.WaitingFull = codes "WaitingFull"
fault_text fault.SeqExhausted = codes "SeqExhausted"
fault_text fault.BatchOut = codes "BatchOut"
fault_text fault.WrongTurn = codes "WrongTurn"
fault_text fault.Closed = codes "Closed"
fault_text fault.OutOfTurn = codes "OutOfTurn"
fault_text fault.Illegal = codes "Illegal"
fault_text fault.Store = codes "Store"
fault_text fault.OutOfMemory = codes "OutOfMemory"

abbrev pub state_text : State → List ℕ
state_text Pending = codes "pending"
state_text Delivered = codes "delivered"
state_text Exhausted = codes "exhausted"

abbrev pub told_text : Told → List ℕ
told_text Settled = codes "settled"
told_text Waiting = codes "waiting"
told_text Unknown = codes "unknown"

abbrev pub flag_text : (enabled : Bool) → List ℕ
flag_text enabled = if enabled then codes "enabled" else codes "disabled"

abbrev pub range_text : ℕ → ℕ → List ℕ
range_text from to = decimal from ++ codes ".." ++ decimal to

abbrev pub event_words : State → Option ℕ → ℕ → List (List ℕ)
event_words state None attempts = state_text state ∷ codes "attempts" ∷ decimal attempts ∷ []
event_words state (Some due) attempts = state_text state ∷ codes "due" ∷ decimal due ∷ codes "attempts" ∷ decimal
    attempts ∷ []

abbrev pub endpoint_words : (enabled : Bool) (pending delivered exhausted : ℕ) → List (List ℕ)
endpoint_words enabled pending delivered exhausted =
    flag_text enabled
    ∷ codes "pending" ∷ decimal pending ∷ codes "delivered" ∷ decimal delivered ∷ codes "exhausted" ∷ decimal exhausted
    ∷ []

abbrev pub spend_text : Spend → List ℕ
spend_text Success = codes "success"
spend_text Dropped = codes "dropped"
spend_text Ignored = codes "ignored"

abbrev pub permit_words : (delivery : ℕ) (name id : List ℕ) (attempt at inflight : ℕ) → List (List ℕ)
permit_words delivery name id attempt at inflight =
    codes "permit" ∷ decimal delivery ∷ name ∷ id
    ∷ codes "attempt" ∷ decimal attempt ∷ codes "at" ∷ decimal at ∷ codes "inflight" ∷ decimal inflight ∷ []

abbrev pub spent_words : Spend → (limit in_flight : ℕ) → (staged : Option ℕ) → List (List ℕ)
spent_words spend limit in_flight None =
    spend_text spend ∷ codes "limit" ∷ decimal limit ∷ codes "inflight" ∷ decimal in_flight ∷ codes "nothing" ∷ []
spent_words spend limit in_flight (Some seq) =
    spend_text spend ∷ codes "limit" ∷ decimal limit ∷ codes "inflight" ∷ decimal in_flight ∷ codes "staged" ∷ decimal
    seq ∷ []

abbrev pub limit_words : (limit in_flight noload : ℕ) → List (List ℕ)
limit_words limit in_flight noload =
    codes "limit" ∷ decimal limit ∷ codes "inflight" ∷ decimal in_flight ∷ codes "noload" ∷ decimal noload ∷ []

-- numbers with a comma between each two
abbrev pub numbers_text : List ℕ → List ℕ
numbers_text numbers = join_with_byte 44 (map decimal numbers)

-- The words of a reply.
abbrev pub reply_words : Reply → List (List ℕ)
reply_words (says.Staged seq) = codes "staged" ∷ decimal seq ∷ []
reply_words (says.Published seqs) = codes "staged" ∷ numbers_text seqs ∷ []
reply_words (says.ToldAs told) = told_text told ∷ []
reply_words says.NothingWaits = codes "nothing" ∷ []
reply_words (says.Sealed from to) = codes "sealed" ∷ range_text from to ∷ []
reply_words (says.Committed to) = codes "committed" ∷ decimal to ∷ []
reply_words (says.SettledTo to) = codes "settled" ∷ decimal to ∷ []
reply_words (says.Unsealed from to) = codes "unsealed" ∷ range_text from to ∷ []
reply_words says.Halted = codes "halted" ∷ []
reply_words (says.Endpoint enabled pending delivered exhausted) = endpoint_words enabled pending delivered exhausted
reply_words (says.Event state due attempts) = event_words state due attempts
reply_words (says.Permit delivery endpoint id attempt at inflight) = permit_words delivery endpoint id attempt
    at inflight
reply_words says.NothingDue = codes "none" ∷ []
reply_words (says.Spent spend limit in_flight staged) = spent_words spend limit in_flight staged
reply_words (says.Limits limit in_flight noload) = limit_words limit in_flight noload
reply_words (says.Reopened records) = codes "reopened" ∷ decimal records ∷ []
reply_words says.Absent = codes "absent" ∷ []
reply_words says.NoPermit = codes "no-permit" ∷ []
reply_words says.NoBatch = codes "no-batch" ∷ []
reply_words says.NoReceipt = codes "no-receipt" ∷ []
reply_words says.NoTicket = codes "no-ticket" ∷ []
reply_words (says.Refused number fault) = codes "refused" ∷ decimal number ∷ fault_text fault ∷ []

-- its text: the words, with one space between
abbrev pub reply_text : Reply → List ℕ
reply_text reply = join_with_byte 32 (reply_words reply)
