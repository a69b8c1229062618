-- The memory that a run allocates before it begins.
use Rattle.std.specs.Prelude.{ℕ, ◌≤◌, List, length, map, sum_by, All, vec_capacity}
use Rattle.drill.specs.declared.events.Event.{Event}
use Rattle.drill.specs.declared.prepared.Prepared.{Prepared}
use Rattle.drill.specs.declared.runs.RunMemory.{RunMemory}
use Rattle.drill.specs.Cores.{HasSeqsOf, most_tickets_of}
use Rattle.drill.specs.Tickets.{HasTicketRoom}

-- the calls that are prepared, and the most tickets that they can get
abbrev pub events_of : List Prepared → List Event
events_of calls = map (λ call. call.event) calls

abbrev pub all_tickets : List Event → ℕ
all_tickets events = sum_by most_tickets_of events

-- each call has room for the numbers in its reply
abbrev pub IsPrepared : Prepared → Type 0
IsPrepared call = HasSeqsOf call.event call.seqs

-- there is room for each event's reply, for its tickets, their numbers and its permit
pub record HasRunMemory {L : Type 0} (memory : RunMemory L) : Type 0 where
  pub replies : length memory.calls.items ≤ vec_capacity memory.replies
  pub tickets : HasTicketRoom memory.tickets (all_tickets (events_of memory.calls.items))
  pub seqs : All IsPrepared memory.calls.items
  pub permits : length memory.calls.items ≤ vec_capacity memory.permits
