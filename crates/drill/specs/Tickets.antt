-- The tickets that a script got, and how they are kept.
use Rattle.std.specs.Prelude.{◌≡◌, ℕ, ◌≤◌, ◌==◌, nat_eq, List, Option, find}
use Rattle.std.specs.HashMap.{get, spare}
use Rattle.relay_types.specs.Values.{Seq}
use Rattle.drill.specs.declared.tickets.AnyTicket.{AnyTicket}
use Rattle.drill.specs.declared.tickets.AnyTicket.TheVariants.{Submission, Command}
use Rattle.drill.specs.declared.tickets.Tickets.{Tickets}

-- the number of the ticket's record
abbrev pub seq_of : AnyTicket → Seq
seq_of (Submission ticket) = ticket.seq
seq_of (Command ticket) = ticket.seq

-- the latest ticket of this number, in a list with the newest first
abbrev pub find_ticket : (tickets : List AnyTicket) (seq : Seq) → Option AnyTicket
find_ticket tickets seq = find (λ given. seq_of given == seq) tickets

-- what is kept under a number
abbrev pub kept_at : Tickets → (seq : Seq) → Option AnyTicket
kept_at kept seq = get nat_eq kept.given seq

-- each ticket is kept under its number, and nothing else is
abbrev pub KeepsTickets : (kept : Tickets) (tickets : List AnyTicket) → Type 0
KeepsTickets kept tickets = (seq : Seq) → kept_at kept seq ≡ find_ticket tickets seq

-- so many more tickets can be kept without an allocation
abbrev pub HasTicketRoom : Tickets → (count : ℕ) → Type 0
HasTicketRoom kept count = count ≤ spare kept.given
