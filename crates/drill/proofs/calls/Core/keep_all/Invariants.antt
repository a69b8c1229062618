use Rattle.std.proofs.Common.{◌≡◌, ◌+◌, ◌≤◌, ◌++◌, List, length, map, take, vec_capacity}
use Rattle.std.specs.HashMap.{spare}
use Rattle.std.specs.Prelude.{reverse}
use Rattle.drill.specs.declared.tickets.AnyTicket.{AnyTicket}
use Rattle.drill.specs.declared.tickets.AnyTicket.TheVariants.{Submission}
use Rattle.drill.specs.Tickets.{KeepsTickets}
use Rattle.drill.proofs.calls.Core.keep_all.Given as goal

abbrev pub invariant-loop-ticket : goal.invariant-loop-ticket
invariant-loop-ticket g l = record {
  seqs : l.seqs.items ≡ map (λ ticket. ticket.seq) (take l.ticket-index l.tickets);
  places : length l.tickets ≤ vec_capacity l.seqs;
  kept : (given : List AnyTicket) → KeepsTickets l.fn.self.tickets given
      → KeepsTickets l.self.tickets (reverse (map Submission (take l.ticket-index l.tickets)) ++ given);
  same : l.self ≡ record l.fn.self { tickets = l.self.tickets };
  room : spare l.fn.self.tickets.given ≤ spare l.self.tickets.given + l.ticket-index;
}
