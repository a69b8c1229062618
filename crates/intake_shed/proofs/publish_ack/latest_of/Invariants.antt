use Rattle.std.proofs.Common.{◌≡◌, ◌≤◌, ◌<◌, ℕ}
use Rattle.std.specs.Prelude.{Any, slice_index_or}
use Rattle.desk.specs.declared.ticket.Ticket.{Ticket}
use Rattle.intake_shed.proofs.publish_ack.latest_of.Given as goal

abbrev pub invariant-loop-ticket : goal.invariant-loop-ticket
invariant-loop-ticket l = record {
  one : Any (λ (t : Ticket). t ≡ l.latest) l.tickets;
  greatest : (k : ℕ) (d : Ticket) → k < l.ticket-index → (slice_index_or l.tickets k d).seq ≤ l.latest.seq;
}
