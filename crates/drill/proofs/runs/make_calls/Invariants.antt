use Rattle.std.proofs.Common.{◌≡◌, ◌+◌, ◌≤◌, length, vec_capacity, vec_len}
use Rattle.std.specs.HashMap.{spare}
use Rattle.drill.specs.Cores.{IsCore}
use Rattle.drill.specs.Memory.{all_tickets, events_of}
use Rattle.drill.specs.Worlds.{AnswersEvents}
use Rattle.drill.proofs.runs.make_calls.Given as goal
use Rattle.recovery.specs.Left.{IsCleanAt}

abbrev pub invariant-loop-call : goal.invariant-loop-call
invariant-loop-call g l = record {
  core : IsCore l.core;
  runs : IsCleanAt g.S.Store l.vault.conn
      → AnswersEvents g.S.Store l.fn.core l.fn.vault (events_of l.yielded) l.replies.items l.core l.vault;
  clean : IsCleanAt g.S.Store l.vault.conn → IsCleanAt g.S.Store l.fn.vault.conn;
  told : length l.replies.items ≡ length l.yielded;
  places : length l.fn.calls.items ≤ vec_capacity l.replies;
  tickets : all_tickets (events_of l.fn.calls.items) ≤ spare l.core.tickets.given + all_tickets (events_of l.yielded);
  permits : vec_len l.core.permits + length l.fn.calls.items ≤ vec_capacity l.core.permits + length l.yielded;
}
