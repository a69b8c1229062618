-- The calls that other threads may make while the batch is committed. It makes no difference when
-- the commit ends among them.
use Rattle.std.specs.Prelude.{◌≡◌, ℕ, ◌≤◌, ◌↔◌, Bool, true, false, List, [], ◌∷◌, ◌++◌, length, IsTrue}
use Rattle.std.specs.List.{list_all}
use Rattle.script_lines.specs.declared.call.Call as line
use Rattle.script_lines.specs.declared.call.Call.TheVariants as on_line
use Rattle.desk.specs.World.{World, Batch, settled_records}
use Rattle.drill.specs.declared.events.Event.{Event}
use Rattle.drill.specs.declared.events.Event.TheVariants as on
use Rattle.drill.specs.declared.events.Reply.{Reply}
use Rattle.drill.specs.Events.{EventRun}
use Rattle.drill.specs.Moves.{Session}
use Rattle.drill.specs.Worlds.{IsOpening, session_of}

-- the commit of what is out
abbrev pub commit : Event
commit = on.Line on_line.Commit

-- whether the call may be made while another thread commits: only the committer may settle what is
-- out, hand it back or give it up
abbrev pub is_line_beside_commit : line.Call → Bool
is_line_beside_commit on_line.Commit = false
is_line_beside_commit on_line.Settle = false
is_line_beside_commit on_line.Unseal = false
is_line_beside_commit on_line.Halt = false
is_line_beside_commit other = true

abbrev pub is_beside_commit : Event → Bool
is_beside_commit (on.Line event) = is_line_beside_commit event
is_beside_commit (on.Look asked) = true

-- what is settled is sealed, and what is sealed is there
abbrev pub HasCountsInOrder : World → Type 0
HasCountsInOrder w = (w.settled ≤ w.sealed) × (w.sealed ≤ length w.history)

-- A law: every session that a run reaches from an opening has its counts in order.
abbrev pub RunsKeepCountsInOrder : Type 0
RunsKeepCountsInOrder =
    (w : World) (events : List Event) (replies : List Reply) (last : Session) (acknowledged : ℕ)
    → IsOpening w → EventRun (session_of w) events replies last acknowledged → HasCountsInOrder last.world

-- A law: the commit of a batch may come before calls of other threads or after them. Every run in
-- one order is a run in the other, with the same replies and the same last session. It acknowledges
-- the same records, and none of the batch.
abbrev pub CallsChangePlacesWithCommits : Type 0
CallsChangePlacesWithCommits =
    (s last : Session) (events : List Event) (replies : List Reply) (committed : Reply) (acknowledged : ℕ)
    → s.world.out ≡ Batch → HasCountsInOrder s.world → IsTrue (list_all is_beside_commit events)
    → (EventRun s (commit ∷ events) (committed ∷ replies) last acknowledged
    ↔ EventRun s (events ++ commit ∷ []) (replies ++ committed ∷ []) last acknowledged)
    × (EventRun s (commit ∷ events) (committed ∷ replies) last acknowledged
    → acknowledged ≤ length (settled_records s.world))
