-- The calls of a run, the replies to them, and how many records the replies show as settled.
use Rattle.std.specs.Prelude.{◌≡◌, ℕ, ◌+◌, ◌≤◌, max, true, List, [], ◌∷◌, length, take, is_some}
use Rattle.std.specs.List.{AllByRecursion}
use Rattle.relay_types.specs.declared.record.Record.{Record}
use Rattle.script_lines.specs.declared.call.Call as line
use Rattle.script_lines.specs.declared.call.Call.TheVariants as on_line
use Rattle.script_lines.specs.declared.reply.Reply as line_reply
use Rattle.script_lines.specs.declared.reply.Reply.TheVariants as says
use Rattle.script_lines.specs.declared.reply.Told.TheVariants.{Settled}
use Rattle.desk.specs.Queries.{told, told_command, settled_body, totals}
use Rattle.desk.specs.World.{World, all_records, settled_records}
use Rattle.recovery.specs.Left.{records_of_first}
use Rattle.drill.specs.declared.events.Event.{Event}
use Rattle.drill.specs.declared.events.Event.TheVariants as on
use Rattle.drill.specs.declared.events.Look.{Look}
use Rattle.drill.specs.declared.events.Look.TheVariants as look
use Rattle.drill.specs.declared.events.Reply.{Reply}
use Rattle.drill.specs.declared.events.Reply.TheVariants as reply
use Rattle.drill.specs.Moves.{Session, told_as}
use Rattle.drill.specs.Runs.{CallMove}

-- The reply to a look.
abbrev pub look_reply : World → Look → Reply
look_reply w (look.Told ticket) = reply.Line (says.ToldAs (told_as (told w ticket)))
look_reply w (look.ToldCommand ticket) = reply.Line (says.ToldAs (told_as (told_command w ticket)))
look_reply w (look.SettledBody ticket) = reply.HasBody (is_some (settled_body w ticket))
look_reply w look.Totals = reply.Totals (totals (settled_records w))
look_reply w look.Records = reply.Count (length (all_records w))
look_reply w look.SettledRecords = reply.Count (length (settled_records w))
look_reply w look.IsHalted = reply.Flag w.halted

-- From s, the core may give this reply to the event and go on to next.
abbrev pub EventMove : Session → Event → Reply → Session → Type 0
EventMove s (on.Line event) told next = (line : line_reply.Reply) × (told ≡ reply.Line line)
    × CallMove s event line next
EventMove s (on.Look asked) told next = (told ≡ look_reply s.world asked) × (next ≡ s)

-- The reply shows that the records below this number are settled. A ticket that is reported as
-- Settled, and a job, show a record and those before it. A settlement shows all that it settled. A
-- page, a body and a settled count show everything that was settled.
abbrev pub shown_by_line : World → line.Call → line_reply.Reply → ℕ
shown_by_line w (on_line.Told seq) (says.ToldAs Settled) = seq + 1
shown_by_line w (on_line.Claim now) (says.Permit delivery endpoint id attempt at inflight) = delivery + 1
shown_by_line w on_line.Settle (says.SettledTo to) = to
shown_by_line w (on_line.ShowEndpoint name) (says.Endpoint enabled pending delivered exhausted) = length
    (settled_records w)
shown_by_line w (on_line.Show name id) (says.Event state due attempts) = length (settled_records w)
shown_by_line w event other = 0

abbrev pub shown_by_look : World → Look → Reply → ℕ
shown_by_look w (look.Told ticket) (reply.Line (says.ToldAs Settled)) = ticket.seq + 1
shown_by_look w (look.ToldCommand ticket) (reply.Line (says.ToldAs Settled)) = ticket.seq + 1
shown_by_look w (look.SettledBody ticket) (reply.HasBody true) = length (settled_records w)
shown_by_look w look.Totals (reply.Totals totals) = length (settled_records w)
shown_by_look w look.SettledRecords (reply.Count records) = length (settled_records w)
shown_by_look w asked other = 0

abbrev pub shown : World → Event → Reply → ℕ
shown w (on.Line event) (reply.Line told) = shown_by_line w event told
shown w (on.Line event) other = 0
shown w (on.Look asked) told = shown_by_look w asked told

-- The core may give these replies to these events, one after another, and they show that the
-- records below this number are settled.
abbrev pub EventRun : Session → List Event → List Reply → Session → (acknowledged : ℕ) → Type 0
EventRun s [] [] last acknowledged = (last ≡ s) × (acknowledged ≡ 0)
EventRun s (event ∷ events) (told ∷ replies) last acknowledged = (next : Session) × (later : ℕ)
    × EventMove s event told next × EventRun next events replies last later
    × (acknowledged ≡ max (shown s.world event told) later)
EventRun s [] (told ∷ replies) last acknowledged = ⊥
EventRun s (event ∷ events) [] last acknowledged = ⊥

-- so many records are there, and they are the first of these
abbrev pub HasFirst : (count : ℕ) (records there : List Record) → Type 0
HasFirst count records there = (count ≤ length there) × (take count there ≡ take count records)

-- Whatever survives a crash of the world has the first so many of these records, in the same
-- places.
abbrev pub KeepsFirst : World → (count : ℕ) (records : List Record) → Type 0
KeepsFirst w count records = AllByRecursion (λ steps. HasFirst count records (records_of_first w steps)) w.left

-- Whatever survives a crash has all records below this number, in the same places.
abbrev pub SurvivesCrash : World → (acknowledged : ℕ) → Type 0
SurvivesCrash w acknowledged = KeepsFirst w acknowledged (all_records w)
