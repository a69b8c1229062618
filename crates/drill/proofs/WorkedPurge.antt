-- A worked run of two purges: an event that ended before the moment goes once the Purge is settled,
-- and its id is free at once. Then what a crash loses of an event that a Purge removed.
use Rattle.std.proofs.Common.{◌≡◌, ℕ, true, false, List, [], ◌∷◌, ◌++◌, Some, None, codes, refl}
use Rattle.std.specs.Fmt.{digits}
use Rattle.relay_types.specs.Records.{History}
use Rattle.relay_types.specs.Deliveries.{accept_at, accepted}
use Rattle.relay_types.specs.declared.record.Record.TheVariants.{Put, Accept, Outcome, Purge}
use Rattle.relay_types.specs.declared.state.State.TheVariants.{Pending, Delivered}
use Rattle.script_lines.specs.declared.call.Call.{Call}
use Rattle.script_lines.specs.declared.call.Call.TheVariants as on
use Rattle.script_lines.specs.declared.reply.Reply.{Reply}
use Rattle.script_lines.specs.declared.reply.Reply.TheVariants as says
use Rattle.script_lines.specs.declared.reply.Told.TheVariants.{Settled, Unknown}
use Rattle.desk.specs.World.{World, Nothing, all_records}
use Rattle.recovery.specs.Left.{records_of_first}
use Rattle.drill.specs.declared.tickets.AnyTicket.TheVariants.{Submission}
use Rattle.drill.specs.Moves.{Session}
use Rattle.drill.specs.Runs.{replies_of}
use Rattle.drill.specs.Restarts.{replies_text}
use Rattle.drill.specs.Unrecorded.{unrecorded}

-- an endpoint, and an event of it that is delivered at once
abbrev two_steps : History
two_steps =
    (Put (codes "a") (codes "http://127.0.0.1:9000/hook") 100 (codes "012345678901234567890123" ∷ []) ∷ [])
    ∷ (Accept (codes "a") (codes "msg_1") (codes "{}") 1000 ∷ [])
    ∷ []

abbrev outcome_step : History
outcome_step = (Outcome 1 1 200 1000 ∷ []) ∷ []

-- these steps, so many of which are settled
abbrev world : History → (settled : ℕ) → World
world history settled = record {
  history = history;
  settled = settled;
  sealed = settled;
  out = Nothing;
  left = settled ∷ [];
  live = [];
  measured = [];
  clock = 1000;
  halted = false;
}

delivered : Session
delivered = record {
  world = world (two_steps ++ outcome_step) 3;
  tickets = Submission (record { seq = 1; name = codes "a"; id = codes "msg_1" }) ∷ [];
}

event : Call
event = on.Show (codes "a") (codes "msg_1")

events : List Call
events =
    on.Purge 1000 ∷ on.Seal ∷ on.Commit ∷ on.Settle ∷ event
    ∷ on.Purge 1001 ∷ on.Submit 1002 (codes "a") (codes "msg_1") (codes "{|") ∷ event ∷ on.Told 1
    ∷ on.Seal ∷ on.Commit ∷ on.Settle ∷ event ∷ on.Told 1 ∷ on.Told 5 ∷ on.ShowEndpoint (codes "a")
    ∷ []

replies : List Reply
replies =
    says.Staged 3 ∷ says.Sealed 3 4 ∷ says.Committed 4 ∷ says.SettledTo 4 ∷ says.Event Delivered None 1
    ∷ says.Staged 4 ∷ says.Staged 5 ∷ says.Event Delivered None 1 ∷ says.ToldAs Settled
    ∷ says.Sealed 4 6 ∷ says.Committed 6 ∷ says.SettledTo 6 ∷ says.Event Pending (Some 1002) 0
    ∷ says.ToldAs Unknown ∷ says.ToldAs Settled ∷ says.Endpoint true 1 0 0
    ∷ []

-- the moves compute them
computed : replies_of delivered events ≡ replies
unfolding delivered event events replies
computed = refl

-- what is written of it
written : replies_text replies
    ≡ codes "staged 3\nsealed 3..4\ncommitted 4\nsettled 4\ndelivered attempts 1\n"
    ++ codes "staged 4\nstaged 5\ndelivered attempts 1\nsettled\n"
    ++ codes "sealed 4..6\ncommitted 6\nsettled 6\npending due 1002 attempts 0\n"
    ++ codes "unknown\nsettled\nenabled pending 1 delivered 0 exhausted 0\n"
unfolding digits replies
written = refl

-- The outcome and a Purge wait after two settled steps: no event is known any more, and a crash
-- loses both.

abbrev waiting : World
waiting = world (two_steps ++ outcome_step ++ (Purge 1001 ∷ []) ∷ []) 2

taken : accepted (all_records waiting) 1 ≡ None
taken = refl

again : (unrecorded waiting 2 1 ≡ 1) × (accepted (records_of_first waiting 2) 1 ≡ accept_at (all_records waiting) 1)
again = (refl, refl)
