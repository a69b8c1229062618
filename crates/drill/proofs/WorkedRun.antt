-- A worked run: an endpoint is put, sealed and taken back; an event is taken in, and both are
-- sealed, committed and settled. Then what a crash loses of an attempt at it.
use Rattle.std.proofs.Common.{◌≡◌, inl, inr, ℕ, true, false, List, [], ◌∷◌, ◌++◌, Some, codes, refl}
use Rattle.std.specs.Fmt.{digits}
use Rattle.relay_types.specs.Records.{History}
use Rattle.relay_types.specs.Deliveries.{is_pending}
use Rattle.relay_types.specs.declared.record.Record.TheVariants.{Put, Accept, Outcome}
use Rattle.relay_types.specs.declared.state.State.TheVariants.{Pending}
use Rattle.permits.specs.declared.row.Row.{Row}
use Rattle.retry_table.specs.declared.post.PostResult.TheVariants.{Unreached}
use Rattle.script_lines.specs.declared.call.Call.{Call}
use Rattle.script_lines.specs.declared.call.Call.TheVariants as on
use Rattle.script_lines.specs.declared.reply.Fault.TheVariants.{Store}
use Rattle.script_lines.specs.declared.reply.Reply.{Reply}
use Rattle.script_lines.specs.declared.reply.Reply.TheVariants as says
use Rattle.script_lines.specs.declared.reply.Told.TheVariants.{Settled}
use Rattle.desk.specs.World.{World, Out, Nothing, Batch, Receipt, Doubt}
use Rattle.desk.specs.Claims.{spent_by}
use Rattle.recovery.specs.Left.{records_of_first}
use Rattle.drill.specs.declared.tickets.AnyTicket.{AnyTicket}
use Rattle.drill.specs.declared.tickets.AnyTicket.TheVariants.{Submission, Command}
use Rattle.drill.specs.Moves.{Session, begun, spent_reply}
use Rattle.drill.specs.Runs.{CallRun, replies_of}
use Rattle.drill.specs.Restarts.{replies_text}
use Rattle.drill.specs.Unrecorded.{unrecorded}

events : List Call
events =
    on.Put (codes "a") (codes "http://127.0.0.1:9000/hook") 100 (codes "012345678901234567890123" ∷ [])
    ∷ on.Seal ∷ on.Unseal
    ∷ on.Submit 1000 (codes "a") (codes "msg_1") (codes "{}")
    ∷ on.Seal ∷ on.Commit ∷ on.Settle
    ∷ on.Told 0 ∷ on.ShowEndpoint (codes "a") ∷ on.Show (codes "a") (codes "msg_1")
    ∷ []

abbrev put_step : History
put_step = (Put (codes "a") (codes "http://127.0.0.1:9000/hook") 100 (codes "012345678901234567890123" ∷ []) ∷ []) ∷ []

abbrev both_steps : History
both_steps = put_step ++ (Accept (codes "a") (codes "msg_1") (codes "{}") 1000 ∷ []) ∷ []

abbrev put_ticket : List AnyTicket
put_ticket = Command (record { seq = 0 }) ∷ []

abbrev both_tickets : List AnyTicket
both_tickets = Submission (record { seq = 1; name = codes "a"; id = codes "msg_1" }) ∷ put_ticket

-- the world after some steps, of which so many are settled and sealed; so many survive a crash
abbrev world : History → (settled sealed : ℕ) → Out → (left clock : ℕ) → World
world history settled sealed out left clock = record {
  history = history;
  settled = settled;
  sealed = sealed;
  out = out;
  left = left ∷ [];
  live = [];
  measured = [];
  clock = clock;
  halted = false;
}

abbrev at : List AnyTicket → World → Session
at tickets w = record { world = w; tickets = tickets }

replies : List Reply
replies =
    says.Staged 0 ∷ says.Sealed 0 1 ∷ says.Unsealed 0 1
    ∷ says.Staged 1 ∷ says.Sealed 0 2 ∷ says.Committed 2 ∷ says.SettledTo 2
    ∷ says.ToldAs Settled ∷ says.Endpoint true 1 0 0 ∷ says.Event Pending (Some 1000) 0
    ∷ []

run : CallRun begun events replies (at both_tickets (world both_steps 2 2 Nothing 2 1000))
unfolding events replies
run = (
  at put_ticket (world put_step 0 0 Nothing 0 0),
  inl (refl, refl),
  (
    at put_ticket (world put_step 0 1 Batch 0 0),
    inl (refl, refl),
    (
      at put_ticket (world put_step 0 0 Nothing 0 0),
      inl (refl, refl),
      (
        at both_tickets (world both_steps 0 0 Nothing 0 1000),
        inl (refl, refl),
        (
          at both_tickets (world both_steps 0 2 Batch 0 1000),
          inl (refl, refl),
          (
            at both_tickets (world both_steps 0 2 Receipt 2 1000),
            inl (refl, refl),
            (
              at both_tickets (world both_steps 2 2 Nothing 2 1000),
              inl (refl, refl),
              (
                at both_tickets (world both_steps 2 2 Nothing 2 1000),
                inl (refl, refl),
                (
                  at both_tickets (world both_steps 2 2 Nothing 2 1000),
                  inl (refl, refl),
                  (at both_tickets (world both_steps 2 2 Nothing 2 1000), inl (refl, refl), refl),
                ),
              ),
            ),
          ),
        ),
      ),
    ),
  ),
)

-- the moves compute them
computed : replies_of begun events ≡ replies
unfolding events replies
computed = refl

-- what is written of it
written : replies_text replies
    ≡ codes "staged 0\nsealed 0..1\nunsealed 0..1\nstaged 1\nsealed 0..2\ncommitted 2\nsettled 2\nsettled\nenabled pending 1 delivered 0 exhausted 0\npending due 1000 attempts 0\n"
unfolding digits replies
written = refl

-- An attempt at the event is under way. Three calls more: its post reaches nobody, the outcome is
-- sealed, and nobody knows how the commit ends.

abbrev row : Row
row = record { endpoint = codes "a"; delivery = 1; inflight = 1 }

abbrev claimed : World
claimed = record (world both_steps 2 2 Nothing 2 1000) { live = row ∷ [] }

abbrev three_steps : History
three_steps = both_steps ++ (Outcome 1 1 0 1002 ∷ []) ∷ []

-- the first two steps survive a crash, or all three
abbrev doubted : World
doubted = record (world three_steps 2 3 Doubt 2 1002) { left = 2 ∷ 3 ∷ [] }

more : List Call
more = on.Spend 1 1002 Unreached ∷ on.Seal ∷ on.Commit ∷ []

told_more : List Reply
told_more = spent_reply (spent_by claimed row Unreached 1002) ∷ says.Sealed 2 3 ∷ says.Refused 5 Store ∷ []

run_on : CallRun (at both_tickets claimed) more told_more (at both_tickets doubted)
unfolding more told_more
run_on = (
  at both_tickets (world three_steps 2 2 Nothing 2 1002),
  inl (refl, refl),
  (
    at both_tickets (world three_steps 2 3 Batch 2 1002),
    inl (refl, refl),
    (at both_tickets doubted, inr (inr (inl (refl, refl))), refl),
  ),
)

-- the first two steps have no outcome of the attempt, all three have it
taken_back : (unrecorded claimed 2 1 ≡ 1) × (unrecorded doubted 2 1 ≡ 1) × (unrecorded doubted 3 1 ≡ 0)
taken_back = (refl, refl, refl)

-- and the event is pending in either
pending : (is_pending (records_of_first doubted 2) 1 ≡ true) × (is_pending (records_of_first doubted 3) 1 ≡ true)
pending = (refl, refl)
