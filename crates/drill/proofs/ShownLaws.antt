-- What a reply shows is settled, and stays so.
use Rattle.std.proofs.Common.{◌≡◌, ◌≤◌, ◌+◌, ◌==◌, ◌&&◌, ℕ, Bool, true, false, not, List, [], ◌∷◌, ◌++◌, length, take}
use Rattle.std.proofs.Common.{max, Option, Some, None, inl, inr, refl, sym, ap, subst, ◌∙◌, arith, length-append}
use Rattle.std.specs.Prelude.{is_some, nat_lt, option_map, if◌then◌else◌}
use Rattle.std.specs.Option.{option_map_or}
use Rattle.std.proofs.lemmas.Bool.{eqb-true, ltb-true}
use Rattle.std.proofs.lemmas.Grind.{merely}
use Rattle.std.proofs.lemmas.Option.{same_Some}
use Rattle.sqlite.specs.Store.{Ghosts}
use Rattle.spool.specs.Vaults.{VaultValue}
use Rattle.relay_types.specs.declared.record.Record.{Record}
use Rattle.relay_types.specs.Records.{Accepted, records_of}
use Rattle.relay_types.specs.Deliveries.{accepted, deliveries, due_of}
use Rattle.relay_types.proofs.KnownLaws.{below_if_accepted, there_if}
use Rattle.script_lines.specs.declared.call.Call as line
use Rattle.script_lines.specs.declared.call.Call.TheVariants as on_line
use Rattle.script_lines.specs.declared.reply.Reply as line_reply
use Rattle.script_lines.specs.declared.reply.Reply.TheVariants as says
use Rattle.script_lines.specs.declared.reply.Told as script_told
use Rattle.script_lines.specs.declared.reply.Told.TheVariants as as_told
use Rattle.desk.specs.declared.refusal.Fault.TheVariants as desk_fault
use Rattle.desk.specs.declared.ticket.CommandTicket.{CommandTicket}
use Rattle.desk.specs.declared.ticket.Ticket.{Ticket}
use Rattle.desk.specs.declared.ticket.Told.TheVariants.{Waiting, Unknown}
use Rattle.desk.specs.Claims.{choice, claim, claim_chosen, claimables, is_claimable, is_claimable_for, starts, rests}
use Rattle.desk.specs.Queries.{known, has_event, is_event_of, settled_body, told, told_command}
use Rattle.desk.specs.Moves.{moment, unless, are_seqs_spent, next_seq, sealed_batch}
use Rattle.group_commit.specs.Waits.{batch_of, batch_out}
use Rattle.desk.specs.Desks.{HasNothingOut, StandsFor}
use Rattle.desk.specs.World.{World, Out, Nothing, Batch, Receipt, Doubt, all_records, settled_records, sealed_records}
use Rattle.desk.proofs.LeastLaws.{chosen_among, passes}
use Rattle.recovery.specs.Left.{LeavesBy}
use Rattle.drill.specs.declared.events.Event.{Event}
use Rattle.drill.specs.declared.events.Event.TheVariants as on
use Rattle.drill.specs.declared.events.Look.{Look}
use Rattle.drill.specs.declared.events.Look.TheVariants as look
use Rattle.drill.specs.declared.events.Reply.{Reply}
use Rattle.drill.specs.declared.events.Reply.TheVariants as reply
use Rattle.drill.specs.declared.tickets.AnyTicket.{AnyTicket}
use Rattle.drill.specs.declared.tickets.AnyTicket.TheVariants.{Submission, Command}
use Rattle.drill.specs.declared.calls.Core.{Core}
use Rattle.drill.specs.declared.held.Held.{Held}
use Rattle.drill.specs.declared.held.Held.TheVariants as held
use Rattle.drill.specs.Cores.{AreOnePerDelivery, CoreStandsFor, HoldsOut, IsCore, IsHeld, is_commit, receipt_of}
use Rattle.drill.specs.Cores.{given_of}
use Rattle.drill.specs.Runners.{RunStandsFor}
use Rattle.drill.specs.Worlds.{IsOpening, IsOut, IsRunFrom, AnswersEvent, AnswersEvents, session_of}
use Rattle.drill.specs.Events.{KeepsFirst, EventMove, EventRun, SurvivesCrash, shown, shown_by_line, shown_by_look}
use Rattle.drill.specs.Events.{look_reply}
use Rattle.drill.specs.Moves.{Session, MayReply, IsOneOf, claim_reply, lacks, settles, told_as, told_reply}
use Rattle.drill.specs.Runs.{CallMove}
use Rattle.drill.specs.Tickets.{KeepsTickets, find_ticket, seq_of}
use Rattle.drill.specs.declared.runs.World as left
use Rattle.drill.proofs.CommitLaws.{rows_kept}
use Rattle.drill.proofs.CoreLaws.{same_first}
use Rattle.drill.proofs.FollowLaws.{by_call, commits_follow, follows}
use Rattle.drill.proofs.GoingLaws.{settled_survive_crash, opening_is_prefix, opening_counts, run_goes_on}
use Rattle.drill.proofs.AttemptLaws.{attempts_pending_again}
use Rattle.drill.proofs.BatchLaws.{settled_and_batch}

-- how many records are settled, and sealed
abbrev pub settled_count : World → ℕ
settled_count w = length (settled_records w)

-- the marks are in their order
pub record IsOrdered (w : World) : Type 0 where
  pub below : w.settled ≤ w.sealed
  pub within : w.sealed ≤ length w.history

settled_in_sealed : (w : World) → IsOrdered w → settled_count w ≤ length (sealed_records w)
settled_in_sealed w h = omega (
  arith,
  ap length (settled_and_batch 0 w h.below),
  length-append (settled_records w)
      (records_of (sealed_batch 0 w).steps),
)

-- What is settled stays settled

pub line_keeps : (s next : Session) (event : line.Call) (told : line_reply.Reply) → IsOrdered s.world
    → CallMove s event told next → settled_count s.world ≤ settled_count next.world
line_keeps s next event told h move = by_call keeps s next event told desk
    (commits_follow keeps s next told s.world.out refl (omega arith) (λ e. omega arith) (λ e. omega arith)) move
  where
    keeps : World → Type 0
    keeps w = settled_count s.world ≤ settled_count w

    desk : is_commit event ≡ false → settled_count s.world ≤ settled_count next.world
    desk own = follows keeps s next event told own (record {
      stays = omega arith;
      goes = λ other g. omega (
        arith,
        ap length (same_first s.world other s.world.settled g (omega (arith, h.below, h.within))
            ∙ ap (λ k. records_of (take k other.history)) (sym g.settled)),
      );
      seals = λ going free. omega arith;
      settles = λ e. settled_in_sealed s.world h;
      unseals = λ e. omega arith;
      halts = λ other. omega arith;
    }) move

pub event_keeps : (s next : Session) (event : Event) (told : Reply) → IsOrdered s.world → EventMove s event told next
    → settled_count s.world ≤ settled_count next.world
event_keeps s next (on.Line event) told h (line, is, move) = line_keeps s next event line h move
event_keeps s next (on.Look asked) told h (is, same) = subst
    (λ (t : Session). settled_count s.world ≤ settled_count t.world) (sym same) (omega arith)

-- What is shown is settled

settled_if : (w : World) (is_settled is_there : Bool) → told_as (known w is_settled is_there) ≡ as_told.Settled
    → is_settled ≡ true
settled_if w true is_there e = refl
settled_if w false is_there e = at (is_there && not w.halted) e
  where
    at : (b : Bool) → told_as (if b then Waiting else Unknown) ≡ as_told.Settled → false ≡ true
    at true e = absurd (let no = e in cc)
    at false e = absurd (let no = e in cc)

ticket_below : (w : World) (ticket : Ticket) → told_as (told w ticket) ≡ as_told.Settled
    → ticket.seq + 1 ≤ settled_count w
ticket_below w ticket e =
    at (accepted (settled_records w) ticket.seq) refl
    (settled_if w (has_event (settled_records w) ticket) (has_event (all_records w) ticket) e)
  where
    at : (o : Option Accepted) → accepted (settled_records w) ticket.seq ≡ o
        → option_map_or (is_event_of ticket) o false ≡ true → ticket.seq + 1 ≤ settled_count w
    at None is h = absurd (let no = h in cc)
    at (Some a) is h = omega (
      arith,
      below_if_accepted (settled_records w) ticket.seq
          (there_if (settled_records w) ticket.seq (ap is_some is)),
    )

command_below : (w : World) (ticket : CommandTicket) → told_as (told_command w ticket) ≡ as_told.Settled
    → ticket.seq + 1 ≤ settled_count w
command_below w ticket e =
    omega (
      arith,
      ltb-true ticket.seq (settled_count w)
          (settled_if w (nat_lt ticket.seq (settled_count w)) (nat_lt ticket.seq (next_seq w)) e),
    )

found_seq : (tickets : List AnyTicket) (seq : ℕ) (given : AnyTicket) → find_ticket tickets seq ≡ Some given
    → seq_of given ≡ seq
found_seq [] seq given e = absurd (let no = e in cc)
found_seq (first ∷ rest) seq given e = at (seq_of first == seq) refl e (found_seq rest seq given)
  where
    at : (b : Bool) → (seq_of first == seq) ≡ b → (if b then Some first else find_ticket rest seq) ≡ Some given
        → (find_ticket rest seq ≡ Some given → seq_of given ≡ seq) → seq_of given ≡ seq
    at true is e later = ap seq_of (sym (same_Some first given e)) ∙ eqb-true (seq_of first) seq is
    at false is e later = later e

abbrev told_in : line_reply.Reply → script_told.Told
told_in (says.ToldAs told) = told
told_in other = as_told.Unknown

told_below : (s : Session) (seq : ℕ) → says.ToldAs as_told.Settled ≡ told_reply s.world (find_ticket s.tickets seq)
    → seq + 1 ≤ settled_count s.world
told_below s seq e = at (find_ticket s.tickets seq) refl e
  where
    at : (o : Option AnyTicket) → find_ticket s.tickets seq ≡ o → says.ToldAs as_told.Settled ≡ told_reply s.world o
        → seq + 1 ≤ settled_count s.world
    at None is e = absurd (let no = e in cc)
    at (Some (Submission ticket)) is e = omega
        (arith, found_seq s.tickets seq (Submission ticket) is, ticket_below s.world ticket (sym (ap told_in e)))
    at (Some (Command ticket)) is e = omega
        (arith, found_seq s.tickets seq (Command ticket) is, command_below s.world ticket (sym (ap told_in e)))

abbrev delivery_in : line_reply.Reply → ℕ
delivery_in (says.Permit delivery endpoint id attempt at inflight) = delivery
delivery_in other = 0

abbrev is_permit : line_reply.Reply → Bool
is_permit (says.Permit delivery endpoint id attempt at inflight) = true
is_permit other = false

-- the delivery that is chosen is settled
chosen_below : (w : World) (now d : ℕ) → choice w now ≡ Some d → d + 1 ≤ settled_count w
chosen_below w now d e =
    at (accepted (settled_records w) d) refl (passes (is_claimable w now) d (deliveries (settled_records w))
    (chosen_among (due_of (settled_records w)) (claimables w now) d e))
  where
    at : (o : Option Accepted) → accepted (settled_records w) d ≡ o → option_map_or (is_claimable_for w now d) o false
        ≡ true → d + 1 ≤ settled_count w
    at None is h = absurd (let no = h in cc)
    at (Some a) is h = omega (
      arith,
      below_if_accepted (settled_records w) d
          (there_if (settled_records w) d (ap is_some is)),
    )

permit_below : (w : World) (now : ℕ) (told : line_reply.Reply) → is_permit told ≡ true
    → told ≡ claim_reply (claim w now).reply → delivery_in told + 1 ≤ settled_count w
permit_below w now told is said = at w.halted (choice w (moment w now)) refl said
  where
    not_told : (other : line_reply.Reply) → is_permit other ≡ false → told ≡ other → ⊥
    not_told other none e = let yes : is_permit told ≡ true = is in let same : is_permit told ≡ is_permit other =
        ap is_permit e in cc

    began : (d : ℕ) → choice w (moment w now) ≡ Some d → (full : Bool) (accept : Option Accepted)
        → told ≡ claim_reply
        (unless ((full, 2, desk_fault.SeqExhausted) ∷ []) w
        (option_map_or (starts w (moment w now) d) accept (rests w (moment w now)))).reply → delivery_in told + 1
        ≤ settled_count w
    began d e true accept said = absurd (not_told _ refl said)
    began d e false None said = absurd (not_told _ refl said)
    began d e false (Some a) said = omega (arith, ap delivery_in said, chosen_below w (moment w now) d e)

    at : (halted : Bool) (chosen : Option ℕ) → choice w (moment w now) ≡ chosen
        → told ≡ claim_reply (unless ((halted, 1, desk_fault.Halted) ∷ []) w
        (claim_chosen w (moment w now) chosen)).reply → delivery_in told + 1 ≤ settled_count w
    at true chosen e said = absurd (not_told _ refl said)
    at false None e said = absurd (not_told _ refl said)
    at false (Some d) e said = began d e (are_seqs_spent w) (accepted (all_records w) d) said

-- by the event

by_told : (s : Session) (seq : ℕ) (told : line_reply.Reply) → told ≡ told_reply s.world (find_ticket s.tickets seq)
    → shown_by_line s.world (on_line.Told seq) told ≤ settled_count s.world
by_told s seq (says.ToldAs as_told.Settled) e = told_below s seq e
by_told s seq other e = omega arith

by_claim : (w : World) (now : ℕ) (told : line_reply.Reply) → told ≡ claim_reply (claim w now).reply
    → shown_by_line w (on_line.Claim now) told ≤ settled_count w
by_claim w now (says.Permit delivery endpoint id attempt at inflight) e = permit_below w now
    (says.Permit delivery endpoint id attempt at inflight) refl e
by_claim w now other e = omega arith

by_no_memory : (s next : Session) (now n : ℕ) (told : line_reply.Reply) (memory : Option ℕ)
    → IsOneOf (lacks s memory) told next → shown_by_line s.world (on_line.Claim now) told ≤ n
by_no_memory s next now n told None none = absurd none
by_no_memory s next now n told (Some number) (inl (e, f)) = subst (λ t. shown_by_line s.world (on_line.Claim now) t ≤ n)
    (sym e) (omega arith)
by_no_memory s next now n told (Some number) (inr none) = absurd none

by_settle : (s next : Session) (told : line_reply.Reply) (o : Out) → MayReply (settles s o) told next
    → shown_by_line s.world on_line.Settle told ≤ settled_count next.world
by_settle s next told Nothing (inl (e, f)) = subst
    (λ t. shown_by_line s.world on_line.Settle t ≤ settled_count next.world) (sym e) (omega arith)
by_settle s next told Nothing (inr none) = absurd none
by_settle s next told Batch (inl (e, f)) = subst
    (λ t. shown_by_line s.world on_line.Settle t ≤ settled_count next.world) (sym e) (omega arith)
by_settle s next told Batch (inr none) = absurd none
by_settle s next told Receipt (inl (e, f)) = subst
    (λ t. shown_by_line s.world on_line.Settle t ≤ settled_count next.world) (sym e)
    (omega (arith, ap (λ (t : Session). settled_count t.world) f))
by_settle s next told Receipt (inr none) = absurd none
by_settle s next told Doubt (inl (e, f)) = subst
    (λ t. shown_by_line s.world on_line.Settle t ≤ settled_count next.world) (sym e) (omega arith)
by_settle s next told Doubt (inr none) = absurd none

by_endpoint : (w : World) (name : List ℕ) (told : line_reply.Reply)
    → shown_by_line w (on_line.ShowEndpoint name) told ≤ settled_count w
by_endpoint w name (says.Endpoint enabled pending delivered exhausted) = omega arith
by_endpoint w name other = omega arith

by_event : (w : World) (name id : List ℕ) (told : line_reply.Reply)
    → shown_by_line w (on_line.Show name id) told ≤ settled_count w
by_event w name id (says.Event state due attempts) = omega arith
by_event w name id other = omega arith

pub line_shown : (s next : Session) (event : line.Call) (told : line_reply.Reply) → IsOrdered s.world
    → CallMove s event told next → shown_by_line s.world event told ≤ settled_count next.world
line_shown s next event told h move = at event move (line_keeps s next event told h move)
  where
    at : (event : line.Call) → CallMove s event told next → settled_count s.world ≤ settled_count next.world
        → shown_by_line s.world event told ≤ settled_count next.world
    at (on_line.Told seq) (inl (e, f)) keeps = omega (arith, keeps, by_told s seq told e)
    at (on_line.Told seq) (inr none) keeps = absurd none
    at (on_line.Claim now) (inl (e, f)) keeps = omega (arith, keeps, by_claim s.world now told e)
    at (on_line.Claim now) (inr without) keeps = by_no_memory s next now (settled_count next.world) told
        (claim s.world now).memory without
    at on_line.Settle move keeps = by_settle s next told s.world.out move
    at (on_line.ShowEndpoint name) move keeps = omega (arith, keeps, by_endpoint s.world name told)
    at (on_line.Show name id) move keeps = omega (arith, keeps, by_event s.world name id told)
    at event move keeps = omega arith

by_look : (w : World) (asked : Look) → shown_by_look w asked (look_reply w asked) ≤ settled_count w
by_look w (look.Told ticket) = at (told_as (told w ticket)) refl
  where
    at : (t : script_told.Told) → told_as (told w ticket) ≡ t
        → shown_by_look w (look.Told ticket) (reply.Line (says.ToldAs t)) ≤ settled_count w
    at as_told.Settled e = ticket_below w ticket e
    at other e = omega arith
by_look w (look.ToldCommand ticket) = at (told_as (told_command w ticket)) refl
  where
    at : (t : script_told.Told) → told_as (told_command w ticket) ≡ t → shown_by_look w (look.ToldCommand ticket)
        (reply.Line (says.ToldAs t)) ≤ settled_count w
    at as_told.Settled e = command_below w ticket e
    at other e = omega arith
by_look w (look.SettledBody ticket) = at (is_some (settled_body w ticket))
  where
    at : (b : Bool) → shown_by_look w (look.SettledBody ticket) (reply.HasBody b) ≤ settled_count w
    at true = omega arith
    at false = omega arith
by_look w look.Totals = omega arith
by_look w look.Records = omega arith
by_look w look.SettledRecords = omega arith
by_look w look.IsHalted = omega arith

pub event_shown : (s next : Session) (event : Event) (told : Reply) → IsOrdered s.world → EventMove s event told next
    → shown s.world event told ≤ settled_count next.world
event_shown s next (on.Line event) told h (line, is, move) = subst
    (λ t. shown s.world (on.Line event) t ≤ settled_count next.world) (sym is) (line_shown s next event line h move)
event_shown s next (on.Look asked) told h (is, same) =
    subst (λ t. shown s.world (on.Look asked) t ≤ settled_count next.world) (sym is)
    (omega (arith, by_look s.world asked, ap (λ (t : Session). settled_count t.world) same))

-- One event more

pub run_with_one_more : (s mid next : Session) (events : List Event) (replies : List Reply) (n : ℕ) (event : Event)
    (told : Reply) → EventRun s events replies mid n → EventMove mid event told next
    → (m : ℕ) × EventRun s (events ++ event ∷ []) (replies ++ told ∷ []) next m
    × ((bound : ℕ) → n ≤ bound → shown mid.world event told ≤ bound → m ≤ bound)
run_with_one_more s mid next [] [] n event told (same, none) makes =
    let from = subst (λ (t : Session). EventMove t event told next) same makes in (
      max (shown s.world event told) 0,
      (next, 0, from, (refl, refl), refl),
      λ bound below shows. omega
          (arith, shows, ap (λ (t : Session). shown t.world event told) same),
    )
run_with_one_more s mid next (first ∷ events) (given ∷ replies) n event told (after, later, makes_first, run, is)
    makes =
    let (m, more, below_all) = run_with_one_more after mid next events replies later event told run makes in (
      max (shown s.world first given) m,
      (after, m, makes_first, more, refl),
      λ bound below shows. omega
          (arith, below_all bound (omega (arith, below, is)) shows, below, is),
    )
run_with_one_more s mid next [] (given ∷ replies) n event told run makes = absurd run
run_with_one_more s mid next (first ∷ events) [] n event told run makes = absurd run

-- Whatever survives a crash has what is settled, in its place.
pub first_kept : (w : World) (n : ℕ) (records : List Record) → IsOrdered w → LeavesBy w.out w → n ≤ settled_count w
    → take n (all_records w) ≡ take n records → KeepsFirst w n records
first_kept w n records h leaves below same = settled_survive_crash w n records leaves below
    (omega (arith, below, settled_in_sealed w h)) same

pub settled_kept : (w : World) (n : ℕ) → IsOrdered w → LeavesBy w.out w → n ≤ settled_count w → SurvivesCrash w n
settled_kept w n h leaves below = first_kept w n (all_records w) h leaves below refl

-- What is held, as it is handed on.

pub is_out : (mark : ℕ) (w : World) (now : Held) → IsHeld mark w now → IsOut mark w (receipt_of now) (given_of now)
is_out mark w held.Nothing h = h
is_out mark w (held.Batch batch) h = h
is_out mark w (held.Receipt receipt) h = h
is_out mark w (held.Doubt doubt) h = h

-- Events, one after another

is_ordered : {L S : Type 0} (g : Ghosts S) (core : Core L) (vault : VaultValue S) (s : Session)
    → RunStandsFor g core vault s → IsOrdered s.world
is_ordered g core vault s on = record {
  below = on.stands.desk.waiting.settled_first;
  within =
      on.stands.desk.waiting.sealed_within;
}

pub events_more : {L S : Type 0} (g : Ghosts S) (first mid new : Core L) (before between later : VaultValue S)
    (events : List Event) (replies : List Reply) (event : Event) (told : Reply)
    → AnswersEvents g first before events replies mid between → AnswersEvent g mid between event told new later
    → AnswersEvents g first before (events ++ event ∷ []) (replies ++ told ∷ []) new later
events_more g first mid new before between later events replies event told so_far takes s on =
    let (at, n, run, there, below) = so_far s on in
    let (next, makes, after) = takes at there in
    let ordered = is_ordered g mid between at there in
    let (m, more, below_all) = run_with_one_more s at next events replies n event told run makes in (
      next,
      m,
      more,
      after,
      below_all (settled_count next.world)
          (omega (arith, below, event_keeps at next event told ordered makes))
          (event_shown at next event told ordered makes),
    )

-- The first session

pub begun_core : {L : Type 0} (core : Core L) (w : World) → StandsFor core.desk w → IsOpening w
    → core.held ≡ held.Nothing → core.permits.items ≡ [] → KeepsTickets core.tickets []
    → CoreStandsFor core (session_of w)
begun_core core w on (history, clock, is) nothing none kept = record {
  desk = on;
  held = subst (IsHeld core.desk.waiting.mark w) (sym nothing) (ap (λ (v : World). v.out) is);
  permits = none ∙ sym (ap (λ (v : World). v.live) is);
  once = subst AreOnePerDelivery (sym (ap (λ (v : World). v.live) is)) (λ delivery. omega arith);
  tickets = kept;
}

pub idle_core : {L : Type 0} (core : Core L) → HasNothingOut core.desk → core.held ≡ held.Nothing
    → core.permits.items ≡ [] → IsCore core
idle_core core (live, out) nothing none = merely (record {
  permits = none ∙ sym live;
  out = subst (HoldsOut (batch_out core.desk.waiting)) (sym nothing) (ap (option_map (batch_of core.desk.waiting)) out);
})

-- What is left when all events got their replies

pub run_from : {L S : Type 0} (g : Ghosts S) (first : Core L) (before : VaultValue S) (core : Core L) (w : World)
    (events : List Event) (to : left.World L S) → IsOpening w → RunStandsFor g first before (session_of w)
    → AnswersEvents g first before events to.replies.items core to.vault → to.desk ≡ core.desk
    → to.permits ≡ core.permits
    → to.receipt ≡ receipt_of core.held → to.held ≡ given_of core.held → IsRunFrom g (session_of w) events to
run_from g first before core w events to opening started takes desk permits receipt given =
    let (last, n, run, on, below) = takes (session_of w) started in
    let going = run_goes_on events to.replies.items (session_of w) last n (opening_counts w opening) run in record {
      last = last;
      acknowledged = n;
      runs = run;
      desk = subst (λ d. StandsFor d last.world) (sym desk) on.stands.desk;
      permits = ap (λ p. p.items) permits ∙ on.stands.permits;
      out = subst (λ m. IsOut m last.world to.receipt to.held) (sym (ap (λ d. d.waiting.mark) desk))
          (subst (λ r. IsOut core.desk.waiting.mark last.world r to.held) (sym receipt)
          (subst (IsOut core.desk.waiting.mark last.world (receipt_of core.held)) (sym given)
          (is_out core.desk.waiting.mark last.world core.held on.stands.held)));
      vault = on.holds;
      mark = ap (λ d. d.waiting.mark) desk ∙ on.mark;
      goes = going.0;
      leaves = rows_kept g to.vault last.world on.holds;
      begins = opening_is_prefix w last.world opening going.0 going.1 on.holds.leaves;
      kept = settled_kept last.world n (is_ordered g core to.vault last on) on.holds.leaves below;
      again = attempts_pending_again w events to.replies.items last n opening run;
    }
