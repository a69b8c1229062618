-- In whatever survives a crash, each event with an attempt that has no outcome there is pending.
use Rattle.std.proofs.Common.{◌≡◌, ◌≤◌, ◌<◌, ◌+◌, ◌==◌, ◌&&◌, ◌⊎◌, ℕ, Bool, true, false, List, [], ◌∷◌, ◌++◌, length}
use Rattle.std.proofs.Common.{take, drop, get_or, Option, Some, None, Result, Ok, Err, inl, inr, refl, sym, ap, subst}
use Rattle.std.proofs.Common.{◌∙◌, arith, length-append, append-nil, cond, nat_eq}
use Rattle.std.specs.Prelude.{find, is_some, remove, slice_get, if◌then◌else◌}
use Rattle.std.specs.List.{cons_option, position_or_len}
use Rattle.std.specs.Option.{option_map_or}
use Rattle.std.proofs.Math.Seq.{drop-length}
use Rattle.std.proofs.lemmas.Bool.{eqb-true}
use Rattle.std.proofs.lemmas.List.{drop-append-le, take-append-drop, length-take}
use Rattle.std.proofs.lemmas.List.Folds.{find_at}
use Rattle.std.proofs.lemmas.List.Sums.{sum_by-remove, sum_by_push}
use Rattle.std.proofs.lemmas.Option.{get_or_from_slice_get, slice_get_within}
use Rattle.relay_types.specs.declared.record.Record.{Record}
use Rattle.relay_types.specs.declared.record.Record.TheVariants.{Outcome}
use Rattle.relay_types.specs.declared.state.State.TheVariants.{Pending}
use Rattle.relay_types.specs.Records.{History, Attempt, records_of}
use Rattle.relay_types.specs.Deliveries.{accept_at, accepted, attempts_of, is_in_state, is_pending}
use Rattle.relay_types.proofs.GrowthLaws.{accepted-before}
use Rattle.relay_types.proofs.KnownLaws.{and_first, and_second, below_if_accepted, there_if}
use Rattle.relay_types.proofs.PurgeLaws.{accepted_is, unpurged_if}
use Rattle.delivery_book.specs.Entries.{failed_among, is_delivered_among, state_by}
use Rattle.delivery_book.proofs.Progresses.{attempts_of-append, empty_if}
use Rattle.permits.specs.declared.row.Row.{Row}
use Rattle.retry_table.specs.declared.post.PostResult.{PostResult}
use Rattle.retry_table.specs.Judging.{recorded_status}
use Rattle.script_lines.specs.declared.call.Call as line
use Rattle.script_lines.specs.declared.reply.Reply as line_reply
use Rattle.desk.specs.declared.refusal.Refusal.{Refusal}
use Rattle.desk.specs.World.{World, Receipt, settled_records, waiting_records}
use Rattle.desk.specs.Moves.{moment, with_sealed_settled}
use Rattle.desk.specs.Claims.{JobValue, next_attempt, outcome_by, sample_by, waits, with_attempt, with_attempt_over}
use Rattle.desk.specs.Claims.{without_row}
use Rattle.desk.proofs.RowLaws.{attempts_at, none_counted, others, removed_is}
use Rattle.desk.proofs.TakenLaws.{unpurged_while_pending}
use Rattle.recovery.specs.Left.{LeavesBy, records_of_first}
use Rattle.drill.specs.declared.events.Event.{Event}
use Rattle.drill.specs.declared.events.Event.TheVariants as on
use Rattle.drill.specs.declared.events.Reply.{Reply}
use Rattle.drill.specs.Cores.{is_commit}
use Rattle.drill.specs.Events.{EventMove, EventRun}
use Rattle.drill.specs.Moves.{Session, permit_of}
use Rattle.drill.specs.Runs.{CallMove}
use Rattle.drill.specs.Unrecorded.{ArePendingAgain, IsEachPendingAgain, IsPendingAgain, records_after, unrecorded}
use Rattle.drill.specs.Worlds.{AreAttemptsPendingAgain, IsOpening, session_of}
use Rattle.drill.proofs.CoreLaws.{Goes, IsClaimed, Stages, later, same_first, waiting_is_pending}
use Rattle.drill.proofs.FollowLaws.{by_call, commits_follow, follows_each, sealed_within}
use Rattle.drill.proofs.BatchLaws.{flatten_both, prefix_and_batch, split_at}
use Rattle.drill.proofs.VaultLaws.{each_left, leaves_goes, leaves_settled, left_on_halt}

-- how many outcomes of the delivery the records have
abbrev outcomes : List Record → ℕ → ℕ
outcomes records d = length (attempts_of records d)

-- The first steps, and those after them

more_outcomes : (some more : List Record) (d : ℕ) → outcomes (some ++ more) d ≡ outcomes some d + outcomes more d
more_outcomes some more d = ap length (attempts_of-append some more d) ∙ length-append (attempts_of some d)
    (attempts_of more d)

-- the steps from one mark to a later one
abbrev between : (history : History) (from to : ℕ) → History
between history from to = drop from (take to history)

records_after_split : (history : History) (from to : ℕ) → from ≤ to → to ≤ length history
    → records_of (drop from history) ≡ records_of (between history from to) ++ records_of (drop to history)
records_after_split history from to below within =
    ap (λ (h : History). records_of (drop from h)) (sym (take-append-drop to history))
    ∙ ap records_of (drop-append-le from (take to history) (drop to history)
    (omega (arith, below, within, length-take to history)))
    ∙ flatten_both (between history from to) (drop to history)

-- what is pending stays so if none of the further records is an outcome of it
still_pending : (some more : List Record) (d : ℕ) → is_pending some d ≡ true → outcomes more d ≡ 0
    → is_pending (some ++ more) d ≡ true
still_pending some more d pending none =
    let there = and_first (is_some (accepted some d)) _ pending in
    let attempts : attempts_of (some ++ more) d ≡ attempts_of some d =
    attempts_of-append some more d ∙ ap (λ later. attempts_of some d ++ later) (empty_if (attempts_of more d) none)
    ∙ append-nil (attempts_of some d) in
    let kept = unpurged_while_pending (some ++ more) d
    ((λ i. is_in_state Pending (state_by (is_delivered_among (attempts i)) (failed_among (attempts i))))
    ∙ and_second (is_some (accepted some d)) _ pending) in
    let same : accepted (some ++ more) d ≡ accepted some d =
    accepted_is (some ++ more) d kept
    ∙ accepted-before some more d (below_if_accepted some d (there_if some d there))
    ∙ sym (accepted_is some d (unpurged_if some d there)) in
    (λ i. is_some (same i) && is_in_state Pending
    (state_by (is_delivered_among (attempts i)) (failed_among (attempts i)))) ∙ pending

-- Marks

-- The marks are in their order, and at most one attempt at each event has no settled outcome: such
-- an event is pending in the settled records.
pub record IsTracked (w : World) : Type 0 where
  pub below : w.settled ≤ w.sealed
  pub within : w.sealed ≤ length w.history
  pub leaves : LeavesBy w.out w
  once : (d : ℕ) → unrecorded w w.settled d ≤ 1
  pending : (d : ℕ) → 1 ≤ unrecorded w w.settled d → is_pending (settled_records w) d ≡ true

counted : (w : World) (steps d : ℕ) → w.settled ≤ steps → steps ≤ length w.history
    → unrecorded w w.settled d ≡ attempts_at d w.live + (outcomes (records_of (between w.history w.settled steps)) d
    + outcomes (records_after w steps) d)
counted w steps d below within = ap (λ n. attempts_at d w.live + n)
    (ap (λ records. outcomes records d) (records_after_split w.history w.settled steps below within)
    ∙ more_outcomes (records_of (between w.history w.settled steps)) (records_after w steps) d)

-- the same of the first steps that reach as far as what is settled
pending_at : (w : World) (steps d : ℕ) → IsTracked w → w.settled ≤ steps → steps ≤ length w.history
    → 1 ≤ unrecorded w steps d → IsPendingAgain w steps d
pending_at w steps d h below within some = record {
  pending = front;
  same = accepted_is (records_of_first w steps) d (unpurged_if (records_of_first w steps) d there)
      ∙ sym (accepted-before (records_of_first w steps) (records_after w steps) d
      (below_if_accepted (records_of_first w steps) d (there_if (records_of_first w steps) d there)))
      ∙ ap (λ records. accept_at records d) (split_at steps w.history);
  once = omega (arith, counted w steps d below within, h.once d, some);
}
  where
    front : is_pending (records_of_first w steps) d ≡ true
    front = ap (λ records. is_pending records d) (sym (prefix_and_batch w.history w.settled steps below))
        ∙ still_pending (settled_records w) (records_of (between w.history w.settled steps)) d
        (h.pending d (omega (arith, counted w steps d below within, some)))
        (omega (arith, counted w steps d below within, h.once d, some))

    there : is_some (accepted (records_of_first w steps) d) ≡ true
    there = and_first (is_some (accepted (records_of_first w steps) d)) _ front

pub pending_again : (w : World) → IsTracked w → ArePendingAgain w
pending_again w h = each_left (IsEachPendingAgain w) w w.out h.leaves
    (λ d. pending_at w w.settled d h (omega arith) (omega (arith, h.below, h.within)))
    (λ d. pending_at w w.sealed d h h.below h.within)

-- Moves

-- with these rows and these further records no more attempts at the event are without an outcome,
-- or it has its first one and is pending
abbrev MayChange : World → List Row → List Record → ℕ → Type 0
MayChange w live more d =
    (attempts_at d live + outcomes more d ≤ attempts_at d w.live)
    ⊎ ((attempts_at d live + (outcomes (waiting_records w) d + outcomes more d) ≤ 1)
    × (is_pending (settled_records w) d ≡ true))

tracked_goes : (w next : World) → IsTracked w → (g : Goes w next)
    → ((d : ℕ) → MayChange w next.live (records_of g.more) d) → IsTracked next
tracked_goes w next h g changes = record {
  below = omega (arith, g.settled, g.sealed, h.below);
  within = omega (arith, g.sealed, h.within, ap length g.history, length-append w.history g.more);
  leaves = subst (λ o. LeavesBy o next) (sym g.out) (leaves_goes w next w.out g h.leaves);
  once = λ d. once d (changes d);
  pending = λ d some. ap (λ records. is_pending records d) (sym settled) ∙ pending d (changes d) some;
}
  where
    settled : settled_records w ≡ settled_records next
    settled = same_first w next w.settled g (omega (arith, h.below, h.within))
        ∙ ap (λ k. records_of (take k next.history)) (sym g.settled)

    after : (d : ℕ) → unrecorded next next.settled d ≡ attempts_at d next.live
        + (outcomes (waiting_records w) d + outcomes (records_of g.more) d)
    after d = ap (λ records. attempts_at d next.live + outcomes records d)
        ((λ i. records_of (drop (g.settled i) (g.history i)))
        ∙ ap records_of (drop-append-le w.settled w.history g.more (omega (arith, h.below, h.within)))
        ∙ flatten_both (drop w.settled w.history) g.more)
        ∙ ap (λ n. attempts_at d next.live + n) (more_outcomes (waiting_records w) (records_of g.more) d)

    once : (d : ℕ) → MayChange w next.live (records_of g.more) d → unrecorded next next.settled d ≤ 1
    once d (inl fewer) = omega (arith, after d, fewer, h.once d)
    once d (inr (first, pending)) = omega (arith, after d, first)

    pending : (d : ℕ) → MayChange w next.live (records_of g.more) d → 1 ≤ unrecorded next next.settled d
        → is_pending (settled_records w) d ≡ true
    pending d (inl fewer) some = h.pending d (omega (arith, after d, fewer, some))
    pending d (inr (first, is)) some = is

tracked_stages : (w next : World) → IsTracked w → Stages w next → IsTracked next
tracked_stages w next h s = tracked_goes w next h s.goes
    (λ d. inl (omega (arith, ap (attempts_at d) s.live, ap length (s.none d))))

-- an attempt begins at what waits for it
tracked_begins : (w : World) (at : ℕ) (row : Row) → IsTracked w → waits w row.delivery ≡ true
    → IsTracked (with_attempt w at row)
tracked_begins w at row h waiting =
    tracked_goes w (with_attempt w at row) h
    (record {
      out = refl;
      settled = refl;
      sealed = refl;
      left = refl;
      halted = refl;
      more = [];
      history =
          sym (append-nil w.history);
    })
    (λ d. by d (nat_eq row.delivery d) refl)
  where
    push : (d : ℕ) → attempts_at d (w.live ++ row ∷ []) ≡ attempts_at d w.live + cond (nat_eq row.delivery d) 1 0
    push d = sum_by_push (λ (x : Row). cond (nat_eq x.delivery d) 1 0) w.live row

    first : (d : ℕ) → waits w d ≡ true → (attempts_at d w.live + outcomes (waiting_records w) d ≡ 0)
        × (is_pending (settled_records w) d ≡ true)
    first d is =
        let (pending, none, free) = waiting_is_pending w d is in (
          omega (
            arith,
            eqb-true (outcomes (waiting_records w) d) 0 none,
            none_counted (λ (x : Row). nat_eq x.delivery d)
                w.live free,
          ),
          pending,
        )

    by : (d : ℕ) (b : Bool) → nat_eq row.delivery d ≡ b → MayChange w (w.live ++ row ∷ []) [] d
    by d true e =
        let (none, pending) = first d (subst (λ n. waits w n ≡ true) (eqb-true row.delivery d e) waiting) in
        inr (omega (arith, push d, none, ap {B = ℕ} (λ b. cond b 1 0) e), pending)
    by d false e = inl (omega (arith, push d, ap {B = ℕ} (λ b. cond b 1 0) e))

tracked_claims : (w next : World) (result : Result (Option JobValue) Refusal) → IsTracked w → IsClaimed w result next
    → IsTracked next
tracked_claims w next (Ok (Some job)) h (at, e, waiting) = subst IsTracked (sym e)
    (tracked_begins w at job.row h waiting)
tracked_claims w next (Ok None) h (at, e) = subst IsTracked (sym e) (tracked_stages w _ h (later w at))
tracked_claims w next (Err r) h (at, e) = subst IsTracked (sym e) (tracked_stages w _ h (later w at))

-- an attempt ends: its row goes, and at most its outcome comes

-- the rows without one that is among them
one_less : (test : Row → Bool) (rows : List Row) (row : Row) → find test rows ≡ Some row
    → attempts_at row.delivery rows ≤ 1
    → (d : ℕ) → attempts_at d (others row rows) + cond (nat_eq row.delivery d) 1 0 ≡ attempts_at d rows
one_less test rows row found once d =
    ap (λ left. attempts_at d left + cond (nat_eq row.delivery d) 1 0)
    (sym (removed_is row rows place within (sym own) once))
    ∙ ap (λ (x : Row). attempts_at d (remove rows place) + cond (nat_eq x.delivery d) 1 0) (sym own)
    ∙ sum_by-remove (λ (x : Row). cond (nat_eq x.delivery d) 1 0) rows place row within
  where
    place : ℕ
    place = position_or_len test rows

    there : slice_get rows place ≡ Some row
    there = sym (find_at test rows) ∙ found

    within : place < length rows
    within = slice_get_within rows place row there

    own : get_or rows place row ≡ row
    own = get_or_from_slice_get rows place row row there

ended_outcomes : (w : World) (row : Row) (post : PostResult) (at d : ℕ)
    → outcomes (records_of (outcome_by w row post at)) d ≤ cond (nat_eq row.delivery d) 1 0
ended_outcomes w row post at d = by (recorded_status post)
  where
    number : ℕ
    number = next_attempt w row.delivery

    said : ℕ → Bool → Option Attempt
    said status own = if own then Some (record { number = number; status = status; at = at }) else None

    one : (status : ℕ) (own : Bool) → length (cons_option (said status own) []) ≤ cond own 1 0
    one status true = omega arith
    one status false = omega arith

    by : (o : Option ℕ) → outcomes
        (records_of (option_map_or (λ status. (Outcome row.delivery number status at ∷ []) ∷ []) o [])) d ≤ cond
        (nat_eq row.delivery d) 1 0
    by None = omega arith
    by (Some status) = one status (nat_eq row.delivery d)

tracked_spends : (w : World) (delivery now : ℕ) (row : Row) (post : PostResult) → IsTracked w
    → permit_of w delivery ≡ Some row → IsTracked (with_attempt_over w row post now)
tracked_spends w delivery now row post h found = at w.halted
  where
    fewer : (d : ℕ) → attempts_at d (others row w.live) + cond (nat_eq row.delivery d) 1 0 ≡ attempts_at d w.live
    fewer = one_less (λ (r : Row). r.delivery == delivery) w.live row found (omega (arith, h.once row.delivery))

    at : (b : Bool) → IsTracked (if b then without_row w row else record (without_row w row) {
      history = w.history ++ outcome_by w row post (moment w now);
      measured = w.measured ++ sample_by row post;
      clock = moment w now;
    })
    at true = tracked_goes w _ h
        (record {
          out = refl;
          settled = refl;
          sealed = refl;
          left = refl;
          halted = refl;
          more = [];
          history = sym
              (append-nil w.history);
        }) (λ d. inl (omega (arith, fewer d)))
    at false = tracked_goes w _ h
        (record {
          out = refl;
          settled = refl;
          sealed = refl;
          left = refl;
          halted = refl;
          more = outcome_by w row post
              (moment w now);
          history = refl;
        })
        (λ d. inl (omega (arith, fewer d, ended_outcomes w row post (moment w now) d)))

-- Turns

tracked_settles : (w : World) → IsTracked w → w.out ≡ Receipt → IsTracked (with_sealed_settled w)
tracked_settles w h e = record {
  below = omega arith;
  within = h.within;
  leaves = inl (subst (λ o. LeavesBy o w) e h.leaves);
  once = λ d. omega (arith, h.once d, counted w w.sealed d h.below h.within);
  pending = λ d some. (pending_at w w.sealed d h h.below h.within some).pending;
}

desk_tracked : (s next : Session) (event : line.Call) (told : line_reply.Reply) → IsTracked s.world
    → is_commit event ≡ false → CallMove s event told next → IsTracked next.world
desk_tracked s next event told h own move = follows_each IsTracked s next event told own (record {
  stays = h;
  stages = λ other staged. tracked_stages s.world other h staged;
  claims = λ result other is. tracked_claims s.world other result h is;
  spends = λ delivery now row post found. tracked_spends s.world delivery now row post h found;
  seals = λ going free. record {
    below = omega arith;
    within = sealed_within s.world (omega (arith, h.below, h.within));
    leaves = leaves_settled s.world going (subst (λ o. LeavesBy o s.world) free h.leaves);
    once = h.once;
    pending = h.pending;
  };
  settles = tracked_settles s.world h;
  unseals = λ e. record {
    below = omega arith;
    within = omega (arith, h.below, h.within);
    leaves = inl
        (subst (λ o. LeavesBy o s.world) e h.leaves);
    once = h.once;
    pending = h.pending;
  };
  halts = λ other. record {
    below = h.below;
    within = h.within;
    leaves = left_on_halt s.world s.world.out other
        h.leaves;
    once = h.once;
    pending = h.pending;
  };
}) move

pub line_tracked : (s next : Session) (event : line.Call) (told : line_reply.Reply) → IsTracked s.world
    → CallMove s event told next → IsTracked next.world
line_tracked s next event told h move = by_call IsTracked s next event told
    (λ own. desk_tracked s next event told h own move)
    (commits_follow IsTracked s next told s.world.out refl h
    (λ e. record { below = h.below; within = h.within; leaves = refl; once = h.once; pending = h.pending })
    (λ e. record { below = h.below; within = h.within; leaves = refl; once = h.once; pending = h.pending })) move

event_tracked : (s next : Session) (event : Event) (told : Reply) → IsTracked s.world → EventMove s event told next
    → IsTracked next.world
event_tracked s next (on.Line event) told h (line, is, move) = line_tracked s next event line h move
event_tracked s next (on.Look asked) told h (is, same) = subst (λ (t : Session). IsTracked t.world) (sym same) h

-- Runs

pub run_tracked : (s : Session) (events : List Event) (replies : List Reply) (last : Session) (n : ℕ)
    → IsTracked s.world → EventRun s events replies last n → IsTracked last.world
run_tracked s [] [] last n h (same, none) = subst (λ (t : Session). IsTracked t.world) (sym same) h
run_tracked s (event ∷ events) (told ∷ replies) last n h (next, later, makes, run, is) = run_tracked next events replies
    last later (event_tracked s next event told h makes) run
run_tracked s [] (told ∷ replies) last n h run = absurd run
run_tracked s (event ∷ events) [] last n h run = absurd run

-- nothing waits or is under way in an opening
pub opening_tracked : (w : World) → IsOpening w → IsTracked w
opening_tracked w (history, clock, is) = subst IsTracked (sym is) (record {
  below = omega arith;
  within = omega arith;
  leaves = inl refl;
  once = λ d. omega (arith, none d);
  pending = λ d some. absurd (omega (arith, none d, some));
})
  where
    none : (d : ℕ) → outcomes (records_of (drop (length history) history)) d ≡ 0
    none d = ap (λ (steps : History). outcomes (records_of steps) d) (drop-length history)

pub attempts_pending_again : AreAttemptsPendingAgain
attempts_pending_again w events replies last n opening run = pending_again last.world
    (run_tracked (session_of w) events replies last n (opening_tracked w opening) run)
