-- What was shown to be settled stays, over restarts.
use Rattle.std.proofs.Common.{◌≡◌, ◌≤◌, ℕ, List, [], ◌∷◌, ◌++◌, length, take, inl, inr, refl, sym, ap, subst, ◌∙◌}
use Rattle.std.proofs.Common.{arith, length-append}
use Rattle.std.proofs.Math.Seq.{take-length}
use Rattle.std.proofs.lemmas.List.{take-append-le}
use Rattle.std.specs.List.{AllByRecursion}
use Rattle.sqlite.specs.Store.{Ghosts}
use Rattle.spool.specs.Vaults.{VaultValue}
use Rattle.relay_types.specs.declared.record.Record.{Record}
use Rattle.relay_types.specs.Records.{History, records_of}
use Rattle.desk.specs.World.{World, all_records}
use Rattle.desk.specs.Desks.{DeskValue}
use Rattle.recovery.specs.Left.{records_of_first}
use Rattle.recovery.specs.Reopenings.{AreOpenedAt, AreOpenedAtOne, opening_of}
use Rattle.drill.specs.declared.events.Event.{Event}
use Rattle.drill.specs.declared.events.Reply.{Reply}
use Rattle.drill.specs.Events.{HasFirst, KeepsFirst, EventRun}
use Rattle.drill.specs.Moves.{Session, begun}
use Rattle.drill.specs.AfterCrashes.{CallsKeepWhatWasShown, HasRecordsLeft, RestartsKeepWhatWasShown, RunsAfterCrashes}
use Rattle.drill.specs.AfterCrashes.{RunsGoOn, StopsKeepWhatWasShown}
use Rattle.drill.specs.BesideCommit.{HasCountsInOrder}
use Rattle.drill.specs.Worlds.{IsOpening, session_of}
use Rattle.drill.proofs.AttemptLaws.{IsTracked, opening_tracked, run_tracked}
use Rattle.drill.proofs.GoingLaws.{event_goes_on, opening_counts, run_goes_on, same_first_records}
use Rattle.drill.proofs.RestartLaws.{after_lines, ordered, shorter}
use Rattle.drill.proofs.ShownLaws.{IsOrdered, event_keeps, event_shown, first_kept, settled_count}

pub go_on : RunsGoOn
go_on s last events replies n marks run = (run_goes_on events replies s last n marks run).0

-- what a run shows is settled at its end, and so is what was settled before
run_settles : (events : List Event) (replies : List Reply) (s last : Session) (n : ℕ) → HasCountsInOrder s.world
    → EventRun s events replies last n → (n ≤ settled_count last.world)
    × (settled_count s.world ≤ settled_count last.world)
run_settles [] [] s last n marks (same, none) =
    (omega (arith, none), omega (arith, ap (λ (t : Session). settled_count t.world) same))
run_settles (event ∷ events) (told ∷ replies) s last n marks (next, later, makes, rest, is) =
    let order : IsOrdered s.world = record { below = marks.0; within = marks.1 } in
    let behind = run_settles events replies next last later (event_goes_on s next event told marks makes).1 rest in (
      omega (arith, is, behind.0, behind.1, event_shown s next event told order makes),
      omega
          (arith, behind.1, event_keeps s next event told order makes),
    )
run_settles [] (told ∷ replies) s last n marks run = absurd run
run_settles (event ∷ events) [] s last n marks run = absurd run

-- the first so many of these records are settled, in their places
record HasSettled (w : World) (n : ℕ) (records : List Record) : Type 0 where
  tracked : IsTracked w
  settled : n ≤ settled_count w
  same : take n (all_records w) ≡ take n records

kept : (w : World) (n : ℕ) (records : List Record) → HasSettled w n records → KeepsFirst w n records
kept w n records h = first_kept w n records (record { below = h.tracked.below; within = h.tracked.within })
    h.tracked.leaves h.settled h.same

opened_with : (w opening : World) (numbers : List ℕ) (n : ℕ) (records : List Record)
    → AllByRecursion (λ steps. HasFirst n records (records_of_first w steps)) numbers → HasRecordsLeft w numbers opening
    → HasFirst n records (all_records opening)
opened_with w opening [] n records first none = absurd none
opened_with w opening (steps ∷ others) n records first (inl is) = subst (HasFirst n records) (sym is) first.0
opened_with w opening (steps ∷ others) n records first (inr other) = opened_with w opening others n records first.1
    other

-- in an opening all is settled
opening_settled : (w : World) → IsOpening w → settled_count w ≡ length (all_records w)
opening_settled w (history, clock, is) =
    subst (λ (v : World). settled_count v ≡ length (all_records v)) (sym is)
    (ap (λ (h : History). length (records_of h)) (take-length history))

-- a run keeps what its opening has
run_has : (w : World) (events : List Event) (replies : List Reply) (last : Session) (m n : ℕ) (records : List Record)
    → IsOpening w → EventRun (session_of w) events replies last m → HasFirst n records (all_records w)
    → HasSettled last.world n records
run_has w events replies last m n records opening run (within, same) = record {
  tracked = run_tracked (session_of w) events replies last m (opening_tracked w opening) run;
  settled = omega (
    arith,
    within,
    opening_settled w opening,
    (run_settles events replies (session_of w) last m (opening_counts w opening) run).1,
  );
  same = same_first_records w last.world n
      (run_goes_on events replies (session_of w) last m (opening_counts w opening) run).0 within ∙ same;
}

runs_have : (runs : List (List Event × List Reply)) (w last : World) (n : ℕ) (records : List Record)
    → HasSettled w n records → RunsAfterCrashes w runs last → HasSettled last n records
runs_have [] w last n records h same = subst (λ v. HasSettled v n records) (sym same) h
runs_have (run ∷ runs) w last n records h (opening, next, m, is, one, runs_so, rest) =
    runs_have runs next.world last n records
    (run_has opening run.0 run.1 next m n records is runs_so
    (opened_with w opening w.left n records (kept w n records h) one)) rest

pub restarts_keep : RestartsKeepWhatWasShown
restarts_keep w last events replies first n runs opening run again = kept last n (all_records first.world)
    (runs_have runs first.world last n (all_records first.world) (record {
      tracked = run_tracked (session_of w) events replies first n (opening_tracked w opening) run;
      settled = (run_settles events replies (session_of w) first n (opening_counts w opening) run).0;
      same = refl;
    }) again)

pub stops_keep : StopsKeepWhatWasShown
stops_keep lines more replies others first last n later run rest =
    let before = after_lines begun lines replies first n (opening_tracked begun.world ([], 0, refl)) run in
    let behind = after_lines first more others last later before.tracked rest in
    first_kept last.world n (all_records first.world) (ordered last behind.tracked) behind.tracked.leaves
    (omega (arith, before.shown, behind.settled))
    (shorter n (settled_count first.world) (all_records last.world) (all_records first.world) before.shown behind.same)

-- By what the calls say

opened_at : {S : Type 0} (g : Ghosts S) (desk : DeskValue) (vault : VaultValue S) (w : World) (numbers : List ℕ) (n : ℕ)
    (records : List Record) → AllByRecursion (λ steps. HasFirst n records (records_of_first w steps)) numbers
    → AreOpenedAtOne g desk vault w numbers → (history : History) × AreOpenedAt g desk vault history
    × HasFirst n records (records_of history)
opened_at g desk vault w [] n records first none = absurd none
opened_at g desk vault w (steps ∷ others) n records first (inl opened) = (take steps w.history, opened, first.0)
opened_at g desk vault w (steps ∷ others) n records first (inr other) = opened_at g desk vault w others n records
    first.1 other

-- the prefix of whatever survives a crash has them, so that has them too
has_first_by_prefix : (w : World) (numbers : List ℕ) (n : ℕ) (records front : List Record) → HasFirst n records front
    → AllByRecursion (λ steps. (more : List Record) × (records_of_first w steps ≡ front ++ more)) numbers
    → AllByRecursion (λ steps. HasFirst n records (records_of_first w steps)) numbers
has_first_by_prefix w [] n records front has none = tt
has_first_by_prefix w (steps ∷ others) n records front has ((more, is), rest) = (
  (
    omega (arith, has.0, ap length is, length-append front more),
    ap (take n) is ∙ take-append-le n front more has.0
        ∙ has.1,
  ),
  has_first_by_prefix w others n records front has rest,
)

pub calls_keep : {L S : Type 0} (g : Ghosts S) → CallsKeepWhatWasShown L g
calls_keep g s events more to later desk vault one opened runs =
    let (history, stands, has) = opened_at g desk vault one.last.world one.last.world.left one.acknowledged
    (all_records one.last.world) one.kept opened in
    let opening : World = opening_of history in
    let two = runs opening (history, opening.clock, refl) stands.0 stands.1 in (
      opening,
      two,
      has_first_by_prefix two.last.world two.last.world.left one.acknowledged (all_records one.last.world)
          (records_of history) has two.begins,
    )
