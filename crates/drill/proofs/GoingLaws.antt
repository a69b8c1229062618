-- A world that goes on from another one, and what survives a crash of it.
use Rattle.std.proofs.Common.{◌≡◌, ◌≤◌, ◌+◌, ◌-◌, ℕ, false, List, [], ◌∷◌, ◌++◌, length, take, refl, sym, ap, subst}
use Rattle.std.proofs.Common.{◌∙◌, arith, length-append, append-nil, append_assoc}
use Rattle.std.proofs.lemmas.List.{take-append-le}
use Rattle.std.proofs.Math.Seq.{take-append-add}
use Rattle.relay_types.specs.declared.record.Record.{Record}
use Rattle.relay_types.specs.Records.{records_of}
use Rattle.script_lines.specs.declared.call.Call as line
use Rattle.script_lines.specs.declared.reply.Reply as line_reply
use Rattle.desk.specs.World.{World, all_records}
use Rattle.recovery.specs.Left.{LeavesBy, records_of_first}
use Rattle.drill.specs.declared.events.Event.{Event}
use Rattle.drill.specs.declared.events.Event.TheVariants as on
use Rattle.drill.specs.declared.events.Reply.{Reply}
use Rattle.drill.specs.Cores.{is_commit}
use Rattle.drill.specs.Events.{HasFirst, KeepsFirst, EventMove, EventRun}
use Rattle.drill.specs.Moves.{Session}
use Rattle.drill.specs.Runs.{CallMove}
use Rattle.drill.specs.BesideCommit.{HasCountsInOrder}
use Rattle.drill.specs.Worlds.{ArePrefixAfterCrash, GoesOn, IsOpening}
use Rattle.drill.proofs.CoreLaws.{Goes}
use Rattle.drill.proofs.FollowLaws.{by_call, commits_follow, follows, sealed_within}
use Rattle.drill.proofs.BatchLaws.{flatten_both, split_at}
use Rattle.drill.proofs.VaultLaws.{each_left}

-- Going on

-- nothing came, and no fewer steps are settled
stays_on : (w next : World) → next.history ≡ w.history → w.settled ≤ next.settled → GoesOn w next
stays_on w next same settled = record { more = []; history = same ∙ sym (append-nil w.history); settled = settled }

goes_on_by : (w mid next : World) → GoesOn w mid → GoesOn mid next → GoesOn w next
goes_on_by w mid next a b = record {
  more = a.more ++ b.more;
  history = b.history ∙ ap (λ h. h ++ b.more) a.history ∙ append_assoc w.history a.more b.more;
  settled = omega (arith, a.settled, b.settled);
}

pub counts_go : (w next : World) → Goes w next → HasCountsInOrder w → HasCountsInOrder next
counts_go w next g marks = (
  omega (arith, marks.0, g.settled, g.sealed),
  omega
      (arith, marks.1, g.sealed, ap length g.history, length-append w.history g.more),
)

-- the world goes on, and its marks are in order
abbrev GoesInOrder : World → World → Type 0
GoesInOrder w next = GoesOn w next × HasCountsInOrder next

pub line_goes_on : (s next : Session) (event : line.Call) (told : line_reply.Reply) → HasCountsInOrder s.world
    → CallMove s event told next → GoesInOrder s.world next.world
line_goes_on s next event told marks move = by_call (GoesInOrder s.world) s next event told desk
    (commits_follow (GoesInOrder s.world) s next told s.world.out refl stays
    (λ e. (stays_on s.world _ refl (omega arith), marks)) (λ e. (stays_on s.world _ refl (omega arith), marks)))
    move
  where
    stays : GoesInOrder s.world s.world
    stays = (stays_on s.world s.world refl (omega arith), marks)

    desk : is_commit event ≡ false → GoesInOrder s.world next.world
    desk own = follows (GoesInOrder s.world) s next event told own (record {
      stays = stays;
      goes = λ other g. (
        record { more = g.more; history = g.history; settled = omega (arith, g.settled) },
        counts_go
            s.world other g marks,
      );
      seals = λ going free. (
        stays_on s.world _ refl (omega arith),
        (omega arith, sealed_within s.world (omega (arith, marks.0, marks.1))),
      );
      settles = λ e. (stays_on s.world _ refl marks.0, (omega arith, marks.1));
      unseals = λ e. (stays_on s.world _ refl (omega arith), (omega arith, omega (arith, marks.0, marks.1)));
      halts = λ other. (stays_on s.world _ refl (omega arith), marks);
    }) move

pub event_goes_on : (s next : Session) (event : Event) (told : Reply) → HasCountsInOrder s.world
    → EventMove s event told next → GoesInOrder s.world next.world
event_goes_on s next (on.Line event) told marks (line, is, move) = line_goes_on s next event line marks move
event_goes_on s next (on.Look asked) told marks (is, same) = subst (λ (t : Session). GoesInOrder s.world t.world)
    (sym same) (stays_on s.world s.world refl (omega arith), marks)

pub run_goes_on : (events : List Event) (replies : List Reply) (s last : Session) (n : ℕ) → HasCountsInOrder s.world
    → EventRun s events replies last n → GoesInOrder s.world last.world
run_goes_on [] [] s last n marks (same, none) = subst (λ (t : Session). GoesInOrder s.world t.world) (sym same)
    (stays_on s.world s.world refl (omega arith), marks)
run_goes_on (event ∷ events) (told ∷ replies) s last n marks (next, later, makes, rest, is) =
    let here = event_goes_on s next event told marks makes in
    let behind = run_goes_on events replies next last later here.1 rest in
    (goes_on_by s.world next.world last.world here.0 behind.0, behind.1)
run_goes_on [] (told ∷ replies) s last n marks run = absurd run
run_goes_on (event ∷ events) [] s last n marks run = absurd run

pub opening_counts : (w : World) → IsOpening w → HasCountsInOrder w
opening_counts w (history, clock, is) = subst HasCountsInOrder (sym is) (omega arith, omega arith)

-- What stays in its place

pub same_first_records : (w next : World) (n : ℕ) → GoesOn w next → n ≤ length (all_records w)
    → take n (all_records next) ≡ take n (all_records w)
same_first_records w next n g below =
    ap (λ h. take n (records_of h)) g.history ∙ ap (take n) (flatten_both w.history g.more)
    ∙ take-append-le n (all_records w) (records_of g.more) below

-- Whatever survives a crash begins with what was there in the opening.
pub opening_is_prefix : (w next : World) → IsOpening w → GoesOn w next → HasCountsInOrder next → LeavesBy next.out next
    → ArePrefixAfterCrash (all_records w) next
opening_is_prefix w next (history, clock, is) g marks leaves = each_left (λ steps. (more : List Record)
    × (records_of_first next steps ≡ all_records w ++ more)) next next.out leaves
    (at next.settled (omega (arith, all, g.settled))) (at next.sealed (omega (arith, all, g.settled, marks.0)))
  where
    all : w.settled ≡ length w.history
    all = ap (λ (v : World). v.settled) is ∙ sym (ap (λ (v : World). length v.history) is)

    at : (steps : ℕ) → length w.history ≤ steps → (more : List Record)
        × (records_of_first next steps ≡ all_records w ++ more)
    at steps within =
        let reaches : steps ≡ length w.history + (steps - length w.history) = omega (arith, within) in (
          records_of (take (steps - length w.history) g.more),
          (λ i. records_of (take (reaches i) (g.history i)))
              ∙ ap records_of (take-append-add w.history g.more (steps - length w.history))
              ∙ flatten_both w.history (take (steps - length w.history) g.more),
        )

-- What is settled is in whatever survives a crash, in its place.
pub settled_survive_crash : (w : World) (n : ℕ) (records : List Record) → LeavesBy w.out w
    → n ≤ length (records_of_first w w.settled) → n ≤ length (records_of_first w w.sealed) → take n (all_records w)
    ≡ take n records → KeepsFirst w n records
settled_survive_crash w n records leaves settled sealed same = each_left
    (λ steps. HasFirst n records (records_of_first w steps)) w
    w.out leaves (at w.settled settled) (at w.sealed sealed)
  where
    at : (steps : ℕ) → n ≤ length (records_of_first w steps) → HasFirst n records (records_of_first w steps)
    at steps within = (
      within,
      sym (take-append-le n (records_of_first w steps) _ within)
          ∙ ap (take n) (split_at steps w.history) ∙ same,
    )
