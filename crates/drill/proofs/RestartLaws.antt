-- What a script's run keeps over its stops.
use Rattle.std.proofs.Common.{◌≡◌, ◌≤◌, ℕ, List, [], ◌∷◌, length, take, inl, inr, refl, sym, ap, subst, ◌∙◌, arith}
use Rattle.std.proofs.Common.{length-append}
use Rattle.std.proofs.Math.Seq.{take-length}
use Rattle.std.proofs.lemmas.List.{take-take}
use Rattle.std.specs.List.{AllByRecursion}
use Rattle.relay_types.specs.declared.record.Record.{Record}
use Rattle.relay_types.specs.Records.{History, records_of}
use Rattle.script_lines.specs.declared.call.Line.{Line}
use Rattle.script_lines.specs.declared.call.Line.TheVariants.{Call, Stop}
use Rattle.script_lines.specs.declared.reply.Reply.{Reply}
use Rattle.desk.specs.World.{World, all_records, settled_records, waiting_records}
use Rattle.recovery.specs.Left.{records_of_first}
use Rattle.recovery.specs.Reopenings.{opening_of}
use Rattle.drill.specs.Moves.{Session, begun}
use Rattle.drill.specs.Events.{HasFirst, SurvivesCrash}
use Rattle.drill.specs.Restarts.{OpensAgain, LineMove, shown_of, LineRun}
use Rattle.drill.specs.Unrecorded.{ArePendingAgain}
use Rattle.drill.proofs.AttemptLaws.{IsTracked, line_tracked, opening_tracked, pending_again}
use Rattle.drill.proofs.GoingLaws.{line_goes_on, same_first_records}
use Rattle.drill.proofs.ShownLaws.{IsOrdered, line_keeps, line_shown, settled_count, settled_kept}
use Rattle.drill.proofs.BatchLaws.{split_at}

settled_in_all : (w : World) → settled_count w ≤ length (all_records w)
settled_in_all w = omega (
  arith,
  ap length (split_at w.settled w.history),
  length-append (settled_records w)
      (waiting_records w),
)

-- what is alike so far is so up to an earlier place
pub shorter : (n m : ℕ) (some others : List Record) → n ≤ m → take m some ≡ take m others → take n some ≡ take n others
shorter n m some others below same = sym (take-take n m some below) ∙ ap (take n) same ∙ take-take n m others below

pub ordered : (s : Session) → IsTracked s.world → IsOrdered s.world
ordered s h = record { below = h.below; within = h.within }

-- what one line keeps of the records that are settled, and what it shows of them
record AfterLine (s : Session) (line : Line) (told : Reply) (next : Session) : Type 0 where
  tracked : IsTracked next.world
  settled : settled_count s.world ≤ settled_count next.world
  shown : shown_of s.world line told ≤ settled_count next.world
  same : take (settled_count s.world) (all_records next.world) ≡ take (settled_count s.world) (all_records s.world)

-- an opening on steps that survived a stop
opens_again : (s : Session) (left : List ℕ) (told : Reply) (next : Session)
    → AllByRecursion (λ steps. HasFirst (settled_count s.world) (all_records s.world) (records_of_first s.world steps))
    left
    → OpensAgain s left told next → AfterLine s Stop told next
opens_again s [] told next kept none = absurd none
opens_again s (steps ∷ left) told next kept (inl (said, is)) =
    let first : History = take steps s.world.history in
    subst (AfterLine s Stop told) (sym is) (record {
      tracked = opening_tracked (opening_of first) (first, (opening_of first).clock, refl);
      settled = omega (arith, kept.0.0, ap (λ (h : History). length (records_of h)) (take-length first));
      shown = omega arith;
      same = kept.0.1;
    })
opens_again s (steps ∷ left) told next kept (inr others) = opens_again s left told next kept.1 others

after_line : (s : Session) (line : Line) (told : Reply) (next : Session) → IsTracked s.world → LineMove s line told next
    → AfterLine s line told next
after_line s (Call event) told next h move = record {
  tracked = line_tracked s next event told h move;
  settled = line_keeps s next event told (ordered s h) move;
  shown = line_shown s next event told (ordered s h) move;
  same = same_first_records s.world next.world (settled_count s.world)
      (line_goes_on s next event told (h.below, h.within) move).0 (settled_in_all s.world);
}
after_line s Stop told next h opens = opens_again s s.world.left told next
    (settled_kept s.world (settled_count s.world) (ordered s h) h.leaves (omega arith)) opens

-- what all lines keep, and what they show
pub record AfterLines (s : Session) (last : Session) (acknowledged : ℕ) : Type 0 where
  pub tracked : IsTracked last.world
  pub settled : settled_count s.world ≤ settled_count last.world
  pub shown : acknowledged ≤ settled_count last.world
  pub same : take (settled_count s.world) (all_records last.world) ≡ take (settled_count s.world) (all_records s.world)

pub after_lines : (s : Session) (lines : List Line) (replies : List Reply) (last : Session) (n : ℕ) → IsTracked s.world
    → LineRun s lines replies last n → AfterLines s last n
after_lines s [] [] last n h (same, none) = subst (λ t. AfterLines s t n) (sym same)
    (record { tracked = h; settled = omega arith; shown = omega (arith, none); same = refl })
after_lines s (line ∷ lines) (told ∷ replies) last n h (next, later, takes, rest, is) =
    let here = after_line s line told next h takes in
    let behind = after_lines next lines replies last later here.tracked rest in
    record {
      tracked = behind.tracked;
      settled = omega (arith, here.settled, behind.settled);
      shown = omega (arith, here.shown, behind.settled, behind.shown, is);
      same = shorter (settled_count s.world) (settled_count next.world) (all_records last.world)
          (all_records next.world) here.settled behind.same ∙ here.same;
    }
after_lines s [] (told ∷ replies) last n h run = absurd run
after_lines s (line ∷ lines) [] last n h run = absurd run

-- At the end of a script's run each record that was shown to be settled is kept, and each attempt
-- without an outcome is pending again.
pub kept_over_stops : (lines : List Line) (replies : List Reply) (last : Session) (n : ℕ)
    → LineRun begun lines replies last n → SurvivesCrash last.world n × ArePendingAgain last.world
kept_over_stops lines replies last n run =
    let all = after_lines begun lines replies last n (opening_tracked begun.world ([], 0, refl)) run in (
      settled_kept last.world n (ordered last all.tracked) all.tracked.leaves all.shown,
      pending_again last.world
          all.tracked,
    )
