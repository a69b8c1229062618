use Rattle.std.proofs.Common.{◌≡◌, ◌==◌, ℕ, true, take}
use Rattle.std.specs.Prelude.{filter, unwrap_or}
use Rattle.std.specs.BTreeMap.{get}
use Rattle.std.specs.List.{list_all}
use Rattle.std.specs.Ordering.{nat_cmp}
use Rattle.sound_rows.specs.declared.numbers.Attempt.{Attempt}
use Rattle.sound_rows.specs.Checks.{is_turn, no_progress, progress_of}
use Rattle.sound_rows.proofs.turns.are_in_turn.Given as goal

abbrev pub invariant-loop-attempt : goal.invariant-loop-attempt
invariant-loop-attempt l = record {
  passed : list_all (is_turn l.attempts) (take l.attempt-index l.attempts) ≡ true;
  tells : (d : ℕ) → unwrap_or (get nat_cmp l.so_far d) no_progress ≡ progress_of
      (filter (λ (s : Attempt). s.delivery == d) (take l.attempt-index l.attempts));
}
