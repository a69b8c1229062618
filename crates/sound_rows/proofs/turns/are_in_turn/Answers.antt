use Rattle.sound_rows.proofs.TurnLaws.{fails_at, passes_at, tells_at}
use Rattle.sound_rows.proofs.turns.are_in_turn.Goals as goal

pub returns-then-not-takes : goal.returns-then-not-takes
returns-then-not-takes c =
    fails_at c.args.attempts.now c.loop-attempt.attempt-index _ c.loop-attempt.so_far c.progress_at-before.result
    c.takes.result c.requires c.loop-attempt-test.true c.loop-attempt.invariant.tells
    c.progress_at-before.ensures c.takes.ensures c.if-not-takes.true

pub loop-attempt-preserved : goal.loop-attempt-preserved
loop-attempt-preserved c = record {
  passed = passes_at c.args.attempts.now c.loop-attempt.attempt-index _ c.loop-attempt.so_far
      c.progress_at-before.result c.takes.result c.requires c.loop-attempt-test.true c.loop-attempt.invariant.tells
      c.progress_at-before.ensures c.takes.ensures c.if-not-takes.false c.loop-attempt.invariant.passed;
  tells = tells_at c.args.attempts.now c.loop-attempt.attempt-index _ c.loop-attempt.so_far c.progress_at-before.result
      c.takes.result c.requires c.loop-attempt-test.true c.loop-attempt.invariant.tells
      c.progress_at-before.ensures c.takes.ensures c.insert.new.self c.after.result c.after.ensures
      c.in_ok-insert.ensures.updates.0;
}
