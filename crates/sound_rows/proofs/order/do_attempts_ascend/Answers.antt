use Rattle.std.proofs.Common.{arith, refl}
use Rattle.sound_rows.specs.declared.numbers.Attempt.{Attempt}
use Rattle.sound_rows.proofs.SearchLaws.{ascends}
use Rattle.sound_rows.proofs.order.do_attempts_ascend.Goals as goal

pub returns : goal.returns
returns c = (
  λ _. ascends (λ (x : Attempt). x.seq) c.args.attempts.now
      (λ k d h. c.loop-index.invariant.next k d (omega (arith, h, c.loop-index-test.false))),
  λ _. refl,
)
