use Rattle.std.proofs.Common.{arith, refl}
use Rattle.sound_rows.specs.declared.numbers.Topic.{Topic}
use Rattle.sound_rows.proofs.SearchLaws.{ascends}
use Rattle.sound_rows.proofs.order.do_topics_ascend.Goals as goal

pub returns : goal.returns
returns c = (
  λ _. ascends (λ (x : Topic). x.set_by) c.args.topics.now
      (λ k d h. c.loop-index.invariant.next k d (omega (arith, h, c.loop-index-test.false))),
  λ _. refl,
)
