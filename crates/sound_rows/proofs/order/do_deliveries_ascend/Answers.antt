use Rattle.std.proofs.Common.{arith, refl}
use Rattle.sound_rows.specs.declared.numbers.Delivery.{Delivery}
use Rattle.sound_rows.proofs.SearchLaws.{ascends}
use Rattle.sound_rows.proofs.order.do_deliveries_ascend.Goals as goal

pub returns : goal.returns
returns c = (
  λ _. ascends (λ (x : Delivery). x.seq) c.args.deliveries.now
      (λ k d h. c.loop-index.invariant.next k d (omega (arith, h, c.loop-index-test.false))),
  λ _. refl,
)
