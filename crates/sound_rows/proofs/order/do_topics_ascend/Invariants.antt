use Rattle.std.proofs.Common.{◌<◌, ◌-◌, length}
use Rattle.std.specs.List.{AllAdjacentBelow}
use Rattle.sound_rows.specs.declared.numbers.Topic.{Topic}
use Rattle.sound_rows.proofs.order.do_topics_ascend.Given as goal

abbrev pub invariant-loop-index : goal.invariant-loop-index
invariant-loop-index l = record {
  some : 0 < l.index;
  next : AllAdjacentBelow (λ (x y : Topic). x.set_by < y.set_by)
      l.topics l.index;
}

abbrev pub decreases-loop-index : goal.decreases-loop-index
decreases-loop-index l = length l.topics - l.index
