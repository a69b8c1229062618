use Rattle.std.proofs.Common.{◌∙◌, drop, ap}
use Rattle.group_commit.proofs.StepLaws.{drop_drop}
use Rattle.group_commit.proofs.queue.Queue.drop_first.Goals as goal

pub loop-preserved : goal.loop-preserved
loop-preserved c = c.pop.ensures ∙ ap (drop 1) c.loop.invariant ∙ drop_drop c.loop.counter 1 c.args.self.now
