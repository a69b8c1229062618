use Rattle.std.proofs.Common.{length, sym, subst, arith, ◌<◌}
use Rattle.relay_types.specs.Records.{History}
use Rattle.group_commit.proofs.StepLaws.{fitting_some}
use Rattle.group_commit.proofs.queue.Queue.fitting.Goals as goal

pub returns-clause-some : goal.returns-clause-some
returns-clause-some c some enough =
    omega (
      arith,
      c.fitting.ensures,
      fitting_some c.args.most c.self.inside.steps.items c.self.invariant.placed
          (subst (λ (steps : History). 0 < length steps) (sym c.self.view_is) some) enough,
    )
