use Rattle.std.proofs.Common.{sym, subst, arith, ◌<◌, deque_len, deque_capacity}
use Rattle.relay_types.specs.Records.{History}
use Rattle.group_commit.specs.declared.limits.TheConstants.{MAX_WAITING_OUTCOMES}
use Rattle.group_commit.specs.Steps.{outcomes_in}
use Rattle.group_commit.proofs.QueueLaws.{outcome_more}
use Rattle.group_commit.proofs.queue.Queue.push_outcome.Goals as goal

pub invariant_of-self : goal.invariant_of-self
invariant_of-self c =
    outcome_more c.self.inside.requests c.self.inside.outcomes (deque_len c.self.inside.steps)
    (deque_capacity c.self.inside.steps) (deque_len c.push_back_reserved.new.self)
    (deque_capacity c.push_back_reserved.new.self)
    c.self.inside.steps.items c.push_back_reserved.new.self.items c.args.step c.self.invariant c.requires.kind
    (subst (λ (steps : History). outcomes_in steps < MAX_WAITING_OUTCOMES) (sym c.self.view_is) c.requires.place)
    c.push_back_reserved.ensures.items (omega (arith, c.push_back_reserved.ensures.len))
    (omega (arith, c.push_back_reserved.ensures.capacity))
