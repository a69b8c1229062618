use Rattle.std.proofs.Common.{◌∙◌, length, ap, sym, subst, arith, deque_len, deque_capacity}
use Rattle.group_commit.specs.Steps.{IsQueue}
use Rattle.group_commit.proofs.QueueLaws.{outcome_gone, request_fits, request_gone}
use Rattle.group_commit.proofs.queue.Queue.pop.Goals as goal

pub invariant_of-self-then-is_outcome : goal.invariant_of-self-then-is_outcome
invariant_of-self-then-is_outcome c =
    outcome_gone c.self.inside.requests c.self.inside.outcomes (deque_len c.self.inside.steps)
    (deque_capacity c.self.inside.steps) (deque_len c.pop_front.new.self) (deque_capacity c.pop_front.new.self)
    c.in-Some.step c.pop_front.new.self.items
    (subst (IsQueue c.self.inside.requests c.self.inside.outcomes (deque_len c.self.inside.steps)
    (deque_capacity c.self.inside.steps)) c.in-Some.ensures.items c.self.invariant)
    (sym c.is_outcome.ensures ∙ c.if-is_outcome.true) (omega (arith, c.pop_front.ensures.len, c.in-Some.ensures.len))
    (omega (arith, c.pop_front.ensures.capacity))

pub overflow_sub-self-else-is_outcome : goal.overflow_sub-self-else-is_outcome
overflow_sub-self-else-is_outcome c =
    request_fits c.self.inside.requests c.self.inside.outcomes (deque_len c.self.inside.steps)
    (deque_capacity c.self.inside.steps) (deque_len c.pop_front.new.self) (deque_capacity c.pop_front.new.self)
    c.in-Some.step c.pop_front.new.self.items (length c.records.result.now)
    (subst (IsQueue c.self.inside.requests c.self.inside.outcomes (deque_len c.self.inside.steps)
    (deque_capacity c.self.inside.steps)) c.in-Some.ensures.items c.self.invariant)
    (sym c.is_outcome.ensures ∙ c.if-is_outcome.false) (ap length c.records.ensures.records)

pub invariant_of-self-else-is_outcome : goal.invariant_of-self-else-is_outcome
invariant_of-self-else-is_outcome c =
    request_gone c.self.inside.requests c.self.inside.outcomes (deque_len c.self.inside.steps)
    (deque_capacity c.self.inside.steps) (deque_len c.pop_front.new.self) (deque_capacity c.pop_front.new.self)
    c.in-Some.step c.pop_front.new.self.items (length c.records.result.now)
    (subst (IsQueue c.self.inside.requests c.self.inside.outcomes (deque_len c.self.inside.steps)
    (deque_capacity c.self.inside.steps)) c.in-Some.ensures.items c.self.invariant)
    (sym c.is_outcome.ensures ∙ c.if-is_outcome.false) (ap length c.records.ensures.records)
    (omega (arith, c.pop_front.ensures.len, c.in-Some.ensures.len)) (omega (arith, c.pop_front.ensures.capacity))
