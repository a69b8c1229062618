use Rattle.std.proofs.Common.{sym, subst}
use Rattle.vegas.specs.Estimators.{Explains}
use Rattle.vegas.proofs.LastLaws.{holds-room, holds-full, room-explains, full-explains}
use Rattle.vegas.proofs.estimator.Estimator.sample.Goals as goal

pub invariant_of-self : goal.invariant_of-self
invariant_of-self c =
    holds-full c.self.inside.last c.push_back.new.self c.self.invariant
    (c.push_back.ensures.items, c.in-Some.ensures.value) c.requires
    c.state_after-self-inside.ensures.bounded c.state_after-self-inside.ensures.follows
    c.state_after-self-inside-in-Some.ensures.bounded c.state_after-self-inside-in-Some.ensures.follows

pub invariant_of-self-in_default : goal.invariant_of-self-in_default
invariant_of-self-in_default c =
    holds-room c.self.inside.last c.push_back.new.self c.self.invariant
    (c.push_back.ensures.items, c.in_default.ensures.value) c.requires
    c.state_after-self-inside.ensures.bounded c.state_after-self-inside.ensures.follows

pub returns-in-Some-clause-explains : goal.returns-in-Some-clause-explains
returns-in-Some-clause-explains c = λ xs s.
    full-explains c.self.inside.last c.push_back.new.self _ c.in-Some.oldest c.self.invariant
    (c.push_back.ensures.items, c.in-Some.ensures.value)
    c.state_after-self-inside-in-Some.ensures.follows xs (subst (λ e. Explains e xs) (sym c.self.view_is) s)

pub returns-in_default-clause-explains : goal.returns-in_default-clause-explains
returns-in_default-clause-explains c = λ xs s.
    room-explains c.self.inside.last c.push_back.new.self _ c.self.invariant
    (c.push_back.ensures.items, c.in_default.ensures.value)
    xs (subst (λ e. Explains e xs) (sym c.self.view_is) s)
