use Rattle.desk.proofs.Words.{refl, sym, arith, subst, lt-ltb, le-ltb, MAX_WAITING_OUTCOMES, IsNext, NothingIsReady}
use Rattle.desk.proofs.DeskLaws.{seen}
use Rattle.desk.proofs.ClaimLaws.{full_is_choice, next_is_choice, nothing_is_choice, may_start_next}
use Rattle.desk.proofs.desk.Desk.next.Goals as goal

pub returns-then-live-free_outcomes-clause-choice : goal.returns-then-live-free_outcomes-clause-choice
returns-then-live-free_outcomes-clause-choice g c = λ w h.
    sym (full_is_choice c.args.at (seen c.self.view_is h)
    (le-ltb _ MAX_WAITING_OUTCOMES
    (omega (arith, c.live.ensures.count, c.free_outcomes.ensures.free, c.if-live-free_outcomes.true))))

pub returns-in-Some-clause-choice : goal.returns-in-Some-clause-choice
returns-in-Some-clause-choice g c = λ w h.
    let place = lt-ltb _ MAX_WAITING_OUTCOMES
    (omega (arith, c.live.ensures.count, c.free_outcomes.ensures.free, c.if-live-free_outcomes.false)) in
    sym (next_is_choice c.args.at c.in-Some.field-0-0 c.in-Some.delivery (seen c.self.view_is h) c.self.invariant.tied
    place
    (subst (λ now. IsNext c.self.inside.queue now c.in-Some.field-0-0 c.in-Some.delivery) c.seconds.ensures.number
    c.in-Some.ensures.first))

pub returns-in-Some-clause-ready : goal.returns-in-Some-clause-ready
returns-in-Some-clause-ready g c =
    let place = lt-ltb _ MAX_WAITING_OUTCOMES
    (omega (arith, c.live.ensures.count, c.free_outcomes.ensures.free, c.if-live-free_outcomes.false)) in
    may_start_next c.seconds.result c.in-Some.field-0-0 c.in-Some.delivery c.self.view_is c.self.invariant.tied place
    c.in-Some.ensures.first

pub returns-in-None-clause-choice : goal.returns-in-None-clause-choice
returns-in-None-clause-choice g c = λ w h.
    let place = lt-ltb _ MAX_WAITING_OUTCOMES
    (omega (arith, c.live.ensures.count, c.free_outcomes.ensures.free, c.if-live-free_outcomes.false)) in
    sym (nothing_is_choice c.args.at (seen c.self.view_is h) c.self.invariant.tied place
    (subst (NothingIsReady c.self.inside.queue) c.seconds.ensures.number (c.in-None.ensures.none.0 refl)))
