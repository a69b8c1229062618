use Rattle.std.proofs.Common.{ap, ◌∙◌}
use Rattle.drill.proofs.CoreLaws.{stands_with_room, kept_with_room}
use Rattle.drill.proofs.runner.Runner.call.Goals as goal

pub returns-clause-answers : goal.returns-clause-answers
returns-clause-answers g c = λ clean s on. c.carry_out.ensures.answers clean s (record {
  stands = stands_with_room c.args.self.now.core _ s c.in_ok-reserve.ensures.same on.stands;
  holds = on.holds;
  mark = ap (λ d. d.waiting.mark) c.in_ok-reserve.ensures.same.desk ∙ on.mark;
})

pub invariant_of-self : goal.invariant_of-self
invariant_of-self g c =
    record { stands = kept_with_room c.args.self.now.core _ c.reserve.ensures.same c.args.self.now.stands }

pub carry_out-requires-clause-core : goal.carry_out-requires-clause-core
carry_out-requires-clause-core g c = kept_with_room c.args.self.now.core _ c.in_ok-reserve.ensures.same
    c.args.self.now.stands
