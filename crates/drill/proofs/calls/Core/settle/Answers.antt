use Rattle.std.proofs.Common.{refl}
use Rattle.drill.proofs.BatchLaws.{answers_settled}
use Rattle.drill.proofs.calls.Core.settle.Goals as goal

pub returns-in-Ok-clause-answers : goal.returns-in-Ok-clause-answers
returns-in-Ok-clause-answers g c =
    answers_settled c.args.self.now _ c.in-Receipt.receipt _ c.in-Receipt.ensures.value c.in-Ok.ensures.moves
    c.in-Ok.ensures.records c.in-Ok.ensures.mark c.in-Ok.ensures.live c.in-Ok.ensures.out refl refl
    c.replace.ensures.after
