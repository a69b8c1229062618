use Rattle.std.proofs.Common.{refl}
use Rattle.drill.proofs.BatchLaws.{answers_taken_back}
use Rattle.drill.proofs.calls.Core.unseal.Goals as goal

pub returns-in-Ok-clause-answers : goal.returns-in-Ok-clause-answers
returns-in-Ok-clause-answers g c =
    answers_taken_back c.args.self.now _ c.in-Batch.batch _ _ c.in-Batch.ensures.value c.from-from.ensures
    c.upto-to.ensures.number c.in-Ok.ensures.moves c.in-Ok.ensures.mark c.in-Ok.ensures.live c.in-Ok.ensures.out
    refl refl c.replace.ensures.after
