use Rattle.std.proofs.Common.{refl, ◌∙◌}
use Rattle.drill.proofs.CoreLaws.{answers_published, answers_unpublished}
use Rattle.drill.proofs.calls.Core.publish.Goals as goal

pub returns-in-Ok-clause-answers : goal.returns-in-Ok-clause-answers
returns-in-Ok-clause-answers g c = rw (c.keep_all.ensures.reply, c.keep_all.ensures.same)
    (answers_published c.args.self.now _ c.args.now c.args.topic c.args.id c.args.body c.in-Ok.tickets.items
    c.as_slice.result.now c.in-Ok.ensures.moves c.in-Ok.ensures.mark c.in-Ok.ensures.out refl refl
    (c.as_slice.ensures.value ∙ c.truncate.ensures.items) c.keep_all.ensures.kept)

pub returns-in-Err-clause-answers : goal.returns-in-Err-clause-answers
returns-in-Err-clause-answers g c = rw c.refusal_reply.ensures
    (answers_unpublished c.args.self.now _ c.args.now c.args.topic c.args.id c.args.body c.in-Err.refusal
    c.in-Err.ensures.moves c.in-Err.ensures.mark c.in-Err.ensures.out refl refl refl)
