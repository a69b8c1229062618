use Rattle.std.proofs.Common.{Ok, Err, refl}
use Rattle.desk.specs.Moves.{submit}
use Rattle.drill.specs.declared.tickets.AnyTicket.TheVariants.{Submission}
use Rattle.drill.proofs.CoreLaws.{answers_staged, goes_submit}
use Rattle.drill.proofs.calls.Core.submit.Goals as goal

pub returns-in-Ok-clause-answers : goal.returns-in-Ok-clause-answers
returns-in-Ok-clause-answers g c = rw (c.keep.ensures.reply, c.keep.ensures.same)
    (answers_staged c.args.self.now _ Submission (λ w. submit w c.args.now c.args.name c.args.id c.args.body)
    (Ok c.in-Ok.ticket) (λ w. goes_submit w c.args.now c.args.name c.args.id c.args.body)
    c.in-Ok.ensures.moves c.in-Ok.ensures.mark c.in-Ok.ensures.out refl refl c.keep.ensures.kept)

pub returns-in-Err-clause-answers : goal.returns-in-Err-clause-answers
returns-in-Err-clause-answers g c = rw c.refusal_reply.ensures
    (answers_staged c.args.self.now _ Submission (λ w. submit w c.args.now c.args.name c.args.id c.args.body)
    (Err c.in-Err.refusal) (λ w. goes_submit w c.args.now c.args.name c.args.id c.args.body)
    c.in-Err.ensures.moves c.in-Err.ensures.mark c.in-Err.ensures.out refl refl (λ tickets keeps. keeps))
