use Rattle.std.proofs.Common.{Ok, Err, refl}
use Rattle.desk.specs.Moves.{change}
use Rattle.drill.specs.declared.tickets.AnyTicket.TheVariants.{Command}
use Rattle.drill.proofs.CoreLaws.{answers_staged, goes_change}
use Rattle.drill.proofs.calls.Core.command.Goals as goal

pub returns-in-Ok-clause-answers : goal.returns-in-Ok-clause-answers
returns-in-Ok-clause-answers g c = rw (c.keep.ensures.reply, c.keep.ensures.same)
    (answers_staged c.args.self.now _ Command (λ w. change w c.args.command) (Ok c.in-Ok.ticket)
    (λ w. goes_change w c.args.command) c.in-Ok.ensures.moves c.in-Ok.ensures.mark c.in-Ok.ensures.out refl refl
    c.keep.ensures.kept)

pub returns-in-Err-clause-answers : goal.returns-in-Err-clause-answers
returns-in-Err-clause-answers g c = rw c.refusal_reply.ensures
    (answers_staged c.args.self.now _ Command (λ w. change w c.args.command) (Err c.in-Err.refusal)
    (λ w. goes_change w c.args.command) c.in-Err.ensures.moves c.in-Err.ensures.mark c.in-Err.ensures.out refl refl
    (λ tickets keeps. keeps))
