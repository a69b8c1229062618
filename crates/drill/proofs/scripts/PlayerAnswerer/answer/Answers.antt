use Rattle.std.proofs.Common.{refl, subst}
use Rattle.script_lines.specs.declared.call.Line.TheVariants.{Call, Stop}
use Rattle.script_lines.specs.Replies.{reply_text}
use Rattle.script_lines.specs.Script.{IsLine}
use Rattle.drill.proofs.StopLaws.{on_ok}
use Rattle.drill.proofs.scripts.PlayerAnswerer.answer.Goals as goal

pub returns-in-Call-clause-answers : goal.returns-in-Call-clause-answers
returns-in-Call-clause-answers g c = λ clean.
    on_ok _ _ c.call.result
    (λ reply takes. (
      reply_text reply,
      refl,
      (
        Call c.in-Call.event,
        reply,
        subst (IsLine c.args.line.now) c.in-Call.is c.in_ok-event.ensures.stands,
        takes,
        refl,
      ),
    )) (c.call.ensures.takes clean)

pub returns-in-Stop-clause-answers : goal.returns-in-Stop-clause-answers
returns-in-Stop-clause-answers g c = λ clean.
    on_ok _ _ c.stop.result
    (λ reply takes. (
      reply_text reply,
      refl,
      (Stop, reply, subst (IsLine c.args.line.now) c.in-Stop.is c.in_ok-event.ensures.stands, takes, refl),
    ))
    (c.stop.ensures.takes clean)
