use Rattle.std.proofs.Common.{inr}
use Rattle.intake_shed.proofs.AnswerLaws.{answers_what, not_read_lacks, read_not_refused, refused_reply}
use Rattle.intake_shed.proofs.answering.answer.Goals as goal

pub returns-in-Ok-clause-answers : goal.returns-in-Ok-clause-answers
returns-in-Ok-clause-answers g c = inr (c.in-Ok.asked, c.in-Ok.ensures.asked, c.answer_asked.ensures.answers)

pub returns-in-Ok-clause-asks : goal.returns-in-Ok-clause-asks
returns-in-Ok-clause-asks g c = λ what h. answers_what c.in-Ok.asked what _ _ _ _ _ (c.in-Ok.ensures.asks what h)
    c.answer_asked.ensures.answers

pub returns-in-Ok-clause-refuses : goal.returns-in-Ok-clause-refuses
returns-in-Ok-clause-refuses g c = λ why h. absurd (read_not_refused c.in-Ok.asked why (c.in-Ok.ensures.refuses why h))

pub returns-in-Err-clause-asks : goal.returns-in-Err-clause-asks
returns-in-Err-clause-asks g c = λ what h. not_read_lacks what _ c.in-Err.reply (c.in-Err.ensures.asks what h)

pub returns-in-Err-clause-refuses : goal.returns-in-Err-clause-refuses
returns-in-Err-clause-refuses g c = λ why h. refused_reply why c.in-Err.reply (c.in-Err.ensures.refuses why h)

pub returns-in-Err-clause-logged : goal.returns-in-Err-clause-logged
returns-in-Err-clause-logged g c = (tt, tt, tt)
