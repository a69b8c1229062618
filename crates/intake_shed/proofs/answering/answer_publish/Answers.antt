use Rattle.intake_shed.proofs.answering.answer_publish.Goals as goal

pub returns-in-Ok-clause-logged : goal.returns-in-Ok-clause-logged
returns-in-Ok-clause-logged g c = (tt, c.tickets.ensures.logged, tt)

pub returns-in-Err-clause-logged : goal.returns-in-Err-clause-logged
returns-in-Err-clause-logged g c = (tt, tt, tt)
