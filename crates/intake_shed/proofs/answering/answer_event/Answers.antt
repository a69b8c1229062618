use Rattle.intake_shed.proofs.answering.answer_event.Goals as goal

pub returns-in-Ok-clause-logged : goal.returns-in-Ok-clause-logged
returns-in-Ok-clause-logged g c = (c.seq.ensures.logged, tt, tt)

pub returns-in-Err-clause-logged : goal.returns-in-Err-clause-logged
returns-in-Err-clause-logged g c = (tt, tt, tt)
