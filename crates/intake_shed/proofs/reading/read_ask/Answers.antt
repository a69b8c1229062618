use Rattle.std.proofs.Common.{inl, ap, Ok}
use Rattle.intake_shed.proofs.OneReason.{one_asked, asked_not_refused, not_read, refuses_with, lacks_memory}
use Rattle.intake_shed.proofs.reading.read_ask.Goals as goal

pub returns-in-Ok-clause-asks : goal.returns-in-Ok-clause-asks
returns-in-Ok-clause-asks c = λ what h. inl
    (ap Ok (one_asked c.args.ask.now c.args.fresh c.in-Ok.asked what c.in-Ok.ensures.asked h))

pub returns-in-Ok-clause-refuses : goal.returns-in-Ok-clause-refuses
returns-in-Ok-clause-refuses c = λ why h. absurd
    (asked_not_refused c.args.ask.now c.args.fresh c.in-Ok.asked why c.in-Ok.ensures.asked h)

pub returns-in-Err-clause-asks : goal.returns-in-Err-clause-asks
returns-in-Err-clause-asks c = λ what h.
    lacks_memory c.args.ask.now c.args.fresh what c.reply.result
    (not_read c.args.ask.now c.in-Err.fault c.reply.result c.reply.ensures c.in-Err.ensures.refused) h

pub returns-in-Err-clause-refuses : goal.returns-in-Err-clause-refuses
returns-in-Err-clause-refuses c = λ why h.
    refuses_with c.args.ask.now c.reply.result why
    (not_read c.args.ask.now c.in-Err.fault c.reply.result c.reply.ensures c.in-Err.ensures.refused) h
