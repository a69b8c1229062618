use Rattle.std.proofs.Common.{ℕ, inl, refl, subst}
use Rattle.intake_shed.specs.Done.{IsDone, change_status, change_text}
use Rattle.intake_shed.proofs.answering.answer_change.Goals as goal

pub returns-in-Ok-clause-answers : goal.returns-in-Ok-clause-answers
returns-in-Ok-clause-answers g c =
    let change = c.in-Ok.confirmed in
    let reply = c.change_reply.result in
    let done : IsDone (change_status c.args.command) (change_text change.seq) reply =
    subst (λ (s : ℕ). IsDone s (change_text change.seq) reply) c.change_status-status.ensures
    (subst (λ (n : ℕ). IsDone c.change_status-status.result (change_text n) reply) c.seq.ensures.value
    c.change_reply.ensures)
    in
    inl (change, refl, c.in-Ok.ensures.change, c.in-Ok.ensures.seen, done)

pub returns-in-Ok-clause-logged : goal.returns-in-Ok-clause-logged
returns-in-Ok-clause-logged g c = (tt, tt, c.seq.ensures.logged)

pub returns-in-Err-clause-logged : goal.returns-in-Err-clause-logged
returns-in-Err-clause-logged g c = (tt, tt, tt)
