use Rattle.std.proofs.Common.{sym, ap, ◌∙◌}
use Rattle.drill.specs.Cores.{given_of}
use Rattle.drill.specs.declared.held.Held.TheVariants as held
use Rattle.drill.proofs.BatchLaws.{answers_halted, answers_not_halted, holds_receipt}
use Rattle.drill.proofs.calls.Core.halt.Goals as goal

pub returns-in_default-clause-answers : goal.returns-in_default-clause-answers
returns-in_default-clause-answers g c =
    answers_halted c.args.self.now c.hand_over-reply.new.self c.replace.result _ c.hand_over-reply.result
    c.replace.ensures.value c.replace.ensures.after (sym c.parts-receipt.ensures.receipt ∙ c.in_default.is)
    (rw c.parts-receipt.ensures.given at c.hand_over-reply.ensures.halts) c.hand_over-reply.ensures.mark
    c.hand_over-reply.ensures.live (rw c.parts-receipt.ensures.given at c.hand_over-reply.ensures.gone)
    (ap (λ r. r.permits.items) c.hand_over-reply.ensures.same) (ap (λ r. r.tickets) c.hand_over-reply.ensures.same)

pub returns-in-Some-clause-answers : goal.returns-in-Some-clause-answers
returns-in-Some-clause-answers g c =
    let was = holds_receipt c.replace.result c.in-Some.receipt (sym c.parts-receipt.ensures.receipt ∙ c.in-Some.is) in
    let given = c.parts-receipt.ensures.given ∙ ap given_of was in
    rw c.hold.ensures
    (answers_not_halted c.args.self.now c.hand_over-reply.new.self held.Nothing c.in-Some.receipt _
    (sym was ∙ c.replace.ensures.value) (rw given at c.hand_over-reply.ensures.refused)
    (rw given at c.hand_over-reply.ensures.kept)
    c.hand_over-reply.ensures.mark (ap (λ r. r.permits.items) c.hand_over-reply.ensures.same)
    (ap (λ r. r.tickets) c.hand_over-reply.ensures.same))
