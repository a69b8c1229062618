use Rattle.std.proofs.Common.{◌≡◌, ◌∙◌, None, length, take, ap, sym, subst, rules}
use Rattle.spool.specs.Batches.{upto_of}
use Rattle.group_commit.specs.Waits.{WaitingValue, IsWaiting}
use Rattle.group_commit.specs.Turns.{IsReceiptOf}
use Rattle.group_commit.proofs.WaitLaws.{waits_settled, receipt_front}
use Rattle.group_commit.proofs.waiting.Waiting.settle.Goals as goal

pub invariant_of-self : goal.invariant_of-self
invariant_of-self c =
    let turn : IsReceiptOf c.args.self.now c.args.receipt = search rules in
    let front = receipt_front c.args.self.now c.args.receipt turn in
    let count : c.len.result ≡ length c.args.receipt.steps = search rules in
    let from : c.args.receipt.from ≡ c.self.inside.settled = front.0 ∙ ap (λ (w : WaitingValue). w.settled)
    (sym c.self.view_is) in
    let steps : c.args.receipt.steps ≡ take c.len.result c.self.inside.queue = front.1
    ∙ ap (λ (w : WaitingValue). take (length c.args.receipt.steps) w.waiting) (sym c.self.view_is)
    ∙ ap (λ n. take n c.self.inside.queue) (sym count) in
    subst (λ queue. IsWaiting c.upto-self-inside.result c.self.inside.records queue None) (sym c.drop_first.ensures)
    (waits_settled c.self.inside.settled c.self.inside.records c.upto-self-inside.result c.len.result
    c.self.inside.queue c.self.inside.out c.self.invariant
    (c.upto-self-inside.ensures.number ∙ ap (λ n. upto_of n c.args.receipt.steps) from
    ∙ ap (upto_of c.self.inside.settled) steps))
