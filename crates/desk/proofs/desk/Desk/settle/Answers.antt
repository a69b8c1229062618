use Rattle.desk.proofs.Words.{WaitingValue, ap, arith, record_count, ◌∙◌, ◌≡◌, refl, false, true, length}
use Rattle.desk.proofs.Words.{with_sealed_settled, IsReceiptOf}
use Rattle.group_commit.specs.Turns as waiting
use Rattle.desk.proofs.TurnLaws.{comes_back, receipt_is, is_desk_settled, settle_turns}
use Rattle.desk.proofs.TurnLaws.{settle_counts}
use Rattle.desk.proofs.TurnLaws.{records_settled}
use Rattle.desk.proofs.desk.Desk.settle.Goals as goal

pub returns-in_err-settled-clause-moves : goal.returns-in_err-settled-clause-moves
returns-in_err-settled-clause-moves g c =
    comes_back c.self.view_is c.settle.new.self (waiting.IsReceiptOf c.self.inside.waiting c.args.receipt)
    (λ v w. IsReceiptOf v.waiting.mark w c.args.receipt) with_sealed_settled c.from_residual.result
    c.from_residual.ensures.0
    (λ w h. receipt_is c.args.receipt h) (λ is. let wrong : false ≡ true = c.in_err-settled.ensures.turn.1 is in cc)
    c.in_err-settled.ensures.err

pub settle_to-requires-2 : goal.settle_to-requires-2
settle_to-requires-2 g c =
    let is = c.in_ok-settled.ensures.records in
    let settled = c.in_ok-settled.ensures.settled in
    let counted = ap record_count settled ∙ records_settled c.self.inside.waiting (length c.args.receipt.steps) in
    record {
      above = omega (arith, is, ap (λ (w : WaitingValue). w.settled) settled, c.self.invariant.deliveries_settled);
      within = omega (arith, is, counted, c.self.invariant.tied.room.numbers);
      queued = (c.self.inside.pool, c.self.invariant.tied.queued);
    }

pub invariant_of-self-2 : goal.invariant_of-self-2
invariant_of-self-2 g c =
    let walk = c.settle_to-2.ensures in
    is_desk_settled (length c.args.receipt.steps) c.in_ok-settled.settled.records c.self.invariant
    c.settle_to.ensures.value walk.settled walk.next
    c.in_ok-settled.ensures.settled c.in_ok-settled.ensures.records walk.waits walk.names c.settle_to.ensures.flags
    walk.rooms walk.queued

pub returns-clause-moves : goal.returns-clause-moves
returns-clause-moves g c =
    settle_turns c.self.view_is c.settle_to.new.self c.settle_to-2.new.deliveries c.settle.new.self c.args.receipt
    c.in_ok-settled.settled.records (c.in_ok-settled.ensures.turn.0 refl)
    c.in_ok-settled.ensures.settled c.in_ok-settled.ensures.records c.settle_to.ensures.stands
    c.settle_to-2.ensures.stands

pub returns-clause-records : goal.returns-clause-records
returns-clause-records g c =
    settle_counts c.self.view_is c.settle.new.self c.args.receipt c.in_ok-settled.settled.records
    (c.in_ok-settled.ensures.turn.0 refl) c.in_ok-settled.ensures.settled c.in_ok-settled.ensures.records
