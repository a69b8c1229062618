use Rattle.desk.proofs.Words.{arith, Option, ℕ, Ok, length, ap, subst, DeskValue, Checks, all_records, settled_records}
use Rattle.desk.proofs.Words.{submit, submit_faults}
use Rattle.desk.proofs.DeskLaws.{replies, hands_on, seen, submit_refused, submit_repeated, accept_moves, new_refused}
use Rattle.desk.proofs.PublishLaws.{kept_if_known}
use Rattle.desk.proofs.desk.Desk.submit.Goals as goal

pub check_submit-requires : goal.check_submit-requires
check_submit-requires g c = record {
  kept = λ w h. kept_if_known w c.args.name c.args.id c.find-known.result
      (c.find-known.ensures.stands (all_records w) (length (settled_records w))
      (seen c.self.view_is h).books.of_deliveries);
}

pub returns-in_err-check_submit-clause-moves : goal.returns-in_err-check_submit-clause-moves
returns-in_err-check_submit-clause-moves g c =
    let a = c.args in
    replies a.self.now a.self.now (λ w. submit w a.now a.name a.id a.body) _ _
    (submit_refused a.self.now a.now a.name a.id a.body c.find-known.result _
    (λ w h. c.find-known.ensures.stands (all_records w) (length (settled_records w))
    (seen c.self.view_is h).books.of_deliveries) c.in_err-check_submit.ensures.faults)
    (hands_on c.from_residual.result _ c.from_residual.ensures.1)

pub returns-in-Some-clause-moves : goal.returns-in-Some-clause-moves
returns-in-Some-clause-moves g c =
    let a = c.args in
    submit_repeated a.self.now _ a.now a.name a.id a.body c.in-Some.seq c.moment-at.result _
    (λ w h. c.in-Some.ensures.stands (all_records w) (length (settled_records w))
    (seen c.self.view_is h).books.of_deliveries)
    (subst (λ (o : Option ℕ). Checks a.self.now (λ w. submit_faults w a.name o a.body) (Ok _)) c.in-Some.is
    c.in_ok-check_submit.ensures.faults)
    c.moment-at.ensures
    (ap (λ (v : DeskValue). record v { clock = c.moment-at.result }) c.self.view_is)

pub returns-in_err-check_new_submit-clause-moves : goal.returns-in_err-check_new_submit-clause-moves
returns-in_err-check_new_submit-clause-moves g c =
    let a = c.args in
    replies a.self.now a.self.now (λ w. submit w a.now a.name a.id a.body) _ _
    (new_refused a.self.now a.now a.name a.id a.body _ _
    (λ w h. c.in_default.ensures.stands (all_records w) (length (settled_records w))
    (seen c.self.view_is h).books.of_deliveries)
    (subst (λ (o : Option ℕ). Checks a.self.now (λ w. submit_faults w a.name o a.body) (Ok _)) c.in_default.is
    c.in_ok-check_submit.ensures.faults)
    c.in_err-check_new_submit.ensures.faults)
    (hands_on c.from_residual-in_err-check_new_submit.result _ c.from_residual-in_err-check_new_submit.ensures.1)

pub returns-clause-moves : goal.returns-clause-moves
returns-clause-moves g c =
    let a = c.args in
    let checked = c.in_ok-check_new_submit.ensures in
    let made = c.stage_accept.ensures in
    replies a.self.now _ (λ w. submit w a.now a.name a.id a.body) _ _
    (accept_moves a.self.now _ a.now a.name a.id a.body c.moment-at.result _ _ c.stage_accept.result checked.faults
    (subst (λ (o : Option ℕ). Checks a.self.now (λ w. submit_faults w a.name o a.body) (Ok _)) c.in_default.is
    c.in_ok-check_submit.ensures.faults)
    (omega (arith, checked.room))
    (λ w h. c.in_default.ensures.stands (all_records w) (length (settled_records w))
    (seen c.self.view_is h).books.of_deliveries)
    c.moment-at.ensures made.ticket made.staged made.limits made.err)
    c.or_out_of_memory.ensures
