use Rattle.desk.proofs.Words.{◌≡◌, Ok, ap, JobValue, claim, DeskValue, Starts}
use Rattle.desk.proofs.DeskLaws.{hands_on, replies}
use Rattle.desk.proofs.ClaimLaws.{checks_halted, checks_spent, claim_rests, claim_lacks, claim_starts, was_made}
use Rattle.desk.proofs.ClaimLaws.{was_refused}
use Rattle.desk.proofs.desk.Desk.claim.Goals as goal

pub returns-in_default-clause-moves : goal.returns-in_default-clause-moves
returns-in_default-clause-moves g c =
    claim_rests c.args.self.now _ c.args.now c.moment-at.result c.in_ok-check.field-0
    (checks_halted (Ok c.in_ok-check.field-0) c.self.view_is c.in_ok-check.ensures) c.moment-at.ensures
    c.in_default.ensures.choice (ap (λ (v : DeskValue). record v { clock = c.moment-at.result }) c.self.view_is)

pub returns-in_err-job-clause-moves : goal.returns-in_err-job-clause-moves
returns-in_err-job-clause-moves g c =
    let old = c.args.self.now in
    replies old c.start.new.self (λ w. claim w c.args.now) _ _
    (claim_lacks old c.start.new.self c.args.now c.moment-at.result c.in_ok-check.field-0 c.in_ok-check-2.field-0
    c.in-Some.delivery c.in_err-job.field-0.0
    (checks_halted (Ok c.in_ok-check.field-0) c.self.view_is c.in_ok-check.ensures) c.moment-at.ensures
    c.in-Some.ensures.choice
    (checks_spent c.are_seqs_spent.result (Ok c.in_ok-check-2.field-0) c.are_seqs_spent.ensures.stands
    c.in_ok-check-2.ensures)
    (was_refused (c.start.new.self ≡ old) c.in_err-job.field-0.0 c.start.result c.in_err-job.ensures
    c.start.ensures.err))
    (hands_on c.from_residual-in_err-job.result _ c.from_residual-in_err-job.ensures.1)

pub returns-clause-moves : goal.returns-clause-moves
returns-clause-moves g c =
    let old = c.args.self.now in
    claim_starts old c.start.new.self c.args.now c.moment-at.result c.in_ok-check.field-0 c.in_ok-check-2.field-0
    c.in-Some.delivery c.in_ok-job.job
    (checks_halted (Ok c.in_ok-check.field-0) c.self.view_is c.in_ok-check.ensures) c.moment-at.ensures
    c.in-Some.ensures.choice
    (checks_spent c.are_seqs_spent.result (Ok c.in_ok-check-2.field-0) c.are_seqs_spent.ensures.stands
    c.in_ok-check-2.ensures)
    (was_made (λ (job : JobValue). Starts old c.moment-at.result c.in-Some.delivery job c.start.new.self)
    c.in_ok-job.job c.start.result c.in_ok-job.ensures c.start.ensures.starts)
