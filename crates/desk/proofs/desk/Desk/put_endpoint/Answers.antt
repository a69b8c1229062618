use Rattle.desk.proofs.Words.{Put, arith, leb-false, with_put, put_faults, change, changes}
use Rattle.desk.specs.declared.command.Command.TheVariants.{PutEndpoint}
use Rattle.desk.proofs.DeskLaws.{absent, refuses, passes, replies, hands_on, stages_or_lacks, stands_with_put}
use Rattle.desk.proofs.desk.Desk.put_endpoint.Goals as goal

pub returns-in_err-check_put-clause-moves : goal.returns-in_err-check_put-clause-moves
returns-in_err-check_put-clause-moves g c =
    let a = c.args in
    replies a.self.now a.self.now (λ w. change w (PutEndpoint a.name a.target a.max a.secrets)) _ _
    (refuses a.self.now (λ w. put_faults w a.name) (λ w. changes w (PutEndpoint a.name a.target a.max a.secrets)) _
    c.in_err-check_put.ensures.faults)
    (hands_on c.from_residual.result _ c.from_residual.ensures.1)

pub returns-clause-moves : goal.returns-clause-moves
returns-clause-moves g c =
    let a = c.args in
    let checked = c.in_ok-check_put.ensures in
    let made = c.stage_put.ensures in
    let command = PutEndpoint a.name a.target a.max a.secrets in
    replies a.self.now _ (λ w. change w (PutEndpoint a.name a.target a.max a.secrets)) _ _
    (passes a.self.now _ (λ w. put_faults w a.name) (λ w. changes w command) _ _ checked.faults
    (stages_or_lacks a.self.now _ (with_put a.self.now a.name a.target a.max a.secrets)
    (Put a.name a.target a.max a.secrets) c.stage_put.result
    (λ w h. stands_with_put a.self.now w a.name a.target a.max a.secrets h (omega (arith, checked.room)) checked.unknown
    (leb-false _ _ (absent (put_faults w a.name) _ (checked.faults w h)).1.1.0))
    made.ticket made.staged made.limits made.err))
    c.or_out_of_memory.ensures
