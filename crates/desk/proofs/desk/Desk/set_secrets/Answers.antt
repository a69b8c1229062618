use Rattle.desk.proofs.Words.{Secrets, arith, with_secrets, set_faults, change, changes}
use Rattle.desk.specs.declared.command.Command.TheVariants.{SetSecrets}
use Rattle.desk.proofs.DeskLaws.{refuses, passes, replies, hands_on, stages_or_lacks, stands_with_secrets}
use Rattle.desk.proofs.desk.Desk.set_secrets.Goals as goal

pub returns-in_err-check_set-clause-moves : goal.returns-in_err-check_set-clause-moves
returns-in_err-check_set-clause-moves g c =
    let a = c.args in
    replies a.self.now a.self.now (λ w. change w (SetSecrets a.name a.secrets)) _ _
    (refuses a.self.now (λ w. set_faults w a.name) (λ w. changes w (SetSecrets a.name a.secrets)) _
    c.in_err-check_set.ensures.faults)
    (hands_on c.from_residual.result _ c.from_residual.ensures.1)

pub returns-clause-moves : goal.returns-clause-moves
returns-clause-moves g c =
    let a = c.args in
    let checked = c.in_ok-check_set.ensures in
    let made = c.stage_secrets.ensures in
    replies a.self.now _ (λ w. change w (SetSecrets a.name a.secrets)) _ _
    (passes a.self.now _ (λ w. set_faults w a.name) (λ w. changes w (SetSecrets a.name a.secrets)) _ _ checked.faults
    (stages_or_lacks a.self.now _ (with_secrets a.self.now a.name a.secrets) (Secrets a.name a.secrets) _
    (λ w h. stands_with_secrets a.self.now w a.name a.secrets h (omega (arith, checked.room)) checked.known)
    made.ticket made.staged made.limits made.err))
    c.or_out_of_memory.ensures
