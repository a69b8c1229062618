use Rattle.desk.proofs.Words.{arith, change, changes, subscribe_faults}
use Rattle.desk.specs.declared.command.Command.TheVariants.{SetSubscribed}
use Rattle.desk.proofs.DeskLaws.{refuses, passes, replies, hands_on, subscribes_or_lacks}
use Rattle.desk.proofs.desk.Desk.set_subscribed.Goals as goal

pub returns-in_err-check_subscribe-clause-moves : goal.returns-in_err-check_subscribe-clause-moves
returns-in_err-check_subscribe-clause-moves g c =
    let a = c.args in
    replies a.self.now a.self.now (λ w. change w (SetSubscribed a.topic a.name a.flag)) _ _
    (refuses a.self.now (λ w. subscribe_faults w a.topic a.name) (λ w. changes w (SetSubscribed a.topic a.name a.flag))
    _ c.in_err-check_subscribe.ensures.faults)
    (hands_on c.from_residual.result _ c.from_residual.ensures.1)

pub returns-clause-moves : goal.returns-clause-moves
returns-clause-moves g c =
    let a = c.args in
    let checked = c.in_ok-check_subscribe.ensures in
    let made = c.stage_subscribed.ensures in
    replies a.self.now _ (λ w. change w (SetSubscribed a.topic a.name a.flag)) _ _
    (passes a.self.now _ (λ w. subscribe_faults w a.topic a.name) (λ w. changes w (SetSubscribed a.topic a.name a.flag))
    _ _ checked.faults
    (subscribes_or_lacks a.self.now _ a.topic a.name a.flag _ (omega (arith, checked.room)) checked.known checked.free
    made.ticket made.staged made.stands made.limits made.err))
    c.or_out_of_memory.ensures
