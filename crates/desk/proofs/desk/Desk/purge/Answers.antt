use Rattle.desk.proofs.Words.{Ok, Purge, ap, arith, changes, purge_faults, stages, sym, ◌∙◌}
use Rattle.desk.specs.declared.command.Command.TheVariants as command
use Rattle.desk.proofs.DeskLaws.{count_is, makes, passes, stands_with_purged}
use Rattle.desk.proofs.desk.Desk.purge.Goals as goal

pub returns-clause-moves : goal.returns-clause-moves
returns-clause-moves g c =
    let a = c.args in
    let checked = c.in_ok-check_purge.ensures in
    let made = c.stage_purge.ensures in
    let entry = Purge a.before in
    passes a.self.now _ purge_faults (λ w. changes w (command.Purge a.before)) _ _ checked.faults
    (makes a.self.now _ (λ w. stages w entry) c.stage_purge.result (λ w h. (
      ap Ok (λ i. record { seq = (sym (count_is h) ∙ sym made.ticket) i }),
      stands_with_purged a.self.now _ w a.before h (omega (arith, checked.room)) made.limits made.staged made.stands,
    )))
