use Rattle.desk.proofs.Words.{DeskValue, Enabled, Ok, StandsFor, ap, arith, changes, set_faults, stages, subst, sym}
use Rattle.desk.proofs.Words.{with_record, ◌∙◌}
use Rattle.desk.specs.declared.command.Command.TheVariants.{SetEnabled}
use Rattle.desk.proofs.DeskLaws.{count_is, makes, passes, stands_with_enabled}
use Rattle.desk.proofs.desk.Desk.set_enabled.Goals as goal

pub returns-clause-moves : goal.returns-clause-moves
returns-clause-moves g c =
    let a = c.args in
    let checked = c.in_ok-check_set.ensures in
    let made = c.stage_enabled.ensures in
    let entry = Enabled a.name a.flag in
    passes a.self.now _ (λ w. set_faults w a.name) (λ w. changes w (SetEnabled a.name a.flag)) _ _ checked.faults
    (makes a.self.now _ (λ w. stages w entry) c.stage_enabled.result (λ w h.
    let stands = stands_with_enabled _ w a.name a.flag h (omega (arith, checked.room)) checked.known made.limits in (
      ap Ok (λ i. record { seq = (sym (count_is h) ∙ sym made.ticket) i }),
      subst (λ (v : DeskValue). StandsFor v (with_record w entry)) (sym made.staged) stands,
    )))
