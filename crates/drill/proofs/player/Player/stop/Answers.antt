use Rattle.std.proofs.Common.{◌∙◌, ap, subst, sym}
use Rattle.drill.specs.Replays.{IsStateClean}
use Rattle.drill.proofs.StopLaws.{reopening_taken}
use Rattle.drill.proofs.player.Player.stop.Goals.{in-Open+in-Ok, in-Open+in-Err, in_default}
use Rattle.drill.proofs.player.Player.stop.Goals as goal

pub returns-clause-takes : goal.returns-clause-takes
returns-clause-takes g c = λ clean. elim c.match-replace.branch [
  | in-Open+in-Ok w ↦
      let now = c.replace-2.ensures.after ∙ ap (λ p. p.0) w.state-is in
      rw (ap (λ p. p.1) w.state-is)
      (reopening_taken g.S.Store c.args.self.now.state _ w.in-Open.runner w.in-Ok.runner w.in-Ok.reply
      (sym c.replace.ensures.value ∙ w.in-Open.is) now
      (w.in-Ok.ensures.opens (subst (IsStateClean g.S.Store) now clean)))
  | in-Open+in-Err w ↦ rw (ap (λ p. p.1) w.state-is) tt
  | in_default w ↦ rw (ap (λ p. p.1) w.state-is) tt
]
