use Rattle.desk.proofs.Words.{◌≡◌, refl, false, true, with_halt, IsHeldOf}
use Rattle.group_commit.specs.Turns as waiting
use Rattle.desk.proofs.TurnLaws.{comes_back, held_is, halt_turns}
use Rattle.desk.proofs.desk.Desk.halt.Goals as goal

pub returns-in_err-abandon-clause-moves : goal.returns-in_err-abandon-clause-moves
returns-in_err-abandon-clause-moves g c =
    comes_back c.self.view_is c.abandon.new.self (waiting.IsHeldOf c.self.inside.waiting c.args.held)
    (λ v w. IsHeldOf v.waiting.mark w c.args.held) with_halt c.from_residual.result c.from_residual.ensures.0
    (λ w h. held_is c.args.held h) (λ is. let wrong : false ≡ true = c.in_err-abandon.ensures.turn.1 is in cc)
    c.in_err-abandon.ensures.err

pub returns-clause-moves : goal.returns-clause-moves
returns-clause-moves g c = halt_turns c.self.view_is c.abandon.new.self c.args.held
    (c.in_ok-abandon.ensures.turn.0 refl) c.in_ok-abandon.ensures.waits
