use Rattle.std.proofs.Common.{refl}
use Rattle.drill.proofs.StopLaws.{call_taken}
use Rattle.drill.proofs.player.Player.call.Goals as goal

pub returns-in_ok-call-in-Open-clause-takes : goal.returns-in_ok-call-in-Open-clause-takes
returns-in_ok-call-in-Open-clause-takes g c =
    λ clean. call_taken g.S.Store c.args.self.now.state _ c.in-Open.runner c.call.new.self c.args.event
    c.in_ok-call-in-Open.field-0 c.in-Open.is refl (c.in_ok-call-in-Open.ensures.answers clean)
