use Rattle.std.proofs.Common.{◌∙◌, ap}
use Rattle.desk.specs.Claims.{limits}
use Rattle.drill.specs.Moves.{limits_reply}
use Rattle.drill.proofs.CoreLaws.{answers_look}
use Rattle.drill.proofs.calls.Core.limits.Goals as goal

pub returns : goal.returns
returns g c = answers_look c.args.self.now (λ s. limits_reply (limits s.world c.args.name)) _
    (λ s on. c.limits_reply.ensures ∙ ap limits_reply (c.limits.ensures.stands s.world on.desk))
