use Rattle.std.proofs.Common.{◌∙◌, ap}
use Rattle.desk.specs.World.{settled_records}
use Rattle.desk.specs.Queries.{event_page}
use Rattle.drill.specs.Moves.{event_reply}
use Rattle.drill.proofs.CoreLaws.{answers_look}
use Rattle.drill.proofs.calls.Core.show.Goals as goal

pub returns : goal.returns
returns g c = answers_look c.args.self.now
    (λ s. event_reply (event_page (settled_records s.world) c.args.name c.args.id.now)) _
    (λ s on. c.event_reply.ensures ∙ ap event_reply (c.event_page.ensures.stands s.world on.desk))
