use Rattle.std.proofs.Common.{subst}
use Rattle.desk.specs.Queries.{shown}
use Rattle.status.specs.Pages.{endpoint_text}
use Rattle.intake_shed.specs.Pages.{GivesEndpoint}
use Rattle.intake_shed.proofs.pages.endpoint_reply.Goals as goal

pub returns-in-Some-clause-value : goal.returns-in-Some-clause-value
returns-in-Some-clause-value g c =
    subst (λ found. GivesEndpoint found c.done.result) c.in-Some.ensures.value
    (c.done.ensures (endpoint_text (shown c.in-Some.page)) c.endpoint_text.ensures)

pub returns-in-Some-clause-stands : goal.returns-in-Some-clause-stands
returns-in-Some-clause-stands g c = λ w stands.
    subst (λ found. GivesEndpoint found c.done.result) (c.in-Some.ensures.stands w stands)
    (c.done.ensures (endpoint_text (shown c.in-Some.page)) c.endpoint_text.ensures)
