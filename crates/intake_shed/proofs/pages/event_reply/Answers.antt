use Rattle.std.proofs.Common.{◌≡◌, true, not, Option, Some, None, option_map, is_some, ap, ◌∙◌, subst}
use Rattle.delivery_book.specs.declared.row.Row.{Row}
use Rattle.desk.specs.Queries.{EndpointShown, shown}
use Rattle.status.specs.Pages.{event_text}
use Rattle.intake_shed.specs.declared.reply.Reply.{Reply}
use Rattle.intake_shed.specs.Pages.{GivesPage, GivesEvent}
use Rattle.intake_shed.proofs.pages.event_reply.Goals as goal

-- the endpoint has a page, and so has the event
gives_event : {A : Type 0} (f : A → EndpointShown) (page : Option A) (found : Option EndpointShown) (row : Row)
    (event : Option Row) (reply : Reply)
    → is_some page ≡ true → option_map f page ≡ found → Some row ≡ event → GivesPage (event_text row) reply
    → GivesEvent found event reply
gives_event f None found row event reply there e same given = cc
gives_event f (Some page) found row event reply there e same given =
    subst (λ o. GivesEvent o event reply) e (subst (λ o. GivesEvent (Some (f page)) o reply) same given)

pub returns-in-Some-clause-value : goal.returns-in-Some-clause-value
returns-in-Some-clause-value g c =
    gives_event shown c.endpoint_page.result _ c.in-Some.row _ c.done.result
    (c.is_none.ensures ∙ ap not c.if-is_none.false) c.endpoint_page.ensures.value c.in-Some.ensures.value
    (c.done.ensures (event_text c.in-Some.row) c.event_text.ensures)

pub returns-in-Some-clause-stands : goal.returns-in-Some-clause-stands
returns-in-Some-clause-stands g c = λ w stands.
    gives_event shown c.endpoint_page.result _ c.in-Some.row _ c.done.result
    (c.is_none.ensures ∙ ap not c.if-is_none.false) (c.endpoint_page.ensures.stands w stands)
    (c.in-Some.ensures.stands w stands)
    (c.done.ensures (event_text c.in-Some.row) c.event_text.ensures)
