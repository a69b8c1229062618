-- The pages that a request asks for, of the settled records.
use Rattle.std.specs.Prelude.{◌≡◌, Bool, true, false, List, Option, Some, None, codes}
use Rattle.relay_types.specs.Values.{Text}
use Rattle.relay_types.specs.declared.record.Record.{Record}
use Rattle.delivery_book.specs.declared.row.Row.{Row}
use Rattle.desk.specs.declared.pages.Totals.{Totals}
use Rattle.desk.specs.Desks.{DeskValue}
use Rattle.desk.specs.OwnBooks as kept
use Rattle.desk.specs.Queries.{EndpointShown, endpoint_page, event_page, totals}
use Rattle.status.specs.Pages.{totals_text, endpoint_text, event_text}
use Rattle.intake_shed.specs.Done.{IsDone}
use Rattle.intake_shed.specs.Replies.{refused}
use Rattle.intake_shed.specs.declared.ask.Asked.{Asked}
use Rattle.intake_shed.specs.declared.ask.Asked.TheVariants as asked
use Rattle.intake_shed.specs.declared.reply.Reply.{Reply}

-- whether a page is asked for, and no change
abbrev pub asks_for_page : Asked → Bool
asks_for_page (asked.Change command) = false
asks_for_page (asked.Post name id body) = false
asks_for_page (asked.Publish topic id body) = false
asks_for_page asked.Totals = true
asks_for_page (asked.Endpoint name) = true
asks_for_page (asked.Event name id) = true

-- the page is given, or an allocation for it failed
abbrev pub GivesPage : (text : Text) → Reply → Type 0
GivesPage text reply = IsDone 200 text reply

-- there is no page of an endpoint that isn't settled or of its events, and none of an event that
-- isn't settled
abbrev pub GivesEndpoint : Option EndpointShown → Reply → Type 0
GivesEndpoint None reply = reply ≡ refused 404 (codes "UnknownEndpoint")
GivesEndpoint (Some endpoint) reply = GivesPage (endpoint_text endpoint) reply

abbrev pub GivesEvent : Option EndpointShown → Option Row → Reply → Type 0
GivesEvent None event reply = reply ≡ refused 404 (codes "UnknownEndpoint")
GivesEvent (Some endpoint) None reply = reply ≡ refused 404 (codes "UnknownEvent")
GivesEvent (Some endpoint) (Some event) reply = GivesPage (event_text event) reply

-- the reply with the page that is asked for, of these records; a change has no such reply
abbrev pub IsPageReply : (records : List Record) → Asked → Reply → Type 0
IsPageReply records asked.Totals reply = GivesPage (totals_text (totals records)) reply
IsPageReply records (asked.Endpoint name) reply = GivesEndpoint (endpoint_page records name) reply
IsPageReply records (asked.Event name id) reply =
    GivesEvent (endpoint_page records name) (event_page records name id) reply
IsPageReply records what reply = ⊥

-- The same by what a desk keeps, whether or not it represents a world.
abbrev pub IsDeskPageReply : DeskValue → Asked → Reply → Type 0
IsDeskPageReply desk asked.Totals reply = GivesPage (totals_text (kept.totals desk)) reply
IsDeskPageReply desk (asked.Endpoint name) reply = GivesEndpoint (kept.endpoint_page desk name) reply
IsDeskPageReply desk (asked.Event name id) reply = GivesEvent (kept.endpoint_page desk name)
    (kept.event_page desk name id)
    reply
IsDeskPageReply desk what reply = ⊥
