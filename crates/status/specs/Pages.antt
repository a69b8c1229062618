-- The pages as JSON texts. A page is the list of its members, in the order of their names.
use Rattle.std.specs.Prelude.{ℕ, List, [], ◌∷◌, Option, Some, None, codes}
use Rattle.serde_json.specs.Data.{Data, null, boolean, number, unsigned, string, object, Members, no_members, member}
use Rattle.serde_json.specs.Written.{compact_text}
use Rattle.relay_types.specs.Values.{Text, Seconds}
use Rattle.relay_types.specs.declared.state.State.{State}
use Rattle.relay_types.specs.declared.state.State.TheVariants.{Pending, Delivered, Exhausted}
use Rattle.delivery_book.specs.declared.row.Row.{Row}
use Rattle.desk.specs.declared.pages.Totals.{Totals}
use Rattle.desk.specs.Queries.{EndpointShown}

-- a name and its value
abbrev pub Member : Type 0
Member = Text × Data

abbrev pub members : List Member → Members
members [] = no_members
members (m ∷ ms) = member m.0 m.1 (members ms)

abbrev pub object_of : List Member → Data
object_of page = object (members page)

abbrev pub natural : ℕ → Data
natural n = number (unsigned n)

abbrev pub or_null : Option ℕ → Data
or_null None = null
or_null (Some n) = natural n

-- All endpoints and events

abbrev pub totals_page : Totals → Data
totals_page page = object_of
    ((codes "delivered", natural page.delivered)
    ∷ (codes "endpoints", natural page.endpoints)
    ∷ (codes "exhausted", natural page.exhausted)
    ∷ (codes "pending", natural page.pending)
    ∷ (codes "records", natural page.records)
    ∷ [])

abbrev pub totals_text : Totals → Text
totals_text page = compact_text (totals_page page)

-- An endpoint

abbrev pub endpoint_page : EndpointShown → Data
endpoint_page page = object_of
    ((codes "delivered", natural page.counts.delivered)
    ∷ (codes "enabled", boolean page.view.enabled)
    ∷ (codes "exhausted", natural page.counts.exhausted)
    ∷ (codes "max", natural page.view.max)
    ∷ (codes "name", string page.view.name)
    ∷ (codes "pending", natural page.counts.pending)
    ∷ (codes "secrets", natural page.view.secrets)
    ∷ (codes "url", string page.view.target)
    ∷ [])

abbrev pub endpoint_text : EndpointShown → Text
endpoint_text page = compact_text (endpoint_page page)

-- An event

-- when the next attempt is due, which a pending delivery alone has
abbrev pub due_of : State → Option Seconds → Option Seconds
due_of Pending due = due
due_of Delivered due = None
due_of Exhausted due = None

abbrev pub state_name : State → Text
state_name Pending = codes "pending"
state_name Delivered = codes "delivered"
state_name Exhausted = codes "exhausted"

abbrev pub event_page : Row → Data
event_page page = object_of
    ((codes "at", natural page.at)
    ∷ (codes "attempts", natural page.attempts)
    ∷ (codes "due", or_null (due_of page.state page.due))
    ∷ (codes "endpoint", string page.endpoint)
    ∷ (codes "id", string page.id)
    ∷ (codes "last_status", or_null page.last_status)
    ∷ (codes "state", string (state_name page.state))
    ∷ [])

abbrev pub event_text : Row → Text
event_text page = compact_text (event_page page)
