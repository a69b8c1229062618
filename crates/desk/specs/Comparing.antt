-- What the books of two sides tell of what is settled.
use Rattle.std.specs.Prelude.{◌≡◌, IsSome, IsTrue}
use Rattle.relay_types.specs.Values.{Text}
use Rattle.endpoint_book.specs.Book.{View}
use Rattle.endpoint_book.specs.Entries.{is_known}
use Rattle.delivery_book.specs.declared.row.Row.{Row}
use Rattle.delivery_book.specs.Entries.{known_settled_in}
use Rattle.desk.specs.declared.comparing.SettledView.{SettledView}
use Rattle.desk.specs.OwnBooks.{endpoint_in, event_in}

-- both tell the same of the endpoint, and of the event
abbrev pub SameEndpoint : (one other : SettledView) (name : Text) → Type 0
SameEndpoint one other name =
    endpoint_in one.endpoints.now one.deliveries.now name ≡ endpoint_in other.endpoints.now other.deliveries.now name

abbrev pub SameEvent : (one other : SettledView) (name id : Text) → Type 0
SameEvent one other name id = event_in one.deliveries.now name id ≡ event_in other.deliveries.now name id

-- of each that the one has
abbrev pub HasEndpoints : (one other : SettledView) → Type 0
HasEndpoints one other = (name : Text) → IsTrue (is_known one.endpoints.now name) → SameEndpoint one other name

abbrev pub HasEvents : (one other : SettledView) → Type 0
HasEvents one other = (name id : Text) → IsSome (known_settled_in one.deliveries.now name id)
    → SameEvent one other name id

-- of all
abbrev pub AllEndpoints : (one other : SettledView) → Type 0
AllEndpoints one other = (name : Text) → SameEndpoint one other name

abbrev pub AllEvents : (one other : SettledView) → Type 0
AllEvents one other = (name id : Text) → SameEvent one other name id

-- the parts of a row, and of an endpoint's view
abbrev pub IsSameEvent : Row → Row → Type 0
IsSameEvent one other = (one.endpoint ≡ other.endpoint) × (one.id ≡ other.id) × (one.at ≡ other.at)

abbrev pub HasComeAsFar : Row → Row → Type 0
HasComeAsFar one other =
    (one.attempts ≡ other.attempts) × (one.state ≡ other.state) × (one.due ≡ other.due)
    × (one.last_status ≡ other.last_status)

abbrev pub IsSameTarget : View → View → Type 0
IsSameTarget one other = (one.name ≡ other.name) × (one.target ≡ other.target)

abbrev pub HasSameSettings : View → View → Type 0
HasSameSettings one other = (one.max ≡ other.max) × (one.enabled ≡ other.enabled) × (one.secrets ≡ other.secrets)
