-- What a desk tells by the books and the list that it keeps, whether or not it stands for a world.
use Rattle.std.specs.Prelude.{◌≡◌, ℕ, ◌-◌, Bool, nat_lt, length, count_by, Option, Some, None, option_map}
use Rattle.std.specs.Prelude.{option_and_then, if◌then◌else◌}
use Rattle.relay_types.specs.Values.{Text, Seq}
use Rattle.endpoint_book.specs.Book.{View, settled_view}
use Rattle.endpoint_book.specs.Entries as endpoint_entries
use Rattle.delivery_book.specs.declared.row.Counts.{Counts}
use Rattle.delivery_book.specs.declared.row.Row.{Row}
use Rattle.delivery_book.specs.Entries.{BookValue, entry_at, known_settled_in, latest_row, settled_row}
use Rattle.delivery_book.specs.Fields.{settled_counts}
use Rattle.group_commit.specs.Waits.{record_count}
use Rattle.permits.specs.Rows.{in_flight_of}
use Rattle.spool.specs.declared.load.Books.{Books}
use Rattle.desk.specs.declared.pages.Totals.{Totals}
use Rattle.desk.specs.declared.limiter.Limiter.{Limiter}
use Rattle.desk.specs.declared.spent.Limits.{Limits}
use Rattle.desk.specs.declared.ticket.CommandTicket.{CommandTicket}
use Rattle.desk.specs.declared.ticket.Ticket.{Ticket}
use Rattle.desk.specs.declared.ticket.Told.{Told}
use Rattle.desk.specs.Ties.{limiter_of}
use Rattle.desk.specs.Desks.{DeskValue}
use Rattle.desk.specs.Queries.{EndpointShown, is_row_of, known_by}

-- whether the ticket's event is settled
abbrev pub has_event : DeskValue → Ticket → Bool
has_event desk ticket = is_row_of ticket (settled_row desk.deliveries ticket.seq)

abbrev pub told : DeskValue → Ticket → Told
told desk ticket = known_by desk.halted (has_event desk ticket)
    (is_row_of ticket (latest_row desk.deliveries ticket.seq))

-- by place alone: the records below the settled count are settled, those after them wait
abbrev pub told_command : DeskValue → CommandTicket → Told
told_command desk ticket =
    known_by desk.halted (nat_lt ticket.seq desk.waiting.settled) (nat_lt ticket.seq (record_count desk.waiting))

abbrev pub settled_body : DeskValue → Ticket → Option Text
settled_body desk ticket =
    if has_event desk ticket then option_map (λ e. e.body) (entry_at desk.deliveries.entries ticket.seq) else None

-- the pages of an event and of an endpoint, and the totals of so many settled records, by the books
abbrev pub event_in : BookValue → (name id : Text) → Option Row
event_in deliveries name id = option_and_then (settled_row deliveries) (known_settled_in deliveries name id)

abbrev pub shown_with : Counts → View → EndpointShown
shown_with counts view = record { view = view; counts = counts }

abbrev pub endpoint_in : endpoint_entries.BookValue → BookValue → (name : Text) → Option EndpointShown
endpoint_in endpoints deliveries name =
    option_map (shown_with (settled_counts deliveries (Some name))) (settled_view endpoints name)

abbrev pub totals_of : (put : ℕ) → Counts → (records : Seq) → Totals
totals_of put counts records = record {
  delivered = counts.delivered;
  endpoints = put;
  exhausted = counts.exhausted;
  pending = counts.pending;
  records = records;
}

abbrev pub totals_in : endpoint_entries.BookValue → BookValue → (records : Seq) → Totals
totals_in endpoints deliveries records =
    totals_of (length endpoints.entries - count_by endpoint_entries.is_put endpoints.changes)
    (settled_counts deliveries None) records

abbrev pub event_page : DeskValue → (name id : Text) → Option Row
event_page desk name id = event_in desk.deliveries name id

abbrev pub endpoint_page : DeskValue → (name : Text) → Option EndpointShown
endpoint_page desk name = endpoint_in desk.endpoints desk.deliveries name

abbrev pub totals : DeskValue → Totals
totals desk = totals_in desk.endpoints desk.deliveries desk.waiting.settled

-- Of all that is settled, of each endpoint and of each event, the books tell what the desk tells.
pub record AreTold (desk : DeskValue) (books : Books) : Type 0 where
  pub totals : totals_in books.endpoints books.deliveries books.records ≡ totals desk
  pub endpoints : (name : Text) → endpoint_in books.endpoints books.deliveries name ≡ endpoint_page desk name
  pub events : (name id : Text) → event_in books.deliveries name id ≡ event_page desk name id

-- what is told of an endpoint's limit, while so many of its attempts are under way
abbrev pub limits_by : (in_flight : ℕ) → Limiter → Limits
limits_by in_flight l = record {
  limit = l.estimator.state.limit;
  in_flight = in_flight;
  noload = l.estimator.state.noload;
}

abbrev pub limits : DeskValue → (name : Text) → Option Limits
limits desk name = option_map (limits_by (in_flight_of name desk.live)) (limiter_of desk.limiters name)
