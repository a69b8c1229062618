-- What the desk tells of a ticket, and of the settled records.
use Rattle.std.specs.Prelude.{Bool, false, ◌&&◌, not, nat_lt, List, length, Option, None, option_map, option_and_then}
use Rattle.std.specs.Prelude.{bytes_eq, if◌then◌else◌}
use Rattle.std.specs.Option.{option_map_or}
use Rattle.relay_types.specs.declared.record.Record.{Record}
use Rattle.relay_types.specs.Values.{Text}
use Rattle.relay_types.specs.Records.{Accepted}
use Rattle.relay_types.specs.Deliveries.{accepted, known_as}
use Rattle.relay_types.specs.Endpoints.{endpoints}
use Rattle.endpoint_book.specs.Book.{View, view_of}
use Rattle.delivery_book.specs.declared.row.Counts.{Counts}
use Rattle.delivery_book.specs.declared.row.Row.{Row}
use Rattle.delivery_book.specs.Book.{row_of, body_of, counts_of, counts_of_all}
use Rattle.desk.specs.declared.pages.EndpointPage.{EndpointPage}
use Rattle.desk.specs.declared.pages.Totals.{Totals}
use Rattle.desk.specs.declared.ticket.CommandTicket.{CommandTicket}
use Rattle.desk.specs.declared.ticket.Ticket.{Ticket}
use Rattle.desk.specs.declared.ticket.Told.{Told}
use Rattle.desk.specs.declared.ticket.Told.TheVariants.{Settled, Waiting, Unknown}
use Rattle.desk.specs.Moves.{next_seq}
use Rattle.desk.specs.World.{World, all_records, settled_records}

-- Tickets

-- whether the records have at the ticket's number the event of its endpoint and id
abbrev pub is_event_of : (ticket : Ticket) → Accepted → Bool
is_event_of ticket a = bytes_eq a.endpoint ticket.name && bytes_eq a.id ticket.id

abbrev pub has_event : (records : List Record) (ticket : Ticket) → Bool
has_event records ticket = option_map_or (is_event_of ticket) (accepted records ticket.seq) false

-- whether the delivery is that of the ticket
abbrev pub is_row_of : (ticket : Ticket) → Option Row → Bool
is_row_of ticket row = option_map_or (λ r. bytes_eq r.endpoint ticket.name && bytes_eq r.id ticket.id) row false

-- what is known of a record that is settled or not, and there or not
abbrev pub known_by : (halted is_settled is_there : Bool) → Told
known_by halted is_settled is_there = if is_settled then Settled else
    (if is_there && not halted then Waiting else Unknown)

abbrev pub known : (w : World) (is_settled is_there : Bool) → Told
known w is_settled is_there = known_by w.halted is_settled is_there

abbrev pub told : World → Ticket → Told
told w ticket = known w (has_event (settled_records w) ticket) (has_event (all_records w) ticket)

abbrev pub told_command : World → CommandTicket → Told
told_command w ticket = known w (nat_lt ticket.seq (length (settled_records w))) (nat_lt ticket.seq (next_seq w))

-- the body of the ticket's event, where it is settled
abbrev pub settled_body : World → Ticket → Option Text
settled_body w ticket =
    if has_event (settled_records w) ticket then body_of (settled_records w) ticket.seq else None

-- Pages

-- what these records say of the event that the endpoint knows by this id
abbrev pub event_page : (records : List Record) (name id : Text) → Option Row
event_page records name id = option_and_then (row_of records) (known_as records name id)

-- an endpoint as it is shown, and how many of its deliveries are in each state
pub record EndpointShown : Type 0 where
  pub view : View
  pub counts : Counts

abbrev pub endpoint_page : (records : List Record) (name : Text) → Option EndpointShown
endpoint_page records name = option_map (λ view. record { view = view; counts = counts_of records name })
    (view_of records name)

-- what a page says
abbrev pub shown : EndpointPage → EndpointShown
shown page = record {
  view = record {
    name = page.name;
    target = page.url.now;
    max = page.max;
    enabled = page.enabled;
    secrets = page.secrets;
  };
  counts = record { pending = page.pending; delivered = page.delivered; exhausted = page.exhausted };
}

abbrev pub totals_with : (records : List Record) (counts : Counts) → Totals
totals_with records counts = record {
  delivered = counts.delivered;
  endpoints = length (endpoints records);
  exhausted = counts.exhausted;
  pending = counts.pending;
  records = length records;
}

abbrev pub totals : (records : List Record) → Totals
totals records = totals_with records (counts_of_all records)

-- how many deliveries are in each state, as the totals tell
abbrev pub counts_told : Totals → Counts
counts_told t = record { pending = t.pending; delivered = t.delivered; exhausted = t.exhausted }
