-- What a desk and a receipt say of the log of a run.
use Rattle.std.specs.Prelude.{◌≡◌, ℕ, ◌+◌, List, ◌++◌, length, map, slice_get, unwrap_or, Option, Some, Result, Ok, Err}
use Rattle.relay_types.specs.declared.record.Record.{Record}
use Rattle.relay_types.specs.declared.record.Record.TheVariants.{Put, Secrets, Enabled, Subscribed}
use Rattle.relay_types.specs.declared.record.Record.TheVariants as on
use Rattle.relay_types.specs.Records.{records_of}
use Rattle.relay_types.specs.Deliveries.{known_as}
use Rattle.relay_types.specs.Lists.{last_of}
use Rattle.relay_types.specs.Subscriptions.{subscribers}
use Rattle.relay_types.specs.Values.{Text, Seq}
use Rattle.spool.specs.declared.faults.CommitEnd.{CommitEnd}
use Rattle.spool.specs.Batches.{BatchValue}
use Rattle.desk.specs.declared.command.Command.{Command}
use Rattle.desk.specs.declared.command.Command.TheVariants.{PutEndpoint, SetSecrets, SetEnabled, SetSubscribed, Purge}
use Rattle.desk.specs.declared.refusal.Refusal.{Refusal}
use Rattle.desk.specs.declared.ticket.CommandTicket.{CommandTicket}
use Rattle.desk.specs.declared.ticket.Ticket.{Ticket}
use Rattle.desk.specs.World.{World, all_records, settled_records}
use Rattle.desk.specs.Desks.{DeskValue, StandsFor}
use Rattle.desk.specs.Moves.{ticket}

-- Of each history that the log goes on from: the settled records of the desk are that history and this prefix of the
-- log.
abbrev pub HasSettled : (is_base : List Record → Type 0) (start : ℕ) → DeskValue → (prefix : List Record) → Type 0
HasSettled is_base start desk prefix = (base : List Record) → is_base base
    → (length base ≡ start) × (w : World) × StandsFor desk w × (settled_records w ≡ base ++ prefix)

-- The same, and all records of the desk are that history and the staged records.
abbrev pub HasRecords : (is_base : List Record → Type 0) (start : ℕ) → DeskValue → (prefix staged : List Record)
    → Type 0
HasRecords is_base start desk prefix staged = (base : List Record) → is_base base → (length base ≡ start)
    × (w : World) × StandsFor desk w × (settled_records w ≡ base ++ prefix) × (all_records w ≡ base ++ staged)

-- the record of a change
abbrev pub entry_of : Command → Record
entry_of (PutEndpoint name target max secrets) = Put name target max secrets
entry_of (SetSecrets name secrets) = Secrets name secrets
entry_of (SetEnabled name flag) = Enabled name flag
entry_of (SetSubscribed topic name flag) = Subscribed topic name flag
entry_of (Purge before) = on.Purge before

-- the number of a change's record, the record, and a prefix of a log
pub record ChangeValue : Type 0 where
  pub seq : Seq
  pub entry : Option Record
  pub prefix : List Record

-- the change of this ticket, whose record is the last of this prefix
abbrev pub change_of : CommandTicket → (prefix : List Record) → ChangeValue
change_of ticket prefix = record { seq = ticket.seq; entry = last_of prefix; prefix = prefix }

-- Of each history that the log goes on from: that history and the log have the record of the change at its number.
abbrev pub HasChange : (is_base : List Record → Type 0) → ChangeValue → (log : List Record) → Type 0
HasChange is_base change log = (base : List Record) → is_base base
    → (entry : Record) × (change.entry ≡ Some entry) × (slice_get (base ++ log) change.seq ≡ Some entry)

-- the change is this command
abbrev pub IsOfCommand : ChangeValue → Command → Type 0
IsOfCommand change command = change.entry ≡ Some (entry_of command)

-- the ticket alone
abbrev pub ticket_of : Result ChangeValue Refusal → Result CommandTicket Refusal
ticket_of (Ok change) = Ok (record { seq = change.seq })
ticket_of (Err refusal) = Err refusal

-- a ticket for each subscriber of the topic, in the order of their Puts, with the number by which the records have the
-- id
abbrev pub tickets_by : (records : List Record) (topic id : Text) → List Ticket
tickets_by records topic id = map (λ name. ticket (unwrap_or (known_as records name id) 0) name id)
    (map (λ e. e.name) (subscribers records topic))

-- the topic and the id of an event, its tickets, and a prefix of a log
pub record PublishedValue : Type 0 where
  pub topic : Text
  pub id : Text
  pub tickets : List Ticket
  pub prefix : List Record

abbrev pub published_of : (topic id : Text) (tickets : List Ticket) (prefix : List Record) → PublishedValue
published_of topic id tickets prefix = record { topic = topic; id = id; tickets = tickets; prefix = prefix }

-- Of each history that the log goes on from: by that history and the log the tickets are those of the topic's
-- subscribers.
abbrev pub HasTickets : (is_base : List Record → Type 0) → PublishedValue → (log : List Record) → Type 0
HasTickets is_base event log = (base : List Record) → is_base base
    → event.tickets ≡ tickets_by (base ++ log) event.topic event.id

-- the tickets alone
abbrev pub tickets_of : Result PublishedValue Refusal → Result (List Ticket) Refusal
tickets_of (Ok event) = Ok event.tickets
tickets_of (Err refusal) = Err refusal

-- a receipt, and the prefix of the log that ends with its records
pub record CommittedValue : Type 0 where
  pub receipt : BatchValue
  pub prefix : List Record

-- the prefix ends with the records of the receipt, at their numbers
abbrev pub IsCommitted : (start : ℕ) → BatchValue → (prefix : List Record) → Type 0
IsCommitted start receipt prefix =
    (before : List Record) × (prefix ≡ before ++ records_of receipt.steps) × (receipt.from ≡ start + length before)

-- the receipt alone
abbrev pub receipt_of : Result CommittedValue CommitEnd → Result BatchValue CommitEnd
receipt_of (Ok committed) = Ok committed.receipt
receipt_of (Err end) = Err end
