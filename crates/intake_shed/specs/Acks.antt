-- Acknowledged events, and confirmed changes.
use Rattle.std.specs.Prelude.{◌≡◌, ℕ, ◌<◌, All, List, ◌++◌, length, IfSome, Option, Some}
use Rattle.relay_types.specs.declared.record.Record.{Record}
use Rattle.relay_types.specs.Records.{Accepted}
use Rattle.relay_types.specs.Deliveries.{accept_at}
use Rattle.relay_types.specs.Values.{Text, Seq}
use Rattle.desk.specs.declared.ticket.Ticket.{Ticket}
use Rattle.delivery.specs.Logs.{ChangeValue, HasChange, PublishedValue}

-- the number of the event's record, its endpoint, its id and its body, and a prefix of the run's
-- log
pub record AckValue : Type 0 where
  pub seq : Seq
  pub name : Text
  pub id : Text
  pub body : Text
  pub prefix : List Record

-- the number of the event's record, its endpoint, its id and its body
pub record EventValue : Type 0 where
  pub seq : Seq
  pub name : Text
  pub id : Text
  pub body : Text

-- the event of this ticket, which has this body, and this prefix of the log
abbrev pub ack_of : Ticket → (body : Text) → (prefix : List Record) → AckValue
ack_of ticket body prefix = record {
  seq = ticket.seq;
  name = ticket.name;
  id = ticket.id;
  body = body;
  prefix =
      prefix;
}

-- an event that was published, its body, and a prefix of the run's log
pub record PublishAckValue : Type 0 where
  pub event : PublishedValue
  pub body : Text
  pub prefix : List Record

abbrev pub publish_ack_of : PublishedValue → (body : Text) → (prefix : List Record) → PublishAckValue
publish_ack_of event body prefix = record { event = event; body = body; prefix = prefix }

-- the change, with this prefix of the log
abbrev pub confirmed_of : ChangeValue → (prefix : List Record) → ChangeValue
confirmed_of change prefix = record { seq = change.seq; entry = change.entry; prefix = prefix }

-- The record of this number is an event of this endpoint, with this id and this body. A later
-- record may purge it.
abbrev pub HasEvent : List Record → (seq : Seq) → (name id body : Text) → Type 0
HasEvent records seq name id body =
    (a : Accepted) × (accept_at records seq ≡ Some a) × (a.endpoint ≡ name) × (a.id ≡ id) × (a.body ≡ body)

-- The event is at its number in the history before the run and the log, for each history that the
-- log may continue.
abbrev pub IsLogged : (is_base : List Record → Type 0) → AckValue → (log : List Record) → Type 0
IsLogged is_base ack log = (base : List Record) → is_base base → HasEvent (base ++ log) ack.seq ack.name ack.id ack.body

-- the same at each ticket of an event that was published
abbrev pub AreLogged : (is_base : List Record → Type 0) → PublishAckValue → (log : List Record) → Type 0
AreLogged is_base ack log = (base : List Record) → is_base base
    → All (λ t. HasEvent (base ++ log) t.seq t.name ack.event.id ack.body) ack.event.tickets

-- What a reply reports is in the history before the run and the log: an event that is acknowledged, an event for a
-- topic at each subscriber, a change that is confirmed.
abbrev pub AreInLog : (is_base : List Record → Type 0) → Option AckValue → Option PublishAckValue → Option ChangeValue
    → Type 0
AreInLog is_base given published confirmed = IfSome given (λ ack. IsLogged is_base ack ack.prefix)
    × IfSome published (λ ack. (0 < length ack.event.tickets) × AreLogged is_base ack ack.prefix)
    × IfSome confirmed (λ change. HasChange is_base change change.prefix)

-- there are tickets, and each of them has this body
abbrev pub AreSettled : (body_of : Ticket → Option Text) → List Ticket → (body : Text) → Type 0
AreSettled body_of tickets body = (0 < length tickets) × All (λ t. body_of t ≡ Some body) tickets

-- the numbers are below this one
abbrev pub AreBelow : ℕ → List Ticket → Type 0
AreBelow n tickets = All (λ t. t.seq < n) tickets

-- the acknowledged event is that of this topic and id, and has this body
pub record IsOfPublish (ack : PublishAckValue) (topic id body : Text) : Type 0 where
  pub of_topic : ack.event.topic ≡ topic
  pub of_id : ack.event.id ≡ id
  pub of_body : ack.body ≡ body

-- the acknowledged event is that of this endpoint and id, and has this body
pub record IsOfEvent (ack : AckValue) (name id body : Text) : Type 0 where
  pub of_name : ack.name ≡ name
  pub of_id : ack.id ≡ id
  pub of_body : ack.body ≡ body
