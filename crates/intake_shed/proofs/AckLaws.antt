-- A settled event is in each longer history, at its number.
use Rattle.std.proofs.Common.{◌≡◌, ℕ, zero, suc, ◌<◌, Bool, true, false, List, [], ◌∷◌, ◌++◌, refl, sym, ap, ◌∙◌, subst}
use Rattle.std.proofs.Common.{arith, append_assoc, length, map}
use Rattle.std.specs.Prelude.{All, Option, Some, None, is_some, slice_get, slice_index_or, unwrap_or, option_map}
use Rattle.std.specs.Prelude.{option_and_then, ◌&&◌, bytes_eq, if◌then◌else◌}
use Rattle.std.specs.Option.{option_map_or}
use Rattle.std.proofs.lemmas.Slice.Eq.{bytes_eq-Decides}
use mathlib.Core.List.{IsPrefix}
use Rattle.relay_types.specs.declared.record.Record.{Record}
use Rattle.relay_types.specs.Records.{Accepted, accepted_by}
use Rattle.relay_types.specs.Deliveries.{accept_at, accepted, known_as}
use Rattle.relay_types.proofs.PurgeLaws.{accepted_is, unpurged_if}
use Rattle.relay_types.specs.Endpoints.{Endpoint}
use Rattle.relay_types.specs.Subscriptions.{subscribers}
use Rattle.delivery_book.specs.Book.{body_of}
use Rattle.desk.specs.declared.ticket.Ticket.{Ticket}
use Rattle.desk.specs.Desks.{DeskValue, OverWorlds}
use Rattle.desk.specs.Queries.{has_event, is_event_of, settled_body}
use Rattle.desk.specs.Moves.{ticket}
use Rattle.desk.specs.World.{settled_records}
use Rattle.delivery.specs.Logs.{ChangeValue, PublishedValue, HasChange, HasSettled, HasTickets, tickets_by}
use Rattle.intake_shed.specs.Acks.{PublishAckValue, AreLogged, AreSettled, HasEvent, IsLogged, ack_of}
use Rattle.intake_shed.specs.Acks.{publish_ack_of}

equal : (xs ys : List ℕ) → bytes_eq xs ys ≡ true → xs ≡ ys
equal xs ys e = (bytes_eq-Decides xs ys).0 e

-- an event that wasn't removed is there
still_there : (records : List Record) (d : ℕ) (a : Accepted) → accepted records d ≡ Some a
    → accept_at records d ≡ Some a
still_there records d a e = sym (accepted_is records d (unpurged_if records d (ap is_some e))) ∙ e

-- the event that a world's settled records have by the ticket, with this body
event_at : (records : List Record) (ticket : Ticket) (body : List ℕ)
    → (if has_event records ticket then body_of records ticket.seq else None) ≡ Some body
    → HasEvent records ticket.seq ticket.name ticket.id body
event_at records ticket body e = at (accepted records ticket.seq) refl e
  where
    tests : (a : Accepted) → accepted records ticket.seq ≡ Some a → (name id : Bool)
        → bytes_eq a.endpoint ticket.name ≡ name → bytes_eq a.id ticket.id ≡ id
        → (if name && id then Some a.body else None) ≡ Some body
        → HasEvent records ticket.seq ticket.name ticket.id body
    tests a is true true name id e = (
      a,
      still_there records ticket.seq a is,
      equal a.endpoint ticket.name name,
      equal a.id ticket.id id,
      cc e,
    )
    tests a is true false name id e = absurd cc
    tests a is false id' name id e = absurd cc

    at : (o : Option Accepted) → accepted records ticket.seq ≡ o
        → (if option_map_or (is_event_of ticket) o false then option_map (λ a. a.body) o else None) ≡ Some body
        → HasEvent records ticket.seq ticket.name ticket.id body
    at None is e = absurd cc
    at (Some a) is e = tests a is (bytes_eq a.endpoint ticket.name) (bytes_eq a.id ticket.id) refl refl e

get_longer : (xs more : List Record) (k : ℕ) (x : Record) → slice_get xs k ≡ Some x → slice_get (xs ++ more) k ≡ Some x
get_longer [] more k x e = absurd cc
get_longer (y ∷ xs) more zero x e = e
get_longer (y ∷ xs) more (suc k) x e = get_longer xs more k x e

accepted_longer : (xs more : List Record) (d : ℕ) (a : Accepted) → accept_at xs d ≡ Some a
    → accept_at (xs ++ more) d ≡ Some a
accepted_longer xs more d a e = at (slice_get xs d) refl e
  where
    at : (found : Option Record) → slice_get xs d ≡ found → option_and_then accepted_by found ≡ Some a
        → accept_at (xs ++ more) d ≡ Some a
    at None is e = absurd cc
    at (Some r) is e = ap (option_and_then accepted_by) (get_longer xs more d r is) ∙ e

-- an event that a locked desk has settled
pub shown : (is_base : List Record → Type 0) (start : ℕ) (desk : DeskValue) (prefix : List Record) (ticket : Ticket)
    (body : List ℕ)
    → HasSettled is_base start desk prefix → OverWorlds desk (λ w. settled_body w ticket ≡ Some body)
    → IsLogged is_base (ack_of ticket body prefix) prefix
shown is_base start desk prefix ticket body has_settled settled base is =
    let was = has_settled base is in
    subst (λ records. HasEvent records ticket.seq ticket.name ticket.id body) was.3
    (event_at (settled_records was.1) ticket body (settled was.1 was.2))

-- it is in a longer log
event_longer : (base prefix written : List Record) (seq : ℕ) (name id body : List ℕ) → IsPrefix prefix written
    → HasEvent (base ++ prefix) seq name id body → HasEvent (base ++ written) seq name id body
event_longer base prefix written seq name id body begins event =
    let all : (base ++ prefix) ++ begins.0 ≡ base ++ written =
    append_assoc base prefix begins.0 ∙ ap (λ w. base ++ w) begins.1 in
    let there = accepted_longer (base ++ prefix) begins.0 seq event.0 event.1 in
    (event.0, subst (λ records. accept_at records seq ≡ Some event.0) all there, event.2, event.3, event.4)

-- each ticket of an event for a topic has its id

same_ids : (number : List ℕ → ℕ) (id : List ℕ) (names : List (List ℕ))
    → All (λ (t : Ticket). t.id ≡ id) (map (λ name. ticket (number name) name id) names)
same_ids number id [] k d lt = absurd (omega (arith, lt))
same_ids number id (name ∷ names) zero d lt = refl
same_ids number id (name ∷ names) (suc k) d lt = same_ids number id names k d (omega (arith, lt))

have_id : (records : List Record) (topic id : List ℕ) (tickets : List Ticket) → tickets ≡ tickets_by records topic id
    → All (λ (t : Ticket). t.id ≡ id) tickets
have_id records topic id tickets e =
    subst (λ (ts : List Ticket). All (λ (t : Ticket). t.id ≡ id) ts) (sym e)
    (same_ids (λ name. unwrap_or (known_as records name id) 0) id
    (map (λ (s : Endpoint). s.name) (subscribers records topic)))

-- an event for a topic that a locked desk has settled at each subscriber
pub all_shown : (is_base : List Record → Type 0) (start : ℕ) (desk : DeskValue) (prefix : List Record)
    (event : PublishedValue)
    (body : List ℕ) → HasSettled is_base start desk prefix → HasTickets is_base event event.prefix
    → OverWorlds desk (λ w. AreSettled (settled_body w) event.tickets body)
    → AreLogged is_base (publish_ack_of event body prefix) prefix
all_shown is_base start desk prefix event body has_settled has_tickets settled base is k d lt =
    let was = has_settled base is in
    let t = slice_index_or event.tickets k d in
    let of_id = have_id (base ++ event.prefix) event.topic event.id event.tickets (has_tickets base is) k d lt in
    subst (λ (id : List ℕ). HasEvent (base ++ prefix) t.seq t.name id body) of_id
    (subst (λ records. HasEvent records t.seq t.name t.id body) was.3
    (event_at (settled_records was.1) t body ((settled was.1 was.2).1 k d lt)))

-- it is in the log, of which this was a prefix
pub all_logged_on : (is_base : List Record → Type 0) (ack : PublishAckValue) (written : List Record)
    → IsPrefix ack.prefix written → AreLogged is_base ack ack.prefix → AreLogged is_base ack written
all_logged_on is_base ack written begins stands base is k d lt =
    let t = slice_index_or ack.event.tickets k d in
    event_longer base ack.prefix written t.seq t.name ack.event.id ack.body begins (stands base is k d lt)

-- one of its records is that of an event
pub one_logged : (is_base : List Record → Type 0) (event : PublishedValue) (body : List ℕ) (prefix : List Record)
    (k : ℕ) (t : Ticket)
    → HasTickets is_base event event.prefix → AreLogged is_base (publish_ack_of event body prefix) prefix
    → k < length event.tickets → slice_index_or event.tickets k t ≡ t → IsLogged is_base (ack_of t body prefix) prefix
one_logged is_base event body prefix k t has_tickets stands lt at base is =
    let of_id = have_id (base ++ event.prefix) event.topic event.id event.tickets (has_tickets base is) k t lt in
    let same : t.id ≡ event.id = ap (λ (t : Ticket). t.id) (sym at) ∙ of_id in
    subst (λ (id : List ℕ). HasEvent (base ++ prefix) t.seq t.name id body) (sym same)
    (subst (λ (t : Ticket). HasEvent (base ++ prefix) t.seq t.name event.id body) at (stands base is k t lt))

-- so is the record of a change
pub change_on : (is_base : List Record → Type 0) (change : ChangeValue) (written : List Record)
    → IsPrefix change.prefix written → HasChange is_base change change.prefix → HasChange is_base change written
change_on is_base change written begins has base is =
    let entry = has base is in
    let all : (base ++ change.prefix) ++ begins.0 ≡ base ++ written =
    append_assoc base change.prefix begins.0 ∙ ap (λ w. base ++ w) begins.1 in
    let there = get_longer (base ++ change.prefix) begins.0 change.seq entry.0 entry.2 in
    (entry.0, entry.1, subst (λ records. slice_get records change.seq ≡ Some entry.0) all there)
