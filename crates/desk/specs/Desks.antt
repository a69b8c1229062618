-- What a desk keeps, the worlds for which it stands, and what its calls answer.
use Rattle.std.specs.Prelude.{◌≡◌, ℕ, ◌+◌, ◌-◌, ◌≤◌, ◌<◌, Bool, true, false, ◌&&◌, not, nat_le, nat_lt, List, [], ◌∷◌}
use Rattle.std.specs.Prelude.{◌++◌, length, drop, map, filter, bytes_eq, Option, Some, None, is_some, unwrap_or, IsTrue}
use Rattle.std.specs.Prelude.{Result, Ok, Err, IfSome, if◌then◌else◌}
use Rattle.std.specs.Option.{option_map_or}
use Rattle.relay_types.specs.declared.limits.TheConstants.{MAX_RECORDS}
use Rattle.relay_types.specs.declared.record.Record.{Record}
use Rattle.relay_types.specs.declared.state.State.TheVariants.{Exhausted}
use Rattle.relay_types.specs.declared.record.Record.TheVariants.{Put, Secrets, Enabled, Accept, Outcome, Subscribed}
use Rattle.relay_types.specs.declared.record.Record.TheVariants.{Purge}
use Rattle.relay_types.specs.Values.{Text, Seq, Seconds}
use Rattle.relay_types.specs.Records.{History, Accepted, records_of}
use Rattle.relay_types.specs.Deliveries.{accepted, is_in_state, is_purged}
use Rattle.relay_types.specs.Judging.{is_gone_status}
use Rattle.relay_types.specs.Legal.{IsLegal}
use Rattle.relay_types.specs.Steps.{accepts}
use Rattle.endpoint_book.specs.Book as endpoint_book
use Rattle.endpoint_book.specs.Entries as endpoint_entries
use Rattle.endpoint_book.specs.Topics.{is_on}
use Rattle.endpoint_book.specs.Waiting.{HasChanges}
use Rattle.delivery_book.specs.Book as delivery_book
use Rattle.delivery_book.specs.Entries as delivery_entries
use Rattle.delivery_book.specs.Waiting.{HasWaiting}
use Rattle.spool.specs.declared.load.Books.{Books}
use Rattle.spool.specs.Books as loaded
use Rattle.spool.specs.Batches.{BatchValue, DoubtValue, doubt_of}
use Rattle.group_commit.specs.declared.held.Held.{Held}
use Rattle.group_commit.specs.declared.held.Held.TheVariants as held
use Rattle.group_commit.specs.Turns as turns
use Rattle.group_commit.specs.declared.limits.TheConstants.{MAX_WAITING_OUTCOMES}
use Rattle.group_commit.specs.Steps.{outcomes_in}
use Rattle.group_commit.specs.Waits.{WaitingValue, batch_out, record_count, with_step}
use Rattle.permits.specs.declared.row.Row.{Row}
use Rattle.retry_table.specs.declared.post.PostResult.{PostResult}
use Rattle.claim_queue.specs.Queues.{HasSamePairs, IsReservedFor, QueueValue, is_reserved}
use Rattle.delivery_book.specs.declared.entry.Entry.{Entry}
use Rattle.desk.specs.declared.refusal.Refusal.{Refusal}
use Rattle.desk.specs.Faults.{Faults, first_fault}
use Rattle.desk.specs.World.{World, Out, all_records, settled_records}
use Rattle.desk.specs.declared.limiter.Limiter.{Limiter}
use Rattle.desk.specs.declared.limits.TheConstants.{MAX_PENDING}
use Rattle.desk.specs.declared.ticket.Ticket.{Ticket}
use Rattle.desk.specs.Moves.{Answer, MayGive, is_nothing_out, sealed_batch, opened, ticket}
use Rattle.desk.specs.Claims.{JobValue, PostValue, SpentValue, samples_of, job_of, post_in, with_attempt, has_row}
use Rattle.desk.specs.Claims.{with_attempt_over, spent_by}
use Rattle.desk.specs.Ties.{AreLimiters, AreTied, AreUnderWay, HasRoomForAll, HasSameRooms, KeepsPlaces, StandsAt}
use Rattle.desk.specs.Ties.{endpoint_at, is_idle, new_limiter, room_by}

-- The books of all records, the steps that wait, the latest moment, whether nothing is taken any more, the permits that
-- are out and the limits. What the queue holds follows from these.
pub record DeskValue : Type 0 where
  pub clock : Seconds
  pub endpoints : endpoint_entries.BookValue
  pub deliveries : delivery_entries.BookValue
  pub waiting : WaitingValue
  pub halted : Bool
  pub live : List Row
  pub limiters : List Limiter

-- what holds of a desk's fields in every world
pub record IsDesk (endpoints : endpoint_entries.BookValue) (deliveries : delivery_entries.BookValue)
    (waiting : WaitingValue) (live : List Row) (limiters : List Limiter) (queue : QueueValue) : Type 0 where
  pub endpoints_staged : endpoints.next_seq ≤ record_count waiting
  pub endpoints_settled : endpoints.settled_seq ≡ waiting.settled
  pub flags_few : endpoint_entries.flags_in endpoints + endpoints.settled_seq ≤ endpoints.next_seq
  pub endpoints_wait : HasChanges (endpoint_at deliveries) endpoints (records_of waiting.waiting)
  pub deliveries_staged : deliveries.next_seq ≤ record_count waiting
  pub deliveries_settled : deliveries.settled_seq ≡ waiting.settled
  pub deliveries_wait : HasWaiting deliveries (records_of waiting.waiting)
  pub tied : AreTied endpoints deliveries waiting live limiters queue

-- What is so of a desk whenever its lock is got, whatever its store had. The records that wait stand after the settled
-- ones, and both books begin to wait where the list does. Of the deliveries just those wait that the list has, each by
-- the same record, and of the changes of endpoints too: what each endpoint shows, or will show once more is settled, is
-- what these records make of it. Each attempt that is under way is one at a settled delivery that is pending and has no
-- outcome that waits, no two are at one delivery, and there are a place and a number for the outcome of each. Each
-- endpoint has a limit.
pub record IsCore (desk : DeskValue) : Type 0 where
  pub endpoints_settled : desk.endpoints.settled_seq ≡ desk.waiting.settled
  pub endpoints_within : desk.endpoints.next_seq ≤ record_count desk.waiting
  pub endpoints_wait : HasChanges (endpoint_at desk.deliveries) desk.endpoints (records_of desk.waiting.waiting)
  pub deliveries_settled : desk.deliveries.settled_seq ≡ desk.waiting.settled
  pub deliveries_within : desk.deliveries.next_seq ≤ record_count desk.waiting
  pub deliveries_wait : HasWaiting desk.deliveries (records_of desk.waiting.waiting)
  pub live : AreUnderWay desk.live desk.deliveries
  pub limits : AreLimiters desk.limiters desk.endpoints
  pub room : HasRoomForAll desk.waiting desk.live

-- The world for which a desk stands, part by part. It stores no history.

-- the books have the endpoints and the deliveries of these records, of which so many are settled
pub record AreBooks (endpoints : endpoint_entries.BookValue) (deliveries : delivery_entries.BookValue)
    (records : List Record) (settled : ℕ) : Type 0 where
  pub of_endpoints : endpoint_book.StandsFor endpoints records settled
  pub of_deliveries : delivery_book.StandsFor deliveries records settled
  pub legal : IsLegal records

-- how many steps are out, if any are
abbrev pub out_count : (out : Out) (settled sealed : ℕ) → Option ℕ
out_count out settled sealed = if is_nothing_out out then None else Some (sealed - settled)

-- the steps after the settled ones wait, and the sealed ones among them are out
pub record Waits (waiting : WaitingValue) (history : History) (settled sealed : ℕ) (out : Out)
    (seq : Seq) : Type 0 where
  pub steps : waiting.waiting ≡ drop settled history
  pub settled_seq : waiting.settled ≡ seq
  pub is_out : waiting.out ≡ out_count out settled sealed
  pub settled_first : settled ≤ sealed
  pub sealed_within : sealed ≤ length history

-- the limits are those of the samples
abbrev pub AreLimits : List Limiter → World → Type 0
AreLimits limiters w = (name : Text) → StandsAt limiters name (samples_of w name)

pub record StandsFor (desk : DeskValue) (w : World) : Type 0 where
  pub clock : desk.clock ≡ w.clock
  pub halted : desk.halted ≡ w.halted
  pub books : AreBooks desk.endpoints desk.deliveries (all_records w) (length (settled_records w))
  pub waiting : Waits desk.waiting w.history w.settled w.sealed w.out (length (settled_records w))
  pub live : desk.live ≡ w.live
  pub limits : AreLimits desk.limiters w

-- what is so of every world for which the desk stands
abbrev pub OverWorlds : DeskValue → (World → Type 0) → Type 0
OverWorlds desk P = (w : World) → StandsFor desk w → P w

-- the desk stands for the opening of every history of which these are the books, however its records are cut into steps
abbrev pub Opens : Books → DeskValue → Type 0
Opens books desk = (history : History) → loaded.AreBooks books (records_of history)
    → StandsFor desk (opened history books.clock)

-- From each world for which the desk stood, the call gave what this move answers, and the desk stands for the world
-- after it.
abbrev pub IsMove : {A : Type 0} → DeskValue → (World → Answer A) → Result A Refusal → DeskValue → Type 0
IsMove old move reply new = OverWorlds old (λ w. (next : World) × MayGive w (move w) reply next × StandsFor new next)

-- Turns

-- the receipt is that of what is out: it is of this opening, and has the sealed steps
abbrev pub IsReceiptOf : ℕ → World → BatchValue → Type 0
IsReceiptOf mark w receipt = (is_nothing_out w.out ≡ false) × (receipt ≡ sealed_batch mark w)

-- these are the mark and the places of what is out
abbrev pub ArePlacesOf : ℕ → World → DoubtValue → Type 0
ArePlacesOf mark w places = (is_nothing_out w.out ≡ false) × (places ≡ doubt_of (sealed_batch mark w))

abbrev pub IsHeldOf : ℕ → World → Held → Type 0
IsHeldOf mark w held.Nothing = is_nothing_out w.out ≡ true
IsHeldOf mark w (held.Batch batch) = ArePlacesOf mark w (doubt_of batch)
IsHeldOf mark w (held.Doubt doubt) = ArePlacesOf mark w doubt

-- what is held is all that is out, a receipt of it included
abbrev pub IsAllOut : WaitingValue → (receipt : Option BatchValue) → Held → Type 0
IsAllOut waiting None held = turns.IsHeldOf waiting held
IsAllOut waiting (Some receipt) held.Nothing = turns.IsReceiptOf waiting receipt
IsAllOut waiting (Some receipt) (held.Batch batch) = ⊥
IsAllOut waiting (Some receipt) (held.Doubt doubt) = ⊥

-- no permit is out, and no batch
abbrev pub HasNothingOut : DeskValue → Type 0
HasNothingOut desk = (desk.live ≡ []) × (desk.waiting.out ≡ None)

-- what is out is as before
abbrev pub KeepsOut : (old new : DeskValue) → Type 0
KeepsOut old new = (new.live ≡ old.live) × (batch_out new.waiting ≡ batch_out old.waiting)

-- the rows of the permits that are out, once this job is
abbrev pub with_job : List Row → Option JobValue → List Row
with_job rows None = rows
with_job rows (Some job) = rows ++ job.row ∷ []

-- From each world for which the desk stood: what is handed in ends the turn exactly where it is what is out, and comes
-- back otherwise.
abbrev pub Turns : {A E : Type 0} → (old : DeskValue) (IsOut : World → Type 0) (ended : World → World)
    (result : Result A E) (new : DeskValue) → Type 0
Turns old IsOut ended (Ok a) new = OverWorlds old (λ w. IsOut w × StandsFor new (ended w))
Turns old IsOut ended (Err e) new = OverWorlds old (λ w. (¬ IsOut w) × StandsFor new w)

-- Attempts

-- From each world for which the desk stood: the job is that of an attempt at the delivery, and the attempt is under
-- way.
abbrev pub Starts : (old : DeskValue) (at : Seconds) (delivery : Seq) (job : JobValue) (new : DeskValue) → Type 0
Starts old at d job new = OverWorlds old (λ w. (a : Accepted)
    × (accepted (all_records w) d ≡ Some a) × (job ≡ job_of w at d a) × StandsFor new (with_attempt w at job.row))

-- From each world for which the desk stood: the permit of an attempt that is under way is taken, and any other comes
-- back.
abbrev pub Spends : {E : Type 0} → (old : DeskValue) (row : Row) (post : PostResult) (now : Seconds)
    (result : Result SpentValue E) (new : DeskValue) → Type 0
Spends old row post now (Ok spent) new = OverWorlds old (λ w.
    (has_row w row ≡ true) × (spent ≡ spent_by w row post now) × StandsFor new (with_attempt_over w row post now))
Spends old row post now (Err e) new = OverWorlds old (λ w. (has_row w row ≡ false) × StandsFor new w)

-- What the desk's own steps look for and make.

-- no record took the delivery, if there is one
abbrev pub IsKept : DeskValue → Option Seq → Type 0
IsKept desk delivery = OverWorlds desk (λ w. IfSome delivery (λ d. is_purged (all_records w) d ≡ false))

-- whether an attempt at the delivery of the entry may begin, where it is due
abbrev pub is_ready : DeskValue → Entry → Bool
is_ready desk e = is_idle desk.deliveries.settled_seq desk.live e
    && (is_some e.settled.due && room_by desk.endpoints desk.limiters desk.live e.name)

abbrev pub has_place : DeskValue → Bool
has_place desk = nat_lt (outcomes_in desk.waiting.waiting + length desk.live) MAX_WAITING_OUTCOMES

abbrev pub may_start : DeskValue → (delivery : Seq) → Bool
may_start desk d = has_place desk && option_map_or (is_ready desk) (delivery_entries.entry_at desk.deliveries.entries d)
    false

-- the same, where the delivery is one of the endpoint
abbrev pub may_start_at : DeskValue → (name : Text) (delivery : Seq) → Bool
may_start_at desk name d = has_place desk
    && option_map_or (λ e. is_ready desk e && bytes_eq e.name name)
    (delivery_entries.entry_at desk.deliveries.entries d) false

-- From the world: the post is that of the job of an attempt at the delivery.
abbrev pub IsPostOf : (w : World) (at : Seconds) (delivery : Seq) → PostValue → Type 0
IsPostOf w at d post = (a : Accepted) × (accepted (all_records w) d ≡ Some a) × (post ≡ post_in (job_of w at d a))

-- the number of the delivery's next attempt, by the book
abbrev pub attempt_in : delivery_entries.BookValue → (delivery : Seq) → ℕ
attempt_in book d = option_map_or (λ e. e.latest.attempts) (delivery_entries.entry_at book.entries d) 0 + 1

-- whether the delivery is given up, by the book
abbrev pub is_exhausted_in : delivery_entries.BookValue → (delivery : Seq) → Bool
is_exhausted_in book d = option_map_or (λ r. is_in_state Exhausted r.state) (delivery_entries.latest_row book d) false

-- the book once the outcome with this number has this status: a gone endpoint is disabled
abbrev pub with_gone : endpoint_entries.BookValue → (seq : Seq) (name : Text) (status : ℕ) → endpoint_entries.BookValue
with_gone book seq name status = if is_gone_status status then endpoint_entries.with_flag book seq name false else book

-- the outcome of the row's attempt can wait
pub record TakesOutcome (waiting : WaitingValue) (endpoints : endpoint_entries.BookValue)
    (deliveries : delivery_entries.BookValue) (row : Row) : Type 0 where
  pub place : outcomes_in waiting.waiting < MAX_WAITING_OUTCOMES
  pub room : record_count waiting < MAX_RECORDS
  pub endpoints_staged : endpoints.next_seq ≤ record_count waiting
  pub deliveries_staged : deliveries.next_seq ≤ record_count waiting
  pub known : IsTrue (endpoint_entries.is_known endpoints row.endpoint)
  pub free_delivery : delivery_entries.takes_outcome deliveries row.delivery ≡ true
  pub flags : endpoint_entries.flags_in endpoints + waiting.settled ≤ endpoints.next_seq

-- the outcome of the row's attempt, with this status, waits
pub record HasOutcome (waiting : WaitingValue) (endpoints : endpoint_entries.BookValue)
    (deliveries : delivery_entries.BookValue) (row : Row) (at : Seconds)
    (more : WaitingValue) (gone : endpoint_entries.BookValue) (tried : delivery_entries.BookValue)
    (status : ℕ) : Type 0 where
  pub steps : more ≡ with_step waiting (Outcome row.delivery (attempt_in deliveries row.delivery) status at ∷ [])
  pub of_endpoints : gone ≡ with_gone endpoints (record_count waiting) row.endpoint status
  pub of_deliveries : tried ≡ delivery_entries.with_outcome deliveries (record_count waiting) row.delivery status at
  pub unused : delivery_entries.entry_at deliveries.entries (record_count waiting) ≡ None

-- the desk with one more attempt under way
abbrev pub with_live : DeskValue → Row → DeskValue
with_live desk row = record desk { live = desk.live ++ row ∷ [] }

-- the answer to a look for faults, in each world for which the desk stands
abbrev pub Checks : DeskValue → (World → Faults) → Result (Unit {0}) Refusal → Type 0
Checks desk faults result = OverWorlds desk (λ w. result ≡ first_fault (faults w))

-- the desk with a record that waits
abbrev pub with_entry : DeskValue → Record → DeskValue
with_entry desk entry = record desk { waiting = with_step desk.waiting (entry ∷ []) }

abbrev pub with_put : DeskValue → (name target : Text) (max : ℕ) (secrets : List Text) → DeskValue
with_put desk name target max secrets = record (with_entry desk (Put name target max secrets)) {
  endpoints = endpoint_entries.with_put desk.endpoints
      (endpoint_entries.new_entry (record_count desk.waiting) name target max secrets);
  limiters = desk.limiters ++ new_limiter name max ∷ [];
}

abbrev pub with_secrets : DeskValue → (name : Text) (secrets : List Text) → DeskValue
with_secrets desk name secrets = record (with_entry desk (Secrets name secrets)) {
  endpoints = endpoint_entries.with_secrets desk.endpoints (record_count desk.waiting) name secrets;
}

abbrev pub with_enabled : DeskValue → (name : Text) (flag : Bool) → DeskValue
with_enabled desk name flag = record (with_entry desk (Enabled name flag)) {
  endpoints = endpoint_entries.with_flag desk.endpoints (record_count desk.waiting) name flag;
}

abbrev pub with_subscribed : DeskValue → (topic name : Text) (flag : Bool) → DeskValue
with_subscribed desk topic name flag = record (with_entry desk (Subscribed topic name flag)) {
  endpoints = endpoint_entries.with_topic desk.endpoints (record_count desk.waiting) topic name flag;
}

abbrev pub with_purged : DeskValue → (before : Seconds) → DeskValue
with_purged desk before = record (with_entry desk (Purge before)) {
  deliveries = delivery_entries.with_purge desk.deliveries (record_count desk.waiting) before;
}

abbrev pub with_accept : DeskValue → (name id body : Text) (at : Seconds) → DeskValue
with_accept desk name id body at = record (with_entry desk (Accept name id body at)) {
  clock = at;
  deliveries = delivery_entries.with_event desk.deliveries (record_count desk.waiting) name id body at;
}

-- What the books say of an event for a topic

-- the endpoints, and the subscribers of a topic among them, in the order of their Puts
abbrev pub names_in : endpoint_entries.BookValue → List Text
names_in book = map (λ e. e.name) book.entries

abbrev pub subscribed_in : endpoint_entries.BookValue → (topic : Text) → List Text
subscribed_in book topic = filter (is_on book.topics topic) (names_in book)

-- whether the endpoint doesn't know an id, whether other bytes are known, and whether too many events are pending
abbrev pub lacks_in : delivery_entries.BookValue → (id name : Text) → Bool
lacks_in book id name = not (is_some (delivery_entries.known_in book name id))

abbrev pub has_body_in : delivery_entries.BookValue → (delivery : Seq) (body : Text) → Bool
has_body_in book d body = option_map_or (λ e. bytes_eq e.body body) (delivery_entries.entry_at book.entries d) false

abbrev pub is_conflict_in : delivery_entries.BookValue → (known : Option Seq) (body : Text) → Bool
is_conflict_in book known body = option_map_or (λ d. not (has_body_in book d body)) known false

abbrev pub has_full_backlog_in : delivery_entries.BookValue → (name : Text) → Bool
has_full_backlog_in book name = nat_le MAX_PENDING (delivery_entries.pending_in book name)

-- the same, and the endpoint is a subscriber
abbrev pub is_against_in : DeskValue → (topic id body name : Text) → Bool
is_against_in desk topic id body name = is_on desk.endpoints.topics topic name
    && is_conflict_in desk.deliveries (delivery_entries.known_in desk.deliveries name id) body

abbrev pub is_lacking_in : DeskValue → (topic id name : Text) → Bool
is_lacking_in desk topic id name = is_on desk.endpoints.topics topic name && lacks_in desk.deliveries id name

abbrev pub is_full_in : DeskValue → (topic id name : Text) → Bool
is_full_in desk topic id name = is_lacking_in desk topic id name && has_full_backlog_in desk.deliveries name

-- the subscribers that don't know the id
abbrev pub lacking_in : DeskValue → (topic id : Text) → List Text
lacking_in desk topic id = filter (is_lacking_in desk topic id) (names_in desk.endpoints)

-- the queue holds the same pairs, and no endpoint has another room or fewer places
pub record HasMorePlaces (old new : QueueValue) : Type 0 where
  pub pairs : HasSamePairs old new
  pub rooms : HasSameRooms old new
  pub reserved : (name : Text) → IsTrue (is_reserved old name) → IsTrue (is_reserved new name)
  pub places : KeepsPlaces old new

-- it has a place for one more event of the endpoint
abbrev pub HasPlaceFor : QueueValue → delivery_entries.BookValue → (name : Text) → Type 0
HasPlaceFor queue book name = IsReservedFor queue name (delivery_entries.pending_in book name + 1)

-- the ticket of the event that the endpoint knows by this id; the number is 0 if it knows none
abbrev pub ticket_by : delivery_entries.BookValue → (id name : Text) → Ticket
ticket_by book id name = ticket (unwrap_or (delivery_entries.known_in book name id) 0) name id

abbrev pub with_publish : DeskValue → (names : List Text) (id body : Text) (at : Seconds) → DeskValue
with_publish desk names id body at = record desk {
  clock = at;
  waiting = with_step desk.waiting (accepts names id body at);
  deliveries = delivery_entries.with_events desk.deliveries (record_count desk.waiting) (accepts names id body at);
}
