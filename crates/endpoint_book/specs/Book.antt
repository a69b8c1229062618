-- The histories for which a book stands, and what it tells of them.
use Rattle.std.specs.Prelude.{◌≡◌, ℕ, ◌+◌, ◌≤◌, Bool, true, false, not, List, [], ◌∷◌, ◌++◌, Option, Some, None, length}
use Rattle.std.specs.Prelude.{map, take, drop, filter, option_map, option_and_then, count_by, IsTrue, if◌then◌else◌}
use Rattle.std.specs.Option.{option_map_or}
use Rattle.relay_types.specs.declared.record.Record.{Record}
use Rattle.relay_types.specs.declared.record.Record.TheVariants as on
use Rattle.relay_types.specs.Values.{Text, Seq}
use Rattle.relay_types.specs.Judging.{is_gone_status}
use Rattle.relay_types.specs.Endpoints.{Endpoint, endpoints, endpoint_of, has_endpoint, is_delivery_of, is_enabled}
use Rattle.relay_types.specs.Endpoints.{secrets_of}
use Rattle.relay_types.specs.Legal.{IsLegal}
use Rattle.endpoint_book.specs.declared.entry.Change.{Change}
use Rattle.endpoint_book.specs.declared.entry.Entry.{Entry}
use Rattle.endpoint_book.specs.declared.entry.Shown.{Shown}
use Rattle.endpoint_book.specs.declared.view.EndpointView.{EndpointView}
use Rattle.endpoint_book.specs.Entries.{BookValue, entry_of, is_flag, is_put, is_from, shown_at}
use Rattle.endpoint_book.specs.Topics.{TellsTopics}

-- What the book says, in the words of histories.

abbrev pub endpoint_by_entry : Entry → Endpoint
endpoint_by_entry e = record { put = e.put; name = e.name; target = e.target; max = e.max }

abbrev pub enabled_in : (book : BookValue) (name : Text) → Bool
enabled_in book name = option_map_or (λ e. e.enabled) (entry_of book name) true

abbrev pub secrets_in : (book : BookValue) (name : Text) → List Text
secrets_in book name = option_map_or (λ e. e.secrets) (entry_of book name) []

abbrev pub settled_in : (book : BookValue) (name : Text) → Option Shown
settled_in book name = option_map_or (λ e. e.settled) (entry_of book name) None

-- how many of the changes from this place on pass the test
abbrev pub count_from : (test : Change → Bool) (place : Seq) (changes : List Change) → ℕ
count_from test place changes = count_by test (filter (is_from place) changes)

-- what the records show of the endpoint, if it is there
abbrev pub shown_of : (records : List Record) (name : Text) → Option Shown
shown_of records name = option_map (λ _. record {
  enabled = is_enabled records name;
  secrets = length (secrets_of records name);
}) (endpoint_of records name)

-- whether the record enables or disables an endpoint
abbrev pub sets_flag : Record → Bool
sets_flag (on.Enabled name flag) = true
sets_flag (on.Outcome delivery attempt status at) = is_gone_status status
sets_flag entry = false

-- what the book has of all records
pub record Agrees (book : BookValue) (records : List Record) : Type 0 where
  pub enabled : (name : Text) → enabled_in book name ≡ is_enabled records name
  pub secrets : (name : Text) → secrets_in book name ≡ secrets_of records name
  pub endpoints : map endpoint_by_entry book.entries ≡ endpoints records
  pub topics : TellsTopics book.topics records

-- what the book will have of the settled records, once they are those below this place
pub record Shows (book : BookValue) (place : Seq) (records : List Record) : Type 0 where
  pub shown : (name : Text) → shown_at place book.changes name (settled_in book name) ≡ shown_of records name
  pub puts : length (endpoints records) + count_from is_put place book.changes ≡ length book.entries

-- the book stands for these records, of which so many are settled
pub record StandsFor (book : BookValue) (records : List Record) (settled : ℕ) : Type 0 where
  pub legal : IsLegal records
  pub tells : Agrees book records
  pub shows : (place : Seq) → settled ≤ place → Shows book place (take place records)
  pub flags : (place : Seq) → settled ≤ place
      → count_from is_flag place book.changes ≤ count_by sets_flag (drop place records)
  pub next_seq : book.next_seq ≤ length records
  pub settled_seq : book.settled_seq ≡ settled

-- What is so of all records, of the settled ones, and of those that wait, whatever history the book stands for.

abbrev pub OfAll : (book : BookValue) (P : List Record → Type 0) → Type 0
OfAll book P = (records : List Record) (settled : ℕ) → StandsFor book records settled → P records

abbrev pub OfSettled : (book : BookValue) (P : List Record → Type 0) → Type 0
OfSettled book P = (records : List Record) (settled : ℕ) → StandsFor book records settled → P (take settled records)

abbrev pub OfWaiting : (book : BookValue) (P : List Record → Type 0) → Type 0
OfWaiting book P = (records : List Record) (settled : ℕ) → StandsFor book records settled → P (drop settled records)

-- What a call makes of each history for which the book stood.

-- it has one more record, where that is legal
abbrev pub Stages : (old new : BookValue) (seq : Seq) (entry : Record) → Type 0
Stages old new seq entry =
    (records : List Record) (settled : ℕ) → StandsFor old records settled → seq ≡ length records
    → IsLegal (records ++ entry ∷ []) → StandsFor new (records ++ entry ∷ []) settled

-- it has one more Outcome, which says of a delivery of the endpoint that it is gone
abbrev pub StagesGone : (old new : BookValue) (seq : Seq) (name : Text) → Type 0
StagesGone old new seq name =
    (records : List Record) (settled delivery attempt status at : ℕ) → StandsFor old records settled
    → seq ≡ length records
    → IsTrue (is_gone_status status) → IsTrue (is_delivery_of records name delivery)
    → IsLegal (records ++ on.Outcome delivery attempt status at ∷ [])
    → StandsFor new (records ++ on.Outcome delivery attempt status at ∷ []) settled

-- the records below the place are settled
abbrev pub Settles : (old new : BookValue) (place : Seq) → Type 0
Settles old new place =
    (records : List Record) (settled : ℕ) → StandsFor old records settled → place ≤ length records
    → StandsFor new records place

-- What the book tells of an endpoint.

-- its secrets, if it is there
abbrev pub secrets_if_known : (records : List Record) (name : Text) → Option (List Text)
secrets_if_known records name = if has_endpoint records name then Some (secrets_of records name) else None

-- an endpoint as pages show it
pub record View : Type 0 where
  pub name : Text
  pub target : Text
  pub max : ℕ
  pub enabled : Bool
  pub secrets : ℕ

abbrev pub view_of : (records : List Record) (name : Text) → Option View
view_of records name = option_map (λ e. record {
  name = e.name;
  target = e.target;
  max = e.max;
  enabled = is_enabled records name;
  secrets = length (secrets_of records name);
}) (endpoint_of records name)

-- an endpoint with what is shown of it, and what the book has of the settled records
abbrev pub view_by : (entry : Entry) (shown : Shown) → View
view_by e shown = record {
  name = e.name;
  target = e.target;
  max = e.max;
  enabled = shown.enabled;
  secrets = shown.secrets;
}

abbrev pub settled_view : (book : BookValue) (name : Text) → Option View
settled_view book name = option_and_then (λ e. option_map (view_by e) e.settled) (entry_of book name)

-- what a view of the book says
abbrev pub told : EndpointView → View
told v = record { name = v.name; target = v.target.now; max = v.max; enabled = v.enabled; secrets = v.secrets }

-- a record that changes no endpoint and names no topic
abbrev pub is_other : Record → Bool
is_other (on.Accept name id body at) = true
is_other (on.Outcome delivery attempt status at) = not (is_gone_status status)
is_other (on.Purge before) = true
is_other entry = false
