-- Laws that contracts rest on.
use Rattle.std.specs.Prelude.{◌≡◌, ◌≤◌, ℕ, List, [], ◌∷◌, ◌++◌, map, length, IsTrue}
use Rattle.relay_types.specs.declared.record.Record.{Record}
use Rattle.relay_types.specs.Values.{Text}
use Rattle.relay_types.specs.Endpoints.{Endpoint, endpoints, is_enabled, secrets_of}
use Rattle.relay_types.specs.Subscriptions.{subscriptions}
use Rattle.relay_types.specs.Legal.{IsLegal}
use Rattle.endpoint_book.specs.declared.entry.Entry.{Entry}
use Rattle.endpoint_book.specs.Entries.{BookValue, restored_entry}
use Rattle.endpoint_book.specs.Topics.{TellsTopics, last_flag}
use Rattle.endpoint_book.specs.Book.{StandsFor, is_other}

-- a book stands for the longer history too where the record changes no endpoint
abbrev pub OthersLeave : Type 0
OthersLeave =
    (book : BookValue) (records : List Record) (settled : ℕ) (entry : Record) → StandsFor book records settled
    → IsLegal (records ++ entry ∷ []) → IsTrue (is_other entry) → StandsFor book (records ++ entry ∷ []) settled

-- the record leaves each endpoint and each topic as it was
pub record IsIdle (records : List Record) (entry : Record) : Type 0 where
  pub enabled : (name : Text) → is_enabled (records ++ entry ∷ []) name ≡ is_enabled records name
  pub secrets : (name : Text) → secrets_of (records ++ entry ∷ []) name ≡ secrets_of records name
  pub same : endpoints (records ++ entry ∷ []) ≡ endpoints records
  pub subscribed : (topic name : Text) → last_flag (records ++ entry ∷ []) topic name ≡ last_flag records topic name
  pub pairs : length (subscriptions (records ++ entry ∷ [])) ≡ length (subscriptions records)

abbrev pub IdleLeave : Type 0
IdleLeave =
    (book : BookValue) (records : List Record) (settled : ℕ) (entry : Record) → StandsFor book records settled
    → IsLegal (records ++ entry ∷ []) → IsIdle records entry → StandsFor book (records ++ entry ∷ []) settled

-- an endpoint as these records left it, where all of them are settled
abbrev pub entry_for : List Record → Endpoint → Entry
entry_for records e =
    restored_entry e.put e.name e.target e.max (secrets_of records e.name) (is_enabled records e.name)

-- the book has just the endpoints and the topics of these records, and all of them are settled
pub record IsRestored (book : BookValue) (records : List Record) : Type 0 where
  pub entries : book.entries ≡ map (entry_for records) (endpoints records)
  pub changes : book.changes ≡ []
  pub topics : TellsTopics book.topics records
  pub next_seq : book.next_seq ≤ length records
  pub settled_seq : book.settled_seq ≡ length records

abbrev pub RestoredStand : Type 0
RestoredStand =
    (book : BookValue) (records : List Record) → IsLegal records → IsRestored book records
    → StandsFor book records (length records)
