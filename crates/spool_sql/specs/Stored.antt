-- How the rows of a history are stored in the relay's tables.
use Rattle.std.specs.List.{AllByRecursion, list_any}
use Rattle.std.specs.Prelude.{◌≡◌, ◌≤◌, ℕ, ℤ, ◌==◌, ◌&&◌, not, pos, Bool, true, cond, List, [], ◌∷◌, ◌++◌, length, map}
use Rattle.std.specs.Prelude.{drop, filter, codes, bytes_eq, Option, slice_get, nat_le, take, IsTrue}
use Rattle.sqlite.specs.declared.types.Value.TheVariants.{Null, Int, Text as Words, Blob as Bytes}
use Rattle.sqlite.specs.Order.{Row}
use Rattle.sqlite.specs.Effect.{Database}
use Rattle.sqlite.specs.Tree.{Trees}
use Rattle.sqlite.specs.Schema.{Schema}
use Rattle.sqlite_trees.specs.Tree.{rowid, has_rowid}
use Rattle.sqlite_trees.specs.View.{is_int}
use Rattle.sqlite_catalog.specs.Listing.{IsSound}
use Rattle.std.specs.List.Sorted.{IsPermutation, IsNonDecreasingBy}
use Rattle.relay_types.specs.Values.{Seq, Text}
use Rattle.relay_types.specs.Rows.{Rows, EndpointRow, SecretRow, DeliveryRow, AttemptRow, TopicRow, change_where}
use Rattle.relay_types.specs.Rows.{is_pair_row}
use Rattle.sqlite_value.specs.Order.{column, bytes}
use Rattle.sqlite_trees.specs.Objects.{number_in}
use Rattle.spool_sql.specs.declared.row as row
use Rattle.spool_sql.specs.Tables.{first_schema, relay_schema}

-- ---- a row as it is stored: its rowid, and then its columns, with NULL where the rowid stands for one

-- the one row of meta: the application, the version of the tables and how many records they hold
abbrev pub meta_stored : ℕ → ℕ → Row
meta_stored version records = Int (pos 1) ∷ Null ∷ Words (codes "webhook-relay") ∷ Int (pos version) ∷ Int (pos records)
    ∷ []

abbrev pub flag_number : Bool → ℕ
flag_number flag = cond flag 1 0

abbrev pub endpoint_stored : EndpointRow → Row
endpoint_stored e = Int (pos e.put) ∷ Null ∷ Words e.name ∷ Words e.url ∷ Int (pos e.max)
    ∷ Int (pos (flag_number e.enabled)) ∷ Int (pos e.enabled_by) ∷ Int (pos e.secrets_by) ∷ []

abbrev pub delivery_stored : DeliveryRow → Row
delivery_stored d = Int (pos d.seq) ∷ Null ∷ Int (pos d.endpoint) ∷ Words d.id ∷ Int (pos d.at) ∷ Bytes d.body ∷ []

abbrev pub attempt_stored : AttemptRow → Row
attempt_stored a = Int (pos a.seq) ∷ Null ∷ Int (pos a.delivery) ∷ Int (pos a.number) ∷ Int (pos a.status)
    ∷ Int (pos a.at) ∷ []

-- what follows the rowid, which nobody sees
abbrev pub secret_stored : SecretRow → Row
secret_stored s = Int (pos s.endpoint) ∷ Int (pos s.place) ∷ Bytes s.secret ∷ []

abbrev pub topic_stored : TopicRow → Row
topic_stored t = Words t.topic ∷ Int (pos t.endpoint) ∷ Int (pos (flag_number t.subscribed)) ∷ Int (pos t.set_by) ∷ []

-- each row of a tree has a number as its rowid, which no other row has
pub record HasRowids (tree : List Row) : Type 0 where
  pub numbered : AllByRecursion (λ r. IsTrue (is_int (rowid r))) tree
  pub once : (id : ℤ) → length (filter (has_rowid id) tree) ≤ 1

-- The trees list the tables of a schema and obey it, meta tells their version, and the five tables that both versions
-- have stand for these rows in any order.
pub record AreTables (schema : Schema) (version : ℕ) (db : Trees) (rows : Rows) : Type 0 where
  pub sound : IsSound schema db
  pub meta : db 0 ≡ meta_stored version rows.records ∷ []
  pub endpoints : IsPermutation (db 1) (map endpoint_stored rows.endpoints)
  pub secrets : IsPermutation (map (drop 1) (db 3)) (map secret_stored rows.secrets)
  pub deliveries : IsPermutation (db 5) (map delivery_stored rows.deliveries)
  pub attempts : IsPermutation (db 7) (map attempt_stored rows.attempts)
  pub secret_rowids : HasRowids (db 3)

-- a connection sees these five
pub record IsTablesOf (schema : Schema) (version : ℕ) (db : Database) (rows : Rows) : Type 0 where
  pub schema_is : db.schema ≡ schema
  pub tables : AreTables schema version db.trees rows

-- the tables of version 1: the five, and no row of a topic
pub record AreFirstTablesOf (db : Trees) (rows : Rows) : Type 0 where
  pub five : AreTables first_schema 1 db rows
  pub no_topics : rows.topics ≡ []

-- a connection sees these
pub record IsFirstTables (db : Database) (rows : Rows) : Type 0 where
  pub schema_is : db.schema ≡ first_schema
  pub tables : AreFirstTablesOf db.trees rows

-- beside the five tables, of which meta tells this version, that of topics has these rows in any order
pub record AreSixTables (version : ℕ) (db : Trees) (rows : Rows) : Type 0 where
  pub five : AreTables relay_schema version db rows
  pub topics : IsPermutation (map (drop 1) (db 9)) (map topic_stored rows.topics)
  pub topic_rowids : HasRowids (db 9)

-- a connection sees these six
pub record IsSixTables (version : ℕ) (db : Database) (rows : Rows) : Type 0 where
  pub schema_is : db.schema ≡ relay_schema
  pub tables : AreSixTables version db.trees rows

-- the relay's tables, which are of version 2
abbrev pub AreTablesOf : Trees → Rows → Type 0
AreTablesOf = AreSixTables 2

abbrev pub IsTables : Database → Rows → Type 0
IsTables = IsSixTables 2

-- ---- what each statement makes of the rows

abbrev pub with_records : ℕ → Rows → Rows
with_records n rows = record rows { records = n }

-- as its Put makes it
abbrev pub new_endpoint : ℕ → List ℕ → List ℕ → ℕ → EndpointRow
new_endpoint put name url max = record {
  put = put;
  name = name;
  url = url;
  max = max;
  enabled = true;
  enabled_by = put;
  secrets_by = put;
}

abbrev pub with_endpoint : EndpointRow → Rows → Rows
with_endpoint e rows = record rows { endpoints = rows.endpoints ++ e ∷ [] }

abbrev pub with_secret : SecretRow → Rows → Rows
with_secret s rows = record rows { secrets = rows.secrets ++ s ∷ [] }

abbrev pub with_delivery : DeliveryRow → Rows → Rows
with_delivery d rows = record rows { deliveries = rows.deliveries ++ d ∷ [] }

abbrev pub with_attempt : AttemptRow → Rows → Rows
with_attempt a rows = record rows { attempts = rows.attempts ++ a ∷ [] }

abbrev pub with_topic : TopicRow → Rows → Rows
with_topic t rows = record rows { topics = rows.topics ++ t ∷ [] }

-- the rows of the history with no record
abbrev pub first_rows : Rows
first_rows = record { records = 0; endpoints = []; secrets = []; deliveries = []; attempts = []; topics = [] }

-- ---- what is asked of the rows

abbrev pub endpoints_named : List ℕ → Rows → List EndpointRow
endpoints_named name rows = filter (λ (e : EndpointRow). bytes_eq e.name name) rows.endpoints

-- the number of an endpoint of this name, none where no endpoint has it
abbrev pub IsPutOf : List ℕ → Rows → Option ℕ → Type 0
IsPutOf name rows found = (puts : List ℕ)
    × IsPermutation (map (λ (e : EndpointRow). e.put) (endpoints_named name rows)) puts × (found ≡ slice_get puts 0)

abbrev pub is_delivery : ℕ → List ℕ → DeliveryRow → Bool
is_delivery endpoint id d = (d.endpoint == endpoint) && bytes_eq d.id id

-- whether the endpoint that the record with this number made has an event of this id
abbrev pub has_id : Rows → ℕ → List ℕ → Bool
has_id rows endpoint id = list_any (is_delivery endpoint id) rows.deliveries

-- whether a row tells of this topic and of the endpoint that the record with this number made
abbrev pub has_pair : Rows → Text → Seq → Bool
has_pair rows topic endpoint = list_any (is_pair_row topic endpoint) rows.topics

-- the number that a row shows first
abbrev pub number_of : Row → ℕ
number_of (Int (pos n) ∷ rest) = n
number_of _ = 0

-- ---- what is changed and taken out

abbrev pub with_enabled : Seq → Bool → Seq → Rows → Rows
with_enabled put flag by rows = record rows {
  endpoints = change_where (λ e. e.put == put) (λ e. record e { enabled = flag; enabled_by = by }) rows.endpoints;
}

abbrev pub with_secrets_by : Seq → Seq → Rows → Rows
with_secrets_by put by rows = record rows {
  endpoints = change_where (λ e. e.put == put) (λ e. record e { secrets_by = by }) rows.endpoints;
}

abbrev pub without_secrets : Seq → Rows → Rows
without_secrets endpoint rows =
    record rows { secrets = filter (λ (s : SecretRow). not (s.endpoint == endpoint)) rows.secrets }

abbrev pub without_topic : Text → Seq → Rows → Rows
without_topic topic endpoint rows =
    record rows { topics = filter (λ (t : TopicRow). not (is_pair_row topic endpoint t)) rows.topics }

-- the attempts at this event
abbrev pub without_attempts : Seq → Rows → Rows
without_attempts delivery rows =
    record rows { attempts = filter (λ (a : AttemptRow). not (a.delivery == delivery)) rows.attempts }

-- this event
abbrev pub without_delivery : Seq → Rows → Rows
without_delivery seq rows =
    record rows { deliveries = filter (λ (d : DeliveryRow). not (d.seq == seq)) rows.deliveries }

-- ---- what is asked of one event

-- the number of the endpoint of this event, none where no record took it in
abbrev pub IsEndpointOf : Seq → Rows → Option Seq → Type 0
IsEndpointOf delivery rows found =
    (puts : List Seq)
    × IsPermutation
    (map (λ (d : DeliveryRow). d.endpoint) (filter (λ (d : DeliveryRow). d.seq == delivery) rows.deliveries)) puts
    × (found ≡ slice_get puts 0)

-- the status of each attempt at this event, in any order
abbrev pub AreStatusesOf : Seq → Rows → List ℕ → Type 0
AreStatusesOf delivery rows found =
    IsPermutation
    (map (λ (a : AttemptRow). a.status) (filter (λ (a : AttemptRow). a.delivery == delivery) rows.attempts)) found

-- what came of an attempt, and the row that shows it
abbrev pub tried_of : AttemptRow → row.Tried.Tried
tried_of a = record { delivery = a.delivery; status = a.status; at = a.at }

abbrev pub tried_in : Row → row.Tried.Tried
tried_in r = record {
  delivery = number_in (column r 0);
  status = number_in (column r 1);
  at = number_in (column r 2);
}

-- whether an attempt is at one of the events with these numbers and between them
abbrev pub is_between : (first last : Seq) → AttemptRow → Bool
is_between first last a = nat_le first a.delivery && nat_le a.delivery last

-- what came of each attempt at these events, in the order of the events, and at each in the order of their numbers
abbrev pub AreTriesBetween : (first last : Seq) → Rows → List row.Tried.Tried → Type 0
AreTriesBetween first last rows found =
    (all : List AttemptRow) × IsPermutation (filter (is_between first last) rows.attempts) all
    × IsNonDecreasingBy (λ (a : AttemptRow). a.delivery) all
    × ((delivery : Seq)
    → IsNonDecreasingBy (λ (a : AttemptRow). a.number) (filter (λ (a : AttemptRow). a.delivery == delivery) all))
    × (found ≡ map tried_of all)

-- no two attempts have one number
abbrev pub HaveOwnNumbers : List AttemptRow → Type 0
HaveOwnNumbers attempts = (seq : Seq) → length (filter (λ (a : AttemptRow). a.seq == seq) attempts) ≤ 1

-- ---- a table, page by page

abbrev pub page_rows : ℕ
page_rows = 256

-- the first rows of a table from a number on, in the order of their numbers
abbrev pub IsPage : {X : Type 0} → (number : X → Seq) → (from : Seq) → (xs page : List X) → Type 0
IsPage number from xs page =
    (all : List _) × IsPermutation (filter (λ x. nat_le from (number x)) xs) all × IsNonDecreasingBy number all
    × (page ≡ take page_rows all)

-- the row that shows these columns in turn
abbrev pub delivery_in : Row → DeliveryRow
delivery_in r = record {
  seq = number_in (column r 0);
  endpoint = number_in (column r 1);
  id = bytes (column r 2);
  at = number_in (column r 3);
  body = bytes (column r 4);
}

abbrev pub endpoint_in : Row → EndpointRow
endpoint_in r = record {
  put = number_in (column r 0);
  name = bytes (column r 1);
  url = bytes (column r 2);
  max = number_in (column r 3);
  enabled = not (number_in (column r 4) == 0);
  enabled_by = number_in (column r 5);
  secrets_by = number_in (column r 6);
}

abbrev pub attempt_in : Row → AttemptRow
attempt_in r = record {
  seq = number_in (column r 0);
  delivery = number_in (column r 1);
  number = number_in (column r 2);
  status = number_in (column r 3);
  at = number_in (column r 4);
}

abbrev pub topic_in : Row → TopicRow
topic_in r = record {
  topic = bytes (column r 0);
  endpoint = number_in (column r 1);
  subscribed = not (number_in (column r 2) == 0);
  set_by = number_in (column r 3);
}

-- a row as it is read
abbrev pub endpoint_of : row.EndpointRow.EndpointRow → EndpointRow
endpoint_of e = record {
  put = e.put;
  name = e.name;
  url = e.target;
  max = e.max;
  enabled = e.enabled;
  enabled_by = e.enabled_by;
  secrets_by = e.secrets_by;
}

abbrev pub delivery_of : row.DeliveryRow.DeliveryRow → DeliveryRow
delivery_of d = record { seq = d.seq; endpoint = d.endpoint; id = d.id; at = d.at; body = d.body }

abbrev pub attempt_of : row.AttemptRow.AttemptRow → AttemptRow
attempt_of a = record { seq = a.seq; delivery = a.delivery; number = a.number; status = a.status; at = a.at }

abbrev pub topic_of : row.TopicRow.TopicRow → TopicRow
topic_of t = record { topic = t.topic; endpoint = t.endpoint; subscribed = t.subscribed; set_by = t.set_by }

-- the secrets of this endpoint, in the order of their places
abbrev pub AreSecretsOf : Seq → Rows → List Text → Type 0
AreSecretsOf endpoint rows found =
    (all : List SecretRow) × IsPermutation (filter (λ (s : SecretRow). s.endpoint == endpoint) rows.secrets) all
    × IsNonDecreasingBy (λ (s : SecretRow). s.place) all
    × (found ≡ map (λ (s : SecretRow). s.secret) all)
