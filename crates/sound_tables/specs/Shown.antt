-- What the rows of the tables show, where their values keep their rules.
use Rattle.std.specs.Prelude.{◌≡◌, ◌<◌, ◌^◌, ℕ, pos, Bool, List, codes, IsTrue}
use Rattle.sqlite.specs.Order.{Row}
use Rattle.sqlite.specs.declared.types.Value.TheVariants.{Int, Text as Words, Blob as Bytes}
use Rattle.sqlite_value.specs.Order.{column}
use Rattle.relay_types.specs.Values.{is_name, is_target, is_max_limit, is_msg_id, is_body, is_moment, is_secret}
use Rattle.sound_rows.specs.declared.numbers.Endpoint.{Endpoint}
use Rattle.sound_rows.specs.declared.numbers.Delivery.{Delivery}
use Rattle.sound_rows.specs.declared.numbers.Attempt.{Attempt}
use Rattle.spool_sql.specs.Stored.{flag_number}
use Rattle.sound_tables.specs.declared.meta.Meta.{Meta}
use Rattle.sound_tables.specs.declared.secret.Secret.{Secret}
use Rattle.sound_tables.specs.declared.topic.Topic.{Topic}

-- the row of the relay's meta
pub record ShowsMeta (row : Row) (m : Meta) : Type 0 where
  pub key : column row 0 ≡ Int m.key
  pub app : column row 1 ≡ Words (codes "webhook-relay")
  pub version : column row 2 ≡ Int m.version
  pub records : column row 3 ≡ Int m.records

-- all but the target
pub record ShowsNumbers (row : Row) (e : Endpoint) : Type 0 where
  pub put : column row 0 ≡ Int (pos e.put)
  pub name : (name : List ℕ) × (column row 1 ≡ Words name) × IsTrue (is_name name)
  pub max : (max : ℕ) × (column row 3 ≡ Int (pos max)) × IsTrue (is_max_limit max)
  pub enabled : column row 4 ≡ Int (pos (flag_number e.enabled))
  pub enabled_by : column row 5 ≡ Int (pos e.enabled_by)
  pub secrets_by : column row 6 ≡ Int (pos e.secrets_by)

pub record ShowsEndpoint (row : Row) (e : Endpoint) : Type 0 where
  pub numbers : ShowsNumbers row e
  pub url : (url : List ℕ) × (column row 2 ≡ Words url) × IsTrue (is_target url)

pub record ShowsSecret (row : Row) (s : Secret) : Type 0 where
  pub rowid : column row 0 ≡ Int s.rowid
  pub endpoint : column row 1 ≡ Int (pos s.endpoint)
  pub place : column row 2 ≡ Int (pos s.place)
  pub secret : (secret : List ℕ) × (column row 3 ≡ Bytes secret) × IsTrue (is_secret secret)

pub record ShowsDelivery (row : Row) (d : Delivery) : Type 0 where
  pub seq : column row 0 ≡ Int (pos d.seq)
  pub endpoint : column row 1 ≡ Int (pos d.endpoint)
  pub id : (id : List ℕ) × (column row 2 ≡ Words id) × IsTrue (is_msg_id id)
  pub at : (at : ℕ) × (column row 3 ≡ Int (pos at)) × IsTrue (is_moment at)
  pub body : (body : List ℕ) × (column row 4 ≡ Bytes body) × IsTrue (is_body body)

pub record ShowsAttempt (row : Row) (t : Attempt) : Type 0 where
  pub seq : column row 0 ≡ Int (pos t.seq)
  pub delivery : column row 1 ≡ Int (pos t.delivery)
  pub number : column row 2 ≡ Int (pos t.number)
  pub status : column row 3 ≡ Int (pos t.status)
  pub at : (at : ℕ) × (column row 4 ≡ Int (pos at)) × IsTrue (is_moment at)
  pub fits : t.status < 2 ^ 16

pub record ShowsTopic (row : Row) (t : Topic) : Type 0 where
  pub rowid : column row 0 ≡ Int t.rowid
  pub topic : (topic : List ℕ) × (column row 1 ≡ Words topic) × IsTrue (is_name topic)
  pub endpoint : column row 2 ≡ Int (pos t.endpoint)
  pub subscribed : (flag : Bool) × (column row 3 ≡ Int (pos (flag_number flag)))
  pub set_by : column row 4 ≡ Int (pos t.set_by)
