-- Which tables are adopted, and why others aren't.
use Rattle.std.specs.Prelude.{◌≡◌, ◌≢◌, ◌<◌, ◌⊎◌, false, ℕ, pos, true, List, [], ◌∷◌, map, Vec, Option, Some, None}
use Rattle.std.specs.Prelude.{int_lt, IsTrue}
use Rattle.std.specs.List.Sorted.{IsPermutation, IsSorted}
use Rattle.std.specs.Ordering.{nat_cmp, on}
use Rattle.std.specs.declared.alloc.Global.{Global}
use Rattle.sqlite.specs.Order.{Row}
use Rattle.sqlite.specs.Effect.{Database}
use Rattle.sqlite.specs.State.{State}
use Rattle.relay_types.specs.Rows.{Rows}
use Rattle.relay_types.specs.Sound.{AreKeyed, IsRisingFrom, are_sound}
use Rattle.sqlite_trees.specs.Tree.{IsAscending}
use Rattle.sqlite_catalog.specs.Listing.{IsSound}
use Rattle.sound_rows.specs.declared.numbers.Endpoint.{Endpoint}
use Rattle.sound_rows.specs.declared.numbers.Delivery.{Delivery}
use Rattle.sound_rows.specs.declared.numbers.Attempt.{Attempt}
use Rattle.sound_rows.specs.declared.numbers.Topic.{Topic as Decided}
use Rattle.spool_sql.specs.Causes.{cause}
use Rattle.spool_sql.specs.declared.cause.Cause.TheVariants.{Other}
use Rattle.spool_sql.specs.Readable.{IsRefusal}
use Rattle.sound_tables.specs.Shown.{ShowsMeta, ShowsEndpoint, ShowsSecret, ShowsDelivery, ShowsAttempt, ShowsTopic}
use Rattle.sound_tables.specs.Tables.{HasShown, LacksShown, Yields, meta_columns, endpoint_columns, secret_columns}
use Rattle.sound_tables.specs.Tables.{delivery_columns, attempt_columns, topic_columns}
use Rattle.sound_tables.specs.declared.meta.Meta.{Meta}
use Rattle.sound_tables.specs.declared.secret.Secret.{Secret}
use Rattle.sound_tables.specs.declared.stored.StoredRows.{StoredRows}
use Rattle.sound_tables.specs.declared.topic.Topic.{Topic}
use Rattle.sound_tables.specs.declared.fault.TableFault.{TableFault}
use Rattle.sound_tables.specs.declared.fault.TableFault.TheVariants.{NotOurs, NewerVersion, OldVersion, Damaged, Failed}
use Rattle.sound_tables.specs.declared.version.Version.{Version}
use Rattle.sound_tables.specs.declared.version.Version.TheVariants.{First, Second}
use Rattle.sound_tables.specs.Versions.{IsTablesAt, has_names_of, number_of}

-- the tables of this version have these rows, which are such as a legal history has
pub record AreSoundAt (v : Version) (db : Database) (rows : Rows) : Type 0 where
  pub tables : IsTablesAt v db rows
  pub keyed : AreKeyed rows
  pub sound : IsTrue (are_sound rows)

-- the tables have these rows, which are such
abbrev pub AreSoundTables : Database → Rows → Type 0
AreSoundTables = AreSoundAt Second

-- tables of version 1 have these rows, which are such
abbrev pub AreSoundFirstTables : Database → Rows → Type 0
AreSoundFirstTables = AreSoundAt First

-- the one row of meta names the relay
abbrev pub HasMeta : Database → Meta → Type 0
HasMeta db m = (row : Row) × (db.trees 0 ≡ row ∷ []) × ShowsMeta (meta_columns row) m

-- it tells a version for which this holds
abbrev pub HasVersion : Database → (ℕ → Type 0) → Type 0
HasVersion db P = (m : Meta) × HasMeta db m × (version : ℕ) × (m.version ≡ pos version) × P version

-- if it tells a version that is a number, this holds of it
abbrev pub HasNoVersionBut : Database → (ℕ → Type 0) → Type 0
HasNoVersionBut db P = (m : Meta) × HasMeta db m × ((version : ℕ) → m.version ≡ pos version → P version)

module _ (v : Version) (AreSound : Database → Rows → Type 0) (db : Database) where
  -- What each refusal of a look at meta says, where tables of this version are looked for: meta isn't the relay's; it
  -- tells a later version, or an older one; or it tells this version or none that there is, and no sound rows are
  -- theirs. Or a statement was refused by the store or for memory.
  abbrev pub IsRefusedMeta : TableFault → Type 0
  IsRefusedMeta NotOurs = (m : Meta) → ¬ HasMeta db m
  IsRefusedMeta NewerVersion = HasVersion db (λ version. number_of v < version)
  IsRefusedMeta OldVersion = HasVersion db (λ version. (0 < version) × (version < number_of v))
  IsRefusedMeta Damaged =
      HasNoVersionBut db (λ version. (version ≡ 0) ⊎ (version ≡ number_of v)) × ((rows : Rows) → ¬ AreSound db rows)
  IsRefusedMeta (Failed error) = cause error ≢ Other

  -- The same of a look at all tables. They aren't the relay's either if meta tells this version and one of its names is
  -- no table's.
  abbrev pub Refuses : TableFault → Type 0
  Refuses NotOurs =
      IsRefusedMeta NotOurs
      ⊎ (HasVersion db (λ version. version ≡ number_of v) × (has_names_of v db.schema ≡ false))
  Refuses fault = IsRefusedMeta fault

-- what each refusal says of the tables
abbrev pub IsRefusedAt : Database → TableFault → Type 0
IsRefusedAt = Refuses Second AreSoundTables

-- and of tables of which those of version 1 are asked for
abbrev pub IsFirstRefusedAt : Database → TableFault → Type 0
IsFirstRefusedAt = Refuses First AreSoundFirstTables

-- Why sound tables are refused: memory was, the store failed under this name, or a query took more steps than the
-- connection may.
abbrev pub IsSoundRefusal : (old new : State) → TableFault → Type 0
IsSoundRefusal old new (Failed error) = IsRefusal old new error
IsSoundRefusal old new _ = ⊥

-- tables that have sound rows are refused only so
abbrev pub RefusesSound : (old new : State) → TableFault → Type 0
RefusesSound old new fault = (rows : Rows) → AreSoundTables old.now rows → IsSoundRefusal old new fault

-- and so are those of version 1
abbrev pub RefusesFirst : (old new : State) → TableFault → Type 0
RefusesFirst old new fault = (rows : Rows) → AreSoundFirstTables old.now rows → IsSoundRefusal old new fault

-- and so are tables of a version that is asked for
abbrev pub RefusesAt : Version → (old new : State) → TableFault → Type 0
RefusesAt v old new fault = (rows : Rows) → AreSoundAt v old.now rows → IsSoundRefusal old new fault

-- Tables of version 1 are told as such, or refused so.
abbrev pub IsOldRefusal : (old new : State) → TableFault → Type 0
IsOldRefusal old new OldVersion = Unit {0}
IsOldRefusal old new fault = IsSoundRefusal old new fault

-- where those of version 2 are asked for
abbrev pub RefusesOld : (old new : State) → TableFault → Type 0
RefusesOld old new fault = (rows : Rows) → AreSoundFirstTables old.now rows → IsOldRefusal old new fault

-- sound rows of so many records are theirs
abbrev pub HasSound : (Database → Rows → Type 0) → Database → ℕ → Type 0
HasSound AreSound db records = (rows : Rows) × AreSound db rows × (rows.records ≡ records)

-- ---- what is read

-- meta tells the relay, this version and so many records
abbrev pub HasRecords : (version : ℕ) → Database → ℕ → Type 0
HasRecords version db records = HasMeta db (record { key = pos 1; version = pos version; records = pos records })

abbrev pub TellsEndpoints : Database → Option (Vec Endpoint Global) → Option (Vec Secret Global) → Type 0
TellsEndpoints db endpoints secrets =
    Yields ShowsEndpoint endpoint_columns (db.trees 1) endpoints
    × Yields ShowsSecret secret_columns (db.trees 3) secrets

abbrev pub TellsEvents : Database → Option (Vec Delivery Global) → Option (Vec Attempt Global) → Type 0
TellsEvents db deliveries attempts =
    Yields ShowsDelivery delivery_columns (db.trees 5) deliveries
    × Yields ShowsAttempt attempt_columns (db.trees 7) attempts

-- the rows of the table of topics, which version 1 doesn't have, show these values
abbrev pub HasTopics : Version → Database → List Topic → Type 0
HasTopics First db topics = topics ≡ []
HasTopics Second db topics = HasShown ShowsTopic topic_columns (db.trees 9) topics

-- not every row shows one
abbrev pub LacksTopics : Version → Database → Type 0
LacksTopics First db = ⊥
LacksTopics Second db = LacksShown ShowsTopic topic_columns (db.trees 9)

abbrev pub TellsTopics : Version → Database → Option (Vec Topic Global) → Type 0
TellsTopics First db (Some topics) = topics.items ≡ []
TellsTopics First db None = ⊥
TellsTopics Second db topics = Yields ShowsTopic topic_columns (db.trees 9) topics

-- the rows of the tables beside meta that a version has show these values
pub record AreShown (v : Version) (db : Database) (rows : StoredRows) : Type 0 where
  pub endpoints : HasShown ShowsEndpoint endpoint_columns (db.trees 1) rows.endpoints.items
  pub secrets : HasShown ShowsSecret secret_columns (db.trees 3) rows.secrets.items
  pub deliveries : HasShown ShowsDelivery delivery_columns (db.trees 5) rows.deliveries.items
  pub attempts : HasShown ShowsAttempt attempt_columns (db.trees 7) rows.attempts.items
  pub topics : HasTopics v db rows.topics.items

-- they show these, or one of the tables has a row that shows no value
abbrev pub TellsStored : Version → Database → Option StoredRows → Type 0
TellsStored v db (Some rows) = AreShown v db rows
TellsStored v db None =
    LacksShown ShowsEndpoint endpoint_columns (db.trees 1)
    ⊎ (LacksShown ShowsSecret secret_columns (db.trees 3)
    ⊎ (LacksShown ShowsDelivery delivery_columns (db.trees 5)
    ⊎ (LacksShown ShowsAttempt attempt_columns (db.trees 7) ⊎ LacksTopics v db)))

-- the keys of each table rise
pub record AreInOrder (rows : StoredRows) : Type 0 where
  pub puts : IsRisingFrom (λ (e : Endpoint). e.put) 0 rows.endpoints.items
  pub rowids : IsAscending (λ (s t : Secret). int_lt s.rowid t.rowid ≡ true) rows.secrets.items
  pub deliveries : IsRisingFrom (λ (d : Delivery). d.seq) 0 rows.deliveries.items
  pub attempts : IsRisingFrom (λ (t : Attempt). t.seq) 0 rows.attempts.items
  pub topics : IsAscending (λ (s t : Topic). int_lt s.rowid t.rowid ≡ true) rows.topics.items

-- all that is read of the tables of this version, of a database that obeys its schema
pub record AreRead (v : Version) (db : Database) (records : ℕ) (rows : StoredRows) : Type 0 where
  pub obeys : IsSound db.schema db.trees
  pub meta : HasRecords (number_of v) db records
  pub shown : AreShown v db rows

-- What a judgement of what was read says: it has no sound rows, memory was refused, or the rows aren't in the order
-- that was asked for.
abbrev pub IsJudgedAt : Version → Database → TableFault → Type 0
IsJudgedAt v db Damaged = (rows : Rows) → ¬ AreSoundAt v db rows
IsJudgedAt v db (Failed error) = cause error ≢ Other
IsJudgedAt v db other = ⊥

-- whatever was read
abbrev pub IsJudgement : TableFault → Type 0
IsJudgement Damaged = Unit {0}
IsJudgement (Failed error) = cause error ≢ Other
IsJudgement other = ⊥

-- the numbers of a topic that was read
abbrev pub numbers_of : Topic → Decided
numbers_of t = record { endpoint = t.endpoint; set_by = t.set_by }

-- those of all, in the order of the records that decide them
pub record AreInTurn (topics : List Topic) (numbers : List Decided) : Type 0 where
  pub same : IsPermutation (map numbers_of topics) numbers
  pub sorted : IsSorted (on (λ (t : Decided). t.set_by) nat_cmp) numbers
