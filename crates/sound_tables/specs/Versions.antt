-- The two versions of the tables.
use Rattle.std.specs.Prelude.{◌≡◌, ℕ, Bool}
use Rattle.sqlite.specs.Effect.{Database}
use Rattle.sqlite.specs.Schema.{Schema}
use Rattle.relay_types.specs.Rows.{Rows}
use Rattle.spool_sql.specs.Stored.{IsFirstTables, IsTables}
use Rattle.spool_sql.specs.Tables.{IsOwn, first_schema, relay_schema}
use Rattle.sound_tables.specs.Keys.{has_first_names, has_first_tables, has_names, has_tables}
use Rattle.sound_tables.specs.declared.version.Version.{Version}
use Rattle.sound_tables.specs.declared.version.Version.TheVariants.{First, Second}

-- as meta tells it
abbrev pub number_of : Version → ℕ
number_of First = 1
number_of Second = 2

abbrev pub schema_of : Version → Schema
schema_of First = first_schema
schema_of Second = relay_schema

abbrev pub has_names_of : Version → Schema → Bool
has_names_of First = has_first_names
has_names_of Second = has_names

abbrev pub has_tables_of : Version → Schema → Bool
has_tables_of First = has_first_tables
has_tables_of Second = has_tables

-- a connection sees the tables of this version, which have these rows
abbrev pub IsTablesAt : Version → Database → Rows → Type 0
IsTablesAt First = IsFirstTables
IsTablesAt Second = IsTables

-- under these schemas of the relay's the tables of a version can be read
abbrev pub IsReadable : Version → Schema → Type 0
IsReadable First schema = IsOwn schema
IsReadable Second schema = schema ≡ relay_schema
