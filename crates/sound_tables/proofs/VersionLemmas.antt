-- What is so of the tables of either version.
use Rattle.std.proofs.Common.{◌≡◌, inl, inr, refl}
use Rattle.sqlite.specs.Effect.{Database}
use Rattle.sqlite.specs.Schema.{Schema}
use Rattle.relay_types.specs.Rows.{Rows}
use Rattle.spool_sql.specs.Stored.{IsTablesOf}
use Rattle.spool_sql.specs.Tables.{IsOwn}
use Rattle.sound_tables.specs.Versions.{IsReadable, IsTablesAt, number_of, schema_of}
use Rattle.sound_tables.specs.declared.version.Version.{Version}
use Rattle.sound_tables.specs.declared.version.Version.TheVariants.{First, Second}

-- five of them are in both
pub five_at : (v : Version) (db : Database) (rows : Rows) → IsTablesAt v db rows
    → IsTablesOf (schema_of v) (number_of v) db rows
five_at First db rows it = record { schema_is = it.schema_is; tables = it.tables.five }
five_at Second db rows it = record { schema_is = it.schema_is; tables = it.tables.five }

pub schema_at : (v : Version) (db : Database) (rows : Rows) → IsTablesAt v db rows → db.schema ≡ schema_of v
schema_at v db rows it = (five_at v db rows it).schema_is

pub own_at : (v : Version) → IsOwn (schema_of v)
own_at First = inl refl
own_at Second = inr refl

pub readable_own : (v : Version) (schema : Schema) → IsReadable v schema → IsOwn schema
readable_own First schema own = own
readable_own Second schema is = inr is

pub readable_at : (v : Version) (schema : Schema) → schema ≡ schema_of v → IsReadable v schema
readable_at First schema is = inl is
readable_at Second schema is = is
