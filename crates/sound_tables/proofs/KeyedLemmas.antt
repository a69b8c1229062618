-- The relay's schemas have their tables with their keys.
use Rattle.std.proofs.Common.{◌≡◌, inl, inr, Bool, true, false, refl, sym, ap, ◌∙◌}
use Rattle.sqlite.specs.Schema.{Schema}
use Rattle.sqlite_schema.specs.Names.{same_name}
use Rattle.spool_sql.specs.Tables.{IsOwn, first_schema, relay_schema}
use Rattle.sound_tables.specs.Keys.{has_first_names, has_first_tables, has_meta, has_names, has_tables}
use Rattle.sound_tables.specs.Versions.{IsReadable, has_names_of, has_tables_of, schema_of}
use Rattle.sound_tables.specs.declared.version.Version.{Version}
use Rattle.sound_tables.specs.declared.version.Version.TheVariants.{First, Second}

relay_meta : has_meta relay_schema ≡ true
unfolding same_name
relay_meta = refl

first_meta : has_meta first_schema ≡ true
unfolding same_name
first_meta = refl

first_names : has_first_names first_schema ≡ true
unfolding same_name
first_names = refl

relay_first_names : has_first_names relay_schema ≡ true
unfolding same_name
relay_first_names = refl

relay_names : has_names relay_schema ≡ true
unfolding same_name
relay_names = refl

first_tables : has_first_tables first_schema ≡ true
unfolding same_name
first_tables = refl

relay_first_tables : has_first_tables relay_schema ≡ true
unfolding same_name
relay_first_tables = refl

relay_tables : has_tables relay_schema ≡ true
unfolding same_name
relay_tables = refl

-- version 1 has no table of topics
no_topics : has_names first_schema ≡ false
unfolding same_name
no_topics = refl

never : {P : Type 0} (b : Bool) → b ≡ true → b ≡ false → P
never b is_true is_false = absurd (let no : true ≡ false = sym is_true ∙ is_false in cc)

-- what a schema has isn't lacking under it
lacks_none : {P : Type 0} (has : Schema → Bool) (own schema : Schema) → has own ≡ true → schema ≡ own
    → has schema ≡ false → P
lacks_none has own schema has_own is lacks = never (has schema) (ap has is ∙ has_own) lacks

pub never_foreign : {P : Type 0} (schema : Schema) → IsOwn schema → has_meta schema ≡ false → P
never_foreign schema (inl is) = lacks_none has_meta first_schema schema first_meta is
never_foreign schema (inr is) = lacks_none has_meta relay_schema schema relay_meta is

pub never_unnamed : {P : Type 0} (v : Version) (schema : Schema) → schema ≡ schema_of v → has_names_of v schema ≡ false
    → P
never_unnamed First schema = lacks_none has_first_names first_schema schema first_names
never_unnamed Second schema = lacks_none has_names relay_schema schema relay_names

-- the five names are those of both versions
pub never_nameless : {P : Type 0} (schema : Schema) → IsOwn schema → has_first_names schema ≡ false → P
never_nameless schema (inl is) = lacks_none has_first_names first_schema schema first_names is
never_nameless schema (inr is) = lacks_none has_first_names relay_schema schema relay_first_names is

-- a schema of the relay's that has the names of a version has the keys
pub never_unkeyed : {P : Type 0} (v : Version) (schema : Schema) → IsOwn schema → has_names_of v schema ≡ true
    → has_tables_of v schema ≡ false → P
never_unkeyed First schema (inl is) named lacks =
    lacks_none has_first_tables first_schema schema first_tables is lacks
never_unkeyed First schema (inr is) named lacks =
    lacks_none has_first_tables relay_schema schema relay_first_tables is lacks
never_unkeyed Second schema (inl is) named lacks = never (has_names schema) named (ap has_names is ∙ no_topics)
never_unkeyed Second schema (inr is) named lacks = lacks_none has_tables relay_schema schema relay_tables is lacks

pub own_schema : (v : Version) (schema : Schema) → schema ≡ schema_of v → IsOwn schema
own_schema First schema is = inl is
own_schema Second schema is = inr is

-- one that has the names of a version can be read as that
pub named_readable : (v : Version) (schema : Schema) → IsOwn schema → has_names_of v schema ≡ true
    → IsReadable v schema
named_readable First schema own named = own
named_readable Second schema (inl is) named = never (has_names schema) named (ap has_names is ∙ no_topics)
named_readable Second schema (inr is) named = is
