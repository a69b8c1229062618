-- Which tables a store has of the relay's, by their names and their keys.
use Rattle.std.specs.Prelude.{◌&&◌, ℕ, Bool, false, List, [], ◌∷◌, codes, nat_eq, Option, Some, None, is_some, ◌==◌}
use Rattle.std.specs.List.{list_all, list_any}
use Rattle.std.specs.Cmp.Lexicographic.{pointwise}
use Rattle.sqlite.specs.Table.{Table}
use Rattle.sqlite.specs.Schema.{Schema}
use Rattle.sqlite_schema.specs.declared.schema.Reference.{Reference}
use Rattle.sqlite_schema.specs.Names.{same_name, table_named}

-- a table of this name stands, in any case of its letters
abbrev pub has_table : Schema → List ℕ → Bool
has_table schema name = is_some (table_named schema name)

abbrev pub has_meta : Schema → Bool
has_meta schema = has_table schema (codes "meta")

-- the names of version 1
abbrev pub first_names : List (List ℕ)
first_names = codes "meta" ∷ codes "endpoints" ∷ codes "secrets" ∷ codes "deliveries" ∷ codes "attempts" ∷ []

-- each of them is a table's, whatever stands beside them
abbrev pub has_first_names : Schema → Bool
has_first_names schema = list_all (has_table schema) first_names

-- and so is the sixth, of version 2
abbrev pub has_names : Schema → Bool
has_names schema = has_first_names schema && has_table schema (codes "topics")

-- ---- the keys, by the places of their columns, of which the first is 1

-- the rowid is the first column
abbrev pub is_numbered : Option ℕ → Bool
is_numbered (Some column) = column == 0
is_numbered None = false

-- no two rows have the same values at these places
abbrev pub is_unique : Table → List ℕ → Bool
is_unique table places = list_any (λ these. pointwise nat_eq these places) table.uniques

abbrev pub is_one : List (List ℕ) → List ℕ → Bool
is_one (first ∷ []) name = same_name first name
is_one names name = false

-- the column at this place names a row of the parent, by this column of it
abbrev pub is_reference : Reference → (place : ℕ) → (parent column : List ℕ) → Bool
is_reference r place parent column = pointwise nat_eq r.columns (place ∷ [])
    && (same_name r.parent parent && is_one r.parent_columns column)

abbrev pub refers : Table → (place : ℕ) → (parent column : List ℕ) → Bool
refers table place parent column = list_any (λ r. is_reference r place parent column) table.references

abbrev pub is_endpoints : Table → Bool
is_endpoints t = same_name t.name (codes "endpoints") && (is_numbered t.key && is_unique t (2 ∷ []))

abbrev pub is_secrets : Table → Bool
is_secrets t = same_name t.name (codes "secrets")
    && (is_unique t (1 ∷ 2 ∷ []) && refers t 1 (codes "endpoints") (codes "put"))

abbrev pub is_deliveries : Table → Bool
is_deliveries t = same_name t.name (codes "deliveries")
    && (is_numbered t.key && (is_unique t (2 ∷ 3 ∷ []) && refers t 2 (codes "endpoints") (codes "put")))

abbrev pub is_attempts : Table → Bool
is_attempts t = same_name t.name (codes "attempts")
    && (is_numbered t.key && (is_unique t (2 ∷ 3 ∷ []) && refers t 2 (codes "deliveries") (codes "seq")))

abbrev pub is_topics : Table → Bool
is_topics t =
    same_name t.name (codes "topics") && (is_unique t (1 ∷ 2 ∷ []) && refers t 2 (codes "endpoints") (codes "put"))

-- the five tables of version 1 stand with their keys, whatever stands beside them
abbrev pub has_first_tables : Schema → Bool
has_first_tables schema = has_meta schema
    && list_all (λ is. list_any is schema.tables) (is_endpoints ∷ is_secrets ∷ is_deliveries ∷ is_attempts ∷ [])

-- and so does the sixth, of version 2
abbrev pub has_tables : Schema → Bool
has_tables schema = has_first_tables schema && list_any is_topics schema.tables
