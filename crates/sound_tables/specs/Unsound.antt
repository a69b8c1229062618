-- What is told of a store whose rows don't obey the schema that it lists, by its table `meta`.
use Rattle.std.specs.Prelude.{◌≡◌, ◌+◌, ◌<◌, ◌≤◌, ◌&&◌, ℕ, pos, Bool, false, List, [], ◌∷◌, map, filter, find, take}
use Rattle.std.specs.Prelude.{codes, bytes_eq, Option, Some, None}
use Rattle.sqlite_value.specs.declared.value.Value.{Value}
use Rattle.sqlite_value.specs.declared.value.Value.TheVariants.{Int, Text}
use Rattle.sqlite_value.specs.Order.{Row, column}
use Rattle.sqlite_trees.specs.declared.store.Shape.TheVariants.{Table}
use Rattle.sqlite_trees.specs.Objects.{catalog_tree}
use Rattle.sqlite_trees.specs.Tree.{has_rowid}
use Rattle.sqlite_trees.specs.View.{View}
use Rattle.sqlite_trees.specs.View.{Tells as TellsStore}
use Rattle.sqlite_trees.specs.declared.error.StoreError.{StoreError}
use Rattle.sqlite.specs.declared.error.Error.{Error}
use Rattle.sqlite.specs.State.{store_error}
use Rattle.sound_tables.specs.Shown.{ShowsMeta}
use Rattle.sound_tables.specs.Tables.{meta_columns}
use Rattle.sound_tables.specs.declared.meta.Meta.{Meta}
use Rattle.sound_tables.specs.declared.fault.TableFault.{TableFault}
use Rattle.sound_tables.specs.declared.fault.TableFault.TheVariants.{NotOurs, NewerVersion, OldVersion, Damaged, Failed}

abbrev pub is_text : Value → List ℕ → Bool
is_text (Text own) text = bytes_eq own text
is_text _ text = false

-- what the store lists: of each tree its number and one, its type, its name
abbrev pub objects_of : View → List Row
objects_of v = map (take 5) (v.trees catalog_tree)

abbrev pub is_meta_object : Row → Bool
is_meta_object row = is_text (column row 1) (codes "table") && is_text (column row 2) (codes "meta")

-- the first table that is listed as `meta` is this tree
abbrev pub ListsMeta : View → ℕ → Type 0
ListsMeta v tree =
    (object : Row) × (find is_meta_object (objects_of v) ≡ Some object) × (column object 0 ≡ Int (pos (tree + 1)))
    × (tree < 65536)

-- the row with the key 1 of this tree, which is a table, names the relay
abbrev pub KeepsMeta : View → ℕ → Meta → Type 0
KeepsMeta v tree m =
    (v.shape tree ≡ Table) × ((row : Row) × (filter (has_rowid (pos 1)) (v.trees tree) ≡ row ∷ [])
    × ShowsMeta (meta_columns row) m)

abbrev pub NamesRelay : View → Meta → Type 0
NamesRelay v m = (tree : ℕ) × ListsMeta v tree × KeepsMeta v tree m

-- this tree, or none, is such a one
abbrev pub FindsMeta : View → Option ℕ → Type 0
FindsMeta v (Some tree) = ListsMeta v tree
FindsMeta v None = (tree : ℕ) → ListsMeta v tree → ⊥

abbrev pub ReadsMeta : View → ℕ → Option Meta → Type 0
ReadsMeta v tree (Some m) = KeepsMeta v tree m
ReadsMeta v tree None = (m : Meta) → KeepsMeta v tree m → ⊥

abbrev pub ReadsRelay : View → Option Meta → Type 0
ReadsRelay v (Some m) = NamesRelay v m
ReadsRelay v None = (m : Meta) → NamesRelay v m → ⊥

-- As what the store is told: it doesn't name the relay; it names it, of a later version; or of no later version. Or a
-- look at it was refused.
abbrev pub IsToldUnsound : View → TableFault → Type 0
IsToldUnsound v NotOurs = (m : Meta) → NamesRelay v m → ⊥
IsToldUnsound v NewerVersion = (m : Meta) × NamesRelay v m × (version : ℕ) × (m.version ≡ pos version) × (2 < version)
IsToldUnsound v OldVersion = ⊥
IsToldUnsound v Damaged = (m : Meta) × NamesRelay v m × ((version : ℕ) → m.version ≡ pos version → version ≤ 2)
IsToldUnsound v (Failed error) = Unit {0}

-- the error is the name of a fault of the store, which it told last, where it keeps that
abbrev pub IsOfStore : Option StoreError → Error → Type 0
IsOfStore blamed error = (why : StoreError) × (error ≡ store_error why) × TellsStore blamed why

-- a refused look is told so
abbrev pub TellsFailed : Option StoreError → TableFault → Type 0
TellsFailed blamed (Failed error) = IsOfStore blamed error
TellsFailed blamed _ = Unit {0}
