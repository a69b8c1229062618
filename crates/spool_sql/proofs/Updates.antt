-- The UPDATE statements of meta.
use Rattle.std.proofs.Common.{◌≡◌, ℕ, pos, List, [], ◌∷◌, map, filter, codes, true, Ok, refl, ap, subst, ◌∙◌}
use Rattle.std.specs.Ordering.{is_eq}
use Rattle.std.specs.List.Sorted.{IsPermutation}
use Rattle.sqlite_value.specs.Order.{value_cmp}
use Rattle.sqlite_value.proofs.OrderLemmas.{value_cmp-Int}
use Rattle.sqlite.specs.declared.types.Value.TheVariants.{Null, Int}
use Rattle.sqlite.specs.Order.{Row}
use Rattle.sqlite.specs.Term.{Term, lit, col}
use Rattle.sqlite_schema.specs.declared.program.Program.{Program}
use Rattle.sqlite.specs.Command.TheVariants.{Update}
use Rattle.sqlite_rules.specs.Edit.{edit_of, edited}
use Rattle.sqlite_rules.specs.Calls.{ids_of}
use Rattle.sqlite.specs.Rowids.TheVariants.{Given}
use Rattle.sqlite.specs.Tree.{without_rowid}
use Rattle.sqlite.specs.Listing.{understood}
use Rattle.sqlite.specs.State.{State, Executes}
use Rattle.sqlite.proofs.Callers.{one_permutation}
use Rattle.sqlite_tied.specs.Compute.{everything}
use Rattle.spool_sql.specs.Tables.{relay_schema, meta}
use Rattle.spool_sql.specs.Stored.{IsSixTables, meta_stored, with_records}
use Rattle.relay_types.specs.Rows.{Rows}
use Rattle.spool_sql.specs.Steps.{Makes}
use Rattle.spool_sql.proofs.InsertLemmas.{Means, Wrote}
use Rattle.spool_sql.proofs.RelayLemmas.{idle, others_of, other_meta}
use Rattle.spool_sql.proofs.Inserts.{cast_int, cast_null}
use Rattle.spool_sql.proofs.UpdateLemmas.{scan, shows, passes, scanned, updates}

abbrev pub meta_update : List ℕ
meta_update = codes "UPDATE meta SET records = ?1"

abbrev pub version_update : List ℕ
version_update = codes "UPDATE meta SET version = ?1"

-- the row of meta with another number of records, and with another version
abbrev counted : List Term
counted = col 1 0 ∷ col 1 0 ∷ lit Null ∷ col 1 2 ∷ col 1 3 ∷ col 0 0 ∷ []

abbrev versioned : List Term
versioned = col 1 0 ∷ col 1 0 ∷ lit Null ∷ col 1 2 ∷ col 0 0 ∷ col 1 4 ∷ []

abbrev of_meta : List Term → Program
of_meta terms = record { lets = []; body = scan 0 [] terms }

one_is_one : is_eq (value_cmp (Int (pos 1)) (Int (pos 1))) ≡ true
one_is_one = ap is_eq (value_cmp-Int (pos 1) (pos 1))

left_alone : (version m : ℕ) → without_rowid (pos 1) (meta_stored version m ∷ []) ≡ []
left_alone version m = rw one_is_one refl

-- An UPDATE of the row of meta, by these terms, whose parameter is this number
module _ (sql : List ℕ) (terms : List Term) (means : Means relay_schema sql (Update 0 (of_meta terms))) (n : ℕ)
    (old new : State) (count : ℕ) (h : Executes sql (Int (pos n) ∷ []) old new (Ok count)) where
  abbrev params : Row
  params = Int (pos n) ∷ []

  sets_meta : (version later records : ℕ) (rows : Rows) → IsSixTables version old.now rows
      → edited old.now.trees (edit_of old.now.trees meta
      (ids_of (shows params terms (meta_stored version rows.records) ∷ [])) Given 1
      (shows params terms (meta_stored version rows.records) ∷ [])) ≡ meta_stored later records ∷ []
      → IsSixTables later new.now (with_records records rows)
  sets_meta version later records rows t edits =
      let db = old.now.trees in
      let u = updates relay_schema sql params 0 (of_meta terms) meta means refl idle old new count t.schema_is h in
      let found = scanned 0 [] terms relay_schema db params u.0 u.1 in
      let w : Wrote relay_schema old new 0 (edited db (edit_of db meta (ids_of u.0) Given 1 u.0)) = u.2 in
      let one : u.0 ≡ shows params terms (meta_stored version rows.records) ∷ [] =
      one_permutation _ u.0 (subst (λ tree. IsPermutation (map (shows params terms) (filter (passes params []) tree))
      u.0) t.tables.five.meta found) in
      record {
        schema_is = w.schema_is;
        tables = other_meta version db new.now.trees rows t.tables w.sound (others_of old new 0 _ w) later records
            (w.rows_are ∙ ap (λ all. edited db (edit_of db meta (ids_of all) Given 1 all)) one ∙ edits);
      }

meta_update_means : Means relay_schema meta_update (Update 0 (of_meta counted))
unfolding understood everything
meta_update_means = record { is = refl; plain = (refl, refl) }

version_update_means : Means relay_schema version_update (Update 0 (of_meta versioned))
unfolding understood everything
version_update_means = record { is = refl; plain = (refl, refl) }

pub makes_records : (old new : State) (n count : ℕ) → Executes meta_update (Int (pos n) ∷ []) old new (Ok count)
    → Makes old new (with_records n)
makes_records old new n count h rows t =
    sets_meta meta_update counted meta_update_means n old new count h 2 2 n rows t
    (rw (t.tables.five.meta, left_alone 2 rows.records, cast_null, cast_int (pos 1), cast_int (pos 2), cast_int (pos n))
    refl)

pub makes_version : (old new : State) (count : ℕ) → Executes version_update (Int (pos 2) ∷ []) old new (Ok count)
    → (rows : Rows) → IsSixTables 1 old.now rows → IsSixTables 2 new.now rows
makes_version old new count h rows t =
    sets_meta version_update versioned version_update_means 2 old new count h 1 2 rows.records rows t
    (rw (
      t.tables.five.meta,
      left_alone 1 rows.records,
      cast_null,
      cast_int (pos 1),
      cast_int (pos 2),
      cast_int
          (pos rows.records),
    ) refl)
