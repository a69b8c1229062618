-- What an UPDATE does to a database of the relay.
use Rattle.std.proofs.Common.{◌≡◌, ◌≢◌, ℕ, ◌-◌, ◌^◌, pos, negsuc, List, [], ◌∷◌, ◌++◌, map, filter, flat_map, slice_get}
use Rattle.std.proofs.Common.{unwrap_or, Bool, true, false, cond, Some, None, Ok, refl, sym, ap, subst, subst₂, ◌∙◌}
use Rattle.std.specs.List.{AllByRecursion, list_all}
use Rattle.std.specs.List.Sorted.{IsPermutation}
use Rattle.std.proofs.lemmas.List.Sorted.{IsPermutation-map}
use Rattle.sqlite.specs.declared.types.Value.TheVariants.{Null, Int}
use Rattle.sqlite.specs.Order.{Row}
use Rattle.sqlite.specs.Term.{Term, lit, eval_all, holds}
use Rattle.sqlite.specs.Query.{Query, inner, end, IsAnswer, Output, output}
use Rattle.sqlite.specs.Program.{overlay}
use Rattle.sqlite_schema.specs.declared.program.Program.{Program}
use Rattle.sqlite_value.specs.declared.keys.Key.{Key}
use Rattle.sqlite.specs.Table.{Table}
use Rattle.sqlite.specs.Schema.{Schema}
use Rattle.sqlite.specs.Command.TheVariants.{Update}
use Rattle.sqlite_rules.specs.Edit.{Edit, Applies, edit_of, left_by, edited, taken_by, are_fresh}
use Rattle.sqlite_rules.specs.Action.{works, Writes as Goes}
use Rattle.sqlite_rules.specs.Calls.{ids_of}
use Rattle.sqlite.specs.Rowids.TheVariants.{Given}
use Rattle.sqlite.specs.Does.{Does, OnRows}
use Rattle.sqlite.specs.Rows.{Written, Task, Updates}
use Rattle.sqlite.specs.Effect.{Database, IsDatabase, Answers}
use Rattle.sqlite.specs.Tree.{Trees}
use Rattle.sqlite.specs.Listing.{understood}
use Rattle.sqlite.specs.State.{State, mode_of, Executes}
use Rattle.sqlite_schema.specs.declared.schema.Keys.TheVariants.{Enforced}
use Rattle.sqlite.proofs.Callers.{statement_of, runs_as, one_step}
use Rattle.sqlite_catalog.specs.Listing.{IsSound}
use Rattle.spool_sql.proofs.InsertLemmas.{Means, Wrote, left_as, went, same_value}

-- ---- a query over one table

-- so many rows of one table as pass the tests, in an order
abbrev pub scan_by : List (Term × Key) → ℕ → List Term → List Term → Query
scan_by order t tests shown = record {
  from = inner t end;
  filter = tests;
  group = None;
  project = shown;
  distinct = false;
  collations = [];
  order = order;
  limit = lit (Int (negsuc 0));
  offset = lit (Int (pos 0));
}

-- the same in no order
abbrev pub scan : ℕ → List Term → List Term → Query
scan t tests shown = scan_by [] t tests shown

abbrev pub passes : Row → List Term → Row → Bool
passes params tests r = list_all (holds (params ∷ r ∷ [])) tests

abbrev pub shows : Row → List Term → Row → Row
shows params shown r = eval_all shown (params ∷ r ∷ [])

pub matched : (params : Row) (tests : List Term) (rows : List Row)
    → flat_map (λ r. cond (passes params tests r) ((params ∷ r ∷ []) ∷ []) []) rows ≡ map (λ r. params ∷ r ∷ [])
    (filter (passes params tests) rows)
matched params tests [] = refl
matched params tests (r ∷ rows) = by_test (passes params tests r) (matched params tests rows)
  where
    by_test : (b : Bool) → flat_map (λ x. cond (passes params tests x) ((params ∷ x ∷ []) ∷ []) []) rows ≡ map
        (λ x. params ∷ x ∷ []) (filter (passes params tests) rows)
        → cond b ((params ∷ r ∷ []) ∷ []) [] ++ flat_map (λ x. cond (passes params tests x) ((params ∷ x ∷ []) ∷ []) [])
        rows
        ≡ map (λ x. params ∷ x ∷ [])
        (cond b (r ∷ filter (passes params tests) rows) (filter (passes params tests) rows))
    by_test true e = ap (λ xs. (params ∷ r ∷ []) ∷ xs) e
    by_test false e = e

shown_of : (order : List (Term × Key)) (t : ℕ) (tests shown : List Term) (params : Row) (rows : List Row)
    → map (λ (o : Output). o.1) (map (output (scan_by order t tests shown)) (map (λ r. params ∷ r ∷ []) rows)) ≡ map
    (shows params shown) rows
shown_of order t tests shown params [] = refl
shown_of order t tests shown params (r ∷ rows) = ap (λ xs. shows params shown r ∷ xs)
    (shown_of order t tests shown params rows)

pub no_tables : (b : Bool) (rows : List Row) (n : ℕ) → unwrap_or (cond b (slice_get [] n) None) rows ≡ rows
no_tables true rows n = refl
no_tables false rows n = refl

pub scanned_by : (order : List (Term × Key)) (t : ℕ) (tests shown : List Term) (schema : Schema) (db : Trees)
    (params : Row) (rows : List Row)
    → Answers (record { schema = schema; trees = db }) (record { lets = []; body = scan_by order t tests shown }) params
    rows
    → IsPermutation (map (shows params shown) (filter (passes params tests) (db t))) rows
scanned_by order t tests shown schema db params rows h =
    let q = scan_by order t tests shown in
    let a : IsAnswer q (overlay db []) params rows = h.answer Null in
    let there : overlay db [] t ≡ db t = no_tables _ (db t) (t - 2 ^ 31) in
    let staged : a.staged ≡ map (λ r. params ∷ r ∷ []) (filter (passes params tests) (db t)) = a.grouped
    ∙ matched params tests (overlay db [] t)
    ∙ ap (λ x. map (λ r. params ∷ r ∷ []) (filter (passes params tests) x)) there in
    let kept : a.kept ≡ map (output q) (map (λ r. params ∷ r ∷ []) (filter (passes params tests) (db t))) = a.distinct
    ∙ ap (map (output q)) staged in
    let moved = IsPermutation-map (λ (o : Output). o.1) _ _ (subst (λ k. IsPermutation k a.ordered) kept a.same) in
    subst₂ IsPermutation (shown_of order t tests shown params (filter (passes params tests) (db t))) (sym a.shown) moved

pub scanned : (t : ℕ) (tests shown : List Term) (schema : Schema) (db : Trees) (params : Row) (rows : List Row)
    → Answers (record { schema = schema; trees = db }) (record { lets = []; body = scan t tests shown }) params rows
    → IsPermutation (map (shows params shown) (filter (passes params tests) (db t))) rows
scanned = scanned_by []

-- ---- the statements

pub updated_by : (task : Task) (q : Program) (db : Trees) (w : Written) → Updates task q task.params db (Ok w)
    → (rows : List Row) × Answers (record { schema = task.schema; trees = db }) q task.params rows
    × Goes task.schema task.keys db (edit_of db task.table (ids_of rows) Given 1 rows) (Ok w.trees)
updated_by task q db w h =
    let found = went h in
    let made = went found.2 in (
      found.0,
      found.1,
      subst
          (λ t. Goes task.schema task.keys db (edit_of db task.table (ids_of found.0) Given 1 found.0) (Ok t))
          (sym (ap (λ (it : Written). it.trees) (same_value made.2))) made.1,
    )

pub wrote_by : (schema : Schema) (old new : State) (edit : Edit) (next : Trees) → IsDatabase new.now
    → new.now ≡ record { schema = schema; trees = next }
    → Applies schema Enforced old.now.trees edit next → Wrote schema old new edit.table.tree (edited old.now.trees edit)
wrote_by schema old new edit next sound same it =
    let trees : new.now.trees ≡ next = ap (λ (d : Database). d.trees) same in
    let schema_is : new.now.schema ≡ schema = ap (λ (d : Database). d.schema) same in
    record {
      schema_is = schema_is;
      sound = subst (λ s. IsSound s new.now.trees) schema_is sound;
      rows_are = ap (λ (t : Trees). t edit.table.tree) trees ∙ it.rows;
      others = subst (λ (t : Trees). AllByRecursion (λ (x : Table). x.tree ≢ edit.table.tree
          → t x.tree ≡ old.now.trees x.tree) schema.tables) (sym trees) it.tables;
    }

-- no new row has the rowid of one that stays
abbrev pub IsPutIn : Trees → Edit → Type 0
IsPutIn db edit = are_fresh (left_by db edit) edit.news ≡ true

module _ (schema : Schema) (sql : List ℕ) (params : Row) (at : ℕ) (q : Program) (table : Table)
    (means : Means schema sql (Update at q)) (listed : slice_get schema.tables at ≡ Some table)
    (idle : (tree : ℕ) (olds news : List Row) → works schema Enforced 0 tree olds news ≡ []) where
  pub updates : (old new : State) (count : ℕ) → old.now.schema ≡ schema → Executes sql params old new (Ok count)
      → (rows : List Row) × Answers (record { schema = schema; trees = old.now.trees }) q params rows
      × Wrote schema old new table.tree (edited old.now.trees (edit_of old.now.trees table (ids_of rows) Given 1 rows))
      × IsPutIn old.now.trees (edit_of old.now.trees table (ids_of rows) Given 1 rows)
  updates old new count has h =
      let db = old.now.trees in
      let w = runs_as sql params old new schema has (Update at q) means.is means.plain count h in
      let text = statement_of sql (understood schema sql) in
      let task : Task = record {
        limit = old.step_limit;
        keys = Enforced;
        schema = schema;
        table = table;
        params =
            params;
      } in
      let on : OnRows task (mode_of old) None (Update at q) db (Ok (w.tally, new.now)) =
      rw listed at
      (subst (λ s. Does old.step_limit (mode_of old) params (record old.now { schema = s }) text None (Update at q)
      (Ok (w.tally, new.now))) has w.changed) in
      let made = left_as task (mode_of old) (Update at q) db w.tally new.now on in
      let edit = updated_by task q db made.0 made.1 in
      let the = edit_of db table (ids_of edit.0) Given 1 edit.0 in
      let it = one_step schema Enforced db made.0.trees the (idle table.tree (taken_by db the) the.news) edit.2 in
      (edit.0, edit.1, wrote_by schema old new the made.0.trees w.sound made.2 it, it.fresh)
