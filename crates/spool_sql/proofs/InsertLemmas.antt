-- What an INSERT of one row does to a database of the relay.
use Rattle.std.proofs.Common.{◌≡◌, ◌≢◌, ◌⊎◌, inl, inr, ℕ, ◌/◌, ℤ, MatchBool, List, [], ◌∷◌, length, slice_get, Bool}
use Rattle.std.proofs.Common.{true, false, cond, Some, None, Ok, Err, Result, refl, sym, ap, subst, subst₂, ◌∙◌}
use Rattle.std.specs.List.{AllByRecursion}
use Rattle.sqlite.specs.Order.{Row}
use Rattle.sqlite.specs.Term.{Term}
use Rattle.sqlite.specs.Table.{Table}
use Rattle.sqlite.specs.Source.{Source}
use Rattle.sqlite.specs.Source.TheVariants.{Values}
use Rattle.sqlite.specs.Command.TheVariants.{Insert}
use Rattle.sqlite.specs.Edit.{edit_of, are_fresh}
use Rattle.sqlite_rules.specs.Edit.{put_all}
use Rattle.sqlite_rules.specs.Action.{works, Writes as Goes}
use Rattle.sqlite.specs.Command.{Command}
use Rattle.sqlite.specs.declared.run.Mode.{Mode}
use Rattle.sqlite.specs.Rowids.TheVariants.{Chosen, Above}
use Rattle.sqlite.specs.Does.{Tally, Does, OnRows, WritesRows}
use Rattle.sqlite.specs.Rows.{Written, stamped, Task, Inserts, CountsIn, Gives, sequence, count_of, rowids_for}
use Rattle.sqlite.specs.Rowids.{Rowids}
use Rattle.sqlite.specs.Effect.{Database, value_rows, IsSource}
use Rattle.sqlite.specs.Tree.{Trees, put_row}
use Rattle.sqlite.specs.Listing.{understood}
use Rattle.sqlite.specs.State.{State, mode_of, Executes}
use Rattle.sqlite_schema.specs.declared.schema.Keys.TheVariants.{Enforced}
use Rattle.sqlite.proofs.Callers.{IsPlain, command_of, statement_of, runs_as, one_step}
use Rattle.sqlite.specs.Schema.{Schema}
use Rattle.sqlite_catalog.specs.Listing.{IsSound}

-- a part that gave a value did not stop on the way
pub went : {B E R : Type 0} {b : B} {Stops : E → Type 0} → ((stop : E) × Stops stop × (Ok b ≡ Err stop)) ⊎ R → R
went (inl stopped) = absurd (let e = stopped.2 in cc)
went (inr on) = on

pub same_value : {B E : Type 0} {a b : B} → ◌≡◌ {A = Result B E} (Ok a) (Ok b) → a ≡ b
same_value e = cc

-- under the schema the text is this command
pub record Means (schema : Schema) (sql : List ℕ) (command : Command) : Type 0 where
  pub is : command_of (understood schema sql) ≡ command
  pub plain : IsPlain (understood schema sql)

-- one tree of a table has these rows now, and all else of a database of this schema is as it was
pub record Wrote (schema : Schema) (old new : State) (tree : ℕ) (rows : List Row) : Type 0 where
  pub schema_is : new.now.schema ≡ schema
  pub sound : IsSound schema new.now.trees
  pub rows_are : new.now.trees tree ≡ rows
  pub others : AllByRecursion (λ (t : Table). t.tree ≢ tree → new.now.trees t.tree ≡ old.now.trees t.tree) schema.tables

-- a statement on rows leaves the trees that its part made
pub left_as : (task : Task) (mode : Mode) (command : Command) (db : Trees) (tally : Tally) (after : Database)
    → OnRows task mode None command db (Ok (tally, after))
    → (w : Written) × WritesRows task db command (Ok w) × (after ≡ record { schema = task.schema; trees = w.trees })
left_as task mode command db tally after h =
    let done = went h in
    (done.0, done.1, ap (λ (p : Tally × Database). p.1) (same_value (went (went done.2).2).2))

-- a test that fails takes the second part
pub second : {A : Type 0} (b : Bool) (P Q : A → Type 0) (a : A) → b ≡ false → MatchBool b (P a) (Q a) → Q a
second false P Q a e h = h
second true P Q a e h = absurd (let f = e in cc)

pub given_ids : (b : Bool) (top : ℤ) → b ≡ false → cond b (Above top) Chosen ≡ Chosen
given_ids false top e = refl
given_ids true top e = absurd (let f = e in cc)

pub no_count : (b : Bool) (c : Bool) → b ≡ false → cond b c false ≡ false
no_count false c e = refl
no_count true c e = absurd (let f = e in cc)

-- an INSERT into a table with no AUTOINCREMENT makes one edit
pub inserted_by : (task : Task) (from : Source) (db : Trees) (w : Written) → task.table.is_counted ≡ false
    → Inserts task from db (Ok w)
    → (rows : List Row) × IsSource (record { schema = task.schema; trees = db }) (stamped task.table task.params) from
    rows
    × Goes task.schema task.keys db (edit_of db task.table [] Chosen 0 rows) (Ok w.trees)
inserted_by task from db w bare h =
    let given = went h in
    let counter = went given.2 in
    let written = went counter.2 in
    let counted = went written.2 in
    let ids : rowids_for task.table (count_of counter.0) ≡ Chosen = given_ids task.table.is_counted _ bare in
    let kept : counted.0 ≡ written.0 =
    same_value (second _ (CountsIn task written.0 counter.0 _ (sequence task.schema)) (Gives written.0)
    (Ok counted.0) (no_count task.table.is_counted _ bare) counted.1) in
    let trees : w.trees ≡ written.0 = ap (λ (it : Written). it.trees) (same_value counted.2) ∙ kept in
    let edit = λ (ids : Rowids). edit_of db task.table [] ids 0 given.0 in
    (given.0, given.1, subst₂ (λ i t. Goes task.schema task.keys db (edit i) (Ok t)) ids (sym trees) written.1)

module _ (schema : Schema) (sql : List ℕ) (params : Row) (at : ℕ) (terms : List Term) (width : ℕ) (table : Table)
    (means : Means schema sql (Insert at (Values terms width))) (listed : slice_get schema.tables at ≡ Some table)
    (uncounted : table.is_counted ≡ false)
    (row : Trees → Row)
    (news : (db : Trees) → (edit_of db table [] Chosen 0
    (value_rows (stamped table params) width (length terms / width) terms)).news ≡ row db ∷ [])
    (idle : (tree : ℕ) (olds news : List Row) → works schema Enforced 0 tree olds news ≡ []) where
  pub inserts : (old new : State) (count : ℕ) → old.now.schema ≡ schema → Executes sql params old new (Ok count)
      → Wrote schema old new table.tree (put_row (row old.now.trees) (old.now.trees table.tree))
      × (are_fresh (old.now.trees table.tree) (row old.now.trees ∷ []) ≡ true)
  inserts old new count has h =
      let db = old.now.trees in
      let command = Insert at (Values terms width) in
      let w = runs_as sql params old new schema has command means.is means.plain count h in
      let text = statement_of sql (understood schema sql) in
      let task : Task = record {
        limit = old.step_limit;
        keys = Enforced;
        schema = schema;
        table = table;
        params =
            params;
      } in
      let on : OnRows task (mode_of old) None command db (Ok (w.tally, new.now)) =
      rw listed at
      (subst (λ s. Does old.step_limit (mode_of old) params (record old.now { schema = s }) text None command
      (Ok (w.tally, new.now))) has w.changed) in
      let made = left_as task (mode_of old) command db w.tally new.now on in
      let edit = inserted_by task (Values terms width) db made.0 uncounted made.1 in
      let only : edit.0 ≡ value_rows (stamped table params) width (length terms / width) terms = edit.1.1 in
      let the = edit_of db table [] Chosen 0 edit.0 in
      let new_rows : the.news ≡ row db ∷ [] = ap (λ all. (edit_of db table [] Chosen 0 all).news) only ∙ news db in
      let it = one_step schema Enforced db made.0.trees the (idle table.tree [] the.news) edit.2 in
      let same : new.now ≡ record { schema = schema; trees = made.0.trees } = made.2 in
      let trees : new.now.trees ≡ made.0.trees = ap (λ (d : Database). d.trees) same in
      let schema_is : new.now.schema ≡ schema = ap (λ (d : Database). d.schema) same in (
        record {
          schema_is = schema_is;
          sound = subst (λ s. IsSound s new.now.trees) schema_is w.sound;
          rows_are = ap (λ (t : Trees). t table.tree) trees ∙ it.rows ∙ ap (put_all (db table.tree)) new_rows;
          others = subst (λ (t : Trees). AllByRecursion (λ (x : Table). x.tree ≢ table.tree → t x.tree ≡ db x.tree)
              schema.tables) (sym trees) it.tables;
        },
        subst (λ all. are_fresh (db table.tree) all ≡ true) new_rows it.fresh,
      )
