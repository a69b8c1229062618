-- An INSERT whose row is kept out by a UNIQUE.
use Rattle.std.proofs.Common.{◌≡◌, ◌≢◌, inl, inr, ℕ, zero, suc, ◌/◌, List, [], ◌∷◌, length, slice_get}
use Rattle.std.proofs.Common.{true, false, not, Some, None, Option, option_map, Ok, Err, Result, IfOk, IfErr, IsTrue}
use Rattle.std.proofs.Common.{refl, sym, ap, subst, subst₂}
use Rattle.std.proofs.Common.{◌∙◌, arith, append-nil, length-append}
use Rattle.std.proofs.lemmas.Bool.{cases_Bool}
use Rattle.sqlite.specs.declared.error.ErrorCode.TheVariants as code
use Rattle.sqlite.specs.declared.error.Error.{Error}
use Rattle.sqlite.specs.declared.error.Error.TheVariants.{SqliteFailure}
use Rattle.sqlite.specs.Order.{Row}
use Rattle.sqlite.specs.Term.{Term}
use Rattle.sqlite.specs.Table.{Table}
use Rattle.sqlite.specs.Schema.{Schema}
use Rattle.sqlite.specs.Source.TheVariants.{Values}
use Rattle.sqlite.specs.Command.{Command}
use Rattle.sqlite.specs.Command.TheVariants.{Insert}
use Rattle.sqlite.specs.declared.run.Mode.{Mode}
use Rattle.sqlite.specs.Rowids.{Rowids}
use Rattle.sqlite.specs.Rowids.TheVariants.{Chosen}
use Rattle.sqlite.specs.Does.{Does, OnRows, WritesRows}
use Rattle.sqlite.specs.Edit.{edit_of}
use Rattle.sqlite.specs.Effect.{Database, edit_error, value_rows, IsSource}
use Rattle.sqlite.specs.Rows.{CounterIn, CountsIn, Gives, Inserts, Sourced, Task, count_of, rowids_for, sequence}
use Rattle.sqlite.specs.Rows.{stamped}
use Rattle.sqlite.specs.Tree.{Trees, put_row}
use Rattle.sqlite.specs.Listing.{understood}
use Rattle.sqlite.specs.Clock.{timed}
use Rattle.sqlite.specs.State.{State, Executes, ExecutesIn, ExecutesInside, IsNotRun, IsMisplaced, IsUnchanged}
use Rattle.sqlite.specs.State.{RunsCommand, mode_of, shows_rows, store_error, text_of}
use Rattle.sqlite.proofs.Callers.{IsPlain, command_of, statement_of}
use Rattle.sqlite_trees.specs.declared.error.StoreError.{StoreError}
use Rattle.sqlite_trees.specs.declared.error.StoreError.TheVariants as store
use Rattle.sqlite_trees.specs.Tree.{with_tree}
use Rattle.sqlite_schema.specs.declared.schema.Constraint.TheVariants.{Unique}
use Rattle.sqlite_schema.specs.declared.schema.Keys.TheVariants.{Enforced}
use Rattle.sqlite_schema.specs.declared.schema.Keys.{Keys}
use Rattle.sqlite_schema.specs.Rules.{Keeps}
use Rattle.sqlite_resolve.specs.declared.compiled.Compiled.{Compiled}
use Rattle.sqlite_rules.specs.declared.error.Refusal.{Refusal}
use Rattle.sqlite_rules.specs.declared.error.Refusal.TheVariants.{Violates}
use Rattle.sqlite_rules.specs.Action.{Leads, Writes as Goes, works}
use Rattle.sqlite_rules.specs.Edit.{Edit, put_all, taken_by, IsRefused}
use Rattle.relay_types.specs.Rows.{Rows, DeliveryRow}
use Rattle.spool_sql.specs.Tables.{relay_schema, deliveries}
use Rattle.spool_sql.specs.Causes.{is_added, key_taken}
use Rattle.spool_sql.specs.Stored.{IsTables, delivery_stored, has_id}
use Rattle.spool_sql.specs.Steps.{AddsUnlessKnown, GoesOn}
use Rattle.spool_sql.proofs.InsertLemmas.{Means, given_ids, inserts, no_count, second}
use Rattle.spool_sql.proofs.Inserts.{deliveries_insert, deliveries_insert_means, delivery_news, delivery_values, five}
use Rattle.spool_sql.proofs.Inserts.{makes_delivery}
use Rattle.spool_sql.proofs.KeyLemmas.{is_unknown, keeps_unique}
use Rattle.spool_sql.proofs.RelayLemmas.{idle}

-- ---- no other refusal is told so

not_of_store : (kind : StoreError) → key_taken ≢ store_error kind
not_of_store store.OutOfMemory e = absurd (let f = e in cc)
not_of_store store.Io e = absurd (let f = e in cc)
not_of_store store.Corrupt e = absurd (let f = e in cc)
not_of_store store.Full e = absurd (let f = e in cc)
not_of_store store.Broken e = absurd (let f = e in cc)
not_of_store store.Unstorable e = absurd (let f = e in cc)

not_unrun : (a b : State) (sql : List ℕ) (params : Row) → ¬ IsNotRun a b sql params key_taken
unfolding IsNotRun
not_unrun a b sql params (inl (inl none, same)) = absurd (let e = none.2 in cc)
not_unrun a b sql params (inl (inr (c, is, inl many), same)) = absurd (let e = many.1 in cc)
not_unrun a b sql params (inl (inr (c, is, inr (inl count)), same)) = absurd (let e = count.1 in cc)
not_unrun a b sql params (inl (inr (c, is, inr (inr clock)), same)) = absurd (let e = clock.1 in cc)
not_unrun a b sql params (inr f) = not_of_store f.0 f.1

not_misplaced : (s : State) (k : Command) → ¬ IsMisplaced s k key_taken
not_misplaced s k (inl h) = absurd (let e = h.0 in cc)
not_misplaced s k (inr h) = absurd (let e = h.0 in cc)

-- such a refusal is one of the rules of the tables, and it changes nothing
pub ran_refused : (a b : State) (sql : List ℕ) (params : Row) → Executes sql params a b (Err key_taken)
    → IsUnchanged a b × ((c : Compiled) × (is : understood a.now.schema sql ≡ Ok c) × (now : ℕ)
    × Does a.step_limit (mode_of a) (timed params c.formats now) a.now (text_of sql c) c.returning c.command
    (Err (Some key_taken)))
unfolding ExecutesIn
ran_refused a b sql params (inl unrun) = absurd (not_unrun a b sql params unrun)
ran_refused a b sql params (inr (c, it, h)) =
    let ran : RunsCommand a b sql c (timed params c.formats it.now) (Err key_taken) =
    elim (cases_Bool (shows_rows false c)) [
      | inl shows ↦ absurd (let e = (rw shows at h).0 in cc)
      | inr runs ↦ rw runs at h
    ] in
    elim ran [
      | inl kept ↦ elim kept.0 [
        | inl out ↦ absurd (not_misplaced a c.command out)
        | inr does ↦ (kept.1, (c, it.is, it.now, does.1))
      ]
      | inr f ↦ absurd (not_of_store f.0 f.1)
    ]

pub taken_inside : (a b : State) (sql : List ℕ) (params : Row) → ExecutesInside 0 sql params a b (Err key_taken)
    → Executes sql params a b (Err key_taken)
taken_inside a b sql params (inl h) = h.0
taken_inside a b sql params (inr h) = absurd (let e = h.1 in cc)

-- ---- the part of an INSERT that refuses it

the_same : {X E : Type 0} {e f : E} → ◌≡◌ {A = Result X E} (Err e) (Err f) → e ≡ f
the_same e = cc

-- the statement wrote no rows
not_written : (task : Task) (mode : Mode) (command : Command) (db : Trees)
    → OnRows task mode None command db (Err (Some key_taken)) → WritesRows task db command (Err (Some key_taken))
not_written task mode command db (inl (stop, h, is)) =
    subst (λ s. WritesRows task db command (Err s)) (sym (the_same is)) h
not_written task mode command db (inr (w, h, inl (stop, tested, is))) =
    absurd (let e = tested.1 in let f = is in cc)
not_written task mode command db (inr (w, h, inr (doubt, tested, inl (stop, shown, is)))) = absurd (let e = shown in cc)
not_written task mode command db (inr (w, h, inr (doubt, tested, inr (rows, shown, is)))) = absurd (let e = is in cc)

of_rule : (why : Option Refusal) → Some key_taken ≡ option_map edit_error why → why ≡ Some (Violates Unique)
of_rule (Some (Violates Unique)) e = refl
of_rule why e = absurd (let f = e in cc)

not_sourced : (limit : Option ℕ) (db : Database) (params : Row) (terms : List Term) (width : ℕ) (stop : Option Error)
    → Sourced limit db params (Values terms width) (Err stop) → Some key_taken ≢ stop
not_sourced limit db params terms width None h e = absurd h
not_sourced limit db params terms width (Some error) (inl h) e = absurd (let f = h.0 in let g = e in cc)
not_sourced limit db params terms width (Some error) (inr h) e = absurd (let f = h.0 in let g = e in cc)

not_a_value : {A E : Type 0} {stop : E} {a : A} → ◌≢◌ {A = Result A E} (Err stop) (Ok a)
not_a_value e = absurd (let f = e in cc)

-- an INSERT into a table with no AUTOINCREMENT was refused at its one edit
refused_at : (task : Task) (terms : List Term) (width : ℕ) (db : Trees) → task.table.is_counted ≡ false
    → Inserts task (Values terms width) db (Err (Some key_taken))
    → (rows : List Row)
    × IsSource (record { schema = task.schema; trees = db }) (stamped task.table task.params) (Values terms width) rows
    × Goes task.schema task.keys db (edit_of db task.table [] Chosen 0 rows) (Err (Some (Violates Unique)))
refused_at task terms width db bare (inl (stop, h, is)) =
    absurd (not_sourced task.limit (record { schema = task.schema; trees = db }) (stamped task.table task.params) terms
    width stop h (the_same is))
refused_at task terms width db bare (inr (rows, source, inl (stop, h, is))) =
    absurd (not_a_value (second _ (CounterIn task db (sequence task.schema)) (Gives None) (Err stop) bare h))
refused_at task terms width db bare (inr (rows, source, inr (counter, has, inl (stop, edited, is)))) =
    let ids : rowids_for task.table (count_of counter) ≡ Chosen = given_ids task.table.is_counted _ bare in
    let edit = λ (ids : Rowids). edit_of db task.table [] ids 0 rows in
    let rule = of_rule edited.0 (the_same is ∙ edited.2) in
    (rows, source, subst₂ (λ i why. Goes task.schema task.keys db (edit i) (Err why)) ids rule edited.1)
refused_at task terms width db bare (inr (rows, source, inr (counter, has, inr (mid, edited, inl (stop, h, e))))) =
    absurd (not_a_value (second _ (CountsIn task mid counter _ (sequence task.schema)) (Gives mid) (Err stop)
    (no_count task.table.is_counted _ bare) h))
refused_at task terms width db bare (inr (rows, source, inr (counter, has, inr (mid, edited, inr (next, h, e))))) =
    absurd (not_a_value e)

-- where no foreign key acts, an edit is refused for itself
edit_refused : (schema : Schema) (keys : Keys) (db : Trees) (edit : Edit) (why : Refusal)
    → works schema keys 0 edit.table.tree (taken_by db edit) edit.news ≡ []
    → Goes schema keys db edit (Err (Some why)) → IsRefused schema keys db edit why
edit_refused schema keys db edit why none (inl (other, refused, is)) =
    let same : why ≡ other = cc in subst (IsRefused schema keys db edit) (sym same) refused
edit_refused schema keys db edit why none (inr (inl (row, has, big, is))) = absurd (let e = is in cc)
edit_refused schema keys db edit why none (inr (inr (next, applies, settles))) =
    absurd (never settles.0 (rw none at settles.1))
  where
    never : (n : ℕ) → ¬ Leads schema keys n next [] (Err (Some why))
    never zero h = absurd (let e = h.1 in cc)
    never (suc n) h = absurd (omega (arith, ap length h.2, length-append h.0 (h.1 ∷ [])))

module _ (schema : Schema) (sql : List ℕ) (params : Row) (at : ℕ) (terms : List Term) (width : ℕ) (table : Table)
    (means : Means schema sql (Insert at (Values terms width))) (listed : slice_get schema.tables at ≡ Some table)
    (uncounted : table.is_counted ≡ false) (row : Trees → Row)
    (news : (db : Trees)
    → (edit_of db table [] Chosen 0 (value_rows (stamped table params) width (length terms / width) terms)).news
    ≡ row db ∷ [])
    (idle : (tree : ℕ) (olds news : List Row) → works schema Enforced 0 tree olds news ≡ []) where
  refused_put : (db : Trees) (rows : List Row)
      → rows ≡ value_rows (stamped table params) width (length terms / width) terms
      → Goes schema Enforced db (edit_of db table [] Chosen 0 rows) (Err (Some (Violates Unique)))
      → ¬ Keeps Unique schema (with_tree db table.tree (put_row (row db) (db table.tree)))
  refused_put db rows only refused =
      let the = edit_of db table [] Chosen 0 rows in
      let new_rows : the.news ≡ row db ∷ [] = ap (λ all. (edit_of db table [] Chosen 0 all).news) only ∙ news db in
      subst (λ all. ¬ Keeps Unique schema (with_tree db table.tree (put_all (db table.tree) all))) new_rows
      (edit_refused schema Enforced db the (Violates Unique) (idle table.tree [] the.news) refused)

  -- the row would break a UNIQUE
  pub refuses : (old new : State) → old.now.schema ≡ schema → Executes sql params old new (Err key_taken)
      → ¬ Keeps Unique schema
      (with_tree old.now.trees table.tree (put_row (row old.now.trees) (old.now.trees table.tree)))
  refuses old new has h =
      let db = old.now.trees in
      let command = Insert at (Values terms width) in
      let ran = (ran_refused old new sql params h).1 in
      let known = sym ran.1 ∙ ap (λ s. understood s sql) has in
      let bare = subst IsPlain (sym known) means.plain in
      let text = statement_of sql (understood schema sql) in
      let does = subst₂ (λ k t. Does old.step_limit (mode_of old) params old.now t None k (Err (Some key_taken)))
      (ap command_of known ∙ means.is) (ap (statement_of sql) known)
      (rw (bare.0, bare.1, append-nil params) at ran.3) in
      let task : Task = record {
        limit = old.step_limit;
        keys = Enforced;
        schema = schema;
        table = table;
        params = params;
      } in
      let on : OnRows task (mode_of old) None command db (Err (Some key_taken)) =
      rw listed at
      (subst (λ s. Does old.step_limit (mode_of old) params (record old.now { schema = s }) text None command
      (Err (Some key_taken))) has does) in
      let found = refused_at task terms width db uncounted (not_written task (mode_of old) command db on) in
      refused_put db found.0 found.1.1 found.2

-- ---- an event that is added unless its endpoint has one of its id

goes_if_same : (a b : State) → IsTrue a.in_transaction → IsUnchanged a b → GoesOn a b
goes_if_same a b inside same = record {
  was_open = same.0.was_open;
  is_open = same.0.is_open;
  now_is = refl;
  committed_is = same.0.committed_is;
  mode = same.0.mode ∙ inside;
}

module _ (d : DeliveryRow) (a b : State) where
  unknown : (count : ℕ) → Executes deliveries_insert (delivery_values d) a b (Ok count) → (rows : Rows)
      → IsTables a.now rows → has_id rows d.endpoint d.id ≡ false
  unknown count h rows t =
      let u = inserts relay_schema deliveries_insert (delivery_values d) 3 five 6 (record deliveries { tree = 5 })
      deliveries_insert_means refl refl (λ _. delivery_stored d) (delivery_news d) idle a b count t.schema_is h in
      is_unknown a.now.trees rows t.tables.five.deliveries d b.now.trees u.0.sound u.0.rows_are u.1

  known : Executes deliveries_insert (delivery_values d) a b (Err key_taken) → (rows : Rows) → IsTables a.now rows
      → has_id rows d.endpoint d.id ≡ true
  known h rows t = elim (cases_Bool (has_id rows d.endpoint d.id)) [
    | inl is ↦ is
    | inr lacks ↦ absurd (refuses relay_schema deliveries_insert (delivery_values d) 3 five 6
        (record deliveries { tree = 5 }) deliveries_insert_means refl refl (λ _. delivery_stored d) (delivery_news d)
        idle a b t.schema_is h
        (keeps_unique a.now.trees rows t.tables.five.deliveries d lacks t.tables.five.sound))
  ]

  pub adds_unless_known : (r : Result ℕ Error) → IsTrue a.in_transaction
      → ExecutesInside 0 deliveries_insert (delivery_values d) a b r → IfOk (is_added r) (AddsUnlessKnown d a b)
  adds_unless_known (Ok count) inside h = record {
    on = h.1;
    judges = λ rows t. ap not (sym (unknown count h.0 rows t));
    makes = λ _. makes_delivery a b d count h.0;
    leaves = λ e. absurd (let f = e in cc);
  }
  adds_unless_known (Err (SqliteFailure (code.ConstraintViolation Unique))) inside h =
      let ran = taken_inside a b deliveries_insert (delivery_values d) h in
      let same = (ran_refused a b deliveries_insert (delivery_values d) ran).0 in
      record {
        on = goes_if_same a b inside same;
        judges = λ rows t. ap not (sym (known ran rows t));
        makes = λ e. absurd (let f = e in cc);
        leaves = λ _. same;
      }
  adds_unless_known (Err error) inside h = tt

-- the errors that are handed on are those of the statement
pub hands_on : (sql : List ℕ) (params : Row) (a b : State) (r : Result ℕ Error) → ExecutesInside 0 sql params a b r
    → IfErr (is_added r) (λ error. ExecutesInside 0 sql params a b (Err error))
hands_on sql params a b (Ok count) h = tt
hands_on sql params a b (Err (SqliteFailure (code.ConstraintViolation Unique))) h = tt
hands_on sql params a b (Err error) h = h
