-- What the texts of the tables define.
use Rattle.std.proofs.Common.{◌≡◌, Ok, Err, Result, refl}
use Rattle.sqlite.specs.Listing.{understood}
use Rattle.sqlite.specs.Command.TheVariants.{CreateTable}
use Rattle.sqlite.proofs.Callers.{command_of, statement_of, IsPlain}
use Rattle.sqlite.specs.Does.{lacks_sequence}
use Rattle.sqlite_catalog.specs.Change.{created}
use Rattle.std.specs.Fmt.{digits}
use Rattle.sqlite_tied.specs.Compute.{everything}
use Rattle.spool_sql.specs.Tables.{meta_text, endpoints_text, secrets_text, deliveries_text, attempts_text, topics_text}
use Rattle.spool_sql.specs.Tables.{Defines, MakesTable}
use Rattle.sqlite_resolve.specs.declared.compiled.Compiled.{Compiled}
use Rattle.sqlite_resolve.specs.declared.error.CompileError.{CompileError}
use Rattle.spool_sql.specs.Tables.{meta, endpoints, secrets, deliveries, attempts, topics, no_schema, schema_1}
use Rattle.spool_sql.specs.Tables.{schema_2, schema_3, schema_4, first_schema, relay_schema}
use Rattle.sqlite.specs.Table.{Table}
use Rattle.sqlite.specs.Schema.{Schema}
use Rattle.std.proofs.Common.{List, [], ◌∷◌, ◌++◌, ℕ, None, false, map, drop, sym, ap, subst, subst₂, ◌∙◌, arith}
use Rattle.std.specs.List.{AllByRecursion}
use Rattle.std.specs.List.Sorted.{IsPermutation}
use Rattle.std.proofs.lemmas.List.Sorted.{IsPermutation-refl}
use Rattle.sqlite_catalog.specs.Change.{next_tree, KeepsRows}
use Rattle.sqlite.specs.Tree.{Trees}
use Rattle.sqlite.specs.Effect.{Database}
use Rattle.sqlite.specs.Does.{Tally}
use Rattle.sqlite.specs.State.{State, Writes, Executes}
use Rattle.sqlite.proofs.Callers.{runs_as}
use Rattle.sqlite_catalog.specs.Listing.{IsSound}
use Rattle.relay_types.specs.Rows.{Rows}
use Rattle.spool_sql.specs.Steps.{IsBegun}
use Rattle.spool_sql.specs.Stored.{IsFirstTables, IsSixTables, HasRowids, topic_stored}
use Rattle.spool_sql.proofs.RelayLemmas.{same_five}
use Rattle.spool_sql.proofs.InsertLemmas.{went, same_value}

compiled_as : (sql : List ℕ) (r : Result Compiled CompileError) → MakesTable sql r
    → (command_of r ≡ CreateTable) × (statement_of sql r ≡ sql) × IsPlain r
compiled_as sql (Ok c) makes = (makes.0, makes.1, (makes.2, makes.3))
compiled_as sql (Err e) makes = absurd makes

pub makes_meta : Defines no_schema meta_text meta
unfolding understood everything
makes_meta = record { defined = refl; makes = (refl, refl, refl, refl); uncounted = refl }

pub makes_endpoints : Defines schema_1 endpoints_text endpoints
unfolding understood everything
makes_endpoints = record { defined = refl; makes = (refl, refl, refl, refl); uncounted = refl }

pub makes_secrets : Defines schema_2 secrets_text secrets
unfolding understood everything
makes_secrets = record { defined = refl; makes = (refl, refl, refl, refl); uncounted = refl }

pub makes_deliveries : Defines schema_3 deliveries_text deliveries
unfolding understood everything
makes_deliveries = record { defined = refl; makes = (refl, refl, refl, refl); uncounted = refl }

pub makes_attempts : Defines schema_4 attempts_text attempts
unfolding understood everything
makes_attempts = record { defined = refl; makes = (refl, refl, refl, refl); uncounted = refl }

pub makes_topics : Defines first_schema topics_text topics
unfolding understood everything
makes_topics = record { defined = refl; makes = (refl, refl, refl, refl); uncounted = refl }

pub makes_first : created schema_4 attempts ≡ first_schema
unfolding digits
makes_first = refl

pub makes_relay : created first_schema topics ≡ relay_schema
unfolding digits
makes_relay = refl

with_last : {X : Type 0} (P : X → Type 0) (xs : List X) (y : X) → AllByRecursion P xs → P y
    → AllByRecursion P (xs ++ y ∷ [])
with_last P [] y all last = (last, tt)
with_last P (x ∷ xs) y all last = (all.0, with_last P xs y all.1 last)

still_empty : (tables : List Table) (old new : Trees) → KeepsRows tables old new
    → AllByRecursion (λ (t : Table). old t.tree ≡ []) tables → AllByRecursion (λ (t : Table). new t.tree ≡ []) tables
still_empty [] old new kept empty = tt
still_empty (t ∷ tables) old new kept empty = (kept.0 ∙ empty.0, still_empty tables old new kept.1 empty.1)

-- the schema grew by this table, which is empty, and the others have their rows
pub record HasMade (schema : Schema) (table : Table) (old new : Database) : Type 0 where
  pub schema_is : new.schema ≡ created schema table
  pub sound : IsSound (created schema table) new.trees
  pub fresh : new.trees (next_tree schema) ≡ []
  pub kept : KeepsRows schema.tables old.trees new.trees

-- the text makes its table
module _ (schema : Schema) (sql : List ℕ) (table : Table) (m : Defines schema sql table) (old new : State) (count : ℕ)
    (h : Executes sql [] old new (Ok count)) where
  pub has_made : old.now.schema ≡ schema → HasMade schema table old.now new.now
  has_made has =
      let made_by = compiled_as sql (understood schema sql) m.makes in
      let w = subst (λ t. Writes old new None CreateTable t [] count) made_by.1
      (runs_as sql [] old new schema has CreateTable made_by.0 made_by.2 count h) in
      let all = went w.changed in
      let first = went all.1 in
      let made = first.1 in
      let both : Ok made.table ≡ Ok table = sym made.defined ∙ m.defined in
      let same : made.table ≡ table = cc in
      let schema_is : first.0.schema ≡ created schema table = made.is ∙ ap (λ s. created s made.table) has ∙ ap
      (created schema) same in
      let plain : lacks_sequence first.0.schema ≡ false = ap lacks_sequence schema_is ∙ m.uncounted in
      let now : new.now ≡ first.0 = ap (λ (p : Tally × Database). p.1) (same_value all.2) ∙ same_value
      (rw plain at first.2) in
      let schema_now : new.now.schema ≡ created schema table = ap (λ (d : Database). d.schema) now ∙ schema_is in
      record {
        schema_is = schema_now;
        sound = subst (λ s. IsSound s new.now.trees) schema_now w.sound;
        fresh = subst (λ (d : Database). d.trees (next_tree schema) ≡ []) (sym now)
            (subst (λ s. first.0.trees (next_tree s) ≡ []) has made.empty);
        kept = subst (λ (d : Database). KeepsRows schema.tables old.now.trees d.trees) (sym now)
            (subst (λ (s : Schema). KeepsRows s.tables old.now.trees first.0.trees) has made.others);
      }

  -- the tables stay empty
  pub begins : IsBegun schema old.now → IsBegun (created schema table) new.now
  begins was =
      let made = has_made was.schema_is in
      record {
        schema_is = made.schema_is;
        empty = with_last (λ (t : Table). new.now.trees t.tree ≡ []) schema.tables
            (record table { tree = next_tree schema }) (still_empty schema.tables old.now.trees new.now.trees made.kept
            was.empty) made.fresh;
      }

-- the table of topics beside those of version 1
module _ (old new : State) (count : ℕ) (h : Executes topics_text [] old new (Ok count)) where
  pub begins_topics : IsBegun first_schema old.now → IsBegun relay_schema new.now
  begins_topics was = subst (λ s. IsBegun s new.now) makes_relay
      (begins first_schema topics_text topics makes_topics old new count h was)

  pub adds_topics : (rows : Rows) → IsFirstTables old.now rows → IsSixTables 1 new.now rows
  adds_topics rows t =
      let made = has_made first_schema topics_text topics makes_topics old new count h t.schema_is in
      record {
        schema_is = made.schema_is ∙ makes_relay;
        tables = record {
          five = same_five 1 old.now.trees new.now.trees rows t.tables.five
              (subst (λ s. IsSound s new.now.trees) makes_relay made.sound) made.kept;
          topics = subst₂ (λ tree xs. IsPermutation (map (drop 1) tree) (map topic_stored xs)) (sym made.fresh)
              (sym t.tables.no_topics) (IsPermutation-refl []);
          topic_rowids = subst HasRowids (sym made.fresh) (record { numbered = tt; once = λ id. omega arith });
        };
      }
