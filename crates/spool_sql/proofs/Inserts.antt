-- The INSERT statements.
use Rattle.std.proofs.Common.{◌≡◌, ℕ, ◌/◌, pos, ℤ, List, [], ◌∷◌, ◌++◌, map, length, drop, codes, Bool, true, false}
use Rattle.std.proofs.Common.{cond, Ok, refl, sym, ap, subst, ◌∙◌, arith}
use Rattle.sqlite.specs.declared.types.Value.{Value}
use Rattle.sqlite.specs.declared.types.Value.TheVariants.{Null, Int, Text, Blob}
use Rattle.sqlite.specs.Order.{Row}
use Rattle.sqlite.specs.Term.{Term, lit, col}
use Rattle.sqlite.specs.Ops.{unary}
use Rattle.sqlite.specs.Kind.TheVariants.{Integer}
use Rattle.sqlite.specs.Cast.{cast}
use Rattle.sqlite.specs.Source.TheVariants.{Values}
use Rattle.sqlite.specs.Command.TheVariants.{Insert}
use Rattle.sqlite.specs.Edit.{edit_of}
use Rattle.sqlite_rules.specs.Edit.{next_rowid}
use Rattle.sqlite.specs.Rowids.TheVariants.{Chosen}
use Rattle.sqlite.specs.Rows.{stamped}
use Rattle.sqlite.specs.Effect.{value_rows}
use Rattle.sqlite.specs.Tree.{Trees, put_row}
use Rattle.sqlite.specs.Listing.{understood}
use Rattle.sqlite_tied.specs.Compute.{everything}
use Rattle.spool_sql.specs.Tables.{relay_schema, meta, endpoints, secrets, deliveries, attempts, topics}
use Rattle.std.specs.List.Sorted.{IsPermutation}
use Rattle.std.proofs.lemmas.List.Sorted.{IsPermutation-refl}
use Rattle.sqlite.specs.State.{State, Executes}
use Rattle.relay_types.specs.Rows.{SecretRow, DeliveryRow, AttemptRow, TopicRow}
use Rattle.spool_sql.specs.Stored.{IsTables, HasRowids, meta_stored, endpoint_stored, delivery_stored, attempt_stored}
use Rattle.spool_sql.specs.Stored.{secret_stored, topic_stored, flag_number}
use Rattle.spool_sql.specs.Stored.{new_endpoint, with_endpoint, with_secret, with_delivery, with_attempt, with_topic}
use Rattle.spool_sql.specs.Stored.{first_rows}
use Rattle.spool_sql.specs.Steps.{Makes, IsBegun}
use Rattle.spool_sql.proofs.InsertLemmas.{Means, inserts}
use Rattle.spool_sql.proofs.RelayLemmas.{idle, others_of, other_endpoints, other_secrets, other_deliveries}
use Rattle.spool_sql.proofs.RelayLemmas.{other_attempts, other_topics, hidden_secrets, hidden_topics}
use Rattle.spool_sql.proofs.HiddenLemmas.{HasHidden, inserts_hidden}
use Rattle.spool_sql.proofs.TypedLemmas.{put_typed}

either : (b : Bool) (x : Value) → cond b x x ≡ x
either true x = refl
either false x = refl

pub cast_null : cast Integer Null ≡ Null
unfolding unary
cast_null = either _ Null

pub cast_int : (n : ℤ) → cast Integer (Int n) ≡ Int n
unfolding unary
cast_int n = either _ (Int n)

-- ---- what the statements are

abbrev pub deliveries_insert : List ℕ
deliveries_insert = codes "INSERT INTO deliveries VALUES(?1, ?2, ?3, ?4, ?5)"

abbrev pub attempts_insert : List ℕ
attempts_insert = codes "INSERT INTO attempts VALUES(?1, ?2, ?3, ?4, ?5)"

abbrev pub endpoints_insert : List ℕ
endpoints_insert = codes "INSERT INTO endpoints VALUES(?1, ?2, ?3, ?4, 1, ?1, ?1)"

abbrev pub secrets_insert : List ℕ
secrets_insert = codes "INSERT INTO secrets VALUES(?1, ?2, ?3)"

abbrev pub topics_insert : List ℕ
topics_insert = codes "INSERT INTO topics VALUES(?1, ?2, ?3, ?4)"

abbrev pub five : List Term
five = col 0 0 ∷ lit Null ∷ col 0 1 ∷ col 0 2 ∷ col 0 3 ∷ col 0 4 ∷ []

abbrev seven : List Term
seven = col 0 0 ∷ lit Null ∷ col 0 1 ∷ col 0 2 ∷ col 0 3 ∷ lit (Int (pos 1)) ∷ col 0 0 ∷ col 0 0 ∷ []

abbrev three : List Term
three = lit Null ∷ col 0 0 ∷ col 0 1 ∷ col 0 2 ∷ []

abbrev four : List Term
four = lit Null ∷ col 0 0 ∷ col 0 1 ∷ col 0 2 ∷ col 0 3 ∷ []

abbrev first_terms : ℕ → List Term
first_terms version = lit (Int (pos 1)) ∷ lit Null ∷ lit (Text (codes "webhook-relay")) ∷ lit (Int (pos version))
    ∷ lit (Int (pos 0)) ∷ []

pub deliveries_insert_means : Means relay_schema deliveries_insert (Insert 3 (Values five 6))
unfolding understood everything
deliveries_insert_means = record { is = refl; plain = (refl, refl) }

attempts_insert_means : Means relay_schema attempts_insert (Insert 4 (Values five 6))
unfolding understood everything
attempts_insert_means = record { is = refl; plain = (refl, refl) }

endpoints_insert_means : Means relay_schema endpoints_insert (Insert 1 (Values seven 8))
unfolding understood everything
endpoints_insert_means = record { is = refl; plain = (refl, refl) }

secrets_insert_means : Means relay_schema secrets_insert (Insert 2 (Values three 4))
unfolding understood everything
secrets_insert_means = record { is = refl; plain = (refl, refl) }

topics_insert_means : Means relay_schema topics_insert (Insert 5 (Values four 5))
unfolding understood everything
topics_insert_means = record { is = refl; plain = (refl, refl) }

abbrev pub meta_insert : List ℕ
meta_insert = codes "INSERT INTO meta VALUES(1, 'webhook-relay', 2, 0)"

meta_insert_means : Means relay_schema meta_insert (Insert 0 (Values (first_terms 2) 5))
unfolding understood everything
meta_insert_means = record { is = refl; plain = (refl, refl) }

-- ---- the parameters, and the rows that they make

abbrev pub delivery_values : DeliveryRow → Row
delivery_values d = Int (pos d.seq) ∷ Int (pos d.endpoint) ∷ Text d.id ∷ Int (pos d.at) ∷ Blob d.body ∷ []

abbrev pub attempt_values : AttemptRow → Row
attempt_values a = Int (pos a.seq) ∷ Int (pos a.delivery) ∷ Int (pos a.number) ∷ Int (pos a.status) ∷ Int (pos a.at)
    ∷ []

abbrev pub endpoint_values : ℕ → List ℕ → List ℕ → ℕ → Row
endpoint_values put name url max = Int (pos put) ∷ Text name ∷ Text url ∷ Int (pos max) ∷ []

abbrev pub secret_values : SecretRow → Row
secret_values s = Int (pos s.endpoint) ∷ Int (pos s.place) ∷ Blob s.secret ∷ []

abbrev pub topic_values : TopicRow → Row
topic_values x = Text x.topic ∷ Int (pos x.endpoint) ∷ Int (pos (flag_number x.subscribed)) ∷ Int (pos x.set_by) ∷ []

-- with a rowid that the store chooses
abbrev hidden : SecretRow → Trees → Row
hidden s db = Int (next_rowid (db 3)) ∷ secret_stored s

abbrev hidden_topic : TopicRow → Trees → Row
hidden_topic x db = Int (next_rowid (db 9)) ∷ topic_stored x

pub delivery_news : (d : DeliveryRow) (db : Trees)
    → (edit_of db (record deliveries { tree = 5 }) [] Chosen 0
    (value_rows (stamped (record deliveries { tree = 5 }) (delivery_values d)) 6 (length five / 6) five)).news
    ≡ delivery_stored d ∷ []
delivery_news d db = rw (cast_null, cast_int (pos d.seq), cast_int (pos d.endpoint), cast_int (pos d.at)) refl

attempt_news : (a : AttemptRow) (db : Trees)
    → (edit_of db (record attempts { tree = 7 }) [] Chosen 0
    (value_rows (stamped (record attempts { tree = 7 }) (attempt_values a)) 6 (length five / 6) five)).news
    ≡ attempt_stored a ∷ []
attempt_news a db = rw (
  cast_null,
  cast_int (pos a.seq),
  cast_int (pos a.delivery),
  cast_int (pos a.number),
  cast_int (pos a.status),
  cast_int (pos a.at),
) refl

endpoint_news : (put : ℕ) (name url : List ℕ) (max : ℕ) (db : Trees)
    → (edit_of db (record endpoints { tree = 1 }) [] Chosen 0
    (value_rows (stamped (record endpoints { tree = 1 }) (endpoint_values put name url max)) 8
    (length seven / 8) seven)).news ≡ endpoint_stored (new_endpoint put name url max) ∷ []
endpoint_news put name url max db = rw (cast_null, cast_int (pos put), cast_int (pos max), cast_int (pos 1)) refl

secret_news : (s : SecretRow) (db : Trees)
    → (edit_of db (record secrets { tree = 3 }) [] Chosen 0
    (value_rows (stamped (record secrets { tree = 3 }) (secret_values s)) 4 (length three / 4) three)).news
    ≡ hidden s db ∷ []
secret_news s db = rw (cast_null, cast_int (pos s.endpoint), cast_int (pos s.place)) refl

topic_news : (x : TopicRow) (db : Trees)
    → (edit_of db (record topics { tree = 9 }) [] Chosen 0
    (value_rows (stamped (record topics { tree = 9 }) (topic_values x)) 5 (length four / 5) four)).news
    ≡ hidden_topic x db ∷ []
topic_news x db =
    rw (cast_null, cast_int (pos x.endpoint), cast_int (pos (flag_number x.subscribed)), cast_int (pos x.set_by)) refl

meta_news : (version : ℕ) (db : Trees)
    → (edit_of db meta [] Chosen 0 (value_rows (stamped meta []) 5 (length (first_terms version) / 5)
    (first_terms version))).news ≡ meta_stored version 0 ∷ []
meta_news version db = rw (cast_null, cast_int (pos 1), cast_int (pos version), cast_int (pos 0)) refl

-- ---- what they make of the relay's tables

module _ (old new : State) where
  pub makes_delivery : (d : DeliveryRow) (count : ℕ) → Executes deliveries_insert (delivery_values d) old new (Ok count)
      → Makes old new (with_delivery d)
  makes_delivery d count h rows t =
      let u = inserts relay_schema deliveries_insert (delivery_values d) 3 five 6 (record deliveries { tree = 5 })
      deliveries_insert_means refl refl (λ _. delivery_stored d) (delivery_news d) idle old new count t.schema_is
      h in
      let w = u.0 in
      record {
        schema_is = w.schema_is;
        tables = other_deliveries 2 old.now.trees new.now.trees rows t.tables w.sound (others_of old new 5 _ w)
            (rows.deliveries ++ d ∷ [])
            (subst (λ x. IsPermutation x (map delivery_stored (rows.deliveries ++ d ∷ []))) (sym w.rows_are)
            (put_typed delivery_stored d (old.now.trees 5) rows.deliveries u.1 t.tables.five.deliveries));
      }

  pub makes_attempt : (a : AttemptRow) (count : ℕ) → Executes attempts_insert (attempt_values a) old new (Ok count)
      → Makes old new (with_attempt a)
  makes_attempt a count h rows t =
      let u = inserts relay_schema attempts_insert (attempt_values a) 4 five 6 (record attempts { tree = 7 })
      attempts_insert_means refl refl (λ _. attempt_stored a) (attempt_news a) idle old new count t.schema_is h in
      let w = u.0 in
      record {
        schema_is = w.schema_is;
        tables = other_attempts 2 old.now.trees new.now.trees rows t.tables w.sound (others_of old new 7 _ w)
            (rows.attempts ++ a ∷ [])
            (subst (λ x. IsPermutation x (map attempt_stored (rows.attempts ++ a ∷ []))) (sym w.rows_are)
            (put_typed attempt_stored a (old.now.trees 7) rows.attempts u.1 t.tables.five.attempts));
      }

  pub makes_endpoint : (put : ℕ) (name url : List ℕ) (max count : ℕ)
      → Executes endpoints_insert (endpoint_values put name url max) old new (Ok count)
      → Makes old new (with_endpoint (new_endpoint put name url max))
  makes_endpoint put name url max count h rows t =
      let e = new_endpoint put name url max in
      let u = inserts relay_schema endpoints_insert (endpoint_values put name url max) 1 seven 8
      (record endpoints { tree = 1 }) endpoints_insert_means refl refl (λ _. endpoint_stored e)
      (endpoint_news put name url max) idle old new count t.schema_is h in
      let w = u.0 in
      record {
        schema_is = w.schema_is;
        tables = other_endpoints 2 old.now.trees new.now.trees rows t.tables w.sound (others_of old new 1 _ w)
            (rows.endpoints ++ e ∷ [])
            (subst (λ x. IsPermutation x (map endpoint_stored (rows.endpoints ++ e ∷ []))) (sym w.rows_are)
            (put_typed endpoint_stored e (old.now.trees 1) rows.endpoints u.1 t.tables.five.endpoints));
      }

  pub makes_secret : (s : SecretRow) (count : ℕ) → Executes secrets_insert (secret_values s) old new (Ok count)
      → Makes old new (with_secret s)
  makes_secret s count h rows t =
      let u = inserts relay_schema secrets_insert (secret_values s) 2 three 4 (record secrets { tree = 3 })
      secrets_insert_means refl refl (hidden s) (secret_news s) idle old new count t.schema_is h in
      let w = u.0 in
      record {
        schema_is = w.schema_is;
        tables = other_secrets 2 old.now.trees new.now.trees rows t.tables w.sound (others_of old new 3 _ w)
            (rows.secrets ++ s ∷ [])
            (subst (HasHidden secret_stored (rows.secrets ++ s ∷ [])) (sym w.rows_are)
            (inserts_hidden secret_stored s (next_rowid (old.now.trees 3)) rows.secrets (old.now.trees 3) u.1
            (hidden_secrets old.now.trees rows t.tables.five)));
      }

  pub makes_topic : (x : TopicRow) (count : ℕ) → Executes topics_insert (topic_values x) old new (Ok count)
      → Makes old new (with_topic x)
  makes_topic x count h rows t =
      let u = inserts relay_schema topics_insert (topic_values x) 5 four 5 (record topics { tree = 9 })
      topics_insert_means refl refl (hidden_topic x) (topic_news x) idle old new count t.schema_is h in
      let w = u.0 in
      record {
        schema_is = w.schema_is;
        tables = other_topics 2 old.now.trees new.now.trees rows t.tables w.sound (others_of old new 9 _ w)
            (rows.topics ++ x ∷ [])
            (subst (HasHidden topic_stored (rows.topics ++ x ∷ [])) (sym w.rows_are)
            (inserts_hidden topic_stored x (next_rowid (old.now.trees 9)) rows.topics (old.now.trees 9) u.1
            (hidden_topics old.now.trees rows t.tables)));
      }

  -- of the tables as they are made
  pub makes_first_rows : (count : ℕ) → Executes meta_insert [] old new (Ok count) → IsBegun relay_schema old.now
      → IsTables new.now first_rows
  makes_first_rows count h b =
      let w = (inserts relay_schema meta_insert [] 0 (first_terms 2) 5 meta meta_insert_means refl refl
      (λ _. meta_stored 2 0) (meta_news 2) idle old new count b.schema_is h).0 in
      let o = others_of old new 0 _ w in
      let none = IsPermutation-refl [] in
      record {
        schema_is = w.schema_is;
        tables = record {
          five = record {
            sound = w.sound;
            meta = w.rows_are ∙ ap (put_row (meta_stored 2 0)) b.empty.0;
            endpoints = subst (λ x. IsPermutation x [])
                (sym (o.endpoints (λ e. absurd (omega (arith, e))) ∙ b.empty.1.0)) none;
            secrets = subst (λ x. IsPermutation (map (drop 1) x) [])
                (sym (o.secrets (λ e. absurd (omega (arith, e))) ∙ b.empty.1.1.0)) none;
            deliveries = subst (λ x. IsPermutation x [])
                (sym (o.deliveries (λ e. absurd (omega (arith, e))) ∙ b.empty.1.1.1.0)) none;
            attempts = subst (λ x. IsPermutation x []) (sym
                (o.attempts (λ e. absurd (omega (arith, e))) ∙ b.empty.1.1.1.1.0)) none;
            secret_rowids = subst (HasRowids) (sym (o.secrets (λ e. absurd (omega (arith, e))) ∙ b.empty.1.1.0))
                (record { numbered = tt; once = λ id. omega arith });
          };
          topics = subst (λ x. IsPermutation (map (drop 1) x) [])
              (sym (o.topics (λ e. absurd (omega (arith, e))) ∙ b.empty.1.1.1.1.1.0)) none;
          topic_rowids = subst (HasRowids)
              (sym (o.topics (λ e. absurd (omega (arith, e))) ∙ b.empty.1.1.1.1.1.0))
              (record { numbered = tt; once = λ id. omega arith });
        };
      }
