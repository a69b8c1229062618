-- The UPDATE statements with WHERE, and the DELETE statement.
use Rattle.std.proofs.Common.{◌≡◌, ◌==◌, ℕ, pos, List, [], ◌∷◌, map, filter, drop, codes, Bool, true, false, not, refl}
use Rattle.std.proofs.Common.{sym, ap, subst, ◌∙◌, Ok, arith}
use Rattle.std.specs.Int.{from_bool}
use Rattle.std.specs.List.Sorted.{IsPermutation}
use Rattle.std.proofs.lemmas.Bool.Decides.{nat_tests}
use Rattle.sqlite.specs.Collation.TheVariants.{Binary}
use Rattle.sqlite_sql.specs.declared.ops.BinaryOp.TheVariants.{Compare}
use Rattle.sqlite_sql.specs.declared.ops.CompareOp.TheVariants.{Eq}
use Rattle.sqlite.specs.declared.types.Value.TheVariants.{Null, Int, Text}
use Rattle.sqlite_value.proofs.OrderLemmas.{value_cmp-Int}
use Rattle.std.specs.Ordering.{is_eq}
use Rattle.sqlite_value.specs.Order.{value_cmp}
use Rattle.sqlite.specs.Order.{Row}
use Rattle.sqlite.specs.Tree.{has_rowid}
use Rattle.sqlite.specs.Term.{Term, lit, col, op2}
use Rattle.sqlite_schema.specs.declared.program.Program.{Program}
use Rattle.sqlite_rules.specs.Cast.{cast_row}
use Rattle.sqlite.specs.Command.TheVariants.{Update, Delete}
use Rattle.sqlite.specs.Listing.{understood}
use Rattle.sqlite.specs.State.{State, Executes}
use Rattle.sqlite_tied.specs.Compute.{everything}
use Rattle.relay_types.specs.Rows.{Rows, EndpointRow, SecretRow, TopicRow, change_where, is_pair_row}
use Rattle.spool_sql.specs.Tables.{relay_schema, endpoints, secrets, topics}
use Rattle.spool_sql.specs.Stored.{IsTables, endpoint_stored, secret_stored, topic_stored, flag_number, with_enabled}
use Rattle.spool_sql.specs.Stored.{with_secrets_by, without_secrets, without_topic}
use Rattle.spool_sql.specs.Steps.{Makes}
use Rattle.spool_sql.proofs.InsertLemmas.{Means}
use Rattle.spool_sql.proofs.Inserts.{cast_int, cast_null}
use Rattle.spool_sql.proofs.RelayLemmas.{idle, others_of, other_endpoints, other_secrets, other_topics, hidden_secrets}
use Rattle.spool_sql.proofs.RelayLemmas.{hidden_topics}
use Rattle.spool_sql.proofs.HiddenLemmas.{HasHidden, deletes_hidden}
use Rattle.spool_sql.proofs.SelectLemmas.{equal_ints, equal_numbers, and_true}
use Rattle.spool_sql.proofs.UpdateLemmas.{scan, shows, passes, scanned, updates}
use Rattle.spool_sql.proofs.ChangeLemmas.{updated_typed, deletes}
use Rattle.spool_sql.proofs.TopicSelects.{of_pair, passes_pair}

abbrev pub enabled_update : List ℕ
enabled_update = codes "UPDATE endpoints SET enabled = ?1, enabled_by = ?2 WHERE put = ?3"

abbrev pub secrets_by_update : List ℕ
secrets_by_update = codes "UPDATE endpoints SET secrets_by = ?1 WHERE put = ?2"

abbrev pub secrets_delete : List ℕ
secrets_delete = codes "DELETE FROM secrets WHERE endpoint = ?1"

abbrev pub topic_delete : List ℕ
topic_delete = codes "DELETE FROM topics WHERE topic = ?1 AND endpoint = ?2"

-- the column is this parameter
abbrev is_given : ℕ → ℕ → List Term
is_given column at = op2 (Compare Eq Binary) (col 1 column) (col 0 at) ∷ []

abbrev changed_endpoints : ℕ → List Term → Program
changed_endpoints at more = record { lets = []; body = scan 1 (is_given 0 at) (col 1 0 ∷ more) }

abbrev enabled_terms : List Term
enabled_terms = col 1 0 ∷ lit Null ∷ col 1 2 ∷ col 1 3 ∷ col 1 4 ∷ col 0 0 ∷ col 0 1 ∷ col 1 7 ∷ []

abbrev secrets_by_terms : List Term
secrets_by_terms = col 1 0 ∷ lit Null ∷ col 1 2 ∷ col 1 3 ∷ col 1 4 ∷ col 1 5 ∷ col 1 6 ∷ col 0 0 ∷ []

abbrev deleted_secrets : Program
deleted_secrets = record { lets = []; body = scan 3 (is_given 1 0) (col 1 0 ∷ []) }

abbrev deleted_topic : Program
deleted_topic = record { lets = []; body = scan 9 of_pair (col 1 0 ∷ []) }

abbrev pub enabled_values : ℕ → Bool → ℕ → Row
enabled_values put flag by = Int (pos (flag_number flag)) ∷ Int (pos by) ∷ Int (pos put) ∷ []

abbrev pub secrets_by_values : ℕ → ℕ → Row
secrets_by_values put by = Int (pos by) ∷ Int (pos put) ∷ []

pub flag_is : (flag : Bool) → from_bool flag ≡ flag_number flag
flag_is true = refl
flag_is false = refl

-- ---- an endpoint by its number

pub has_number : (m n : ℕ) → is_eq (value_cmp (Int (pos m)) (Int (pos n))) ≡ (m == n)
has_number m n = ap is_eq (value_cmp-Int (pos m) (pos n)) ∙ equal_ints m n

pub own_number : (n : ℕ) → has_rowid (pos n) (Int (pos n) ∷ []) ≡ true
own_number n = has_number n n ∙ grind (arith, nat_tests)

pub same_number : (k m n : ℕ) → (n == k) ≡ true → is_eq (value_cmp (Int (pos m)) (Int (pos n))) ≡ true → (m == k) ≡ true
same_number k m n is tie = let here : (m == n) ≡ true = sym (has_number m n) ∙ tie in grind (arith, nat_tests)

enabled_update_means : Means relay_schema enabled_update (Update 1 (changed_endpoints 2 enabled_terms))
unfolding understood everything
enabled_update_means = record { is = refl; plain = (refl, refl) }

secrets_by_update_means : Means relay_schema secrets_by_update (Update 1 (changed_endpoints 1 secrets_by_terms))
unfolding understood everything
secrets_by_update_means = record { is = refl; plain = (refl, refl) }

module _ (old new : State) where
  -- an UPDATE of the endpoint with this number
  changes_endpoint : (sql : List ℕ) (params : Row) (at : ℕ) (more : List Term)
      → Means relay_schema sql (Update 1 (changed_endpoints at more)) → (put : ℕ) (edit : EndpointRow → EndpointRow)
      → ((e : EndpointRow) → passes params (is_given 0 at) (endpoint_stored e) ≡ (e.put == put))
      → ((e : EndpointRow)
      → cast_row (record endpoints { tree = 1 }) (drop 1 (shows params (col 1 0 ∷ more) (endpoint_stored e)))
      ≡ endpoint_stored (edit e))
      → (count : ℕ) → Executes sql params old new (Ok count) → (rows : Rows) → IsTables old.now rows
      → IsTables new.now (record rows { endpoints = change_where (λ e. e.put == put) edit rows.endpoints })
  changes_endpoint sql params at more means put edit passed changed count h rows t =
      let table = record endpoints { tree = 1 } in
      let u = updates relay_schema sql params 1 (changed_endpoints at more) table means refl idle old new count
      t.schema_is h in
      let found = scanned 1 (is_given 0 at) (col 1 0 ∷ more) relay_schema old.now.trees params u.0 u.1 in
      let w = u.2 in
      let all = change_where (λ (e : EndpointRow). e.put == put) edit rows.endpoints in
      record {
        schema_is = w.schema_is;
        tables = other_endpoints 2 old.now.trees new.now.trees rows t.tables w.sound (others_of old new 1 _ w) all
            (subst (λ x. IsPermutation x (map endpoint_stored all)) (sym w.rows_are)
            (updated_typed endpoint_stored table params (is_given 0 at) (col 1 0 ∷ more)
            (λ (e : EndpointRow). e.put == put) edit passed changed (λ r. refl)
            (λ e. own_number e.put) (λ e f. same_number put e.put f.put) old.now.trees rows.endpoints u.0
            t.tables.five.endpoints found u.3));
      }

  pub makes_enabled : (put : ℕ) (flag : Bool) (by count : ℕ)
      → Executes enabled_update (enabled_values put flag by) old new (Ok count)
      → Makes old new (with_enabled put flag by)
  makes_enabled put flag by =
      changes_endpoint enabled_update (enabled_values put flag by) 2 enabled_terms enabled_update_means put
      (λ e. record e { enabled = flag; enabled_by = by })
      (λ e. and_true _ ∙ equal_numbers e.put put)
      (λ e. rw (
        cast_null,
        cast_int (pos e.put),
        cast_int (pos e.max),
        cast_int (pos (flag_number flag)),
        cast_int (pos by),
        cast_int (pos e.secrets_by),
      ) refl)

  pub makes_secrets_by : (put by count : ℕ) → Executes secrets_by_update (secrets_by_values put by) old new (Ok count)
      → Makes old new (with_secrets_by put by)
  makes_secrets_by put by =
      changes_endpoint secrets_by_update (secrets_by_values put by) 1 secrets_by_terms secrets_by_update_means put
      (λ e. record e { secrets_by = by })
      (λ e. and_true _ ∙ equal_numbers e.put put)
      (λ e. rw (
        cast_null,
        cast_int (pos e.put),
        cast_int (pos e.max),
        cast_int (pos (flag_number e.enabled)),
        cast_int (pos e.enabled_by),
        cast_int (pos by),
      ) refl)

-- ---- the secrets of an endpoint, and the row of a topic and an endpoint

secrets_delete_means : Means relay_schema secrets_delete (Delete 2 deleted_secrets)
unfolding understood everything
secrets_delete_means = record { is = refl; plain = (refl, refl) }

topic_delete_means : Means relay_schema topic_delete (Delete 5 deleted_topic)
unfolding understood everything
topic_delete_means = record { is = refl; plain = (refl, refl) }

module _ (old new : State) where
  pub makes_without_secrets : (endpoint count : ℕ)
      → Executes secrets_delete (Int (pos endpoint) ∷ []) old new (Ok count) → Makes old new (without_secrets endpoint)
  makes_without_secrets endpoint count h rows t =
      let params : Row = Int (pos endpoint) ∷ [] in
      let u = deletes relay_schema secrets_delete params 2 deleted_secrets (record secrets { tree = 3 })
      secrets_delete_means refl idle old new count t.schema_is h in
      let found = scanned 3 (is_given 1 0) (col 1 0 ∷ []) relay_schema old.now.trees params u.0 u.1 in
      let w = u.2 in
      let left = deletes_hidden secret_stored params (is_given 1 0) (λ (s : SecretRow). s.endpoint == endpoint)
      (λ id s. and_true _ ∙ equal_numbers s.endpoint endpoint) rows.secrets (old.now.trees 3) u.0
      (hidden_secrets old.now.trees rows t.tables.five) found in
      let all = filter (λ (s : SecretRow). not (s.endpoint == endpoint)) rows.secrets in
      record {
        schema_is = w.schema_is;
        tables = other_secrets 2 old.now.trees new.now.trees rows t.tables w.sound (others_of old new 3 _ w) all
            (subst (HasHidden secret_stored all) (sym w.rows_are) left);
      }

  pub makes_without_topic : (topic : List ℕ) (endpoint count : ℕ)
      → Executes topic_delete (Text topic ∷ Int (pos endpoint) ∷ []) old new (Ok count)
      → Makes old new (without_topic topic endpoint)
  makes_without_topic topic endpoint count h rows t =
      let params : Row = Text topic ∷ Int (pos endpoint) ∷ [] in
      let u = deletes relay_schema topic_delete params 5 deleted_topic (record topics { tree = 9 })
      topic_delete_means refl idle old new count t.schema_is h in
      let found = scanned 9 of_pair (col 1 0 ∷ []) relay_schema old.now.trees params u.0 u.1 in
      let w = u.2 in
      let left = deletes_hidden topic_stored params of_pair (is_pair_row topic endpoint)
      (λ id x. passes_pair topic endpoint id x) rows.topics (old.now.trees 9) u.0
      (hidden_topics old.now.trees rows t.tables) found in
      let all = filter (λ (x : TopicRow). not (is_pair_row topic endpoint x)) rows.topics in
      record {
        schema_is = w.schema_is;
        tables = other_topics 2 old.now.trees new.now.trees rows t.tables w.sound (others_of old new 9 _ w) all
            (subst (HasHidden topic_stored all) (sym w.rows_are) left);
      }
