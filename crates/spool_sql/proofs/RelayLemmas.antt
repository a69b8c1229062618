-- The relay's tables, and one of them with other rows.
use Rattle.std.proofs.Common.{◌≡◌, ◌≢◌, ℕ, ◌==◌, List, [], ◌∷◌, map, drop, flat_map, length, Bool, true, false, refl}
use Rattle.std.proofs.Common.{sym, subst, ◌∙◌, arith}
use Rattle.std.specs.List.{filter_map}
use Rattle.std.specs.List.Sorted.{IsPermutation}
use Rattle.std.proofs.lemmas.Bool.Decides.{nat_tests}
use Rattle.sqlite.specs.Order.{Row}
use Rattle.sqlite.specs.Schema.{Schema}
use Rattle.sqlite.specs.Tree.{Trees}
use Rattle.sqlite.specs.State.{State}
use Rattle.sqlite_schema.specs.declared.schema.Keys.TheVariants.{Enforced}
use Rattle.sqlite_schema.specs.Rules.{parent_key}
use Rattle.sqlite_rules.specs.Action.{works, work_by, pairs, deed_for}
use Rattle.sqlite_catalog.specs.Change.{KeepsRows}
use Rattle.sqlite_catalog.specs.Listing.{IsSound}
use Rattle.relay_types.specs.Rows.{Rows, EndpointRow, SecretRow, DeliveryRow, AttemptRow, TopicRow}
use Rattle.spool_sql.specs.Tables.{first_schema, relay_schema}
use Rattle.spool_sql.specs.Stored.{AreTables, AreSixTables, HasRowids, meta_stored, endpoint_stored, delivery_stored}
use Rattle.spool_sql.specs.Stored.{attempt_stored, secret_stored, topic_stored, with_records}
use Rattle.spool_sql.proofs.InsertLemmas.{Wrote}
use Rattle.spool_sql.proofs.HiddenLemmas.{HasHidden}

-- no foreign key acts on a row
idle_by : (b : Bool) (tree : ℕ) (olds news : List Row)
    → flat_map (λ child. filter_map (λ ref. work_by 0 tree (pairs olds news) child ref (deed_for Enforced b ref)
    (parent_key relay_schema.tables ref)) child.references) relay_schema.tables ≡ []
idle_by true tree olds news = refl
idle_by false tree olds news = refl

pub idle : (tree : ℕ) (olds news : List Row) → works relay_schema Enforced 0 tree olds news ≡ []
idle tree olds news = idle_by (length news == 0) tree olds news

-- of the relay's trees only this one may have other rows
pub record Others (old new : Trees) (tree : ℕ) : Type 0 where
  pub meta : 0 ≢ tree → new 0 ≡ old 0
  pub endpoints : 1 ≢ tree → new 1 ≡ old 1
  pub secrets : 3 ≢ tree → new 3 ≡ old 3
  pub deliveries : 5 ≢ tree → new 5 ≡ old 5
  pub attempts : 7 ≢ tree → new 7 ≡ old 7
  pub topics : 9 ≢ tree → new 9 ≡ old 9

pub others_of : (old new : State) (tree : ℕ) (rows : List Row) → Wrote relay_schema old new tree rows
    → Others old.now.trees new.now.trees tree
others_of old new tree rows w =
    let o = w.others in
    record {
      meta = o.0;
      endpoints = o.1.0;
      secrets = o.1.1.0;
      deliveries = o.1.1.1.0;
      attempts = o.1.1.1.1.0;
      topics = o.1.1.1.1.1.0;
    }

-- the rows of the two tables whose rowids nobody names
pub hidden_secrets : {schema : Schema} {version : ℕ} (db : Trees) (rows : Rows) → AreTables schema version db rows
    → HasHidden secret_stored rows.secrets (db 3)
hidden_secrets db rows t = record { shown = t.secrets; rowids = t.secret_rowids }

pub hidden_topics : {version : ℕ} (db : Trees) (rows : Rows) → AreSixTables version db rows
    → HasHidden topic_stored rows.topics (db 9)
hidden_topics db rows t = record { shown = t.topics; rowids = t.topic_rowids }

-- the five tables of version 1 with the rows that they had, whatever stands beside them now
pub same_five : (version : ℕ) (old new : Trees) (rows : Rows) → AreTables first_schema version old rows
    → IsSound relay_schema new → KeepsRows first_schema.tables old new → AreTables relay_schema version new rows
same_five version old new rows t sound kept = record {
  sound = sound;
  meta = kept.0 ∙ t.meta;
  endpoints = subst (λ x. IsPermutation x (map endpoint_stored rows.endpoints)) (sym kept.1.0) t.endpoints;
  secrets = subst (λ x. IsPermutation (map (drop 1) x) (map secret_stored rows.secrets)) (sym kept.1.1.0) t.secrets;
  deliveries = subst (λ x. IsPermutation x (map delivery_stored rows.deliveries)) (sym kept.1.1.1.0) t.deliveries;
  attempts = subst (λ x. IsPermutation x (map attempt_stored rows.attempts)) (sym kept.1.1.1.1.0) t.attempts;
  secret_rowids = subst HasRowids (sym kept.1.1.0) t.secret_rowids;
}

-- ---- one table has other rows, and the others have theirs

differs : (m n : ℕ) → (m == n) ≡ false → m ≢ n
differs m n apart e = grind (arith, nat_tests, apart, e)

module _ (version : ℕ) (old new : Trees) (rows : Rows) (t : AreSixTables version old rows)
    (sound : IsSound relay_schema new) where
  same_endpoints : new 1 ≡ old 1 → IsPermutation (new 1) (map endpoint_stored rows.endpoints)
  same_endpoints is = subst (λ x. IsPermutation x (map endpoint_stored rows.endpoints)) (sym is) t.five.endpoints

  same_secrets : new 3 ≡ old 3 → HasHidden secret_stored rows.secrets (new 3)
  same_secrets is = subst (HasHidden secret_stored rows.secrets) (sym is) (hidden_secrets old rows t.five)

  same_deliveries : new 5 ≡ old 5 → IsPermutation (new 5) (map delivery_stored rows.deliveries)
  same_deliveries is = subst (λ x. IsPermutation x (map delivery_stored rows.deliveries)) (sym is) t.five.deliveries

  same_attempts : new 7 ≡ old 7 → IsPermutation (new 7) (map attempt_stored rows.attempts)
  same_attempts is = subst (λ x. IsPermutation x (map attempt_stored rows.attempts)) (sym is) t.five.attempts

  same_topics : new 9 ≡ old 9 → HasHidden topic_stored rows.topics (new 9)
  same_topics is = subst (HasHidden topic_stored rows.topics) (sym is) (hidden_topics old rows t)

  pub other_meta : Others old new 0 → (later n : ℕ) → new 0 ≡ meta_stored later n ∷ []
      → AreSixTables later new (with_records n rows)
  other_meta o later n is =
      let secrets = same_secrets (o.secrets (differs 3 0 refl)) in
      let topics = same_topics (o.topics (differs 9 0 refl)) in
      record {
        five = record {
          sound = sound;
          meta = is;
          endpoints = same_endpoints (o.endpoints (differs 1 0 refl));
          secrets = secrets.shown;
          deliveries = same_deliveries (o.deliveries (differs 5 0 refl));
          attempts = same_attempts (o.attempts (differs 7 0 refl));
          secret_rowids = secrets.rowids;
        };
        topics = topics.shown;
        topic_rowids = topics.rowids;
      }

  pub other_endpoints : Others old new 1 → (all : List EndpointRow) → IsPermutation (new 1) (map endpoint_stored all)
      → AreSixTables version new (record rows { endpoints = all })
  other_endpoints o all are =
      let secrets = same_secrets (o.secrets (differs 3 1 refl)) in
      let topics = same_topics (o.topics (differs 9 1 refl)) in
      record {
        five = record {
          sound = sound;
          meta = o.meta (differs 0 1 refl) ∙ t.five.meta;
          endpoints = are;
          secrets = secrets.shown;
          deliveries = same_deliveries (o.deliveries (differs 5 1 refl));
          attempts = same_attempts (o.attempts (differs 7 1 refl));
          secret_rowids = secrets.rowids;
        };
        topics = topics.shown;
        topic_rowids = topics.rowids;
      }

  pub other_deliveries : Others old new 5 → (all : List DeliveryRow) → IsPermutation (new 5) (map delivery_stored all)
      → AreSixTables version new (record rows { deliveries = all })
  other_deliveries o all are =
      let secrets = same_secrets (o.secrets (differs 3 5 refl)) in
      let topics = same_topics (o.topics (differs 9 5 refl)) in
      record {
        five = record {
          sound = sound;
          meta = o.meta (differs 0 5 refl) ∙ t.five.meta;
          endpoints = same_endpoints (o.endpoints (differs 1 5 refl));
          secrets = secrets.shown;
          deliveries = are;
          attempts = same_attempts (o.attempts (differs 7 5 refl));
          secret_rowids = secrets.rowids;
        };
        topics = topics.shown;
        topic_rowids = topics.rowids;
      }

  pub other_attempts : Others old new 7 → (all : List AttemptRow) → IsPermutation (new 7) (map attempt_stored all)
      → AreSixTables version new (record rows { attempts = all })
  other_attempts o all are =
      let secrets = same_secrets (o.secrets (differs 3 7 refl)) in
      let topics = same_topics (o.topics (differs 9 7 refl)) in
      record {
        five = record {
          sound = sound;
          meta = o.meta (differs 0 7 refl) ∙ t.five.meta;
          endpoints = same_endpoints (o.endpoints (differs 1 7 refl));
          secrets = secrets.shown;
          deliveries = same_deliveries (o.deliveries (differs 5 7 refl));
          attempts = are;
          secret_rowids = secrets.rowids;
        };
        topics = topics.shown;
        topic_rowids = topics.rowids;
      }

  pub other_secrets : Others old new 3 → (all : List SecretRow) → HasHidden secret_stored all (new 3)
      → AreSixTables version new (record rows { secrets = all })
  other_secrets o all are =
      let topics = same_topics (o.topics (differs 9 3 refl)) in
      record {
        five = record {
          sound = sound;
          meta = o.meta (differs 0 3 refl) ∙ t.five.meta;
          endpoints = same_endpoints (o.endpoints (differs 1 3 refl));
          secrets = are.shown;
          deliveries = same_deliveries (o.deliveries (differs 5 3 refl));
          attempts = same_attempts (o.attempts (differs 7 3 refl));
          secret_rowids = are.rowids;
        };
        topics = topics.shown;
        topic_rowids = topics.rowids;
      }

  pub other_topics : Others old new 9 → (all : List TopicRow) → HasHidden topic_stored all (new 9)
      → AreSixTables version new (record rows { topics = all })
  other_topics o all are =
      let secrets = same_secrets (o.secrets (differs 3 9 refl)) in
      record {
        five = record {
          sound = sound;
          meta = o.meta (differs 0 9 refl) ∙ t.five.meta;
          endpoints = same_endpoints (o.endpoints (differs 1 9 refl));
          secrets = secrets.shown;
          deliveries = same_deliveries (o.deliveries (differs 5 9 refl));
          attempts = same_attempts (o.attempts (differs 7 9 refl));
          secret_rowids = secrets.rowids;
        };
        topics = are.shown;
        topic_rowids = are.rowids;
      }
