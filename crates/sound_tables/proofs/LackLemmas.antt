-- Rows that show no values are in no sound tables.
use Rattle.std.proofs.Common.{◌≡◌, ◌<◌, inl, inr, ℕ, ◌==◌, ◌^◌, Bool, true, false, ◌&&◌, ◌||◌, List, [], ◌∷◌, None}
use Rattle.std.proofs.Common.{length, map, IsTrue, refl, subst, arith, leb-true, eqb-true}
use Rattle.std.specs.List.{AllByRecursion, list_all}
use Rattle.std.specs.Prelude.{nat_le}
use Rattle.sqlite.specs.Effect.{Database}
use Rattle.sqlite_trees.proofs.ListLemmas.{all_weaker, all-flat_map}
use Rattle.relay_types.specs.declared.limits.TheConstants.{MAX_SECRETS}
use Rattle.relay_types.specs.Legal.{is_status}
use Rattle.relay_types.specs.Lookups.{secrets_at}
use Rattle.relay_types.specs.Rows.{Rows, EndpointRow, SecretRow, DeliveryRow, AttemptRow, TopicRow}
use Rattle.relay_types.specs.Sound.{is_attempt_row, is_endpoint_row, secret_rows_at}
use Rattle.relay_types.specs.Values.{is_between, is_name, is_target, is_max_limit, is_msg_id, is_body, is_moment}
use Rattle.relay_types.specs.Values.{is_secret, are_secrets}
use Rattle.relay_types.proofs.KnownLaws.{and_first, and_second}
use Rattle.sound_rows.specs.RowNumbers.{of_endpoint, of_delivery, of_attempt}
use Rattle.sound_rows.specs.declared.numbers.Endpoint.{Endpoint}
use Rattle.sound_rows.specs.declared.numbers.Delivery.{Delivery}
use Rattle.sound_rows.specs.declared.numbers.Attempt.{Attempt}
use Rattle.spool_sql.specs.Stored.{endpoint_stored, delivery_stored, attempt_stored}
use Rattle.sound_tables.specs.Checks.{AreSoundAt, LacksTopics, TellsStored}
use Rattle.sound_tables.specs.Shown.{ShowsEndpoint, ShowsDelivery, ShowsAttempt}
use Rattle.sound_tables.specs.Tables.{endpoint_columns, delivery_columns, attempt_columns}
use Rattle.sound_tables.specs.Versions.{IsTablesAt}
use Rattle.sound_tables.specs.declared.version.Version.{Version}
use Rattle.sound_tables.specs.declared.version.Version.TheVariants.{First, Second}
use Rattle.sound_tables.proofs.ShownLemmas.{all_show, secrets_show, topics_show}
use Rattle.sound_tables.proofs.SoundLemmas.{values_of, all_attempt_rows, attempt_parts}
use Rattle.sound_tables.proofs.TopicLemmas.{each_passes}
use Rattle.sound_tables.proofs.VersionLemmas.{five_at}

endpoint_shown : (rows : Rows) (e : EndpointRow) → is_endpoint_row rows e ≡ true → (x : Endpoint)
    × ShowsEndpoint (endpoint_columns (endpoint_stored e)) x
endpoint_shown rows e h =
    let later = and_second (is_name e.name) _ h in (
      of_endpoint e,
      record {
        numbers = record {
          put = refl;
          name = (e.name, refl, and_first (is_name e.name) _ h);
          max = (e.max, refl, and_first (is_max_limit e.max) _ (and_second (is_target e.url) _ later));
          enabled = refl;
          enabled_by = refl;
          secrets_by = refl;
        };
        url = (e.url, refl, and_first (is_target e.url) _ later);
      },
    )

delivery_shown : (d : DeliveryRow) → is_msg_id d.id && (is_body d.body && is_moment d.at) ≡ true → (x : Delivery)
    × ShowsDelivery (delivery_columns (delivery_stored d)) x
delivery_shown d h =
    let later = and_second (is_msg_id d.id) _ h in (
      of_delivery d,
      record {
        seq = refl;
        endpoint = refl;
        id = (d.id, refl, and_first (is_msg_id d.id) _ h);
        at = (d.at, refl, and_second (is_body d.body) _ later);
        body = (d.body, refl, and_first (is_body d.body) _ later);
      },
    )

low_status : (status : ℕ) → is_status status ≡ true → status < 2 ^ 16
low_status status h = at (status == 0) refl h
  where
    at : (b : Bool) → status == 0 ≡ b → b || (nat_le 100 status && nat_le status 999) ≡ true → status < 2 ^ 16
    at true e h = omega (arith, eqb-true status 0 e)
    at false e h = omega (arith, leb-true status 999 (and_second (nat_le 100 status) (nat_le status 999) h))

attempt_shown : (rows : Rows) (t : AttemptRow) → is_attempt_row rows t ≡ true → (x : Attempt)
    × ShowsAttempt (attempt_columns (attempt_stored t)) x
attempt_shown rows t h =
    let parts = attempt_parts rows t h in (
      of_attempt t,
      record {
        seq = refl;
        delivery = refl;
        number = refl;
        status = refl;
        at = (t.at, refl, parts.1);
        fits = low_status t.status parts.0;
      },
    )

from_images : (rs : List SecretRow) → list_all is_secret (map (λ (r : SecretRow). r.secret) rs) ≡ true
    → AllByRecursion (λ (r : SecretRow). IsTrue (is_secret r.secret)) rs
from_images [] h = tt
from_images (r ∷ rs) h = (and_first (is_secret r.secret) _ h, from_images rs (and_second (is_secret r.secret) _ h))

own_secrets : (rows : Rows) (e : EndpointRow) → is_endpoint_row rows e ≡ true
    → AllByRecursion (λ (r : SecretRow). IsTrue (is_secret r.secret)) (secret_rows_at rows e.put)
own_secrets rows e h =
    from_images (secret_rows_at rows e.put) (and_second (is_between 1 MAX_SECRETS (length (secrets_at rows e.put))) _
    (and_first (are_secrets (secrets_at rows e.put)) _
    (and_second (is_max_limit e.max) _ (and_second (is_target e.url) _ (and_second (is_name e.name) _ h)))))

topics_lack : (v : Version) (db : Database) (rows : Rows) → IsTablesAt v db rows
    → AllByRecursion (λ (t : TopicRow). IsTrue (is_name t.topic)) rows.topics → ¬ LacksTopics v db
topics_lack First db rows it names none = none
topics_lack Second db rows it names lacks = lacks
    (topics_show (db.trees 9) rows.topics it.tables.topics it.tables.topic_rowids names)

pub lacks_sound : (v : Version) (db : Database) → TellsStored v db None → (rows : Rows) → ¬ AreSoundAt v db rows
lacks_sound v db lacks rows it =
    let five = (five_at v db rows it.tables).tables in
    let values = values_of rows it.sound in
    let endpoints_hold = each_passes (is_endpoint_row rows) rows.endpoints values.endpoints in
    elim lacks [
      | inl endpoints ↦ endpoints (all_show ShowsEndpoint endpoint_columns endpoint_stored (db.trees 1) rows.endpoints
          five.endpoints
          (all_weaker (λ e. is_endpoint_row rows e ≡ true) _ (endpoint_shown rows) rows.endpoints endpoints_hold))
      | inr (inl secrets) ↦ secrets
          (secrets_show (db.trees 3) rows.secrets five.secrets five.secret_rowids
          (subst (AllByRecursion (λ (r : SecretRow). IsTrue (is_secret r.secret))) it.keyed.by_endpoint
          (all-flat_map (λ (r : SecretRow). IsTrue (is_secret r.secret))
          (λ (e : EndpointRow). secret_rows_at rows e.put) rows.endpoints
          (all_weaker (λ e. is_endpoint_row rows e ≡ true) _ (own_secrets rows) rows.endpoints endpoints_hold))))
      | inr (inr (inl deliveries)) ↦ deliveries
          (all_show ShowsDelivery delivery_columns delivery_stored (db.trees 5) rows.deliveries
          five.deliveries
          (all_weaker (λ (d : DeliveryRow). is_msg_id d.id && (is_body d.body && is_moment d.at) ≡ true) _
          delivery_shown rows.deliveries
          (each_passes (λ (d : DeliveryRow). is_msg_id d.id && (is_body d.body && is_moment d.at)) rows.deliveries
          values.deliveries)))
      | inr (inr (inr (inl attempts))) ↦ attempts
          (all_show ShowsAttempt attempt_columns attempt_stored (db.trees 7) rows.attempts five.attempts
          (all_weaker (λ t. is_attempt_row rows t ≡ true) _ (attempt_shown rows) rows.attempts
          (each_passes (is_attempt_row rows) rows.attempts (all_attempt_rows rows it.sound))))
      | inr (inr (inr (inr topics))) ↦ topics_lack v db rows it.tables
          (each_passes (λ (t : TopicRow). is_name t.topic) rows.topics values.topics) topics
    ]
