-- The rows of a legal history can be read back.
use Rattle.std.proofs.Common.{◌≡◌, ◌<◌, ◌≤◌, ◌^◌, inl, inr, ℕ, true, ◌&&◌, List, [], ◌∷◌}
use Rattle.std.proofs.Common.{◌++◌, length, map, refl, subst, arith}
use Rattle.std.specs.Prelude.{flat_map}
use Rattle.std.specs.List.{AllByRecursion, list_all}
use Rattle.std.proofs.lemmas.Bool.Decides.{nat_tests}
use Rattle.relay_types.specs.declared.record.Record.{Record}
use Rattle.relay_types.specs.Legal.{IsLegal, is_status}
use Rattle.relay_types.specs.Lookups.{secrets_at}
use Rattle.relay_types.specs.Rows.{Rows, EndpointRow, SecretRow, rows_of}
use Rattle.relay_types.specs.Sound.{AreKeyed, secret_rows_at}
use Rattle.relay_types.specs.Values.{is_secret, is_msg_id, is_body, is_moment, is_between}
use Rattle.relay_types.proofs.ConditionLaws.{endpoint_below, delivery_below, attempt_below, endpoint_values}
use Rattle.relay_types.proofs.ConditionLaws.{delivery_values, attempt_values, topic_below, topic_values}
use Rattle.relay_types.proofs.KeyLaws.{legal_sound}
use Rattle.relay_types.proofs.KnownLaws.{and_first, and_second}
use Rattle.relay_types.proofs.TableLaws.{In}
use Rattle.spool_sql.specs.Readable.{AreReadable, IsReadableEndpoint, IsReadableSecret, IsReadableDelivery}
use Rattle.spool_sql.specs.Readable.{IsReadableAttempt, IsReadableTopic}
use Rattle.spool_sql.specs.Stored.{with_records}
use Rattle.spool_sql.proofs.PageLaws.{legal_length}

all_of : {X : Type 0} (P : X → Type 0) (xs : List X) → ((x : X) → In x xs → P x) → AllByRecursion P xs
all_of P [] h = tt
all_of P (x ∷ xs) h = (h x (inl refl), all_of P xs (λ y i. h y (inr i)))

all_append : {X : Type 0} (P : X → Type 0) (xs ys : List X) → AllByRecursion P xs → AllByRecursion P ys
    → AllByRecursion P (xs ++ ys)
all_append P [] ys h i = i
all_append P (x ∷ xs) ys h i = (h.0, all_append P xs ys h.1 i)

secrets_read : (ss : List SecretRow) → list_all is_secret (map (λ (s : SecretRow). s.secret) ss) ≡ true
    → AllByRecursion IsReadableSecret ss
secrets_read [] h = tt
secrets_read (s ∷ ss) h = (and_first (is_secret s.secret) _ h, secrets_read ss (and_second (is_secret s.secret) _ h))

all_secrets : (rows : Rows) (es : List EndpointRow)
    → ((e : EndpointRow) → In e es → AllByRecursion IsReadableSecret (secret_rows_at rows e.put))
    → AllByRecursion IsReadableSecret (flat_map (λ (e : EndpointRow). secret_rows_at rows e.put) es)
all_secrets rows [] h = tt
all_secrets rows (e ∷ es) h = all_append IsReadableSecret (secret_rows_at rows e.put) _ (h e (inl refl))
    (all_secrets rows es (λ f i. h f (inr i)))

small_status : (status : ℕ) → is_status status ≡ true → status < 2 ^ 16
small_status status h = grind (arith, nat_tests, h)

module _ (records : List Record) (legal : IsLegal records) where
  abbrev rows : Rows
  rows = rows_of records

  pub keyed : AreKeyed rows
  keyed = (legal_sound records legal).1

  few : length records ≤ 2 ^ 62
  few = legal_length records legal

  pub legal_readable : AreReadable rows
  legal_readable = let sound = (legal_sound records legal).0 in record {
    endpoints = all_of IsReadableEndpoint rows.endpoints (λ e i.
        let below = endpoint_below rows keyed sound e i in
        let values = endpoint_values rows keyed sound e i in
        record {
          put = omega (arith, below.0, few);
          name = values.0;
          url = values.1;
          max = values.2;
          enabled_by = omega (arith, below.1, few);
          secrets_by = omega (arith, below.2, few);
        });
    secrets = subst (AllByRecursion IsReadableSecret) keyed.by_endpoint (all_secrets rows rows.endpoints (λ e i.
        secrets_read (secret_rows_at rows e.put)
        (and_second (is_between 1 4 (length (secrets_at rows e.put))) (list_all is_secret (secrets_at rows e.put))
        (endpoint_values rows keyed sound e i).3)));
    deliveries = all_of IsReadableDelivery rows.deliveries (λ d i.
        let below = delivery_below rows keyed sound d i in
        let values = delivery_values rows keyed sound d i in
        let rest = and_second (is_msg_id d.id) (is_body d.body && is_moment d.at) values.1 in
        record {
          seq = omega (arith, below, few);
          endpoint = omega (arith, below, values.0, few);
          id = and_first (is_msg_id d.id) _ values.1;
          at = and_second (is_body d.body) (is_moment d.at) rest;
          body = and_first (is_body d.body) (is_moment d.at) rest;
        });
    attempts = all_of IsReadableAttempt rows.attempts (λ t i.
        let below = attempt_below rows keyed sound t i in
        let values = attempt_values rows keyed sound t i in
        record {
          seq = omega (arith, below, few);
          delivery = omega (arith, below, values.0, few);
          status = small_status t.status values.2;
          at = values.3;
        });
    topics = all_of IsReadableTopic rows.topics (λ t i.
        let below = topic_below rows keyed sound t i in
        let values = topic_values rows keyed sound t i in
        record {
          topic = values.0;
          endpoint = omega (arith, below, values.1, few);
          set_by = omega (arith, below, few);
        });
  }

  -- with any number of records
  pub counted_readable : (count : ℕ) → AreReadable (with_records count rows)
  counted_readable count = record {
    endpoints = legal_readable.endpoints;
    secrets = legal_readable.secrets;
    deliveries = legal_readable.deliveries;
    attempts = legal_readable.attempts;
    topics = legal_readable.topics;
  }
