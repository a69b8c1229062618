-- Which rows the tables have, by what is read of them.
use Rattle.std.proofs.Common.{◌≡◌, ℕ, ◌+◌, ◌==◌, pos, Bool, true, false, cond, ◌&&◌, List, [], ◌∷◌, length}
use Rattle.std.proofs.Common.{map, drop, filter, flat_map, MatchBool, IsTrue, refl, sym, ap, subst, ◌∙◌, IsPermutation}
use Rattle.std.proofs.Common.{IsSorted}
use Rattle.std.specs.List.{AllByRecursion, AllZip, list_all, list_any}
use Rattle.std.specs.Prelude.{nat_lt}
use Rattle.std.proofs.lemmas.List.Folds.{list_all-map}
use Rattle.std.proofs.lemmas.List.Sorted.{IsPermutation-map, IsPermutation-trans}
use Rattle.sqlite.specs.Order.{Row}
use Rattle.sqlite.specs.Effect.{Database}
use Rattle.sqlite.specs.declared.types.Value.TheVariants.{Int}
use Rattle.sqlite_value.specs.Order.{column}
use Rattle.sqlite_trees.specs.Tree.{IsAscending}
use Rattle.relay_types.specs.declared.limits.TheConstants.{MAX_SECRETS}
use Rattle.relay_types.specs.Values.{Seq, is_name, is_target, is_max_limit, is_msg_id, is_body, is_moment, is_secret}
use Rattle.relay_types.specs.Values.{is_between, are_secrets}
use Rattle.relay_types.specs.Rows.{Rows, EndpointRow, SecretRow, DeliveryRow, AttemptRow}
use Rattle.relay_types.specs.Legal.{is_status}
use Rattle.relay_types.specs.Lookups.{secrets_at}
use Rattle.relay_types.specs.Sound as sound
use Rattle.relay_types.specs.Sound.{AreKeyed, IsRisingFrom, are_sound, is_endpoint_row, is_delivery_row, is_attempt_row}
use Rattle.relay_types.specs.Sound.{is_topic_row, secret_rows_at}
use Rattle.relay_types.proofs.KnownLaws.{and_first, and_second}
use Rattle.relay_types.proofs.FilterLaws.{rising_map}
use Rattle.sound_rows.specs.RowNumbers.{AreAscending, AreNumbersOf, AreValues, kept, of_endpoint, of_delivery}
use Rattle.sound_rows.specs.RowNumbers.{of_attempt}
use Rattle.sound_rows.specs.declared.numbers.Endpoint.{Endpoint}
use Rattle.sound_rows.specs.declared.numbers.Delivery.{Delivery}
use Rattle.sound_rows.specs.declared.numbers.Attempt.{Attempt}
use Rattle.sound_rows.specs.declared.numbers.RowNumbers.{RowNumbers}
use Rattle.sound_rows.specs.declared.numbers.Topic.{Topic as Decided}
use Rattle.sqlite_catalog.specs.Listing.{IsSound}
use Rattle.spool_sql.specs.Stored.{AreTables, endpoint_stored, secret_stored, delivery_stored, attempt_stored}
use Rattle.spool_sql.specs.Stored.{meta_stored}
use Rattle.sound_tables.specs.Checks.{AreInOrder, AreInTurn, AreRead, AreSoundAt, HasSound}
use Rattle.sound_tables.specs.Places.{are_places, by_place, places_of}
use Rattle.sound_tables.specs.Shown.{ShowsMeta}
use Rattle.sound_tables.specs.Tables.{meta_columns}
use Rattle.sound_tables.specs.Versions.{number_of, schema_of}
use Rattle.sound_tables.specs.declared.version.Version.{Version}
use Rattle.sound_tables.specs.declared.secret.Secret.{Secret}
use Rattle.sound_tables.specs.declared.stored.StoredRows.{StoredRows}
use Rattle.sound_tables.proofs.OrderLemmas.{one_order, grouped}
use Rattle.sound_tables.proofs.PlaceLemmas.{IsSamePlace, AreBefore, zip_permutation, same_places, all_secrets}
use Rattle.sound_tables.proofs.PlaceLemmas.{zip_climbs, places_same, endpoints_climb, flat_ascend, places_in_order}
use Rattle.sound_tables.proofs.ShownLemmas.{endpoints_read, deliveries_read, attempts_read, secrets_read}
use Rattle.sound_tables.proofs.StoredLemmas.{StandsAt, meta_is, endpoints_of, secrets_of, deliveries_of, attempts_of}
use Rattle.sound_tables.proofs.StoredLemmas.{secret_rowids}
use Rattle.sound_tables.proofs.TopicLemmas.{TopicsOf, by_members, each_passes, rising_back, rising_where, topics_at}
use Rattle.sound_tables.proofs.TopicLemmas.{topics_same}
use Rattle.sound_tables.proofs.VersionLemmas.{five_at, own_at}
use Rattle.sound_tables.proofs.FiveLemmas.{KeepsFive, keeps_five}
use Rattle.sound_tables.proofs.KeyLemmas.{secrets_refer, keyed_by}

-- ---- lists

both_true : (a b : Bool) → a ≡ true → b ≡ true → a && b ≡ true
both_true a b p q = ap (λ c. c && b) p ∙ q

true_each : {X : Type 0} (p : X → Bool) (xs : List X) → AllByRecursion (λ x. p x ≡ true) xs → list_all p xs ≡ true
true_each p [] all = refl
true_each p (x ∷ xs) all = both_true (p x) (list_all p xs) all.0 (true_each p xs all.1)

zip_all : {X : Type 0} (p q r : X → Bool) (xs : List X) → ((x : X) → p x ≡ true → q x ≡ true → r x ≡ true)
    → list_all p xs ≡ true → list_all q xs ≡ true → list_all r xs ≡ true
zip_all p q r [] each a b = refl
zip_all p q r (x ∷ xs) each a b =
    both_true (r x) (list_all r xs) (each x (and_first (p x) (list_all p xs) a) (and_first (q x) (list_all q xs) b))
    (zip_all p q r xs each (and_second (p x) (list_all p xs) a) (and_second (q x) (list_all q xs) b))

weaker_all : {X : Type 0} (p q : X → Bool) (xs : List X) → ((x : X) → p x ≡ true → q x ≡ true) → list_all p xs ≡ true
    → list_all q xs ≡ true
weaker_all p q xs each h = zip_all p p q xs (λ x a b. each x a) h h

-- ---- the values of an endpoint, with those of its secrets

own_rules : (put : Seq) (rs : List SecretRow) → AllByRecursion (λ (r : SecretRow). IsTrue (is_secret r.secret)) rs
    → list_all is_secret (map (λ (s : SecretRow). s.secret) (filter (λ s. s.endpoint == put) rs)) ≡ true
own_rules put [] each = refl
own_rules put (r ∷ rs) each = at (r.endpoint == put) (own_rules put rs each.1)
  where
    at : (b : Bool) → list_all is_secret (map (λ (s : SecretRow). s.secret) (filter (λ s. s.endpoint == put) rs)) ≡ true
        → list_all is_secret
        (map (λ (s : SecretRow). s.secret)
        (cond b (r ∷ filter (λ s. s.endpoint == put) rs) (filter (λ s. s.endpoint == put) rs))) ≡ true
    at true rest = both_true (is_secret r.secret) _ each.0 rest
    at false rest = rest

-- ---- the values of sound rows

pub attempt_parts : (rows : Rows) (t : AttemptRow) → is_attempt_row rows t ≡ true → (is_status t.status ≡ true)
    × (is_moment t.at ≡ true)
attempt_parts rows t h =
    let second = and_second (nat_lt t.delivery t.seq) _ h in
    let third = and_second (t.number == length (sound.attempts_before rows t) + 1) _ second in
    let fourth = and_second (is_status t.status) _ third in
    (and_first (is_status t.status) _ third, and_first (is_moment t.at) _ fourth)

module _ (rows : Rows) (is : IsTrue (are_sound rows)) where
  -- from here on, and from the endpoints on
  apart : sound.are_numbers_apart rows
      && (sound.are_endpoint_rows rows
      && (list_all (sound.is_secrets_place rows) rows.endpoints
      && (list_all (sound.is_flag_place rows) rows.endpoints && (list_all is_delivery_row rows.deliveries
      && (list_all (is_attempt_row rows) rows.attempts && sound.are_topic_rows rows))))) ≡ true
  apart = and_second (sound.are_numbers_below rows) _ is

  endpoint_rows : sound.are_endpoint_rows rows
      && (list_all (sound.is_secrets_place rows) rows.endpoints
      && (list_all (sound.is_flag_place rows) rows.endpoints && (list_all is_delivery_row rows.deliveries
      && (list_all (is_attempt_row rows) rows.attempts && sound.are_topic_rows rows)))) ≡ true
  endpoint_rows = and_second (sound.are_numbers_apart rows) _ apart

  delivery_rows : list_all is_delivery_row rows.deliveries
      && (list_all (is_attempt_row rows) rows.attempts && sound.are_topic_rows rows) ≡ true
  delivery_rows =
      and_second (list_all (sound.is_flag_place rows) rows.endpoints) _
      (and_second (list_all (sound.is_secrets_place rows) rows.endpoints) _
      (and_second (sound.are_endpoint_rows rows) _ endpoint_rows))

  topic_rows : list_all is_topic_row rows.topics ≡ true
  topic_rows =
      and_second _ (list_all is_topic_row rows.topics)
      (and_second (list_all (is_attempt_row rows) rows.attempts) _
      (and_second (list_all is_delivery_row rows.deliveries) _ delivery_rows))

  pub all_attempt_rows : list_all (is_attempt_row rows) rows.attempts ≡ true
  all_attempt_rows = and_first (list_all (is_attempt_row rows) rows.attempts) _
      (and_second (list_all is_delivery_row rows.deliveries) _ delivery_rows)

  pub values_of : AreValues rows
  values_of = record {
    endpoints = and_second _ (list_all (is_endpoint_row rows) rows.endpoints)
        (and_first (sound.are_endpoint_rows rows) _ endpoint_rows);
    deliveries = weaker_all is_delivery_row (λ d. is_msg_id d.id && (is_body d.body && is_moment d.at)) rows.deliveries
        (λ d h. and_second _ (is_msg_id d.id && (is_body d.body && is_moment d.at)) h)
        (and_first (list_all is_delivery_row rows.deliveries) _ delivery_rows);
    attempts = weaker_all (is_attempt_row rows) (λ t. is_moment t.at) rows.attempts (λ t h. (attempt_parts rows t h).1)
        all_attempt_rows;
    topics = weaker_all is_topic_row (λ t. is_name t.topic) rows.topics
        (λ t h. and_first (is_name t.topic) (nat_lt t.endpoint t.set_by) h) topic_rows;
  }

-- ---- what is read of a database, as rows

module _ (v : Version) (db : Database) (is : db.schema ≡ schema_of v) (records : ℕ) (stored : StoredRows)
    (read : AreRead v db records stored) (order : AreInOrder stored)
    (numbers : RowNumbers) (records_are : numbers.records ≡ records) (endpoints_are : numbers.endpoints.items
    ≡ stored.endpoints.items) (deliveries_are : numbers.deliveries.items ≡ stored.deliveries.items)
    (attempts_are : numbers.attempts.items ≡ stored.attempts.items)
    (turn : AreInTurn stored.topics.items numbers.topics.items)
  where
    obeys : IsSound (schema_of v) db.trees
    obeys = subst (λ schema. IsSound schema db.trees) is read.obeys

    keeps : KeepsFive db.trees
    keeps = keeps_five (schema_of v) db.trees (own_at v) obeys

    module _ (ss : List Secret) (moved : IsPermutation stored.secrets.items ss) (up : IsSorted by_place ss)
        (placed : list_all (λ (e : Endpoint). are_places (places_of e.put ss)) stored.endpoints.items ≡ true)
        (told : (rows : Rows) → AreNumbersOf numbers rows → AreKeyed rows → AreValues rows → true ≡ are_sound rows)
        (rises : IsRisingFrom (λ (t : Decided). t.set_by) 0 numbers.topics.items)
      where
        module _ (es : List EndpointRow) (es_stored : IsPermutation (db.trees 1) (map endpoint_stored es))
            (es_are : map of_endpoint es ≡ stored.endpoints.items)
            (es_rules : IsTrue
            (list_all (λ (e : EndpointRow). is_name e.name && (is_target e.url && is_max_limit e.max))
            es)) (rs : List SecretRow) (rs_stored : IsPermutation (map (drop 1) (db.trees 3)) (map secret_stored rs))
            (rs_are : AllZip StandsAt rs ss)
            (ds : List DeliveryRow) (ds_stored : IsPermutation (db.trees 5) (map delivery_stored ds))
            (ds_are : map of_delivery ds ≡ stored.deliveries.items)
            (ds_rules : IsTrue
            (list_all (λ (d : DeliveryRow). is_msg_id d.id && (is_body d.body && is_moment d.at)) ds))
            (ts : List AttemptRow) (ts_stored : IsPermutation (db.trees 7) (map attempt_stored ts))
            (ts_are : map of_attempt ts ≡ stored.attempts.items)
            (ts_rules : IsTrue (list_all (λ (t : AttemptRow). is_moment t.at) ts))
            (topics : TopicsOf v db numbers.topics.items) where
          abbrev these : Rows
          these = record {
            records = records;
            endpoints = es;
            secrets = rs;
            deliveries = ds;
            attempts = ts;
            topics = topics.topics;
          }

          same : AllZip IsSamePlace rs ss
          same = same_places rs ss rs_are

          tables : AreTables (schema_of v) (number_of v) db.trees these
          tables = record {
            sound = obeys;
            meta = meta_is db.trees keeps read.meta.0 _ (number_of v) records read.meta.1 read.meta.2 refl refl refl;
            endpoints = es_stored;
            secrets = rs_stored;
            deliveries = ds_stored;
            attempts = ts_stored;
            secret_rowids = secret_rowids (db.trees 3) stored.secrets.items read.shown.secrets order.rowids;
          }

          puts : IsRisingFrom (λ (e : EndpointRow). e.put) 0 es
          puts = rising_back of_endpoint (λ (e : Endpoint). e.put) 0 es
              (subst (IsRisingFrom (λ (e : Endpoint). e.put) 0) (sym es_are) order.puts)

          by_endpoint : flat_map (λ (e : EndpointRow). filter (λ s. s.endpoint == e.put) rs) es ≡ rs
          by_endpoint = grouped (λ (s : SecretRow). s.endpoint) (λ (e : EndpointRow). e.put) 0 es rs puts
              (zip_climbs 0 rs ss same (endpoints_climb ss up))
              (by_members (λ (s : SecretRow). list_any (λ (e : EndpointRow). e.put == s.endpoint) es ≡ true) rs
              (secrets_refer (schema_of v) (own_at v) (number_of v) db.trees these tables))

          keyed : AreKeyed these
          keyed = keyed_by (schema_of v) (own_at v) (number_of v) db.trees these tables puts
              (rising_back of_delivery (λ (d : Delivery). d.seq) 0 ds
              (subst (IsRisingFrom (λ (d : Delivery). d.seq) 0) (sym ds_are) order.deliveries))
              (rising_back of_attempt (λ (t : Attempt). t.seq) 0 ts
              (subst (IsRisingFrom (λ (t : Attempt). t.seq) 0) (sym ts_are) order.attempts)) topics.rise by_endpoint
              topics.pairs (topics.subscribed these tables)

          their_places : list_all (λ (e : EndpointRow). are_places (places_of e.put ss)) es ≡ true
          their_places = sym (list_all-map (λ (e : Endpoint). are_places (places_of e.put ss)) of_endpoint es)
              ∙ ap (list_all (λ (e : Endpoint). are_places (places_of e.put ss))) es_are ∙ placed

          whole : (e : EndpointRow) → is_name e.name && (is_target e.url && is_max_limit e.max) ≡ true
              → are_places (places_of e.put ss) ≡ true
              → is_endpoint_row these e ≡ true
          whole e rules places =
              let own = filter (λ (s : SecretRow). s.endpoint == e.put) rs in
              let secrets = map (λ (s : SecretRow). s.secret) own in
              let all = places_same e.put rs ss same ∙ places in
              let many = and_first (is_between 1 MAX_SECRETS (length secrets)) (sound.are_places own) all in
              let later = and_second (is_name e.name) (is_target e.url && is_max_limit e.max) rules in
              both_true (is_name e.name) _ (and_first (is_name e.name) (is_target e.url && is_max_limit e.max) rules)
              (both_true (is_target e.url) _ (and_first (is_target e.url) (is_max_limit e.max) later)
              (both_true (is_max_limit e.max) _ (and_second (is_target e.url) (is_max_limit e.max) later)
              (both_true (are_secrets secrets) _ (both_true (is_between 1 MAX_SECRETS (length secrets)) _ many
              (own_rules e.put rs (all_secrets rs ss rs_are)))
              (and_second (is_between 1 MAX_SECRETS (length secrets)) (sound.are_places own) all))))

          values : AreValues these
          values = record {
            endpoints = zip_all (λ (e : EndpointRow). is_name e.name && (is_target e.url && is_max_limit e.max))
                (λ (e : EndpointRow). are_places (places_of e.put ss))
                (is_endpoint_row these) es whole es_rules their_places;
            deliveries = ds_rules;
            attempts = ts_rules;
            topics = topics.names;
          }

          are_numbers : AreNumbersOf numbers these
          are_numbers = λ i. record {
            records = records_are i;
            endpoints = (endpoints_are ∙ sym es_are) i;
            deliveries =
                (deliveries_are ∙ sym ds_are) i;
            attempts = (attempts_are ∙ sym ts_are) i;
            topics = sym topics.are i;
          }

          has_rows : HasSound (AreSoundAt v) db records
          has_rows = (
            these,
            record {
              tables = topics.tables these refl (record { schema_is = is; tables = tables });
              keyed = keyed;
              sound =
                  sym (told _ are_numbers keyed values);
            },
            refl,
          )

        pub has_sound : HasSound (AreSoundAt v) db records
        has_sound =
            let es = endpoints_of db.trees keeps stored.endpoints.items read.shown.endpoints in
            let rs = secrets_of db.trees keeps stored.secrets.items read.shown.secrets in
            let ds = deliveries_of db.trees keeps stored.deliveries.items read.shown.deliveries in
            let ts = attempts_of db.trees keeps stored.attempts.items read.shown.attempts in
            let beside = zip_permutation StandsAt stored.secrets.items ss moved rs.0 rs.2 in
            has_rows es.0 es.1 es.2 es.3 beside.0
            (IsPermutation-trans _ _ _ rs.1 (IsPermutation-map secret_stored _ _ beside.1)) beside.2 ds.0 ds.1 ds.2
            ds.3 ts.0 ts.1 ts.2 ts.3
            (topics_at v db obeys stored.topics.items read.shown.topics order.topics numbers.topics.items turn.same
            rises)

    -- ---- and the rows that sound tables have are read so

    module _ (rows : Rows) (it : AreSoundAt v db rows) where
      five : AreTables (schema_of v) (number_of v) db.trees rows
      five = (five_at v db rows it.tables).tables

      records_same : records ≡ rows.records
      records_same = at read.meta.0 (row_is (sym read.meta.1 ∙ five.meta)) read.meta.2
        where
          row_is : (read.meta.0 ∷ []) ≡ (meta_stored (number_of v) rows.records ∷ [])
              → read.meta.0 ≡ meta_stored (number_of v) rows.records
          row_is e = cc

          at : (row : Row) → row ≡ meta_stored (number_of v) rows.records
              → ShowsMeta (meta_columns row)
              (record { key = pos 1; version = pos (number_of v); records = pos records })
              → records ≡ rows.records
          at row is shown =
              let told : Int (pos rows.records) ≡ Int (pos records) = sym (ap (λ r. column (meta_columns r) 3) is)
              ∙ shown.records in
              cc

      endpoints_same : stored.endpoints.items ≡ map of_endpoint rows.endpoints
      endpoints_same = one_order (λ (e : Endpoint). e.put) (map of_endpoint rows.endpoints) stored.endpoints.items
          (rising_map of_endpoint (λ (e : Endpoint). e.put) 0 rows.endpoints it.keyed.puts_rise)
          (endpoints_read (db.trees 1) rows.endpoints stored.endpoints.items five.endpoints
          read.shown.endpoints) order.puts

      deliveries_same : stored.deliveries.items ≡ map of_delivery rows.deliveries
      deliveries_same = one_order (λ (d : Delivery). d.seq) (map of_delivery rows.deliveries) stored.deliveries.items
          (rising_map of_delivery (λ (d : Delivery). d.seq) 0 rows.deliveries it.keyed.deliveries_rise)
          (deliveries_read (db.trees 5) rows.deliveries stored.deliveries.items five.deliveries
          read.shown.deliveries) order.deliveries

      attempts_same : stored.attempts.items ≡ map of_attempt rows.attempts
      attempts_same = one_order (λ (t : Attempt). t.seq) (map of_attempt rows.attempts) stored.attempts.items
          (rising_map of_attempt (λ (t : Attempt). t.seq) 0 rows.attempts it.keyed.attempts_rise)
          (attempts_read (db.trees 7) rows.attempts stored.attempts.items five.attempts read.shown.attempts)
          order.attempts

      numbers_same : AreNumbersOf numbers rows
      numbers_same = λ i. record {
        records = (records_are ∙ records_same) i;
        endpoints =
            (endpoints_are ∙ endpoints_same) i;
        deliveries = (deliveries_are ∙ deliveries_same) i;
        attempts =
            (attempts_are ∙ attempts_same) i;
        topics =
            topics_same v db rows it.tables it.keyed stored.topics.items read.shown.topics numbers.topics.items turn i;
      }

      -- the numbers of sound rows are told to be sound
      pub numbers_sound : (answer : Bool) → ((all : Rows) → AreNumbersOf numbers all → AreKeyed all → AreValues all
          → answer ≡ are_sound all) → answer ≡ true
      numbers_sound answer told = told rows numbers_same it.keyed (values_of rows it.sound) ∙ it.sound

      -- and the secrets to be in their places
      pub secrets_placed : (ss : List Secret) → IsPermutation stored.secrets.items ss → IsSorted by_place ss
          → list_all (λ (e : Endpoint). are_places (places_of e.put ss)) stored.endpoints.items ≡ true
      secrets_placed ss moved up =
          ap (list_all (λ (e : Endpoint). are_places (places_of e.put ss))) endpoints_same
          ∙ list_all-map (λ (e : Endpoint). are_places (places_of e.put ss)) of_endpoint rows.endpoints
          ∙ weaker_all (is_endpoint_row rows) (λ (e : EndpointRow). are_places (places_of e.put ss)) rows.endpoints
          places (values_of rows it.sound).endpoints
        where
          secrets_of_row : (e : EndpointRow) → is_endpoint_row rows e ≡ true → are_secrets (secrets_at rows e.put)
              && sound.are_places (secret_rows_at rows e.put) ≡ true
          secrets_of_row e h =
              and_second (is_max_limit e.max) _ (and_second (is_target e.url) _ (and_second (is_name e.name) _ h))

          strict : IsAscending AreBefore rows.secrets
          strict = subst (IsAscending AreBefore) it.keyed.by_endpoint
              (flat_ascend (λ (e : EndpointRow). e.put) rows.secrets 0 rows.endpoints it.keyed.puts_rise
              (each_passes (λ e. sound.are_places (secret_rows_at rows e.put)) rows.endpoints
              (weaker_all (is_endpoint_row rows) (λ e. sound.are_places (secret_rows_at rows e.put)) rows.endpoints
              (λ e h. and_second (are_secrets (secrets_at rows e.put)) _ (secrets_of_row e h))
              (values_of rows it.sound).endpoints))).0

          beside : AllZip IsSamePlace rows.secrets ss
          beside = places_in_order stored.secrets.items ss rows.secrets moved up strict
              (secrets_read (db.trees 3) rows.secrets stored.secrets.items five.secrets read.shown.secrets)

          places : (e : EndpointRow) → is_endpoint_row rows e ≡ true → are_places (places_of e.put ss) ≡ true
          places e h =
              sym (places_same e.put rows.secrets ss beside)
              ∙ both_true (is_between 1 MAX_SECRETS (length (secrets_at rows e.put)))
              (sound.are_places (secret_rows_at rows e.put))
              (and_first (is_between 1 MAX_SECRETS (length (secrets_at rows e.put))) _
              (and_first (are_secrets (secrets_at rows e.put)) _ (secrets_of_row e h)))
              (and_second (are_secrets (secrets_at rows e.put)) _ (secrets_of_row e h))

    pub judged : (ss : List Secret) (answer placed : Bool) → IsPermutation stored.secrets.items ss
        → IsSorted by_place ss → (¬ AreAscending (kept numbers) → answer ≡ false)
        → ((all : Rows) → AreNumbersOf numbers all → AreKeyed all → AreValues all → answer ≡ are_sound all)
        → placed ≡ list_all (λ (e : Endpoint). are_places (places_of e.put ss)) stored.endpoints.items → answer ≡
        true → MatchBool placed (HasSound (AreSoundAt v) db records) ((rows : Rows) → ¬ AreSoundAt v db rows)
    judged ss answer true moved up denied told says agreed = has_sound ss moved up (sym says) (λ all n k w. sym agreed
        ∙ told all n k w) (rising_where numbers answer denied agreed)
    judged ss answer false moved up denied told says agreed = λ rows it. absurd (let never : false ≡ true = says
        ∙ secrets_placed rows it ss moved up in cc)

    pub none_sound : (answer : Bool) → ((all : Rows) → AreNumbersOf numbers all → AreKeyed all → AreValues all
        → answer ≡ are_sound all) → answer ≡ false → (rows : Rows) → ¬ AreSoundAt v db rows
    none_sound answer told denied rows it = absurd (let never : false ≡ true = sym denied
        ∙ numbers_sound rows it answer told in cc)
