-- What is read of tables that have these rows.
use Rattle.std.proofs.Common.{◌≡◌, ◌≢◌, ℕ, ◌==◌, Bool, true, false, not, List, [], ◌∷◌, map, drop, IsTrue, refl, sym}
use Rattle.std.proofs.Common.{ap, ap₂, subst, ◌∙◌, IsPermutation}
use Rattle.std.specs.List.{AllByRecursion, AllZip}
use Rattle.std.proofs.lemmas.List.Sorted.{IsPermutation-map, IsPermutation-sym, IsPermutation-trans}
use Rattle.sqlite.specs.Order.{Row}
use Rattle.sqlite.specs.declared.types.Value.{Value}
use Rattle.sqlite.specs.declared.types.Value.TheVariants.{Null, Int, Real, Text, Blob}
use Rattle.sqlite_value.specs.Order.{column}
use Rattle.sqlite_trees.specs.Tree.{rowid}
use Rattle.sqlite_trees.specs.View.{is_int}
use Rattle.sqlite_trees.specs.Objects.{number_in}
use Rattle.sqlite_trees.proofs.ListLemmas.{map-map, all_weaker, all_both, all-map, all_from_map, all-permutation}
use Rattle.sqlite_trees.proofs.ListLemmas.{IsPermutation-same}
use Rattle.relay_types.specs.Values.{is_name, is_secret}
use Rattle.relay_types.specs.Rows.{EndpointRow, SecretRow, DeliveryRow, AttemptRow, TopicRow}
use Rattle.sound_rows.specs.RowNumbers.{of_endpoint, of_delivery, of_attempt, of_topic}
use Rattle.sound_rows.specs.declared.numbers.Endpoint.{Endpoint}
use Rattle.sound_rows.specs.declared.numbers.Delivery.{Delivery}
use Rattle.sound_rows.specs.declared.numbers.Attempt.{Attempt}
use Rattle.sound_rows.specs.declared.numbers.Topic.{Topic as Decided}
use Rattle.spool_sql.specs.Stored.{HasRowids, flag_number, endpoint_stored, secret_stored, delivery_stored}
use Rattle.spool_sql.specs.Stored.{attempt_stored, topic_stored}
use Rattle.sound_tables.specs.Checks.{numbers_of}
use Rattle.sound_tables.specs.Reading.{Shows}
use Rattle.sound_tables.specs.Shown.{ShowsEndpoint, ShowsSecret, ShowsDelivery, ShowsAttempt, ShowsTopic}
use Rattle.sound_tables.specs.Tables.{HasShown, endpoint_columns, secret_columns, delivery_columns, attempt_columns}
use Rattle.sound_tables.specs.Tables.{topic_columns}
use Rattle.sound_tables.specs.declared.secret.Secret.{Secret}
use Rattle.sound_tables.specs.declared.topic.Topic.{Topic}
use Rattle.sound_tables.proofs.PlaceLemmas.{pair, row_pair}

-- what is told by a row's columns is read of the stored rows in some order
module _ {X K : Type 0} (shows : Shows X) (of : Row → Row) (view : X → K) (decode : Row → K) (told : (r : Row) (x : X)
    → shows r x → decode r ≡ view x) where
  decoded : (rows : List Row) (xs : List X) → AllZip shows rows xs → map decode rows ≡ map view xs
  decoded [] [] zip = refl
  decoded [] (x ∷ xs) zip = absurd zip
  decoded (r ∷ rows) [] zip = absurd zip
  decoded (r ∷ rows) (x ∷ xs) zip = ap₂ ◌∷◌ (told r x zip.0) (decoded rows xs zip.1)

  pointwise : {A B : Type 0} (f g : A → B) → ((a : A) → f a ≡ g a) → (list : List A) → map f list ≡ map g list
  pointwise f g same [] = refl
  pointwise f g same (a ∷ list) = ap₂ ◌∷◌ (same a) (pointwise f g same list)

  -- `cut` is what the stored rows say of a row of the tree
  pub read_of_stored : {R : Type 0} (cut : Row → Row) (stored : R → Row) (kept : R → K) (behind : Row → K)
      → ((r : Row) → decode (of r) ≡ behind (cut r)) → ((e : R) → behind (stored e) ≡ kept e)
      → (tree : List Row) (es : List R) (xs : List X) → IsPermutation (map cut tree) (map stored es)
      → HasShown shows of tree xs → IsPermutation (map kept es) (map view xs)
  read_of_stored cut stored kept behind cuts keeps tree es xs same shown =
      let seen = IsPermutation-map decode _ _ shown.1 in
      let was = IsPermutation-map behind _ _ same in
      let one : map decode (map of tree) ≡ map behind (map cut tree) = map-map decode of tree ∙ pointwise _ _ cuts tree
      ∙ sym (map-map behind cut tree) in
      let two : map behind (map stored es) ≡ map kept es = map-map behind stored es ∙ pointwise _ _ keeps es in
      IsPermutation-trans _ _ _ (IsPermutation-same _ _ (sym two))
      (IsPermutation-trans _ _ _ (IsPermutation-sym _ _ was)
      (IsPermutation-trans _ _ _ (IsPermutation-same _ _ (sym one))
      (IsPermutation-trans _ _ _ seen (IsPermutation-same _ _ (decoded shown.0 xs shown.2)))))

same_list : {X : Type 0} (xs : List X) → map (λ x. x) xs ≡ xs
same_list [] = refl
same_list (x ∷ xs) = ap (λ rest. x ∷ rest) (same_list xs)

-- ---- the values of a row, by its columns

abbrev flag : Value → Bool
flag v = not (number_in v == 0)

flag_back : (b : Bool) → not (flag_number b == 0) ≡ b
flag_back true = refl
flag_back false = refl

abbrev endpoint_in : Row → Endpoint
endpoint_in r = record {
  put = number_in (column r 0);
  enabled = flag (column r 4);
  enabled_by = number_in (column r 5);
  secrets_by = number_in (column r 6);
}

abbrev delivery_in : Row → Delivery
delivery_in r = record { seq = number_in (column r 0); endpoint = number_in (column r 1) }

abbrev attempt_in : Row → Attempt
attempt_in r = record {
  seq = number_in (column r 0);
  delivery = number_in (column r 1);
  number =
      number_in (column r 2);
  status = number_in (column r 3);
}

endpoint_told : (r : Row) (e : Endpoint) → ShowsEndpoint r e → endpoint_in r ≡ e
endpoint_told r e shown = λ i. record {
  put = ap number_in shown.numbers.put i;
  enabled = (ap flag shown.numbers.enabled ∙ flag_back e.enabled) i;
  enabled_by = ap number_in shown.numbers.enabled_by i;
  secrets_by = ap number_in shown.numbers.secrets_by i;
}

pub endpoints_read : (tree : List Row) (es : List EndpointRow) (xs : List Endpoint)
    → IsPermutation tree (map endpoint_stored es) → HasShown ShowsEndpoint endpoint_columns tree xs
    → IsPermutation (map of_endpoint es) xs
endpoints_read tree es xs same shown =
    subst (IsPermutation (map of_endpoint es)) (same_list xs)
    (read_of_stored ShowsEndpoint endpoint_columns (λ x. x) endpoint_in endpoint_told
    (λ r. r) endpoint_stored of_endpoint (λ r. endpoint_in (endpoint_columns r)) (λ r. refl)
    (λ e i. record {
      put = e.put;
      enabled = flag_back e.enabled i;
      enabled_by = e.enabled_by;
      secrets_by =
          e.secrets_by;
    }) tree es xs (subst (λ l. IsPermutation l (map endpoint_stored es)) (sym (same_list tree)) same)
    shown)

pub deliveries_read : (tree : List Row) (ds : List DeliveryRow) (xs : List Delivery)
    → IsPermutation tree (map delivery_stored ds) → HasShown ShowsDelivery delivery_columns tree xs
    → IsPermutation (map of_delivery ds) xs
deliveries_read tree ds xs same shown =
    subst (IsPermutation (map of_delivery ds)) (same_list xs)
    (read_of_stored ShowsDelivery delivery_columns (λ x. x) delivery_in told (λ r. r) delivery_stored of_delivery
    (λ r. delivery_in (delivery_columns r)) (λ r. refl)
    (λ d. refl) tree ds xs (subst (λ l. IsPermutation l (map delivery_stored ds)) (sym (same_list tree)) same) shown)
  where
    told : (r : Row) (d : Delivery) → ShowsDelivery r d → delivery_in r ≡ d
    told r d shows = λ i. record { seq = ap number_in shows.seq i; endpoint = ap number_in shows.endpoint i }

pub attempts_read : (tree : List Row) (ts : List AttemptRow) (xs : List Attempt)
    → IsPermutation tree (map attempt_stored ts) → HasShown ShowsAttempt attempt_columns tree xs
    → IsPermutation (map of_attempt ts) xs
attempts_read tree ts xs same shown =
    subst (IsPermutation (map of_attempt ts)) (same_list xs)
    (read_of_stored ShowsAttempt attempt_columns (λ x. x) attempt_in told (λ r. r) attempt_stored of_attempt
    (λ r. attempt_in (attempt_columns r)) (λ r. refl)
    (λ t. refl) tree ts xs (subst (λ l. IsPermutation l (map attempt_stored ts)) (sym (same_list tree)) same) shown)
  where
    told : (r : Row) (t : Attempt) → ShowsAttempt r t → attempt_in r ≡ t
    told r t shows = λ i. record {
      seq = ap number_in shows.seq i;
      delivery = ap number_in shows.delivery i;
      number =
          ap number_in shows.number i;
      status = ap number_in shows.status i;
    }

-- the endpoint and the place, in all columns and in those behind the rowid
abbrev place_in : Row → ℕ × ℕ
place_in r = (number_in (column r 1), number_in (column r 2))

abbrev place_behind : Row → ℕ × ℕ
place_behind r = (number_in (column r 0), number_in (column r 1))

behind_rowid : (r : Row) → place_in r ≡ place_behind (drop 1 r)
behind_rowid [] = refl
behind_rowid (v ∷ r) = refl

place_told : (r : Row) (s : Secret) → ShowsSecret r s → place_in r ≡ pair s
place_told r s shows = λ i. (ap number_in shows.endpoint i, ap number_in shows.place i)

pub secrets_read : (tree : List Row) (rs : List SecretRow) (ss : List Secret)
    → IsPermutation (map (drop 1) tree) (map secret_stored rs) → HasShown ShowsSecret secret_columns tree ss
    → IsPermutation (map row_pair rs) (map pair ss)
secrets_read tree rs ss same shown = read_of_stored ShowsSecret secret_columns pair place_in place_told
    (drop 1) secret_stored row_pair place_behind behind_rowid (λ r. refl) tree rs ss same shown

-- what is kept of a topic, in all columns and in those behind the rowid
abbrev topic_in : Row → Decided
topic_in r = record { endpoint = number_in (column r 2); set_by = number_in (column r 4) }

abbrev topic_behind : Row → Decided
topic_behind r = record { endpoint = number_in (column r 1); set_by = number_in (column r 3) }

topic_behind_rowid : (r : Row) → topic_in r ≡ topic_behind (drop 1 r)
topic_behind_rowid [] = refl
topic_behind_rowid (v ∷ r) = refl

topic_told : (r : Row) (t : Topic) → ShowsTopic r t → topic_in r ≡ numbers_of t
topic_told r t shows = λ i. record {
  endpoint = ap number_in shows.endpoint i;
  set_by = ap number_in shows.set_by i;
}

pub topics_read : (tree : List Row) (rs : List TopicRow) (ts : List Topic)
    → IsPermutation (map (drop 1) tree) (map topic_stored rs) → HasShown ShowsTopic topic_columns tree ts
    → IsPermutation (map of_topic rs) (map numbers_of ts)
topics_read tree rs ts same shown =
    read_of_stored ShowsTopic topic_columns numbers_of topic_in topic_told (drop 1) topic_stored of_topic topic_behind
    topic_behind_rowid (λ r. refl) tree rs ts same shown

-- ---- rows that keep their rules all show values

module _ {X : Type 0} (shows : Shows X) (of : Row → Row) {R : Type 0} (stored : R → Row) (tree : List Row) (es : List R)
    (same : IsPermutation tree (map stored es)) where
  pub all_show : AllByRecursion (λ e. (x : X) × shows (of (stored e)) x) es
      → AllByRecursion (λ r. (x : X) × shows (of r) x) tree
  all_show each = all-permutation (λ r. (x : X) × shows (of r) x) _ _ (IsPermutation-sym _ _ same)
      (all-map (λ r. (x : X) × shows (of r) x) stored es each)

int_of : (v : Value) → IsTrue (is_int v) → (n : _) × (v ≡ Int n)
int_of (Int n) h = (n, refl)
int_of Null h = absurd (cc h)
int_of (Real x) h = absurd (cc h)
int_of (Text t) h = absurd (cc h)
int_of (Blob b) h = absurd (cc h)

-- rows that nobody sees the rowids of, whose other columns are those of such a row
module _ {X R : Type 0} (shows : Shows X) (of : Row → Row) (stored : R → Row) (Rules : R → Type 0)
    (each : (v : Value) (r : Row) (id : _) → v ≡ Int id → (e : R) → r ≡ stored e → Rules e
    → (x : X) × shows (of (v ∷ r)) x)
    (some : (e : R) → stored e ≢ []) where
  pub behind_show : (tree : List Row) (rs : List R) → IsPermutation (map (drop 1) tree) (map stored rs)
      → HasRowids tree → AllByRecursion Rules rs → AllByRecursion (λ r. (x : X) × shows (of r) x) tree
  behind_show tree rs same ids rules =
      all_both IsNumbered IsBehind (λ r. (x : X) × shows (of r) x) shown tree ids.numbered
      (all_from_map Behind (drop 1) tree
      (all-permutation Behind _ _ (IsPermutation-sym _ _ same)
      (all-map Behind stored rs (all_weaker Rules (λ r. Behind (stored r)) (λ r holds. (r, refl, holds)) rs rules))))
    where
      IsNumbered : Row → Type 0
      IsNumbered r = IsTrue (is_int (rowid r))

      Behind : Row → Type 0
      Behind r = (e : R) × (r ≡ stored e) × Rules e

      IsBehind : Row → Type 0
      IsBehind r = Behind (drop 1 r)

      shown : (r : Row) → IsNumbered r → IsBehind r → (x : X) × shows (of r) x
      shown [] id h = absurd (some h.0 (sym h.1))
      shown (v ∷ r) id h = let n = int_of v id in each v r n.0 n.1 h.0 h.1 h.2

pub secrets_show : (tree : List Row) (rs : List SecretRow) → IsPermutation (map (drop 1) tree) (map secret_stored rs)
    → HasRowids tree → AllByRecursion (λ (r : SecretRow). IsTrue (is_secret r.secret)) rs
    → AllByRecursion (λ r. (s : Secret) × ShowsSecret (secret_columns r) s) tree
secrets_show =
    behind_show ShowsSecret secret_columns secret_stored (λ (r : SecretRow). IsTrue (is_secret r.secret))
    (λ v r id numbered e is rules. (
      record { rowid = id; endpoint = e.endpoint; place = e.place },
      record {
        rowid = numbered;
        endpoint = ap (λ t. column t 0) is;
        place = ap (λ t. column t 1) is;
        secret = (e.secret, ap (λ t. column t 2) is, rules);
      },
    ))
    (λ e none. cc)

pub topics_show : (tree : List Row) (rs : List TopicRow) → IsPermutation (map (drop 1) tree) (map topic_stored rs)
    → HasRowids tree → AllByRecursion (λ (r : TopicRow). IsTrue (is_name r.topic)) rs
    → AllByRecursion (λ r. (t : Topic) × ShowsTopic (topic_columns r) t) tree
topics_show =
    behind_show ShowsTopic topic_columns topic_stored (λ (r : TopicRow). IsTrue (is_name r.topic))
    (λ v r id numbered e is rules. (
      record { rowid = id; endpoint = e.endpoint; set_by = e.set_by },
      record {
        rowid = numbered;
        topic = (e.topic, ap (λ t. column t 0) is, rules);
        endpoint = ap (λ t. column t 1) is;
        subscribed = (e.subscribed, ap (λ t. column t 2) is);
        set_by = ap (λ t. column t 3) is;
      },
    ))
    (λ e none. cc)
