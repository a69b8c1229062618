-- What rows that show values are, in trees that obey the schema.
use Rattle.std.proofs.Common.{◌≡◌, ◌≢◌, ◌&&◌, ◌+◌, ◌<◌, ◌≤◌, ℕ, zero, suc, ℤ, pos, List, [], ◌∷◌, map, filter, drop}
use Rattle.std.proofs.Common.{length, slice_index_or, Bool, true, false, not, cond, Option, Some, None, IsTrue, int_lt}
use Rattle.std.proofs.Common.{int_cmp, is_eq, refl, sym, ap, ap₂, subst, ◌∙◌, arith}
use Rattle.std.specs.List.{AllByRecursion, AllZip, list_all}
use Rattle.std.specs.List.Sorted.{IsPermutation}
use Rattle.std.proofs.lemmas.Int.{ints}
use Rattle.std.proofs.lemmas.List.{length-map}
use Rattle.std.proofs.lemmas.List.Sorted.{IsPermutation-map, IsPermutation-sym, length_permutation}
use Rattle.sqlite.specs.Order.{Row}
use Rattle.sqlite.specs.declared.types.Value.{Value}
use Rattle.sqlite.specs.declared.types.Value.TheVariants.{Null, Int, Real, Text, Blob}
use Rattle.sqlite_value.specs.Order.{column, value_cmp}
use Rattle.sqlite_value.proofs.OrderLemmas.{value_cmp-Int}
use Rattle.sqlite_trees.specs.Tree.{Trees, IsAscending, rowid, has_rowid}
use Rattle.sqlite_trees.specs.View.{is_int}
use Rattle.sqlite_trees.proofs.ListLemmas.{all_weaker, all_from_map, all-permutation, filter-map, filter_none}
use Rattle.sqlite_trees.proofs.ListLemmas.{IsPermutation-filter, pull_back}
use Rattle.sqlite_sql.specs.Ops.{binary, is_null, is_false, from_truth}
use Rattle.sqlite_sql.specs.declared.ops.BinaryOp.TheVariants.{Compare}
use Rattle.sqlite_sql.specs.declared.ops.CompareOp.TheVariants.{Eq}
use Rattle.sqlite.specs.Collation.TheVariants.{Binary}
use Rattle.sqlite_schema.specs.declared.schema.Column.{Column}
use Rattle.sqlite_schema.specs.declared.schema.Table.{Table}
use Rattle.sqlite_schema.specs.declared.schema.Constraint.TheVariants.{Check}
use Rattle.sqlite_schema.specs.Names.{is_key}
use Rattle.sqlite_schema.specs.Rules.{are_typed, passes, suits}
use Rattle.relay_types.specs.Values.{is_name, is_target, is_max_limit, is_msg_id, is_body, is_moment, is_secret}
use Rattle.relay_types.specs.Rows.{EndpointRow, SecretRow, DeliveryRow, AttemptRow, TopicRow}
use Rattle.sound_rows.specs.RowNumbers.{of_endpoint, of_delivery, of_attempt}
use Rattle.sound_rows.specs.declared.numbers.Endpoint.{Endpoint}
use Rattle.sound_rows.specs.declared.numbers.Delivery.{Delivery}
use Rattle.sound_rows.specs.declared.numbers.Attempt.{Attempt}
use Rattle.spool_sql.specs.Tables.{first_schema, meta, endpoints, secrets, deliveries, attempts, topics}
use Rattle.spool_sql.specs.Stored.{HasRowids, meta_stored, endpoint_stored, secret_stored, delivery_stored}
use Rattle.spool_sql.specs.Stored.{attempt_stored, topic_stored}
use Rattle.sound_tables.specs.Reading.{Shows}
use Rattle.sound_tables.specs.Shown.{ShowsMeta, ShowsEndpoint, ShowsSecret, ShowsDelivery, ShowsAttempt, ShowsTopic}
use Rattle.sound_tables.specs.Tables.{HasShown, meta_columns, endpoint_columns, secret_columns, delivery_columns}
use Rattle.sound_tables.specs.Tables.{attempt_columns, topic_columns}
use Rattle.sound_tables.specs.declared.meta.Meta.{Meta}
use Rattle.sound_tables.specs.declared.secret.Secret.{Secret}
use Rattle.sound_tables.specs.declared.topic.Topic.{Topic}
use Rattle.sound_tables.proofs.FiveLemmas.{KeepsFive, KeepsTopics}

both : (a b : Bool) → a && b ≡ true → (a ≡ true) × (b ≡ true)
both true b e = (refl, e)
both false b e = absurd (let f = e in cc)

and_also : (a b : Bool) → IsTrue a → IsTrue b → IsTrue (a && b)
and_also true b p q = q
and_also false b p q = absurd (let f = p in cc)

-- ---- a row whose columns are as many as the table's

abbrev columns_from : Row → ℕ → ℕ → Row
columns_from r at zero = []
columns_from r at (suc n) = column r at ∷ columns_from r (suc at) n

shifted : (v : Value) (r : Row) (at n : ℕ) → columns_from (v ∷ r) (suc at) n ≡ columns_from r at n
shifted v r at zero = refl
shifted v r at (suc n) = ap (λ rest. column r at ∷ rest) (shifted v r (suc at) n)

whole_row : (r : Row) → columns_from r 0 (length r) ≡ r
whole_row [] = refl
whole_row (v ∷ r) = ap (λ rest. v ∷ rest) (shifted v r 0 (length r) ∙ whole_row r)

within : (key : Option ℕ) (at : ℕ) (cs : List Column) (vs : Row) → are_typed key at cs vs ≡ true → length vs ≤ length cs
within key at [] [] h = omega arith
within key at [] (v ∷ vs) h = absurd (let f = h in cc)
within key at (c ∷ cs) [] h = omega arith
within key at (c ∷ cs) (v ∷ vs) h =
    let rest = within key (at + 1) cs vs
    (both (cond (is_key key at) (is_null v) (suits c v)) (are_typed key (at + 1) cs vs) h).1 in omega (arith, rest)

reaches : (r : Row) (at : ℕ) → column r at ≢ Null → at < length r
reaches [] at some = absurd (some refl)
reaches (v ∷ r) zero some = omega arith
reaches (v ∷ r) (suc at) some = let rest = reaches r at some in omega (arith, rest)

-- a row with a value in its last column is that of all its columns
all_columns : (key : Option ℕ) (cs : List Column) (n : ℕ) (r : Row) → length cs ≡ n → are_typed key 0 cs (drop 1 r)
    ≡ true → column r n ≢ Null → r ≡ columns_from r 0 (suc n)
all_columns key cs n [] count typed some = absurd (some refl)
all_columns key cs n (v ∷ r) count typed some =
    let most = within key 0 cs r typed in
    let least = reaches (v ∷ r) n some in
    let exact : length (v ∷ r) ≡ suc n = omega (arith, most, least, count) in
    sym (subst (λ m. columns_from (v ∷ r) 0 m ≡ v ∷ r) exact (whole_row (v ∷ r)))

null_is : (v : Value) → is_null v ≡ true → v ≡ Null
null_is Null e = refl
null_is (Int n) e = absurd (let f = e in cc)
null_is (Real x) e = absurd (let f = e in cc)
null_is (Text t) e = absurd (let f = e in cc)
null_is (Blob b) e = absurd (let f = e in cc)

-- the column that the rowid stands for
key_column : (cs : List Column) (r : Row) → length cs ≢ 0 → are_typed (Some 0) 0 cs (drop 1 r) ≡ true → column r 1
    ≡ Null
key_column cs [] some typed = refl
key_column cs (a ∷ []) some typed = refl
key_column [] (a ∷ v ∷ r) some typed = absurd (some refl)
key_column (c ∷ cs) (a ∷ v ∷ r) some typed = null_is v (both (is_null v) (are_typed (Some 0) 1 cs r) typed).0

int_not_null : (v : Value) (n : ℤ) → v ≡ Int n → v ≢ Null
int_not_null v n is none = absurd (let f : Int n ≡ Null = sym is ∙ none in cc)

blob_not_null : (v : Value) (b : List ℕ) → v ≡ Blob b → v ≢ Null
blob_not_null v b is none = absurd (let f : Blob b ≡ Null = sym is ∙ none in cc)

-- ---- where each row that shows a value is a typed one, the rows of the tree are

module _ {X Y : Type 0} (is_shown : Shows X) (of seen : Row → Row) (stored : Y → Row) (R : Y → X → Type 0) (Good : Row
    → Type 0)
    (typed : (r : Row) (x : X) → Good r → is_shown (of r) x → (y : Y) × (seen r ≡ stored y) × R y x) where
  each_typed : (rows : List Row) (xs : List X) → AllByRecursion Good rows → AllZip is_shown (map of rows) xs
      → (ys : List Y) × (map seen rows ≡ map stored ys) × AllZip R ys xs
  each_typed [] [] good zip = ([], refl, tt)
  each_typed [] (x ∷ xs) good zip = absurd zip
  each_typed (r ∷ rows) [] good zip = absurd zip
  each_typed (r ∷ rows) (x ∷ xs) good zip =
      let one = typed r x good.0 zip.0 in
      let rest = each_typed rows xs good.1 zip.1 in
      (one.0 ∷ rest.0, ap₂ ◌∷◌ one.1 rest.1, (one.2, rest.2))

  all_typed : (tree : List Row) (xs : List X) → AllByRecursion Good tree → HasShown is_shown of tree xs → (ys : List Y)
      × IsPermutation (map seen tree) (map stored ys) × AllZip R ys xs
  all_typed tree xs good shown =
      let back = pull_back of (map of tree) shown.0 shown.1 tree refl in
      let these = each_typed back.0 xs (all-permutation Good tree back.0 back.1 good)
      (subst (λ rows. AllZip is_shown rows xs) back.2 shown.2) in
      (these.0, subst (IsPermutation (map seen tree)) these.1 (IsPermutation-map seen _ _ back.1), these.2)

each_itself : {X : Type 0} (xs : List X) → map (λ x. x) xs ≡ xs
each_itself [] = refl
each_itself (x ∷ xs) = ap (λ rest. x ∷ rest) (each_itself xs)

numbers_are : {X Y : Type 0} (number : Y → X) (ok : Y → Bool) (ys : List Y) (xs : List X)
    → AllZip (λ y x. (number y ≡ x) × IsTrue (ok y)) ys xs → (map number ys ≡ xs) × IsTrue (list_all ok ys)
numbers_are number ok [] [] zip = (refl, refl)
numbers_are number ok [] (x ∷ xs) zip = absurd zip
numbers_are number ok (y ∷ ys) [] zip = absurd zip
numbers_are number ok (y ∷ ys) (x ∷ xs) zip =
    let rest = numbers_are number ok ys xs zip.1 in
    (ap₂ ◌∷◌ zip.0.0 rest.0, and_also (ok y) (list_all ok ys) zip.0.1 rest.1)

-- the same of a tree whose whole rows are those that are typed
module _ {X Y : Type 0} (is_shown : Shows X) (of : Row → Row) (stored : Y → Row) (number : Y → X) (ok : Y → Bool)
    (Good : Row → Type 0)
    (typed : (r : Row) (x : X) → Good r → is_shown (of r) x → (y : Y) × (r ≡ stored y)
    × ((number y ≡ x) × IsTrue (ok y))) where
  whole_typed : (tree : List Row) (xs : List X) → AllByRecursion Good tree → HasShown is_shown of tree xs
      → (ys : List Y) × IsPermutation tree (map stored ys) × (map number ys ≡ xs) × IsTrue (list_all ok ys)
  whole_typed tree xs good shown =
      let these = all_typed is_shown of (λ r. r) stored (λ y x. (number y ≡ x)
      × IsTrue (ok y)) Good typed tree xs good shown in
      let are = numbers_are number ok these.0 xs these.2 in
      (these.0, subst (λ rows. IsPermutation rows (map stored these.0)) (each_itself tree) these.1, are.0, are.1)

-- ---- the rows of each table

-- the row of the secret at this place shows where it stands
abbrev pub StandsAt : SecretRow → Secret → Type 0
StandsAt row s = (row.endpoint ≡ s.endpoint) × (row.place ≡ s.place) × IsTrue (is_secret row.secret)

-- each rowid is below all later ones
abbrev pub AreRising : {X : Type 0} → (X → ℤ) → List X → Type 0
AreRising id_of = IsAscending (λ s t. int_lt (id_of s) (id_of t) ≡ true)

-- a row of topics with its rowid
abbrev pub Numbered : Type 0
Numbered = ℤ × TopicRow

abbrev pub numbered_stored : Numbered → Row
numbered_stored y = Int y.0 ∷ topic_stored y.1

abbrev pub topic_of : Numbered → Topic
topic_of y = record { rowid = y.0; endpoint = y.1.endpoint; set_by = y.1.set_by }

abbrev IsTypedFor : Table → Row → Type 0
IsTypedFor table r = are_typed table.key 0 table.columns (drop 1 r) && true ≡ true

abbrev is_endpoint_text : EndpointRow → Bool
is_endpoint_text e = is_name e.name && (is_target e.url && is_max_limit e.max)

abbrev is_delivery_text : DeliveryRow → Bool
is_delivery_text d = is_msg_id d.id && (is_body d.body && is_moment d.at)

abbrev typed_by : (table : Table) (r : Row) → IsTypedFor table r → are_typed table.key 0 table.columns (drop 1 r) ≡ true
typed_by table r good = (both (are_typed table.key 0 table.columns (drop 1 r)) true good).0

endpoint_typed : (r : Row) (e : Endpoint) → IsTypedFor endpoints r → ShowsEndpoint (endpoint_columns r) e
    → (y : EndpointRow) × (r ≡ endpoint_stored y) × ((of_endpoint y ≡ e) × IsTrue (is_endpoint_text y))
endpoint_typed r e good shown =
    let n = shown.numbers in
    let fits = typed_by endpoints r good in
    let all = all_columns (Some 0) endpoints.columns 7 r refl fits (int_not_null _ _ n.secrets_by) in
    let none = key_column endpoints.columns r (λ e. absurd (omega (arith, e))) fits in (
      record {
        put = e.put;
        name = n.name.0;
        url = shown.url.0;
        max = n.max.0;
        enabled = e.enabled;
        enabled_by =
            e.enabled_by;
        secrets_by = e.secrets_by;
      },
      all ∙ (λ i. n.put i ∷ none i ∷ n.name.1 i ∷ shown.url.1 i ∷ n.max.1 i ∷ n.enabled i ∷ n.enabled_by i
          ∷ n.secrets_by i ∷ []),
      (refl, and_also (is_name n.name.0) _ n.name.2 (and_also (is_target shown.url.0) _ shown.url.2 n.max.2)),
    )

secret_typed : (r : Row) (s : Secret) → IsTypedFor secrets r → ShowsSecret (secret_columns r) s → (y : SecretRow)
    × (drop 1 r ≡ secret_stored y) × StandsAt y s
secret_typed r s good shown =
    let fits = typed_by secrets r good in
    let all = all_columns None secrets.columns 3 r refl fits (blob_not_null _ _ shown.secret.1) in (
      record { endpoint = s.endpoint; place = s.place; secret = shown.secret.0 },
      ap (drop 1) all ∙ (λ i. shown.endpoint i ∷ shown.place i ∷ shown.secret.1 i ∷ []),
      (refl, refl, shown.secret.2),
    )

delivery_typed : (r : Row) (d : Delivery) → IsTypedFor deliveries r → ShowsDelivery (delivery_columns r) d
    → (y : DeliveryRow) × (r ≡ delivery_stored y) × ((of_delivery y ≡ d) × IsTrue (is_delivery_text y))
delivery_typed r d good shown =
    let fits = typed_by deliveries r good in
    let all = all_columns (Some 0) deliveries.columns 5 r refl fits (blob_not_null _ _ shown.body.1) in
    let none = key_column deliveries.columns r (λ e. absurd (omega (arith, e))) fits in (
      record { seq = d.seq; endpoint = d.endpoint; id = shown.id.0; at = shown.at.0; body = shown.body.0 },
      all ∙ (λ i. shown.seq i ∷ none i ∷ shown.endpoint i ∷ shown.id.1 i ∷ shown.at.1 i ∷ shown.body.1 i ∷ []),
      (refl, and_also (is_msg_id shown.id.0) _ shown.id.2 (and_also (is_body shown.body.0) _ shown.body.2 shown.at.2)),
    )

attempt_typed : (r : Row) (t : Attempt) → IsTypedFor attempts r → ShowsAttempt (attempt_columns r) t
    → (y : AttemptRow) × (r ≡ attempt_stored y) × ((of_attempt y ≡ t) × IsTrue (is_moment y.at))
attempt_typed r t good shown =
    let fits = typed_by attempts r good in
    let all = all_columns (Some 0) attempts.columns 5 r refl fits (int_not_null _ _ shown.at.1) in
    let none = key_column attempts.columns r (λ e. absurd (omega (arith, e))) fits in (
      record { seq = t.seq; delivery = t.delivery; number = t.number; status = t.status; at = shown.at.0 },
      all ∙ (λ i. shown.seq i ∷ none i ∷ shown.delivery i ∷ shown.number i ∷ shown.status i ∷ shown.at.1 i ∷ []),
      (refl, shown.at.2),
    )

topic_typed : (r : Row) (t : Topic) → IsTypedFor topics r → ShowsTopic (topic_columns r) t
    → (y : Numbered) × (r ≡ numbered_stored y) × ((topic_of y ≡ t) × IsTrue (is_name y.1.topic))
topic_typed r t good shown =
    let all = all_columns None topics.columns 4 r refl (typed_by topics r good) (int_not_null _ _ shown.set_by) in (
      (
        t.rowid,
        record { topic = shown.topic.0; endpoint = t.endpoint; subscribed = shown.subscribed.0; set_by = t.set_by },
      ),
      all ∙ (λ i. shown.rowid i ∷ shown.topic.1 i ∷ shown.endpoint i ∷ shown.subscribed.1 i ∷ shown.set_by i ∷ []),
      (refl, shown.topic.2),
    )

meta_typed : (r : Row) (m : Meta) (version n : ℕ) → IsTypedFor meta r → ShowsMeta (meta_columns r) m → m.key ≡ pos 1
    → m.version ≡ pos version → m.records ≡ pos n → r ≡ meta_stored version n
meta_typed r m version n good shown key of_version records =
    let fits = typed_by meta r good in
    let all = all_columns (Some 0) meta.columns 4 r refl fits (int_not_null _ _ shown.records) in
    let none = key_column meta.columns r (λ e. absurd (omega (arith, e))) fits in
    let keyed = shown.key ∙ ap (λ z. Int z) key in
    let versioned = shown.version ∙ ap (λ z. Int z) of_version in
    let counted = shown.records ∙ ap (λ z. Int z) records in
    all ∙ (λ i. keyed i ∷ none i ∷ shown.app i ∷ versioned i ∷ counted i ∷ [])

told : (b : Bool) → not (is_false (from_truth (Some b))) && true ≡ true → b ≡ true
told true e = refl
told false e = absurd (let f = e in cc)

same_int : (m n : ℤ) → is_eq (int_cmp m n) ≡ true → m ≡ n
same_int m n e = grind (arith, ints)

checked_one : (z : ℤ) → not (is_false (binary (Compare Eq Binary) (Int z) (Int (pos 1)))) && true ≡ true → z ≡ pos 1
unfolding binary
checked_one z e = same_int z (pos 1) (ap is_eq (sym (value_cmp-Int z (pos 1))) ∙ told _ e)

below : (a b c : ℤ) → int_lt a b ≡ true → int_lt b c ≡ true → int_lt a c ≡ true
below a b c p q = grind (arith, ints)

module _ {X : Type 0} (id_of : X → ℤ) where
  rising_from : (ss : List X)
      → ((i : ℕ) (d : X) → suc i < length ss
      → int_lt (id_of (slice_index_or ss i d)) (id_of (slice_index_or ss (suc i) d)) ≡ true) → AreRising id_of ss
  rising_from [] next = tt
  rising_from (s ∷ []) next = (tt, tt)
  rising_from (s ∷ t ∷ ss) next =
      let first = next 0 s (omega arith) in
      let rest = rising_from (t ∷ ss) (λ i d inside. next (suc i) d (omega (arith, inside))) in (
        (
          first,
          all_weaker (λ u. int_lt (id_of t) (id_of u) ≡ true) (λ u. int_lt (id_of s) (id_of u) ≡ true)
              (λ u above. below (id_of s) (id_of t) (id_of u) first above) ss rest.0,
        ),
        rest,
      )

  -- each rowid is below the next
  pub rising_by_next : (ss : List X)
      → ((i : ℕ) (d : X) → i + 1 < length ss
      → int_lt (id_of (slice_index_or ss i d)) (id_of (slice_index_or ss (i + 1) d)) ≡ true) → AreRising id_of ss
  rising_by_next ss next = rising_from ss (λ i d inside. let more : i + 1 ≡ suc i = omega arith in
      subst (λ k. int_lt (id_of (slice_index_or ss i d)) (id_of (slice_index_or ss k d)) ≡ true) more
      (next i d (omega (arith, inside))))

module _ (db : Trees) (keeps : KeepsFive db) where
  -- the key is 1
  pub meta_key : (row : Row) (m : Meta) → db 0 ≡ row ∷ [] → ShowsMeta (meta_columns row) m → m.key ≡ pos 1
  meta_key row m one shown =
      let checked = (subst (AllByRecursion (λ r. passes Check first_schema db (record meta { tree = 0 }) r ≡ true)) one
      keeps.checks.0).0 in
      checked_one m.key (subst (λ v. not (is_false (binary (Compare Eq Binary) v (Int (pos 1))))
      && true ≡ true) shown.key checked)

  pub meta_is : (row : Row) (m : Meta) (version n : ℕ) → db 0 ≡ row ∷ [] → ShowsMeta (meta_columns row) m
      → m.key ≡ pos 1 → m.version ≡ pos version → m.records ≡ pos n → db 0 ≡ meta_stored version n ∷ []
  meta_is row m version n one shown key of_version records =
      let good = (subst (AllByRecursion (IsTypedFor meta)) one keeps.types.0).0 in
      one ∙ ap (λ r. r ∷ []) (meta_typed row m version n good shown key of_version records)

  pub endpoints_of : (es : List Endpoint) → HasShown ShowsEndpoint endpoint_columns (db 1) es
      → (rows : List EndpointRow) × IsPermutation (db 1) (map endpoint_stored rows) × (map of_endpoint rows ≡ es)
      × IsTrue (list_all (λ (e : EndpointRow). is_name e.name && (is_target e.url && is_max_limit e.max)) rows)
  endpoints_of es shown =
      whole_typed ShowsEndpoint endpoint_columns endpoint_stored of_endpoint is_endpoint_text (IsTypedFor endpoints)
      endpoint_typed (db 1) es keeps.types.1.0 shown

  pub secrets_of : (ss : List Secret) → HasShown ShowsSecret secret_columns (db 3) ss
      → (rows : List SecretRow) × IsPermutation (map (drop 1) (db 3)) (map secret_stored rows) × AllZip StandsAt rows ss
  secrets_of ss shown =
      all_typed ShowsSecret secret_columns (drop 1) secret_stored StandsAt (IsTypedFor secrets) secret_typed (db 3) ss
      keeps.types.1.1.0 shown

  pub deliveries_of : (ds : List Delivery) → HasShown ShowsDelivery delivery_columns (db 5) ds
      → (rows : List DeliveryRow) × IsPermutation (db 5) (map delivery_stored rows) × (map of_delivery rows ≡ ds)
      × IsTrue (list_all (λ (d : DeliveryRow). is_msg_id d.id && (is_body d.body && is_moment d.at)) rows)
  deliveries_of ds shown =
      whole_typed ShowsDelivery delivery_columns delivery_stored of_delivery is_delivery_text (IsTypedFor deliveries)
      delivery_typed (db 5) ds keeps.types.1.1.1.0 shown

  pub attempts_of : (ts : List Attempt) → HasShown ShowsAttempt attempt_columns (db 7) ts
      → (rows : List AttemptRow) × IsPermutation (db 7) (map attempt_stored rows) × (map of_attempt rows ≡ ts)
      × IsTrue (list_all (λ (t : AttemptRow). is_moment t.at) rows)
  attempts_of ts shown =
      whole_typed ShowsAttempt attempt_columns attempt_stored of_attempt (λ (t : AttemptRow). is_moment t.at)
      (IsTypedFor attempts) attempt_typed (db 7) ts keeps.types.1.1.1.1.0 shown

pub topics_of : (db : Trees) → KeepsTopics db → (ts : List Topic) → HasShown ShowsTopic topic_columns (db 9) ts
    → (ys : List Numbered) × IsPermutation (db 9) (map numbered_stored ys) × (map topic_of ys ≡ ts)
    × IsTrue (list_all (λ (y : Numbered). is_name y.1.topic) ys)
topics_of db keeps ts shown =
    whole_typed ShowsTopic topic_columns numbered_stored topic_of (λ (y : Numbered). is_name y.1.topic)
    (IsTypedFor topics) topic_typed (db 9) ts keeps.types shown

-- ---- the rowids of a tree

past : (a b id : ℤ) → is_eq (int_cmp a id) ≡ true → int_lt a b ≡ true → is_eq (int_cmp b id) ≡ false
past a b id same above = grind (arith, ints)

-- what is read of rows, their rowids first
module _ {X : Type 0} (is_shown : Shows X) (id_of : X → ℤ) (behind : Row → Row)
    (told : (r : Row) (x : X) → is_shown r x → rowid r ≡ Int (id_of x)) where
  abbrev columns_of : Row → Row
  columns_of r = rowid r ∷ behind r

  has_int : (rows : List Row) (xs : List X) → AllZip is_shown rows xs
      → AllByRecursion (λ r. IsTrue (is_int (rowid r))) rows
  has_int [] xs zip = tt
  has_int (r ∷ rows) [] zip = absurd zip
  has_int (r ∷ rows) (x ∷ xs) zip = (ap is_int (told r x zip.0), has_int rows xs zip.1)

  pub has_id : (id : ℤ) (r : Row) (x : X) → is_shown r x → has_rowid id r ≡ is_eq (int_cmp (id_of x) id)
  has_id id r x shown = ap (λ v. is_eq (value_cmp v (Int id))) (told r x shown) ∙ ap is_eq (value_cmp-Int (id_of x) id)

  none_above : (id : ℤ) (x : X) → is_eq (int_cmp (id_of x) id) ≡ true → (rows : List Row) (xs : List X)
      → AllZip is_shown rows xs → AllByRecursion (λ y. int_lt (id_of x) (id_of y) ≡ true) xs
      → AllByRecursion (λ r. has_rowid id r ≡ false) rows
  none_above id x same [] xs zip above = tt
  none_above id x same (r ∷ rows) [] zip above = absurd zip
  none_above id x same (r ∷ rows) (y ∷ ys) zip above =
      (has_id id r y zip.0 ∙ past (id_of x) (id_of y) id same above.0, none_above id x same rows ys zip.1 above.1)

  once_in : (id : ℤ) (rows : List Row) (xs : List X) → AllZip is_shown rows xs → AreRising id_of xs
      → length (filter (has_rowid id) rows) ≤ 1
  once_in id [] xs zip rising = omega arith
  once_in id (r ∷ rows) [] zip rising = absurd zip
  once_in id (r ∷ rows) (x ∷ xs) zip rising = at (has_rowid id r) refl (once_in id rows xs zip.1 rising.1)
    where
      at : (b : Bool) → has_rowid id r ≡ b → length (filter (has_rowid id) rows) ≤ 1
          → length (cond b (r ∷ filter (has_rowid id) rows) (filter (has_rowid id) rows)) ≤ 1
      at true is rest =
          let none = filter_none (has_rowid id) rows
          (none_above id x (sym (has_id id r x zip.0) ∙ is) rows xs zip.1 rising.0) in
          let empty = ap length none in omega (arith, empty)
      at false is rest = rest

  pub rowids_of : (tree : List Row) (xs : List X) → HasShown is_shown columns_of tree xs → AreRising id_of xs
      → HasRowids tree
  rowids_of tree xs shown rising = record {
    numbered =
        all_from_map (λ r. IsTrue (is_int (rowid r))) columns_of tree
        (all-permutation (λ r. IsTrue (is_int (rowid r))) shown.0 (map columns_of tree)
        (IsPermutation-sym _ _ shown.1) (has_int shown.0 xs shown.2));
    once = λ id.
        let same = length_permutation _ _
        (IsPermutation-filter (has_rowid id) (map columns_of tree) shown.0 shown.1) in
        let kept = ap length (filter-map (has_rowid id) columns_of tree) in
        let many = length-map (filter (has_rowid id) tree) columns_of in
        let most = once_in id shown.0 xs shown.2 rising in omega (arith, same, kept, many, most);
  }

-- of the two tables whose rowids nobody sees
pub secret_rowids : (tree : List Row) (ss : List Secret) → HasShown ShowsSecret secret_columns tree ss
    → AreRising (λ (s : Secret). s.rowid) ss → HasRowids tree
secret_rowids =
    rowids_of ShowsSecret (λ (s : Secret). s.rowid) (λ r. column r 1 ∷ column r 2 ∷ column r 3 ∷ [])
    (λ r s shown. shown.rowid)

pub topic_rowids : (tree : List Row) (ts : List Topic) → HasShown ShowsTopic topic_columns tree ts
    → AreRising (λ (t : Topic). t.rowid) ts → HasRowids tree
topic_rowids =
    rowids_of ShowsTopic (λ (t : Topic). t.rowid) (λ r. column r 1 ∷ column r 2 ∷ column r 3 ∷ column r 4 ∷ [])
    (λ r t shown. shown.rowid)
