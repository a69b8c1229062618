-- What the keys of the schema say of the rows that the tables have.
use Rattle.std.proofs.Common.{◌≡◌, ◌==◌, ◌&&◌, ◌||◌, ℕ, pos, List, [], ◌∷◌, map, drop, flat_map, bytes_eq, Bool, true}
use Rattle.std.proofs.Common.{false, not, Some, IsTrue, is_eq, refl, sym, ap, ap₂, ◌∙◌, arith, ℤ, int_cmp, Ordering}
use Rattle.std.proofs.Common.{Less, Equal, Greater}
use Rattle.std.specs.List.{AllByRecursion, list_any, list_all}
use Rattle.std.specs.List.Sorted.{IsPermutation}
use Rattle.std.specs.Ordering.{is_ne}
use Rattle.std.proofs.lemmas.Bool.Decides.{nat_tests}
use Rattle.std.proofs.lemmas.List.Sorted.{list_any-IsPermutation}
use Rattle.std.proofs.lemmas.Map.Text.{is_eq-slice_cmp}
use Rattle.sqlite.specs.Order.{Row}
use Rattle.sqlite.specs.Collation.TheVariants.{Binary}
use Rattle.sqlite.specs.declared.types.Value.{Value}
use Rattle.sqlite.specs.declared.types.Value.TheVariants.{Int, Text as Words}
use Rattle.sqlite_value.specs.Keys.{first_key, plain}
use Rattle.sqlite_value.specs.Order.{column}
use Rattle.sqlite_value.proofs.OrderLemmas.{value_cmp-Int, value_cmp-Text}
use Rattle.sqlite_trees.specs.Tree.{Trees, rowid}
use Rattle.sqlite_trees.proofs.ListLemmas.{all_weaker, all_from_map, all-permutation}
use Rattle.sqlite_sql.specs.Ops.{binary, from_truth, is_null, is_true}
use Rattle.sqlite_schema.specs.Rules.{agree, clashes, differ, equal}
use Rattle.sqlite_rules.specs.Lists.{Has}
use Rattle.sqlite_rules.proofs.ListLemmas.{all_has}
use Rattle.relay_types.specs.Rows.{Rows, EndpointRow, SecretRow, DeliveryRow, AttemptRow, TopicRow, is_pair_row}
use Rattle.relay_types.specs.Sound.{AreKeyed, IsRisingFrom, is_put_at, is_delivery_at, secret_rows_at}
use Rattle.sqlite.specs.Schema.{Schema}
use Rattle.spool_sql.specs.Tables.{IsOwn}
use Rattle.spool_sql.specs.Stored.{AreTables, endpoint_stored, secret_stored, delivery_stored, attempt_stored}
use Rattle.spool_sql.proofs.SelectLemmas.{equal_numbers, and_true}
use Rattle.sound_tables.proofs.FiveLemmas.{KeepsFive, KeepsTopics, keeps_five}
use Rattle.sound_tables.proofs.StoredLemmas.{Numbered, numbered_stored}

-- ---- values that are compared

told : (b : Bool) → is_true (from_truth (Some b)) ≡ b
told true = refl
told false = refl

equal_words : (s t : List ℕ) → equal Binary (Words s) (Words t) ≡ bytes_eq s t
unfolding binary
equal_words s t = told _ ∙ ap is_eq (value_cmp-Text s t) ∙ is_eq-slice_cmp s t

differ_numbers : (m n : ℕ) → differ (Int (pos m)) (Int (pos n)) ≡ not (m == n)
unfolding binary
differ_numbers m n = told _ ∙ ap is_ne (value_cmp-Int (pos m) (pos n)) ∙ grind (arith, nat_tests)

-- two rows of topics tell of the same topic and endpoint
abbrev pub meets : TopicRow → TopicRow → Bool
meets s t = is_pair_row t.topic t.endpoint s && not (s.set_by == t.set_by)

-- ---- tests of all rows

pub all_pass : {Y : Type 0} (p : Y → Bool) (ys : List Y) → AllByRecursion (λ y. p y ≡ true) ys → list_all p ys ≡ true
all_pass p [] h = refl
all_pass p (y ∷ ys) h = ap₂ (λ a b. a && b) h.0 (all_pass p ys h.1)

any_stored : {Y : Type 0} (stored : Y → Row) (test : Row → Bool) (q : Y → Bool) → ((y : Y) → test (stored y) ≡ q y)
    → (ys : List Y) → list_any test (map stored ys) ≡ list_any q ys
any_stored stored test q same [] = refl
any_stored stored test q same (y ∷ ys) = ap₂ (λ a b. a || b) (same y) (any_stored stored test q same ys)

module _ {Y : Type 0} (stored : Y → Row) (tree : List Row) (ys : List Y) (are : IsPermutation tree (map stored ys))
  where
    any_typed : (test : Row → Bool) (q : Y → Bool) → ((y : Y) → test (stored y) ≡ q y) → list_any test tree
        ≡ list_any q ys
    any_typed test q same = list_any-IsPermutation test tree (map stored ys) are ∙ any_stored stored test q same ys

    each_stored : (P : Row → Type 0) → AllByRecursion P tree → AllByRecursion (λ y. P (stored y)) ys
    each_stored P all = all_from_map P stored ys (all-permutation P tree (map stored ys) are all)

    -- no other row has the same key
    all_apart : (places : List ℕ) (clash : Y → Y → Bool)
        → ((f e : Y) → (agree plain places (stored f) places (stored e) && differ (rowid (stored f)) (rowid (stored e)))
        ≡ clash f e)
        → AllByRecursion (λ row. not (clashes plain places tree row) && true ≡ true) tree
        → IsTrue (list_all (λ e. not (list_any (λ f. clash f e) ys)) ys)
    all_apart places clash same all =
        all_pass (λ e. not (list_any (λ f. clash f e) ys)) ys
        (all_weaker (λ e. not (clashes plain places tree (stored e)) && true ≡ true)
        (λ e. not (list_any (λ f. clash f e) ys) ≡ true)
        (λ e apart. ap
        not (sym (any_typed (λ other. agree plain places other places (stored e)
        && differ (rowid other) (rowid (stored e))) (λ f. clash f e) (λ f. same f e))) ∙ sym (and_true _) ∙ apart)
        ys (each_stored (λ row. not (clashes plain places tree row) && true ≡ true) all))

    -- the number is that of a row
    abbrev is_held_at : Value → Bool
    is_held_at v = (is_null v || false) || list_any (λ parent. equal Binary (column parent 0) v && true) tree

    found_at : (number : Y → ℕ) → ((y : Y) → column (stored y) 0 ≡ Int (pos (number y))) → (n : ℕ)
        → is_held_at (Int (pos n)) && true ≡ true → list_any (λ y. number y == n) ys ≡ true
    found_at number is n held =
        sym (any_typed (λ parent. equal Binary (column parent 0) (Int (pos n)) && true) (λ y. number y == n)
        (λ y. and_true _ ∙ ap (λ v. equal Binary v (Int (pos n))) (is y) ∙ equal_numbers (number y) n))
        ∙ sym (and_true _)
        ∙ held

two_equal : {a b c x y z : Bool} → a ≡ x → b ≡ y → c ≡ z → ((a && (b && true)) && c) ≡ (x && (y && z))
two_equal {a} {b} {c} p q r = regrouped a b c ∙ ap₂ (λ u v. u && v) p (ap₂ (λ u v. u && v) q r)
  where
    regrouped : (a b c : Bool) → ((a && (b && true)) && c) ≡ (a && (b && c))
    regrouped false b c = refl
    regrouped true false c = refl
    regrouped true true c = refl

name_clash : (f e : EndpointRow) → (agree plain (2 ∷ []) (endpoint_stored f) (2 ∷ []) (endpoint_stored e)
    && differ (rowid (endpoint_stored f)) (rowid (endpoint_stored e)))
    ≡ (bytes_eq f.name e.name && not (f.put == e.put))
unfolding first_key
name_clash f e = ap₂ (λ a b. a && b) (and_true _ ∙ equal_words f.name e.name) (differ_numbers f.put e.put)

id_clash : (g d : DeliveryRow) → (agree plain (2 ∷ 3 ∷ []) (delivery_stored g) (2 ∷ 3 ∷ []) (delivery_stored d)
    && differ (rowid (delivery_stored g)) (rowid (delivery_stored d)))
    ≡ (g.endpoint == d.endpoint && (bytes_eq g.id d.id && not (g.seq == d.seq)))
unfolding first_key
id_clash g d = two_equal (equal_numbers g.endpoint d.endpoint) (equal_words g.id d.id) (differ_numbers g.seq d.seq)

number_clash : (s t : AttemptRow) → (agree plain (2 ∷ 3 ∷ []) (attempt_stored s) (2 ∷ 3 ∷ []) (attempt_stored t)
    && differ (rowid (attempt_stored s)) (rowid (attempt_stored t)))
    ≡ (s.delivery == t.delivery && (s.number == t.number && not (s.seq == t.seq)))
unfolding first_key
number_clash s t = two_equal (equal_numbers s.delivery t.delivery) (equal_numbers s.number t.number)
    (differ_numbers s.seq t.seq)

ne_is_not : (o : Ordering) → is_ne o ≡ not (is_eq o)
ne_is_not Less = refl
ne_is_not Equal = refl
ne_is_not Greater = refl

differ_ints : (m n : ℤ) → differ (Int m) (Int n) ≡ not (is_eq (int_cmp m n))
unfolding binary
differ_ints m n = told _ ∙ ap is_ne (value_cmp-Int m n) ∙ ne_is_not (int_cmp m n)

-- one row of topics keeps the other out: it has the same topic and endpoint, but another rowid
abbrev pub keeps_out : Numbered → Numbered → Bool
keeps_out f e =
    bytes_eq f.1.topic e.1.topic && (f.1.endpoint == e.1.endpoint && not (is_eq (int_cmp f.0 e.0)))

pair_clash : (f e : Numbered) → (agree plain (1 ∷ 2 ∷ []) (numbered_stored f) (1 ∷ 2 ∷ []) (numbered_stored e)
    && differ (rowid (numbered_stored f)) (rowid (numbered_stored e)))
    ≡ keeps_out f e
unfolding first_key
pair_clash f e = two_equal (equal_words f.1.topic e.1.topic) (equal_numbers f.1.endpoint e.1.endpoint)
    (differ_ints f.0 e.0)

pub none_kept_out : (db : Trees) → KeepsTopics db → (ys : List Numbered)
    → IsPermutation (db 9) (map numbered_stored ys)
    → IsTrue (list_all (λ e. not (list_any (λ f. keeps_out f e) ys)) ys)
none_kept_out db keeps ys are = all_apart numbered_stored (db 9) ys are (1 ∷ 2 ∷ []) _ pair_clash keeps.uniques

-- ---- the references

behind_rowid : (P : Value → Type 0) (tree : List Row) → AllByRecursion (λ r. P (column r 1)) tree
    → AllByRecursion (λ r. P (column r 0)) (map (drop 1) tree)
behind_rowid P [] all = tt
behind_rowid P ([] ∷ tree) all = (all.0, behind_rowid P tree all.1)
behind_rowid P ((v ∷ r) ∷ tree) all = (all.0, behind_rowid P tree all.1)

module _ (schema : Schema) (own : IsOwn schema) (version : ℕ) (db : Trees) (rows : Rows)
    (tables : AreTables schema version db rows) where
  keeps : KeepsFive db
  keeps = keeps_five schema db own tables.sound

  names_apart : IsTrue
      (list_all (λ e. not (list_any (λ f. bytes_eq f.name e.name && not (f.put == e.put)) rows.endpoints))
      rows.endpoints)
  names_apart = all_apart endpoint_stored (db 1) rows.endpoints tables.endpoints (2 ∷ []) _ name_clash keeps.uniques.1.0

  ids_apart : IsTrue
      (list_all (λ d. not (list_any (λ g. g.endpoint == d.endpoint && (bytes_eq g.id d.id && not (g.seq == d.seq)))
      rows.deliveries)) rows.deliveries)
  ids_apart = all_apart delivery_stored (db 5) rows.deliveries tables.deliveries (2 ∷ 3 ∷ []) _ id_clash
      keeps.uniques.1.1.1.0

  numbers_apart : IsTrue
      (list_all (λ t. not (list_any (λ s. s.delivery == t.delivery && (s.number == t.number && not (s.seq == t.seq)))
      rows.attempts)) rows.attempts)
  numbers_apart = all_apart attempt_stored (db 7) rows.attempts tables.attempts (2 ∷ 3 ∷ []) _ number_clash
      keeps.uniques.1.1.1.1.0

  is_endpoint : (n : ℕ) → is_held_at endpoint_stored (db 1) rows.endpoints tables.endpoints (Int (pos n)) && true ≡ true
      → is_put_at rows n ≡ true
  is_endpoint = found_at endpoint_stored (db 1) rows.endpoints tables.endpoints (λ (e : EndpointRow). e.put) (λ e. refl)

  is_delivery : (n : ℕ) → is_held_at delivery_stored (db 5) rows.deliveries tables.deliveries (Int (pos n))
      && true ≡ true → is_delivery_at rows n ≡ true
  is_delivery = found_at delivery_stored (db 5) rows.deliveries tables.deliveries (λ (d : DeliveryRow). d.seq)
      (λ d. refl)

  deliveries_refer : IsTrue (list_all (λ d. is_put_at rows d.endpoint) rows.deliveries)
  unfolding first_key
  deliveries_refer =
      let held = keeps.deliveries in
      all_pass (λ (d : DeliveryRow). is_put_at rows d.endpoint) rows.deliveries
      (all_weaker _ (λ (d : DeliveryRow). is_put_at rows d.endpoint ≡ true)
      (λ d. is_endpoint d.endpoint) rows.deliveries
      (each_stored delivery_stored (db 5) rows.deliveries tables.deliveries
      (λ row. is_held_at endpoint_stored (db 1) rows.endpoints tables.endpoints (column row 2)
      && true ≡ true) held))

  attempts_refer : IsTrue (list_all (λ t. is_delivery_at rows t.delivery) rows.attempts)
  unfolding first_key
  attempts_refer =
      let held = keeps.attempts in
      all_pass (λ (t : AttemptRow). is_delivery_at rows t.delivery) rows.attempts
      (all_weaker _ (λ (t : AttemptRow). is_delivery_at rows t.delivery ≡ true)
      (λ t. is_delivery t.delivery) rows.attempts
      (each_stored attempt_stored (db 7) rows.attempts tables.attempts
      (λ row. is_held_at delivery_stored (db 5) rows.deliveries tables.deliveries (column row 2)
      && true ≡ true) held))

  -- the topics are those of endpoints
  pub topics_refer : KeepsTopics db → (ys : List Numbered) → IsPermutation (db 9) (map numbered_stored ys)
      → AllByRecursion (λ (y : Numbered). is_put_at rows y.1.endpoint ≡ true) ys
  unfolding first_key
  topics_refer keeps_them ys are =
      let held = keeps_them.endpoints in
      all_weaker _ (λ (y : Numbered). is_put_at rows y.1.endpoint ≡ true) (λ y. is_endpoint y.1.endpoint) ys
      (each_stored numbered_stored (db 9) ys are
      (λ row. is_held_at endpoint_stored (db 1) rows.endpoints tables.endpoints (column row 2) && true ≡ true) held)

  -- the secrets are those of endpoints
  pub secrets_refer : (s : SecretRow) → Has rows.secrets s → is_put_at rows s.endpoint ≡ true
  unfolding first_key
  secrets_refer s there =
      let held = keeps.secrets in
      let behind = behind_rowid (λ v. is_held_at endpoint_stored (db 1) rows.endpoints tables.endpoints v
      && true ≡ true) (db 3) held in
      is_endpoint s.endpoint
      (all_has (λ (t : SecretRow). is_held_at endpoint_stored (db 1) rows.endpoints tables.endpoints
      (Int (pos t.endpoint)) && true ≡ true) rows.secrets s
      (each_stored secret_stored (map (drop 1) (db 3)) rows.secrets tables.secrets
      (λ row. is_held_at endpoint_stored (db 1) rows.endpoints tables.endpoints (column row 0)
      && true ≡ true) behind) there)

  pub keyed_by : IsRisingFrom (λ (e : EndpointRow). e.put) 0 rows.endpoints
      → IsRisingFrom (λ (d : DeliveryRow). d.seq) 0 rows.deliveries
      → IsRisingFrom (λ (t : AttemptRow). t.seq) 0 rows.attempts
      → IsRisingFrom (λ (t : TopicRow). t.set_by) 0 rows.topics
      → flat_map (λ (e : EndpointRow). secret_rows_at rows e.put) rows.endpoints ≡ rows.secrets
      → IsTrue (list_all (λ t. not (list_any (λ s. meets s t) rows.topics)) rows.topics)
      → IsTrue (list_all (λ t. is_put_at rows t.endpoint) rows.topics)
      → AreKeyed rows
  keyed_by puts deliveries attempts topics by_endpoint pairs subscribed = record {
    puts_rise = puts;
    deliveries_rise = deliveries;
    attempts_rise = attempts;
    topics_rise = topics;
    by_endpoint = by_endpoint;
    names = names_apart;
    ids = ids_apart;
    numbers = numbers_apart;
    pairs = pairs;
    endpoints = deliveries_refer;
    subscribed = subscribed;
    deliveries = attempts_refer;
  }
