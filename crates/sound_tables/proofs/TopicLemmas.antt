-- The topics, as they were read and as they are stored.
use Rattle.std.proofs.Common.{◌≡◌, inl, inr, ℕ, ℤ, ◌+◌, ◌==◌, ◌&&◌, ◌||◌, Bool, true, false, not, List, [], ◌∷◌}
use Rattle.std.proofs.Common.{length, map}
use Rattle.std.proofs.Common.{drop, int_lt, int_cmp, is_eq, IsTrue, refl, sym, ap, subst, ◌∙◌, arith, eq-eqb}
use Rattle.std.proofs.Common.{IsPermutation}
use Rattle.std.specs.List.{AllByRecursion, list_all, list_any}
use Rattle.std.specs.Prelude.{bytes_eq}
use Rattle.std.proofs.lemmas.Int.{ints}
use Rattle.std.proofs.lemmas.List.Sorted.{IsPermutation-map, IsPermutation-trans, length_permutation}
use Rattle.sqlite.specs.Effect.{Database}
use Rattle.sqlite_trees.proofs.ListLemmas.{map-map, all-map, all-permutation}
use Rattle.sqlite_trees.proofs.ListLemmas.{ascending_from_map, pull_back}
use Rattle.sqlite_catalog.specs.Listing.{IsSound}
use Rattle.sqlite_rules.specs.Lists.{Has}
use Rattle.sqlite_rules.proofs.ListLemmas.{all_has}
use Rattle.relay_types.specs.Rows.{Rows, TopicRow}
use Rattle.relay_types.specs.Values.{is_name}
use Rattle.relay_types.specs.Sound.{AreKeyed, IsRisingFrom, is_put_at}
use Rattle.relay_types.proofs.KnownLaws.{and_first, and_second}
use Rattle.relay_types.proofs.FilterLaws.{rising_map}
use Rattle.sound_rows.specs.RowNumbers.{AreAscending, kept, of_topic}
use Rattle.sound_rows.specs.declared.numbers.RowNumbers.{RowNumbers}
use Rattle.sound_rows.specs.declared.numbers.Topic.{Topic as Decided}
use Rattle.spool_sql.specs.Tables.{relay_schema}
use Rattle.spool_sql.specs.Stored.{AreTables, IsTablesOf, topic_stored}
use Rattle.sound_tables.specs.Checks.{AreInTurn, HasTopics, numbers_of}
use Rattle.sound_tables.specs.Versions.{IsTablesAt, number_of, schema_of}
use Rattle.sound_tables.specs.declared.topic.Topic.{Topic}
use Rattle.sound_tables.specs.declared.version.Version.{Version}
use Rattle.sound_tables.specs.declared.version.Version.TheVariants.{First, Second}
use Rattle.sound_tables.proofs.FiveLemmas.{keeps_topics}
use Rattle.sound_tables.proofs.KeyLemmas.{all_pass, keeps_out, meets, none_kept_out, topics_refer}
use Rattle.sound_tables.proofs.OrderLemmas.{rises_or, rises_where, sorted_as}
use Rattle.sound_tables.proofs.ShownLemmas.{topics_read}
use Rattle.sound_tables.proofs.StoredLemmas.{AreRising, Numbered, numbered_stored, topic_of, topics_of, topic_rowids}

-- ---- lists

pub by_members : {X : Type 0} (P : X → Type 0) (xs : List X) → ((x : X) → Has xs x → P x) → AllByRecursion P xs
by_members P [] each = tt
by_members P (x ∷ xs) each = (each x (inl refl), by_members P xs (λ y h. each y (inr h)))

pub each_passes : {X : Type 0} (p : X → Bool) (xs : List X) → list_all p xs ≡ true → AllByRecursion (λ x. p x ≡ true) xs
each_passes p [] h = tt
each_passes p (x ∷ xs) h =
    (and_first (p x) (list_all p xs) h, each_passes p xs (and_second (p x) (list_all p xs) h))

neither : (a b : Bool) → not (a || b) ≡ true → (a ≡ false) × (not b ≡ true)
neither false b h = (refl, h)
neither true b h = absurd (let no : false ≡ true = h in cc)

module _ {X : Type 0} (p : X → Bool) where
  none_passes : (xs : List X) → not (list_any p xs) ≡ true → AllByRecursion (λ x. p x ≡ false) xs
  none_passes [] h = tt
  none_passes (x ∷ xs) h = let both = neither (p x) (list_any p xs) h in (both.0, none_passes xs both.1)

  passes_none : (xs : List X) → AllByRecursion (λ x. p x ≡ false) xs → not (list_any p xs) ≡ true
  passes_none [] h = refl
  passes_none (x ∷ xs) h = ap (λ b. not (b || list_any p xs)) h.0 ∙ passes_none xs h.1

empty_list : {X : Type 0} (xs : List X) → length xs ≡ 0 → xs ≡ []
empty_list [] h = refl
empty_list (x ∷ xs) h = absurd (omega (arith, h))

none_moved : {X : Type 0} (xs ys : List X) → xs ≡ [] → IsPermutation xs ys → ys ≡ []
none_moved xs ys none same =
    let count = length_permutation xs ys same in
    let zero = ap length none in empty_list ys (omega (arith, count, zero))

-- ---- rows of one topic and endpoint

not_below : (a : ℤ) → int_lt a a ≡ false
not_below a = grind (arith, ints)

same_int : (m n : ℤ) → is_eq (int_cmp m n) ≡ true → m ≡ n
same_int m n e = grind (arith, ints)

never_below : {P : Type 0} (a b : ℤ) → int_lt a b ≡ true → a ≡ b → P
never_below a b less same =
    absurd (let no : false ≡ true = sym (not_below a) ∙ ap (λ c. int_lt a c) same ∙ less in cc)

-- a rowid is that of one row
one_row : (ys : List Numbered) → AreRising (λ (y : Numbered). y.0) ys → (f e : Numbered) → Has ys f → Has ys e
    → f.0 ≡ e.0 → f ≡ e
one_row [] up f e f_there e_there same = absurd f_there
one_row (y ∷ ys) up f e (inl f_is) (inl e_is) same = f_is ∙ sym e_is
one_row (y ∷ ys) up f e (inl f_is) (inr e_there) same =
    never_below y.0 e.0 (all_has (λ (z : Numbered). int_lt y.0 z.0 ≡ true) ys e up.0 e_there)
    (sym (ap (λ (z : Numbered). z.0) f_is) ∙ same)
one_row (y ∷ ys) up f e (inr f_there) (inl e_is) same =
    never_below y.0 f.0 (all_has (λ (z : Numbered). int_lt y.0 z.0 ≡ true) ys f up.0 f_there)
    (sym (ap (λ (z : Numbered). z.0) e_is) ∙ sym same)
one_row (y ∷ ys) up f e (inr f_there) (inr e_there) same = one_row ys up.1 f e f_there e_there same

turned : (p q r s : Bool) → p && (q && not r) ≡ false → (r ≡ true → s ≡ true) → (p && q) && not s ≡ false
turned false q r s h also = refl
turned true false r s h also = refl
turned true true true s h also = ap not (also refl)
turned true true false s h also = absurd (let no : true ≡ false = h in cc)

-- of rows whose rowids differ, none meets another
module _ (ys : List Numbered) (up : AreRising (λ (y : Numbered). y.0) ys)
    (none : IsTrue (list_all (λ e. not (list_any (λ f. keeps_out f e) ys)) ys)) where
  meets_none : (f e : Numbered) → Has ys f → Has ys e → meets f.1 e.1 ≡ false
  meets_none f e f_there e_there =
      let each = all_has (λ (z : Numbered). not (list_any (λ g. keeps_out g z) ys) ≡ true) ys e
      (each_passes (λ (z : Numbered). not (list_any (λ g. keeps_out g z) ys)) ys none) e_there in
      let apart : keeps_out f e ≡ false = all_has (λ (z : Numbered). keeps_out z e ≡ false) ys f
      (none_passes (λ g. keeps_out g e) ys each) f_there in
      turned (bytes_eq f.1.topic e.1.topic) (f.1.endpoint == e.1.endpoint) (is_eq (int_cmp f.0 e.0))
      (f.1.set_by == e.1.set_by) apart
      (λ same. eq-eqb f.1.set_by e.1.set_by
      (ap (λ (z : Numbered). z.1.set_by) (one_row ys up f e f_there e_there (same_int f.0 e.0 same))))

  -- and so it is of their topics in any order
  pairs_apart : (ts : List TopicRow) → IsPermutation (map (λ (y : Numbered). y.1) ys) ts
      → IsTrue (list_all (λ t. not (list_any (λ s. meets s t) ts)) ts)
  pairs_apart ts same =
      all_pass (λ (t : TopicRow). not (list_any (λ s. meets s t) ts)) ts
      (all-permutation (λ (t : TopicRow). not (list_any (λ s. meets s t) ts) ≡ true) _ ts same
      (all-map (λ (t : TopicRow). not (list_any (λ s. meets s t) ts) ≡ true) (λ (y : Numbered). y.1) ys
      (by_members (λ (e : Numbered). not (list_any (λ s. meets s e.1) ts) ≡ true) ys
      (λ e e_there. passes_none (λ s. meets s e.1) ts
      (all-permutation (λ (s : TopicRow). meets s e.1 ≡ false) _ ts same
      (all-map (λ (s : TopicRow). meets s e.1 ≡ false) (λ (y : Numbered). y.1) ys
      (by_members (λ (f : Numbered). meets f.1 e.1 ≡ false) ys (λ f f_there. meets_none f e f_there e_there))))))))

-- ---- the rows that were read

-- the topics that the tables of this version have, with these numbers
pub record TopicsOf (v : Version) (db : Database) (numbers : List Decided) : Type 0 where
  pub topics : List TopicRow
  pub are : map of_topic topics ≡ numbers
  pub names : IsTrue (list_all (λ (t : TopicRow). is_name t.topic) topics)
  pub rise : IsRisingFrom (λ (t : TopicRow). t.set_by) 0 topics
  pub pairs : IsTrue (list_all (λ t. not (list_any (λ s. meets s t) topics)) topics)
  pub subscribed : (rows : Rows) → AreTables (schema_of v) (number_of v) db.trees rows
      → IsTrue (list_all (λ (t : TopicRow). is_put_at rows t.endpoint) topics)
  pub tables : (rows : Rows) → rows.topics ≡ topics → IsTablesOf (schema_of v) (number_of v) db rows
      → IsTablesAt v db rows

pub rising_back : {X Y : Type 0} (f : X → Y) (number : Y → ℕ) (n : ℕ) (xs : List X) → IsRisingFrom number n (map f xs)
    → IsRisingFrom (λ x. number (f x)) n xs
rising_back f number n [] rises = tt
rising_back f number n (x ∷ xs) rises = (rises.0, rising_back f number (number (f x) + 1) xs rises.1)

second_topics : (db : Database) → IsSound relay_schema db.trees → (ts : List Topic) → HasTopics Second db ts
    → AreRising (λ (t : Topic). t.rowid) ts → (numbers : List Decided) → IsPermutation (map numbers_of ts) numbers
    → IsRisingFrom (λ (t : Decided). t.set_by) 0 numbers → TopicsOf Second db numbers
second_topics db sound ts shown up numbers same rises =
    let keeps = keeps_topics db.trees sound in
    let read = topics_of db.trees keeps ts shown in
    let ys = read.0 in
    let own : List TopicRow = map (λ (y : Numbered). y.1) ys in
    let of_own : map of_topic own ≡ map numbers_of ts =
    map-map of_topic (λ (y : Numbered). y.1) ys ∙ sym (map-map numbers_of topic_of ys) ∙ ap (map numbers_of) read.2 in
    let back = pull_back of_topic (map of_topic own) numbers
    (subst (λ l. IsPermutation l numbers) (sym of_own) same) own refl in
    let ids : AreRising (λ (y : Numbered). y.0) ys = ascending_from_map (λ (s t : Topic). int_lt s.rowid t.rowid ≡ true)
    topic_of ys (subst (AreRising (λ (t : Topic). t.rowid)) (sym read.2) up) in
    let stored : map (drop 1) (map numbered_stored ys) ≡ map topic_stored own =
    map-map (drop 1) numbered_stored ys ∙ sym (map-map topic_stored (λ (y : Numbered). y.1) ys) in
    let topics_are : IsPermutation (map (drop 1) (db.trees 9)) (map topic_stored back.0) =
    IsPermutation-trans _ _ _
    (subst (IsPermutation (map (drop 1) (db.trees 9))) stored (IsPermutation-map (drop 1) _ _ read.1))
    (IsPermutation-map topic_stored _ _ back.1) in
    let to_topics = λ (P : TopicRow → Bool) (each : AllByRecursion (λ (y : Numbered). P y.1 ≡ true) ys).
    all_pass P back.0
    (all-permutation (λ (t : TopicRow). P t ≡ true) own back.0 back.1
    (all-map (λ (t : TopicRow). P t ≡ true) (λ (y : Numbered). y.1) ys each)) in
    record {
      topics = back.0;
      are = sym back.2;
      names = to_topics (λ t. is_name t.topic) (each_passes (λ (y : Numbered). is_name y.1.topic) ys read.3);
      rise = rising_back of_topic (λ (t : Decided). t.set_by) 0 back.0
          (subst (IsRisingFrom (λ (t : Decided). t.set_by) 0) back.2 rises);
      pairs = pairs_apart ys ids (none_kept_out db.trees keeps ys read.1) back.0 back.1;
      subscribed = λ rows tables. to_topics (λ t. is_put_at rows t.endpoint)
          (topics_refer relay_schema (inr refl) 2 db.trees rows tables keeps ys read.1);
      tables = λ rows is five. record {
        schema_is = five.schema_is;
        tables = record {
          five = five.tables;
          topics =
              subst (λ l. IsPermutation (map (drop 1) (db.trees 9)) (map topic_stored l)) (sym is) topics_are;
          topic_rowids = topic_rowids (db.trees 9) ts shown up;
        };
      };
    }

pub topics_at : (v : Version) (db : Database) → IsSound (schema_of v) db.trees → (ts : List Topic) → HasTopics v db ts
    → AreRising (λ (t : Topic). t.rowid) ts → (numbers : List Decided) → IsPermutation (map numbers_of ts) numbers
    → IsRisingFrom (λ (t : Decided). t.set_by) 0 numbers → TopicsOf v db numbers
topics_at Second db sound ts shown up numbers same rises = second_topics db sound ts shown up numbers same rises
topics_at First db sound ts none up numbers same rises = record {
  topics = [];
  are = sym (none_moved (map numbers_of ts) numbers (ap (map numbers_of) none) same);
  names = refl;
  rise = tt;
  pairs = refl;
  subscribed = λ rows tables. refl;
  tables = λ rows is five.
      record { schema_is = five.schema_is; tables = record { five = five.tables; no_topics = is } };
}

-- ---- and those that sound tables have are read so

pub topics_same : (v : Version) (db : Database) (rows : Rows) → IsTablesAt v db rows → AreKeyed rows
    → (ts : List Topic) → HasTopics v db ts → (numbers : List Decided) → AreInTurn ts numbers
    → numbers ≡ map of_topic rows.topics
topics_same First db rows it keyed ts none numbers turn =
    none_moved (map numbers_of ts) numbers (ap (map numbers_of) none) turn.same
    ∙ sym (ap (map of_topic) it.tables.no_topics)
topics_same Second db rows it keyed ts shown numbers turn =
    sorted_as (λ (t : Decided). t.set_by) (map of_topic rows.topics) numbers
    (rising_map of_topic (λ (t : Decided). t.set_by) 0 rows.topics keyed.topics_rise)
    (IsPermutation-trans _ _ _ (topics_read (db.trees 9) rows.topics ts it.tables.topics shown) turn.same) turn.sorted

-- numbers of which none is denied for their order rise
pub rising_where : (numbers : RowNumbers) (answer : Bool) → (¬ AreAscending (kept numbers) → answer ≡ false)
    → answer ≡ true → IsRisingFrom (λ (t : Decided). t.set_by) 0 numbers.topics.items
rising_where numbers answer denied agreed = elim (rises_or (λ (t : Decided). t.set_by) 0 numbers.topics.items) [
  | inl rises ↦ rises
  | inr falls ↦ absurd
      (let no : false ≡ true = sym (denied (λ up. falls (rises_where (λ (t : Decided). t.set_by) numbers.topics.items
      up.topics))) ∙ agreed in cc)
]
