-- The rows of sound tables are read in the order of their keys.
use Rattle.std.proofs.Common.{◌≡◌, ◌<◌, ◌≤◌, ◌+◌, ℕ, ℤ, zero, suc, pos, Bool, true, false, cond, List, [], ◌∷◌, map}
use Rattle.std.proofs.Common.{filter, length, get_or, int_lt, int_cmp, nat_cmp, is_lt, is_eq, refl, sym, ap, ap₂, subst}
use Rattle.std.proofs.Common.{◌∙◌, arith, IsSorted}
use Rattle.std.specs.List.{AllZip}
use Rattle.std.specs.Ordering.{on}
use Rattle.std.proofs.lemmas.Int.{ints}
use Rattle.std.proofs.lemmas.Bool.Decides.{nat_tests}
use Rattle.std.proofs.lemmas.List.{length-map}
use Rattle.std.proofs.lemmas.List.Sorted.{length_permutation}
use Rattle.sqlite.specs.Order.{Row}
use Rattle.sqlite.specs.Effect.{Database}
use Rattle.sqlite.specs.declared.types.Value.TheVariants.{Int}
use Rattle.sqlite_value.specs.Order.{column, value_cmp}
use Rattle.sqlite_value.proofs.OrderLemmas.{value_cmp-Int}
use Rattle.sqlite_trees.specs.Tree.{has_rowid, rowid}
use Rattle.sqlite_trees.proofs.ListLemmas.{filter-map, IsPermutation-filter}
use Rattle.relay_types.specs.Rows.{Rows}
use Rattle.relay_types.proofs.FilterLaws.{rising_map}
use Rattle.sound_rows.specs.RowNumbers.{of_endpoint, of_delivery, of_attempt}
use Rattle.sound_rows.specs.declared.numbers.Endpoint.{Endpoint}
use Rattle.sound_rows.specs.declared.numbers.Delivery.{Delivery}
use Rattle.sound_rows.specs.declared.numbers.Attempt.{Attempt}
use Rattle.spool_sql.specs.Stored.{HasRowids}
use Rattle.sound_tables.specs.Checks.{AreInOrder, AreShown, AreSoundAt, HasTopics}
use Rattle.sound_tables.specs.Reading.{Shows}
use Rattle.sound_tables.specs.Shown.{ShowsEndpoint, ShowsSecret, ShowsDelivery, ShowsAttempt, ShowsTopic}
use Rattle.sound_tables.specs.Tables.{AreByFirst, HasShown}
use Rattle.sound_tables.specs.Versions.{IsTablesAt}
use Rattle.sound_tables.specs.declared.secret.Secret.{Secret}
use Rattle.sound_tables.specs.declared.stored.StoredRows.{StoredRows}
use Rattle.sound_tables.specs.declared.topic.Topic.{Topic}
use Rattle.sound_tables.specs.declared.version.Version.{Version}
use Rattle.sound_tables.specs.declared.version.Version.TheVariants.{First, Second}
use Rattle.sound_tables.proofs.OrderLemmas.{one_more, one_sorted}
use Rattle.sound_tables.proofs.ShownLemmas.{endpoints_read, deliveries_read, attempts_read}
use Rattle.sound_tables.proofs.StoredLemmas.{AreRising, has_id, rising_by_next}
use Rattle.sound_tables.proofs.VersionLemmas.{five_at}

-- ---- what is shown by rows in the order of their keys

zip_at : {A B : Type 0} (R : A → B → Type 0) (xs : List A) (ys : List B) (k : ℕ) (d : A) (e : B) → AllZip R xs ys
    → k < length ys → (k < length xs) × R (get_or xs k d) (get_or ys k e)
zip_at R [] [] k d e zip l = absurd (omega (arith, l))
zip_at R [] (y ∷ ys) k d e zip l = absurd zip
zip_at R (x ∷ xs) [] k d e zip l = absurd zip
zip_at R (x ∷ xs) (y ∷ ys) zero d e zip l = (omega arith, zip.0)
zip_at R (x ∷ xs) (y ∷ ys) (suc k) d e zip l = let rest = zip_at R xs ys k d e zip.1 (omega (arith, l)) in
    (omega (arith, rest.0), rest.1)

module _ {X : Type 0} (is_shown : Shows X) (key : X → ℤ) (told : (r : Row) (x : X) → is_shown r x → column r 0
    ≡ Int (key x)) where
  by_key : (rows : List Row) (xs : List X) → AllZip is_shown rows xs → AreByFirst rows → IsSorted (on key int_cmp) xs
  by_key rows xs zip up k d low high =
      let last = zip_at is_shown rows xs (k + 1) [] d zip high in
      let before = zip_at is_shown rows xs k [] d zip (omega (arith, high)) in
      ap is_lt (sym (ap₂ value_cmp (told _ _ last.1) (told _ _ before.1)
      ∙ value_cmp-Int (key (get_or xs (k + 1) d)) (key (get_or xs k d)))) ∙ up k [] low last.0

as_numbers : (m n : ℕ) → is_lt (nat_cmp m n) ≡ is_lt (int_cmp (pos m) (pos n))
as_numbers m n = grind (arith, nat_tests)

module _ {X : Type 0} (is_shown : Shows X) (number : X → ℕ) (told : (r : Row) (x : X) → is_shown r x → column r 0
    ≡ Int (pos (number x))) where
  by_number : (of : Row → Row) (tree : List Row) (xs : List X) → HasShown is_shown of tree xs
      → IsSorted (on number nat_cmp) xs
  by_number of tree xs shown k d low high =
      as_numbers (number (get_or xs (k + 1) d)) (number (get_or xs k d))
      ∙ by_key is_shown (λ x. pos (number x)) told shown.0 xs shown.2 shown.3 k d low high

-- ---- rowids, each of which is there once

two_in : {A : Type 0} (p : A → Bool) (xs : List A) (k : ℕ) (d : A) → k + 1 < length xs → p (get_or xs k d) ≡ true
    → p (get_or xs (k + 1) d) ≡ true → 2 ≤ length (filter p xs)
two_in p [] k d l one two = absurd (omega (arith, l))
two_in p (x ∷ []) k d l one two = absurd (omega (arith, l))
two_in p (x ∷ y ∷ xs) zero d l one two = rw (one, two) (omega arith)
two_in p (x ∷ y ∷ xs) (suc k) d l one two =
    at (p x) (two_in p (y ∷ xs) k d (omega (arith, l)) one
    (subst (λ j. p (get_or (x ∷ y ∷ xs) j d) ≡ true) (one_more k) two))
  where
    at : (b : Bool) → 2 ≤ length (filter p (y ∷ xs)) → 2 ≤ length (cond b (x ∷ filter p (y ∷ xs)) (filter p (y ∷ xs)))
    at true rest = omega (arith, rest)
    at false rest = rest

same_id : (a : ℤ) → is_eq (int_cmp a a) ≡ true
same_id a = grind (arith, ints)

neither_less : (a b : ℤ) → is_lt (int_cmp b a) ≡ false → int_lt a b ≡ false → is_eq (int_cmp b a) ≡ true
neither_less a b up not_less = grind (arith, ints)

module _ {X : Type 0} (is_shown : Shows X) (id_of : X → ℤ) (behind : Row → Row)
    (told : (r : Row) (x : X) → is_shown r x → rowid r ≡ Int (id_of x)) where
  pub rowids_rise : (tree : List Row) (xs : List X) → HasRowids tree
      → HasShown is_shown (λ r. rowid r ∷ behind r) tree xs → AreRising id_of xs
  rowids_rise tree xs ids shown =
      rising_by_next id_of xs (λ k d l. at k d l (int_lt (id_of (get_or xs k d)) (id_of (get_or xs (k + 1) d))) refl)
    where
      once : (id : ℤ) → length (filter (has_rowid id) shown.0) ≤ 1
      once id =
          let same = length_permutation _ _
          (IsPermutation-filter (has_rowid id) (map (λ r. rowid r ∷ behind r) tree) shown.0 shown.1) in
          let kept = ap length (filter-map (has_rowid id) (λ r. rowid r ∷ behind r) tree) in
          let many = length-map (filter (has_rowid id) tree) (λ r. rowid r ∷ behind r) in
          let most = ids.once id in omega (arith, same, kept, many, most)

      at : (k : ℕ) (d : X) → k + 1 < length xs → (b : Bool)
          → int_lt (id_of (get_or xs k d)) (id_of (get_or xs (k + 1) d)) ≡ b
          → int_lt (id_of (get_or xs k d)) (id_of (get_or xs (k + 1) d)) ≡ true
      at k d l true less = less
      at k d l false not_less =
          let s = get_or xs k d in
          let t = get_or xs (k + 1) d in
          let one = zip_at is_shown shown.0 xs k [] d shown.2 (omega (arith, l)) in
          let two = zip_at is_shown shown.0 xs (k + 1) [] d shown.2 l in
          let up : is_lt (int_cmp (id_of t) (id_of s)) ≡ false = by_key is_shown id_of told shown.0 xs shown.2 shown.3 k
          d (omega arith) l in
          let both = two_in (has_rowid (id_of s)) shown.0 k [] two.0
          (has_id is_shown id_of behind told (id_of s) _ s one.1 ∙ same_id (id_of s))
          (has_id is_shown id_of behind told (id_of s) _ t two.1 ∙ neither_less (id_of s) (id_of t) up not_less) in
          absurd (omega (arith, both, once (id_of s)))

topics_in_order : (v : Version) (db : Database) (ts : List Topic) (rows : Rows) → HasTopics v db ts
    → IsTablesAt v db rows → AreRising (λ (t : Topic). t.rowid) ts
topics_in_order First db ts rows none it = subst (AreRising (λ (t : Topic). t.rowid)) (sym none) tt
topics_in_order Second db ts rows shown it =
    rowids_rise ShowsTopic (λ (t : Topic). t.rowid) (λ r. column r 1 ∷ column r 2 ∷ column r 3 ∷ column r 4 ∷ [])
    (λ r t shows. shows.rowid) (db.trees 9) ts it.tables.topic_rowids shown

-- what is read of sound tables rises
pub sound_in_order : (v : Version) (db : Database) (stored : StoredRows) (rows : Rows) → AreShown v db stored
    → AreSoundAt v db rows → AreInOrder stored
sound_in_order v db stored rows shown it = record {
  puts = one_sorted (λ (e : Endpoint). e.put) (map of_endpoint rows.endpoints) stored.endpoints.items
      (rising_map of_endpoint (λ (e : Endpoint). e.put) 0 rows.endpoints it.keyed.puts_rise)
      (endpoints_read (db.trees 1) rows.endpoints stored.endpoints.items (five_at v db rows it.tables).tables.endpoints
      shown.endpoints)
      (by_number ShowsEndpoint (λ (e : Endpoint). e.put) (λ r e shows. shows.numbers.put) _
      (db.trees 1) stored.endpoints.items shown.endpoints);
  rowids = rowids_rise ShowsSecret (λ (s : Secret). s.rowid) (λ r. column r 1 ∷ column r 2 ∷ column r 3 ∷ [])
      (λ r s shows. shows.rowid) (db.trees 3) stored.secrets.items (five_at v db rows it.tables).tables.secret_rowids
      shown.secrets;
  deliveries = one_sorted (λ (d : Delivery). d.seq) (map of_delivery rows.deliveries) stored.deliveries.items
      (rising_map of_delivery (λ (d : Delivery). d.seq) 0 rows.deliveries it.keyed.deliveries_rise)
      (deliveries_read (db.trees 5) rows.deliveries stored.deliveries.items
      (five_at v db rows it.tables).tables.deliveries
      shown.deliveries)
      (by_number ShowsDelivery (λ (d : Delivery). d.seq) (λ r d shows. shows.seq) _
      (db.trees 5) stored.deliveries.items shown.deliveries);
  attempts = one_sorted (λ (t : Attempt). t.seq) (map of_attempt rows.attempts) stored.attempts.items
      (rising_map of_attempt (λ (t : Attempt). t.seq) 0 rows.attempts it.keyed.attempts_rise)
      (attempts_read (db.trees 7) rows.attempts stored.attempts.items (five_at v db rows it.tables).tables.attempts
      shown.attempts)
      (by_number ShowsAttempt (λ (t : Attempt). t.seq) (λ r t shows. shows.seq) _ (db.trees 7) stored.attempts.items
      shown.attempts);
  topics = topics_in_order v db stored.topics.items rows shown.topics it.tables;
}
