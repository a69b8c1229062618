-- The SELECT statements.
use Rattle.std.proofs.Common.{◌≡◌, ◌==◌, ◌&&◌, ◌||◌, ℕ, pos, List, [], ◌∷◌, map, filter, length, codes, bytes_eq, Bool}
use Rattle.std.proofs.Common.{true, false, cond, Some, not, Option, slice_get, option_map, find, ◌≤◌, refl, sym, ap}
use Rattle.std.proofs.Common.{subst, ◌∙◌, arith}
use Rattle.std.proofs.lemmas.Bool.Decides.{nat_tests}
use Rattle.std.specs.List.{AllByRecursion, list_any}
use Rattle.std.specs.List.Sorted.{IsPermutation}
use Rattle.std.specs.Ordering.{is_eq, int_cmp}
use Rattle.sqlite_value.proofs.OrderLemmas.{value_cmp-Int, value_cmp-Text}
use Rattle.sqlite_trees.proofs.ListLemmas.{IsPermutation-filter, all_weaker, all-filter, all-map, all-permutation}
use Rattle.std.proofs.lemmas.List.Sorted.{IsPermutation-map, IsPermutation-sym, IsPermutation-trans, length_permutation}
use Rattle.std.proofs.lemmas.List.{length-map}
use Rattle.std.proofs.lemmas.Map.Text.{is_eq-slice_cmp}
use Rattle.sqlite.specs.Collation.TheVariants.{Binary}
use Rattle.sqlite_sql.specs.declared.ops.BinaryOp.TheVariants.{Compare}
use Rattle.sqlite_sql.specs.declared.ops.CompareOp.TheVariants.{Eq}
use Rattle.sqlite.specs.declared.types.Value.TheVariants.{Int, Text}
use Rattle.sqlite.specs.Order.{Row}
use Rattle.sqlite_sql.specs.Ops.{binary, from_truth, is_true}
use Rattle.sqlite.specs.Term.{Term, col, op2}
use Rattle.sqlite.specs.Query.{Query}
use Rattle.sqlite.specs.Schema.{Schema}
use Rattle.sqlite.specs.Command.TheVariants.{Select}
use Rattle.sqlite.specs.Listing.{understood, reads_listing}
use Rattle.sqlite.specs.State.{State, Shown}
use Rattle.sqlite.proofs.Callers.{reads_as, one_permutation}
use Rattle.sqlite_tied.specs.Compute.{everything}
use Rattle.relay_types.specs.Rows.{Rows, EndpointRow}
use Rattle.spool_sql.specs.Tables.{relay_schema}
use Rattle.spool_sql.specs.Stored.{IsTables, IsPutOf, number_of, endpoints_named, endpoint_stored}
use Rattle.relay_types.specs.declared.limits.TheConstants.{MAX_RECORDS}
use Rattle.spool_sql.specs.Readable.{IsReadableEndpoint, ShowsBelow}
use Rattle.spool_sql.specs.Queries.{IsBare}
use Rattle.spool_sql.proofs.InsertLemmas.{Means}
use Rattle.spool_sql.proofs.UpdateLemmas.{scan, shows, passes, scanned}

-- under the schema the text is this query
pub record Asks (schema : Schema) (sql : List ℕ) (query : Query) (names : List (List ℕ)) : Type 0 where
  pub means : Means schema sql (Select (record { lets = []; body = query }) names)
  pub unlisted : reads_listing schema sql ≡ false

abbrev pub named_select : List ℕ
named_select = codes "SELECT put FROM endpoints WHERE name = ?1"

abbrev by_name : List Term
by_name = op2 (Compare Eq Binary) (col 1 2) (col 0 0) ∷ []

pub named_select_asks : Asks relay_schema named_select (scan 1 by_name (col 1 0 ∷ [])) (codes "put" ∷ [])
unfolding understood everything
named_select_asks = record { means = record { is = refl; plain = (refl, refl) }; unlisted = refl }

pub named_select_bare : IsBare named_select
unfolding understood everything
named_select_bare schema base = refl

abbrev pub endpoints_select : List ℕ
endpoints_select = codes "SELECT put FROM endpoints"

pub endpoints_select_asks : Asks relay_schema endpoints_select (scan 1 [] (col 1 0 ∷ [])) (codes "put" ∷ [])
unfolding understood everything
endpoints_select_asks = record { means = record { is = refl; plain = (refl, refl) }; unlisted = refl }

pub endpoints_select_bare : IsBare endpoints_select
unfolding understood everything
endpoints_select_bare schema base = refl

-- ---- what a test of a stored row says of the typed one

told : (b : Bool) → is_true (from_truth (Some b)) ≡ b
told true = refl
told false = refl

pub equal_texts : (s t : List ℕ) → is_true (binary (Compare Eq Binary) (Text s) (Text t)) ≡ bytes_eq s t
unfolding binary
equal_texts s t = told _ ∙ ap is_eq (value_cmp-Text s t) ∙ is_eq-slice_cmp s t

pub equal_ints : (m n : ℕ) → is_eq (int_cmp (pos m) (pos n)) ≡ (m == n)
equal_ints m n = grind (arith, nat_tests)

pub equal_numbers : (m n : ℕ) → is_true (binary (Compare Eq Binary) (Int (pos m)) (Int (pos n))) ≡ (m == n)
unfolding binary
equal_numbers m n = told _ ∙ ap is_eq (value_cmp-Int (pos m) (pos n)) ∙ equal_ints m n

pub and_true : (b : Bool) → b && true ≡ b
and_true true = refl
and_true false = refl

-- ---- the typed rows that a query over one table finds

pub filtered : {X : Type 0} (row : X → Row) (p : Row → Bool) (q : X → Bool) → ((x : X) → p (row x) ≡ q x)
    → (xs : List X) → filter p (map row xs) ≡ map row (filter q xs)
filtered row p q same [] = refl
filtered row p q same (x ∷ xs) = tested (p (row x)) (q x) (same x) (filtered row p q same xs)
  where
    tested : (a b : Bool) → a ≡ b → filter p (map row xs) ≡ map row (filter q xs)
        → cond a (row x ∷ filter p (map row xs)) (filter p (map row xs))
        ≡ map row (cond b (x ∷ filter q xs) (filter q xs))
    tested true true e rest = ap (λ zs. row x ∷ zs) rest
    tested false false e rest = rest
    tested true false e rest = absurd (let f = e in cc)
    tested false true e rest = absurd (let f = e in cc)

pub map_map : {X Y Z : Type 0} (f : X → Y) (g : Y → Z) (xs : List X) → map g (map f xs) ≡ map (λ x. g (f x)) xs
map_map f g [] = refl
map_map f g (x ∷ xs) = ap (λ zs. g (f x) ∷ zs) (map_map f g xs)

pub finds : {X : Type 0} (row : X → Row) (params : Row) (tests shown : List Term) (q : X → Bool)
    → ((x : X) → passes params tests (row x) ≡ q x) → (tree : List Row) (xs : List X) (found : List Row)
    → IsPermutation tree (map row xs)
    → IsPermutation (map (shows params shown) (filter (passes params tests) tree)) found
    → IsPermutation (map (λ x. shows params shown (row x)) (filter q xs)) found
finds row params tests shown q same tree xs found are all =
    let typed = IsPermutation-map (shows params shown) _ _
    (IsPermutation-filter (passes params tests) _ _ (IsPermutation-sym _ _ are)) in
    let these = ap (map (shows params shown)) (filtered row (passes params tests) q same xs)
    ∙ map_map row (shows params shown) (filter q xs) in
    subst (λ l. IsPermutation l found) these (IsPermutation-trans _ _ _ typed all)

-- each row of the answer shows a typed row, and what is so of all typed rows
pub finds_all : {X : Type 0} (row : X → Row) (params : Row) (shown : List Term) (q : X → Bool) (Good : X → Type 0)
    (Shows : Row → Type 0) → ((x : X) → Good x → Shows (shows params shown (row x)))
    → (xs : List X) (found : List Row) → IsPermutation (map (λ x. shows params shown (row x)) (filter q xs)) found
    → AllByRecursion Good xs → AllByRecursion Shows found
finds_all row params shown q Good Shows shows_good xs found same good =
    all-permutation Shows _ found same (all-map Shows (λ x. shows params shown (row x)) (filter q xs)
    (all_weaker Good (λ x. Shows (shows params shown (row x))) shows_good (filter q xs)
    (all-filter Good q xs good)))

-- ---- a query over one table, whatever the version of the tables

module _ (schema : Schema) (sql : List ℕ) (tree : ℕ) (tests shown : List Term) (names : List (List ℕ))
    (asks : Asks schema sql (scan tree tests shown) names) (params : Row) where
  pub found_in : (old new : State) (found : List Row) → old.now.schema ≡ schema → Shown sql params old new found
      → IsPermutation (map (shows params shown) (filter (passes params tests) (old.now.trees tree))) found
  found_in old new found has h =
      scanned tree tests shown old.now.schema old.now.trees params found
      (reads_as sql params old new schema has _ asks.means.is asks.means.plain asks.unlisted found h)

abbrev pub put_shown : EndpointRow → Row
put_shown e = Int (pos e.put) ∷ []

pub all_kept : {X : Type 0} (xs : List X) → filter (λ _. true) xs ≡ xs
all_kept [] = refl
all_kept (x ∷ xs) = ap (λ zs. x ∷ zs) (all_kept xs)

pub any_kept : {X : Type 0} (q : X → Bool) (xs : List X) → not (length (filter q xs) == 0) ≡ list_any q xs
any_kept q [] = refl
any_kept q (x ∷ xs) = tested (q x) (any_kept q xs)
  where
    tested : (b : Bool) → not (length (filter q xs) == 0) ≡ list_any q xs
        → not (length (cond b (x ∷ filter q xs) (filter q xs)) == 0) ≡ (b || list_any q xs)
    tested true e = grind (arith, nat_tests)
    tested false e = e

pub first_number : (found : List Row) → slice_get (map number_of found) 0 ≡ option_map number_of (slice_get found 0)
first_number [] = refl
first_number (r ∷ rest) = refl

puts_of : (name : List ℕ) (rows : Rows) (found : List Row)
    → IsPermutation (map put_shown (endpoints_named name rows)) found
    → IsPermutation (map (λ (e : EndpointRow). e.put) (endpoints_named name rows)) (map number_of found)
puts_of name rows found same = subst (λ l. IsPermutation l (map number_of found))
    (map_map put_shown number_of (endpoints_named name rows)) (IsPermutation-map number_of _ _ same)

-- ---- the two queries and what their answers say

module _ (old new : State) (found : List Row) (rows : Rows) (t : IsTables old.now rows) where
  pub counts_endpoints : Asks relay_schema endpoints_select (scan 1 [] (col 1 0 ∷ [])) (codes "put" ∷ [])
      → Shown endpoints_select [] old new found → length found ≡ length rows.endpoints
  counts_endpoints asks h =
      let same = finds endpoint_stored [] [] (col 1 0 ∷ []) (λ _. true) (λ e. refl) (old.now.trees 1) rows.endpoints
      found t.tables.five.endpoints
      (found_in relay_schema endpoints_select 1 [] (col 1 0 ∷ []) _ asks [] old new found t.schema_is h) in
      length_permutation _ found same ∙ length-map _ put_shown ∙ ap length (all_kept rows.endpoints)

  puts_found : Asks relay_schema named_select (scan 1 by_name (col 1 0 ∷ [])) (codes "put" ∷ []) → (name : List ℕ)
      → Shown named_select (Text name ∷ []) old new found
      → IsPermutation (map (λ (e : EndpointRow). shows (Text name ∷ []) (col 1 0 ∷ []) (endpoint_stored e))
      (endpoints_named name rows)) found
  puts_found asks name h =
      finds endpoint_stored (Text name ∷ []) by_name (col 1 0 ∷ []) (λ (e : EndpointRow). bytes_eq e.name name)
      (λ e. and_true _ ∙ equal_texts e.name name) (old.now.trees 1) rows.endpoints found t.tables.five.endpoints
      (found_in relay_schema named_select 1 by_name (col 1 0 ∷ []) _ asks (Text name ∷ []) old new found t.schema_is h)

  pub shows_puts : Asks relay_schema named_select (scan 1 by_name (col 1 0 ∷ [])) (codes "put" ∷ []) → (name : List ℕ)
      → Shown named_select (Text name ∷ []) old new found → AllByRecursion IsReadableEndpoint rows.endpoints
      → AllByRecursion (ShowsBelow MAX_RECORDS) found
  shows_puts asks name h good =
      finds_all endpoint_stored (Text name ∷ []) (col 1 0 ∷ []) (λ (e : EndpointRow). bytes_eq e.name name)
      IsReadableEndpoint (ShowsBelow MAX_RECORDS) (λ e is. (e.put, refl, is.put)) rows.endpoints found
      (puts_found asks name h) good

  pub tells_put : Asks relay_schema named_select (scan 1 by_name (col 1 0 ∷ [])) (codes "put" ∷ []) → (name : List ℕ)
      → Shown named_select (Text name ∷ []) old new found
      → (put : Option ℕ) → put ≡ option_map number_of (slice_get found 0) → IsPutOf name rows put
  tells_put asks name h put is =
      (map number_of found, puts_of name rows found (puts_found asks name h), is ∙ sym (first_number found))

-- ---- for callers, where a name is that of at most one endpoint

pub first_found : {X : Type 0} (q : X → Bool) (xs : List X) → find q xs ≡ slice_get (filter q xs) 0
first_found q [] = refl
first_found q (x ∷ xs) = tested (q x) (first_found q xs)
  where
    tested : (b : Bool) → find q xs ≡ slice_get (filter q xs) 0 → cond b (Some x) (find q xs)
        ≡ slice_get (cond b (x ∷ filter q xs) (filter q xs)) 0
    tested true e = refl
    tested false e = e

pub one_at_most : (es : List EndpointRow) (puts : List ℕ) → length es ≤ 1
    → IsPermutation (map (λ (e : EndpointRow). e.put) es) puts → slice_get puts 0
    ≡ option_map (λ (e : EndpointRow). e.put) (slice_get es 0)
one_at_most [] [] few same = refl
one_at_most [] (p ∷ puts) few same = absurd (let e = length_permutation _ (p ∷ puts) same in omega (arith, e))
one_at_most (e ∷ []) puts few same = ap (λ l. slice_get l 0) (one_permutation e.put puts same)
one_at_most (e ∷ f ∷ es) puts few same = absurd (omega (arith, few))

pub put_found : (name : List ℕ) (rows : Rows) (put : Option ℕ) → length (endpoints_named name rows) ≤ 1
    → IsPutOf name rows put
    → put ≡ option_map (λ (e : EndpointRow). e.put) (find (λ (e : EndpointRow). bytes_eq e.name name) rows.endpoints)
put_found name rows put few it =
    it.2 ∙ one_at_most (endpoints_named name rows) it.0 few it.1
    ∙ ap (option_map (λ (e : EndpointRow). e.put))
    (sym (first_found (λ (e : EndpointRow). bytes_eq e.name name) rows.endpoints))
