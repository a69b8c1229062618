-- A query over one table that puts its rows in the order of a number.
use Rattle.std.proofs.Common.{◌≡◌, ℕ, ◌+◌, ◌-◌, ◌^◌, pos, List, [], ◌∷◌, map, filter, get_or, Bool, false, Option, None}
use Rattle.std.proofs.Common.{Some, nat_le, nat_cmp, refl, sym, ap, ap₂, subst, subst₂, ◌∙◌, arith}
use Rattle.std.specs.Ordering.{is_lt, int_cmp}
use Rattle.std.specs.List.Sorted.{IsPermutation, IsSorted, IsNonDecreasingBy}
use Rattle.std.proofs.lemmas.Bool.Decides.{nat_tests}
use Rattle.std.proofs.lemmas.List.{length-map, get_or-map, take-map}
use Rattle.std.proofs.lemmas.List.Sorted.{IsPermutation-sym, IsPermutation-trans, IsNonDecreasingBy-from_sort}
use Rattle.sqlite_trees.proofs.ListLemmas.{IsPermutation-filter, pull_back}
use Rattle.sqlite.specs.Collation.TheVariants.{Binary}
use Rattle.sqlite_sql.specs.declared.ops.BinaryOp.TheVariants.{Compare}
use Rattle.sqlite_sql.specs.declared.ops.CompareOp.TheVariants.{Ge, Le}
use Rattle.sqlite_sql.specs.Ops.{binary, is_true}
use Rattle.sqlite_value.specs.declared.keys.Key.{Key}
use Rattle.sqlite_value.specs.Keys.{ascending}
use Rattle.sqlite_value.specs.Order.{column, value_cmp}
use Rattle.sqlite_value.proofs.OrderLemmas.{value_cmp-Int, then-Equal}
use Rattle.sqlite.specs.declared.types.Value.{Value}
use Rattle.sqlite.specs.declared.types.Value.TheVariants.{Null, Int}
use Rattle.sqlite.specs.Order.{Row}
use Rattle.sqlite.specs.Term.{Term, lit, col, op2}
use Rattle.sqlite.specs.Query.{Query, IsAnswer, Output, output, output_cmp, as_count, limited}
use Rattle.sqlite.specs.Program.{overlay}
use Rattle.sqlite.specs.Schema.{Schema}
use Rattle.sqlite.specs.Effect.{Answers}
use Rattle.sqlite.specs.Tree.{Trees}
use Rattle.spool_sql.proofs.SelectLemmas.{filtered, map_map, and_true}
use Rattle.spool_sql.proofs.UpdateLemmas.{scan_by, passes, shows, matched, no_tables}

-- the rows that pass the tests, in the order of a column, and no more than the limit says
abbrev pub sorted_by : ℕ → ℕ → List Term → List Term → Value → Query
sorted_by t at tests shown limit =
    record (scan_by ((col 1 at, ascending Binary) ∷ []) t tests shown) { limit = lit limit }

-- the rows that were found show those that are kept, in the order of a number, and no more than the limit says
abbrev pub ShowsInOrder : {X : Type 0} → (number : X → ℕ) (keep : X → Bool) (show : X → Row) → Option ℕ → List X
    → List Row → Type 0
ShowsInOrder number keep show limit xs found =
    (all : List _) × IsPermutation (filter keep xs) all × IsNonDecreasingBy number all
    × (found ≡ map show (limited limit all))

int_order : (m n : ℕ) → is_lt (int_cmp (pos m) (pos n)) ≡ is_lt (nat_cmp m n)
int_order m n = grind (arith, nat_tests)

pub limited-map : {X Y : Type 0} (f : X → Y) (limit : Option ℕ) (xs : List X) → limited limit (map f xs)
    ≡ map f (limited limit xs)
limited-map f None xs = refl
limited-map f (Some n) xs = take-map f n xs

-- the rows of one table that pass the tests, in an order of columns
module _ {X : Type 0} (row : X → Row) (order : List (Term × Key)) (t : ℕ) (tests shown : List Term) (params : Row)
    (limit : Value) (keep : X → Bool)
    (passed : (x : X) → passes params tests (row x) ≡ keep x) where
  abbrev pub query : Query
  query = record (scan_by order t tests shown) { limit = lit limit }

  abbrev pub out : X → Output
  out x = output query (params ∷ row x ∷ [])

  pub rows_in_order : (schema : Schema) (db : Trees) (xs : List X) (found : List Row)
      → IsPermutation (db t) (map row xs)
      → Answers (record { schema = schema; trees = db }) (record { lets = []; body = query }) params found
      → (all : List X) × IsPermutation (filter keep xs) all × IsSorted (output_cmp query) (map out all)
      × (found ≡ map (λ x. shows params shown (row x)) (limited (as_count limit) all))
  rows_in_order schema db xs found are h =
      let p = passes params tests in
      let a : IsAnswer query (overlay db []) params found = h.answer Null in
      let there : overlay db [] t ≡ db t = no_tables _ (db t) (t - 2 ^ 31) in
      let to = pull_back row (map row xs) (db t) (IsPermutation-sym _ _ are) xs refl in
      let these : filter p (overlay db [] t) ≡ map row (filter keep to.0) = ap (filter p) (there ∙ to.2)
      ∙ filtered row p keep passed to.0 in
      let staged : a.staged ≡ map (λ r. params ∷ r ∷ []) (map row (filter keep to.0)) = a.grouped
      ∙ matched params tests (overlay db [] t) ∙ ap (map (λ r. params ∷ r ∷ [])) these in
      let kept : a.kept ≡ map out (filter keep to.0) =
      a.distinct ∙ ap (map (output query)) (staged ∙ map_map row (λ r. params ∷ r ∷ []) (filter keep to.0))
      ∙ map_map (λ x. params ∷ row x ∷ []) (output query) (filter keep to.0) in
      let all = pull_back out a.kept a.ordered a.same (filter keep to.0) kept in
      let shown_are : found ≡ map (λ x. shows params shown (row x)) (limited (as_count limit) all.0) =
      a.shown ∙ ap (λ os. limited (as_count limit) (map (λ (o : Output). o.1) os)) all.2
      ∙ ap (limited (as_count limit)) (map_map out (λ (o : Output). o.1) all.0)
      ∙ limited-map (λ x. shows params shown (row x)) (as_count limit) all.0 in (
        all.0,
        IsPermutation-trans _ _ _ (IsPermutation-filter keep _ _ to.1) all.1,
        subst (IsSorted (output_cmp query)) all.2 a.sorted,
        shown_are,
      )

module _ {X : Type 0} (row : X → Row) (number : X → ℕ) (t at : ℕ) (tests shown : List Term) (params : Row)
    (limit : Value) (keep : X → Bool)
    (passed : (x : X) → passes params tests (row x) ≡ keep x)
    (numbered : (x : X) → column (row x) at ≡ Int (pos (number x))) where
  abbrev by_one : List (Term × Key)
  by_one = (col 1 at, ascending Binary) ∷ []

  abbrev sorted : Query
  sorted = sorted_by t at tests shown limit

  abbrev out_of : X → Output
  out_of = out row by_one t tests shown params limit keep passed

  order_is : (x y : X) → is_lt (output_cmp sorted (out_of x) (out_of y)) ≡ is_lt (nat_cmp (number x) (number y))
  order_is x y =
      ap is_lt (then-Equal (value_cmp (column (row x) at) (column (row y) at)) ∙ ap₂ value_cmp (numbered x) (numbered y)
      ∙ value_cmp-Int (pos (number x)) (pos (number y))) ∙ int_order (number x) (number y)

  rises : (all : List X) → IsSorted (output_cmp sorted) (map out_of all) → IsNonDecreasingBy number all
  rises all up = IsNonDecreasingBy-from_sort number all (λ k d low high.
      let long = length-map all out_of in
      let here = up k (out_of d) low (omega (arith, long, high)) in
      sym (order_is (get_or all (k + 1) d) (get_or all k d))
      ∙ subst₂ (λ a b. is_lt (output_cmp sorted a b) ≡ false) (get_or-map out_of all (k + 1) d (out_of d) high)
      (get_or-map out_of all k d (out_of d) (omega (arith, high))) here)

  pub ordered_rows : (schema : Schema) (db : Trees) (xs : List X) (found : List Row) → IsPermutation (db t) (map row xs)
      → Answers (record { schema = schema; trees = db }) (record { lets = []; body = sorted_by t at tests shown limit })
      params found
      → ShowsInOrder number keep (λ x. shows params shown (row x)) (as_count limit) xs found
  ordered_rows schema db xs found are h =
      let it = rows_in_order row by_one t tests shown params limit keep passed schema db xs found are h in
      (it.0, it.1, rises it.0 it.2, it.3)

-- ---- from a number on

abbrev pub from_number : ℕ → List Term
from_number at = op2 (Compare Ge Binary) (col 1 at) (col 0 0) ∷ []

pub at_least : (m n : ℕ) → is_true (binary (Compare Ge Binary) (Int (pos m)) (Int (pos n))) ≡ nat_le n m
unfolding binary
at_least m n = rw (value_cmp-Int (pos m) (pos n)) (grind (arith, nat_tests))

pub at_most : (m n : ℕ) → is_true (binary (Compare Le Binary) (Int (pos m)) (Int (pos n))) ≡ nat_le m n
unfolding binary
at_most m n = rw (value_cmp-Int (pos m) (pos n)) (grind (arith, nat_tests))

pub passes_from : (at from : ℕ) (r : Row) (n : ℕ) → column r at ≡ Int (pos n)
    → passes (Int (pos from) ∷ []) (from_number at) r ≡ nat_le from n
passes_from at from r n is = and_true _ ∙ ap (λ v. is_true (binary (Compare Ge Binary) v (Int (pos from)))) is
    ∙ at_least n from

pub map_same : {X : Type 0} (f : X → X) → ((x : X) → f x ≡ x) → (xs : List X) → map f xs ≡ xs
map_same f same [] = refl
map_same f same (x ∷ xs) = ap₂ ◌∷◌ (same x) (map_same f same xs)
