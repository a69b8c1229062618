-- Tables whose rowids no statement names: the store chooses them, and the rows stand behind them.
use Rattle.std.proofs.Common.{◌≡◌, ◌≤◌, ℕ, ℤ, pos, List, [], ◌∷◌, ◌++◌, map, filter, drop, length, Bool, true, not}
use Rattle.std.proofs.Common.{refl}
use Rattle.std.proofs.Common.{sym, ap, ap₂, subst, subst₂, ◌∙◌, arith}
use Rattle.std.specs.Prelude.{IsTrue}
use Rattle.std.specs.List.{AllByRecursion}
use Rattle.std.specs.List.Sorted.{IsPermutation, IsNonDecreasingBy}
use Rattle.std.proofs.lemmas.List.{length-map, get_or-map}
use Rattle.std.proofs.lemmas.List.Sorted.{IsPermutation-map, length_permutation}
use Rattle.sqlite_trees.proofs.ListLemmas.{IsPermutation-filter, all-permutation, filter-map, map-map, pull_back}
use Rattle.sqlite_trees.specs.View.{is_int}
use Rattle.sqlite_value.specs.Order.{column}
use Rattle.sqlite.specs.declared.types.Value.{Value}
use Rattle.sqlite.specs.declared.types.Value.TheVariants.{Int}
use Rattle.sqlite.specs.Order.{Row}
use Rattle.sqlite.specs.Term.{Term, col}
use Rattle.sqlite.specs.Query.{as_count, limited}
use Rattle.sqlite.specs.Schema.{Schema}
use Rattle.sqlite.specs.Effect.{Answers}
use Rattle.sqlite.specs.Tree.{Trees, rowid, put_row}
use Rattle.sqlite_rules.specs.Edit.{id_in, without_all, are_fresh}
use Rattle.sqlite_rules.specs.Calls.{ids_of}
use Rattle.spool_sql.specs.Stored.{HasRowids}
use Rattle.spool_sql.proofs.SelectLemmas.{filtered, finds}
use Rattle.spool_sql.proofs.TypedLemmas.{put_hidden}
use Rattle.spool_sql.proofs.UpdateLemmas.{passes, shows}
use Rattle.spool_sql.proofs.ChangeLemmas.{left_in_table, left_rowids, put_rowids}
use Rattle.spool_sql.proofs.PageLemmas.{ShowsInOrder, limited-map, ordered_rows, sorted_by}

-- the tree has these rows in any order, each behind a rowid that nobody knows
pub record HasHidden {X : Type 0} (row : X → Row) (xs : List X) (tree : List Row) : Type 0 where
  pub shown : IsPermutation (map (drop 1) tree) (map row xs)
  pub rowids : HasRowids tree

-- ---- the rowids, given back

-- a row and its rowid
abbrev Hidden : Type 0 → Type 0
Hidden X = Value × X

module _ {X : Type 0} (row : X → Row) where
  abbrev typed : Hidden X → X
  typed h = h.1

  abbrev hidden_row : Hidden X → Row
  hidden_row h = h.0 ∷ row h.1

  behind : (xs : List X) (tree : List Row) → AllByRecursion (λ r. IsTrue (is_int (rowid r))) tree
      → map row xs ≡ map (drop 1) tree → (seen : List (Hidden X)) × (tree ≡ map hidden_row seen) × (map typed seen ≡ xs)
  behind [] [] all is = ([], refl, refl)
  behind [] (r ∷ tree) all is = absurd (let e = is in cc)
  behind (x ∷ xs) [] all is = absurd (let e = is in cc)
  behind (x ∷ xs) ([] ∷ tree) all is = absurd (let e = all.0 in cc)
  behind (x ∷ xs) ((v ∷ r) ∷ tree) all is =
      let head : r ≡ row x = let e = is in cc in
      let rest : map row xs ≡ map (drop 1) tree = let e = is in cc in
      let later = behind xs tree all.1 rest in
      ((v, x) ∷ later.0, ap₂ ◌∷◌ (ap (λ l. v ∷ l) head) later.1, ap (λ l. x ∷ l) later.2)

  uncovered : (xs : List X) (tree : List Row) → HasHidden row xs tree
      → (seen : List (Hidden X)) × IsPermutation tree (map hidden_row seen) × (map typed seen ≡ xs)
  uncovered xs tree t =
      let from = pull_back (drop 1) (map (drop 1) tree) (map row xs) t.shown tree refl in
      let numbered = all-permutation (λ r. IsTrue (is_int (rowid r))) tree from.0 from.1 t.rowids.numbered in
      let seen = behind xs from.0 numbered from.2 in
      (seen.0, subst (IsPermutation tree) seen.1 from.1, seen.2)

  -- what is kept of them by a test of the typed rows
  kept_typed : (keep : X → Bool) (seen : List (Hidden X)) (xs : List X) → map typed seen ≡ xs
      → map typed (filter (λ h. keep h.1) seen) ≡ filter keep xs
  kept_typed keep seen xs is = sym (filter-map keep typed seen) ∙ ap (filter keep) is

  covered : (seen : List (Hidden X)) → map (drop 1) (map hidden_row seen) ≡ map row (map typed seen)
  covered seen = map-map (drop 1) hidden_row seen ∙ sym (map-map row typed seen)

-- ---- what an INSERT makes of them

pub inserts_hidden : {X : Type 0} (row : X → Row) (x : X) (id : ℤ) (xs : List X) (tree : List Row)
    → are_fresh tree ((Int id ∷ row x) ∷ []) ≡ true → HasHidden row xs tree
    → HasHidden row (xs ++ x ∷ []) (put_row (Int id ∷ row x) tree)
inserts_hidden row x id xs tree free t = record {
  shown = put_hidden row x (Int id) tree xs free t.shown;
  rowids = put_rowids id (row x) tree free t.rowids;
}

pub rises_typed : {A B : Type 0} (f : A → B) (n : B → ℕ) (xs : List A) → IsNonDecreasingBy (λ x. n (f x)) xs
    → IsNonDecreasingBy n (map f xs)
rises_typed f n [] up i j d low high = absurd (omega (arith, high))
rises_typed f n (x ∷ xs) up i j d low high =
    let long = length-map (x ∷ xs) f in
    let here = up i j x low (omega (arith, long, high)) in
    subst₂ (λ a b. n a ≤ n b) (sym (get_or-map f (x ∷ xs) i x d (omega (arith, long, low, high))))
    (sym (get_or-map f (x ∷ xs) j x d (omega (arith, long, high)))) here

-- ---- the rows that pass some tests, which no rowid decides

module _ {X : Type 0} (row : X → Row) (params : Row) (tests : List Term) (test : X → Bool)
    (passed : (id : Value) (x : X) → passes params tests (id ∷ row x) ≡ test x) where
  -- what a DELETE of them leaves
  pub deletes_hidden : (xs : List X) (tree found : List Row) → HasHidden row xs tree
      → IsPermutation (map (shows params (col 1 0 ∷ [])) (filter (passes params tests) tree)) found
      → HasHidden row (filter (λ x. not (test x)) xs) (without_all tree (ids_of found))
  deletes_hidden xs tree found t all =
      let p = passes params tests in
      let these : IsPermutation (map (λ r. id_in (rowid r)) (filter p tree)) (ids_of found) =
      subst (λ l. IsPermutation l (ids_of found))
      (map-map (λ r. id_in (rowid r)) (shows params (col 1 0 ∷ [])) (filter p tree))
      (IsPermutation-map (λ r. id_in (rowid r)) _ _ all) in
      let left : without_all tree (ids_of found) ≡ filter (λ r. not (p r)) tree =
      left_in_table tree t.rowids p (ids_of found) these in
      let seen = uncovered row xs tree t in
      let others = filter (λ (h : Hidden X). not (test h.1)) seen.0 in
      let kept : IsPermutation (filter (λ r. not (p r)) tree) (map (hidden_row row) others) =
      subst (IsPermutation (filter (λ r. not (p r)) tree))
      (filtered (hidden_row row) (λ r. not (p r)) (λ (h : Hidden X). not (test h.1)) (λ h. ap not (passed h.0 h.1))
      seen.0) (IsPermutation-filter (λ r. not (p r)) _ _ seen.1) in
      record {
        shown = subst₂ (λ rows xs. IsPermutation (map (drop 1) rows) xs) (sym left)
            (covered row others ∙ ap (map row) (kept_typed row (λ x. not (test x)) seen.0 xs seen.2))
            (IsPermutation-map (drop 1) _ _ kept);
        rowids = left_rowids (ids_of found) tree t.rowids;
      }

  -- how many a SELECT finds
  pub counts_hidden : (shown : List Term) (xs : List X) (tree found : List Row) → HasHidden row xs tree
      → IsPermutation (map (shows params shown) (filter (passes params tests) tree)) found
      → length found ≡ length (filter test xs)
  counts_hidden shown xs tree found t all =
      let seen = uncovered row xs tree t in
      let these = filter (λ (h : Hidden X). test h.1) seen.0 in
      let same = finds (hidden_row row) params tests shown (λ (h : Hidden X). test h.1) (λ h. passed h.0 h.1) tree
      seen.0 found seen.1 all in
      length_permutation _ found same ∙ length-map these _ ∙ sym (length-map these (typed row))
      ∙ ap length (kept_typed row test seen.0 xs seen.2)

  -- what a SELECT shows of them, in the order of a column
  module _ (shown : List Term) (show : X → Row) (number : X → ℕ) (t at : ℕ) (limit : Value)
      (showing : (id : Value) (x : X) → shows params shown (id ∷ row x) ≡ show x)
      (numbered : (id : Value) (x : X) → column (id ∷ row x) at ≡ Int (pos (number x))) where
    pub ordered_hidden : (schema : Schema) (db : Trees) (xs : List X) (found : List Row) → HasHidden row xs (db t)
        → Answers (record { schema = schema; trees = db })
        (record { lets = []; body = sorted_by t at tests shown limit }) params found
        → ShowsInOrder number test show (as_count limit) xs found
    ordered_hidden schema db xs found tree h =
        let seen = uncovered row xs (db t) tree in
        let it = ordered_rows (hidden_row row) (λ (h : Hidden X). number h.1) t at tests shown params limit
        (λ (h : Hidden X). test h.1) (λ h. passed h.0 h.1) (λ h. numbered h.0 h.1) schema db seen.0 found seen.1 h in
        let some = limited (as_count limit) it.0 in
        let shown_are : map (λ (h : Hidden X). shows params shown (hidden_row row h)) some
        ≡ map show (map (typed row) some) =
        (λ i. map (λ (h : Hidden X). showing h.0 h.1 i) some) ∙ sym (map-map show (typed row) some) in (
          map (typed row) it.0,
          subst (λ l. IsPermutation l (map (typed row) it.0)) (kept_typed row test seen.0 xs seen.2)
              (IsPermutation-map (typed row) _ _ it.1),
          rises_typed (typed row) number it.0 it.2,
          it.3 ∙ shown_are ∙ ap (map show) (sym (limited-map (typed row) (as_count limit) it.0)),
        )
