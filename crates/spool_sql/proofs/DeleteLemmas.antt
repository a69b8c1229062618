-- What a DELETE leaves of a table whose rows are named by their rowids.
use Rattle.std.proofs.Common.{◌≡◌, ◌≤◌, ◌==◌, List, [], ◌∷◌, map, filter, length, Bool, true, not, refl, sym, ap}
use Rattle.std.proofs.Common.{subst, subst₂, ◌∙◌, arith}
use Rattle.std.specs.List.Sorted.{IsPermutation}
use Rattle.std.proofs.lemmas.Bool.{eq-eqb}
use Rattle.std.proofs.lemmas.List.Sorted.{IsPermutation-map, IsPermutation-sym, length_permutation}
use Rattle.sqlite_trees.proofs.ListLemmas.{IsPermutation-filter, map-map, pull_back}
use Rattle.sqlite.specs.Order.{Row}
use Rattle.sqlite.specs.Term.{Term, col}
use Rattle.sqlite.specs.Tree.{rowid, has_rowid}
use Rattle.sqlite_rules.specs.Lists.{Has}
use Rattle.sqlite_rules.specs.Edit.{id_in, without_all}
use Rattle.sqlite_rules.specs.Calls.{ids_of}
use Rattle.sqlite_rules.proofs.ListLemmas.{has_kept}
use Rattle.relay_types.specs.Rows.{AttemptRow}
use Rattle.spool_sql.specs.Stored.{HaveOwnNumbers, attempt_stored}
use Rattle.spool_sql.proofs.SelectLemmas.{filtered}
use Rattle.spool_sql.proofs.UpdateLemmas.{shows, passes}
use Rattle.spool_sql.proofs.ChangeLemmas.{has_image, left_over, one_at_most}
use Rattle.spool_sql.proofs.Changes.{has_number}

module _ {X : Type 0} (row : X → Row) (params : Row) (tests : List Term) (test : X → Bool)
    (passed : (x : X) → passes params tests (row x) ≡ test x)
    (own : (x : X) → has_rowid (id_in (rowid (row x))) (row x) ≡ true) where
  -- a row that has the rowid of one that passes does too
  abbrev pub AreAlone : List X → Type 0
  AreAlone xs = (x y : X) → Has xs x → Has xs y → test y ≡ true → has_rowid (id_in (rowid (row y))) (row x) ≡ true
      → test x ≡ true

  left_typed : (xs : List X) (found : List Row) → AreAlone xs
      → IsPermutation (map (shows params (col 1 0 ∷ [])) (filter (passes params tests) (map row xs))) found
      → without_all (map row xs) (ids_of found) ≡ map row (filter (λ x. not (test x)) xs)
  left_typed xs found alone all =
      let p = passes params tests in
      let ids : IsPermutation (map (λ r. id_in (rowid r)) (filter p (map row xs))) (ids_of found) =
      subst (λ l. IsPermutation l (ids_of found))
      (map-map (λ r. id_in (rowid r)) (shows params (col 1 0 ∷ [])) (filter p (map row xs)))
      (IsPermutation-map (λ r. id_in (rowid r)) _ _ all) in
      left_over p (map row xs) (ids_of found) ids
      (λ r there here. let x = has_image row xs r there in
      subst (λ s. has_rowid (id_in (rowid s)) s ≡ true) (sym x.2) (own x.0))
      (λ r s there other here tie.
      let x = has_image row xs r there in
      let y = has_image row xs s other in
      let y_passes : test y.0 ≡ true = sym (passed y.0) ∙ subst (λ z. p z ≡ true) y.2 here in
      let tied : has_rowid (id_in (rowid (row y.0))) (row x.0) ≡ true =
      subst₂ (λ a b. has_rowid (id_in (rowid a)) b ≡ true) y.2 x.2 tie in
      ap p x.2 ∙ passed x.0 ∙ alone x.0 y.0 x.1 y.1 y_passes tied)
      ∙ filtered row (λ r. not (p r)) (λ x. not (test x)) (λ x. ap not (passed x)) xs

  pub deleted_typed : (xs : List X) (tree found : List Row)
      → ((ys : List X) → IsPermutation xs ys → AreAlone ys) → IsPermutation tree (map row xs)
      → IsPermutation (map (shows params (col 1 0 ∷ [])) (filter (passes params tests) tree)) found
      → IsPermutation (without_all tree (ids_of found)) (map row (filter (λ x. not (test x)) xs))
  deleted_typed xs tree found alone are all =
      let to = pull_back row (map row xs) tree (IsPermutation-sym _ _ are) xs refl in
      let left : without_all tree (ids_of found) ≡ map row (filter (λ x. not (test x)) to.0) =
      ap (λ rows. without_all rows (ids_of found)) to.2
      ∙ left_typed to.0 found (alone to.0 to.1)
      (subst (λ rows. IsPermutation (map (shows params (col 1 0 ∷ [])) (filter (passes params tests) rows)) found) to.2
      all) in
      subst (λ rows. IsPermutation rows (map row (filter (λ x. not (test x)) xs))) (sym left)
      (IsPermutation-map row _ _ (IsPermutation-sym _ _ (IsPermutation-filter (λ x. not (test x)) _ _ to.1)))

-- attempts whose numbers differ are alone
pub attempts_alone : (test : AttemptRow → Bool) (xs : List AttemptRow) → HaveOwnNumbers xs → (ys : List AttemptRow)
    → IsPermutation xs ys → (x y : AttemptRow) → Has ys x → Has ys y → test y ≡ true
    → has_rowid (id_in (rowid (attempt_stored y))) (attempt_stored x) ≡ true → test x ≡ true
attempts_alone test xs once ys same x y there other here tie =
    let at = λ (a : AttemptRow). a.seq == y.seq in
    let long = length_permutation _ _ (IsPermutation-filter at xs ys same) in
    let few : length (filter at ys) ≤ 1 = omega (arith, long, once y.seq) in
    let one = one_at_most (filter at ys) x y few (has_kept at ys x there (sym (has_number x.seq y.seq) ∙ tie))
    (has_kept at ys y other (eq-eqb y.seq y.seq refl)) in
    subst (λ (a : AttemptRow). test a ≡ true) (sym one) here
