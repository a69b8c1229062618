-- A query that reads a whole tree answers in the order of its key.
use Rattle.std.proofs.Common.{◌≡◌, ◌<◌, ◌+◌, ℕ, false, List, [], ◌∷◌, map, filter, length, get_or, is_lt, sym, ap, ap₂}
use Rattle.std.proofs.Common.{subst, subst₂, ◌∙◌, arith, IsSorted}
use Rattle.std.proofs.lemmas.List.{length-map, get_or-map}
use Rattle.sqlite.specs.Order.{Row}
use Rattle.sqlite.specs.Term.{Term}
use Rattle.sqlite.specs.Tree.{Trees}
use Rattle.sqlite.specs.Schema.{Schema}
use Rattle.sqlite.specs.Effect.{Answers}
use Rattle.sqlite.specs.Query.{IsAnswer, Output, output, output_cmp}
use Rattle.sqlite.specs.Program.{overlay}
use Rattle.sqlite.specs.declared.types.Value.TheVariants.{Null}
use Rattle.sqlite_value.specs.Order.{column, value_cmp}
use Rattle.sqlite_value.proofs.OrderLemmas.{then-Equal}
use Rattle.sqlite_trees.proofs.ListLemmas.{pull_back}
use Rattle.spool_sql.proofs.SelectLemmas.{map_map}
use Rattle.spool_sql.proofs.UpdateLemmas.{matched, passes, shows}
use Rattle.sound_tables.specs.Tables.{AreByFirst}
use Rattle.sound_tables.proofs.Texts.{whole}

-- the key of the tree is shown first
abbrev pub ShowsKey : List Term → Type 0
ShowsKey shown = (r : Row) → column (shows [] shown r) 0 ≡ column r 0

module _ (t : ℕ) (shown : List Term) (first : ShowsKey shown) where
  abbrev shown_of : Row → Row
  shown_of = shows [] shown

  abbrev out : Row → Output
  out r = output (whole t shown) ([] ∷ r ∷ [])

  out_order : (r s : Row) → output_cmp (whole t shown) (out r) (out s) ≡ value_cmp (column (shown_of r) 0)
      (column (shown_of s) 0)
  out_order r s = then-Equal (value_cmp (column r 0) (column s 0)) ∙ sym (ap₂ value_cmp (first r) (first s))

  stand_by_first : (all : List Row) → IsSorted (output_cmp (whole t shown)) (map out all)
      → AreByFirst (map shown_of all)
  stand_by_first all up k d low high =
      let as_many = length-map all shown_of in
      let outs = length-map all out in
      let l : k + 1 < length all = omega (arith, as_many, high) in
      let here : is_lt (output_cmp (whole t shown) (get_or (map out all) (k + 1) (out d))
      (get_or (map out all) k (out d))) ≡ false = up k (out d) low (omega (arith, outs, l)) in
      let each = subst₂ (λ x y. is_lt (output_cmp (whole t shown) x y) ≡ false) (get_or-map out all (k + 1) d (out d) l)
      (get_or-map out all k d (out d) (omega (arith, l))) here in
      ap₂ (λ r s. is_lt (value_cmp (column r 0) (column s 0))) (get_or-map shown_of all (k + 1) d d l)
      (get_or-map shown_of all k d d (omega (arith, l)))
      ∙ (ap is_lt (sym (out_order (get_or all (k + 1) d) (get_or all k d))) ∙ each)

  pub by_first : (schema : Schema) (db : Trees) (rows : List Row) → Answers (record { schema = schema; trees = db })
      (record { lets = []; body = whole t shown }) [] rows → AreByFirst rows
  by_first schema db rows h =
      let a : IsAnswer (whole t shown) (overlay db []) [] rows = h.answer Null in
      let these = filter (passes [] []) (overlay db [] t) in
      let kept : a.kept ≡ map out these = a.distinct ∙ ap (map (output (whole t shown)))
      (a.grouped ∙ matched [] [] (overlay db [] t)) ∙ map_map (λ r. [] ∷ r ∷ []) (output (whole t shown)) these in
      let all = pull_back out a.kept a.ordered a.same these kept in
      let are : rows ≡ map shown_of all.0 = a.shown ∙ ap (map (λ (o : Output). o.1)) all.2
      ∙ map_map out (λ (o : Output). o.1) all.0 in
      subst AreByFirst (sym are) (stand_by_first all.0 (subst (IsSorted (output_cmp (whole t shown))) all.2 a.sorted))
