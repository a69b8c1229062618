-- What the key of deliveries says of a row that is put.
use Rattle.std.proofs.Common.{◌≡◌, ◌==◌, ◌&&◌, ◌||◌, ℕ, pos, List, [], ◌∷◌, ◌++◌, map, bytes_eq, Bool, true, false, not}
use Rattle.std.proofs.Common.{Some, is_eq, refl, sym, ap, ap₂, subst, ◌∙◌, arith}
use Rattle.std.specs.List.{AllByRecursion, list_any}
use Rattle.std.specs.List.Sorted.{IsPermutation}
use Rattle.std.specs.Ordering.{is_ne}
use Rattle.std.proofs.lemmas.Bool.Decides.{nat_tests}
use Rattle.std.proofs.lemmas.List.Sorted.{list_any-IsPermutation, IsPermutation-sym}
use Rattle.std.proofs.lemmas.Slice.Eq.{bytes_eq-Decides}
use Rattle.sqlite.specs.Order.{Row}
use Rattle.sqlite.specs.declared.types.Value.TheVariants.{Int}
use Rattle.sqlite_value.specs.Keys.{first_key, plain}
use Rattle.sqlite_value.specs.Order.{value_cmp}
use Rattle.sqlite_value.proofs.OrderLemmas.{value_cmp-Int}
use Rattle.sqlite_trees.specs.Tree.{Trees, put_row, rowid, with_tree}
use Rattle.sqlite_trees.proofs.ListLemmas.{all_weaker, all-map, all-permutation}
use Rattle.sqlite_trees.proofs.TreeLemmas.{all-put_row}
use Rattle.sqlite_sql.specs.Ops.{binary, from_truth, is_true}
use Rattle.sqlite_schema.specs.declared.schema.Constraint.TheVariants.{Unique}
use Rattle.sqlite_schema.specs.Rules.{Keeps, agree, clashes, differ}
use Rattle.sqlite_catalog.specs.Listing.{IsSound}
use Rattle.sqlite_rules.specs.Edit.{are_fresh, is_taken}
use Rattle.sqlite_rules.proofs.ListLemmas.{all_has}
use Rattle.sqlite_rules.proofs.TableLemmas.{has_put}
use Rattle.relay_types.specs.Rows.{Rows, DeliveryRow}
use Rattle.spool_sql.specs.Tables.{relay_schema}
use Rattle.spool_sql.specs.Stored.{delivery_stored, has_id, is_delivery}
use Rattle.spool_sql.proofs.SelectLemmas.{and_true, equal_ints, equal_numbers, equal_texts}
use Rattle.spool_sql.proofs.TypedLemmas.{put_typed}

-- ---- two rows of deliveries

told : (b : Bool) → is_true (from_truth (Some b)) ≡ b
told true = refl
told false = refl

differ_numbers : (m n : ℕ) → differ (Int (pos m)) (Int (pos n)) ≡ not (m == n)
unfolding binary
differ_numbers m n = told _ ∙ ap is_ne (value_cmp-Int (pos m) (pos n)) ∙ grind (arith, nat_tests)

-- the row of the first keeps that of the second out
abbrev blocks : Row → Row → Bool
blocks row other = agree plain (2 ∷ 3 ∷ []) other (2 ∷ 3 ∷ []) row && differ (rowid other) (rowid row)

regrouped : {a b c x y z : Bool} → a ≡ x → b ≡ y → c ≡ z → ((a && (b && true)) && c) ≡ ((x && y) && z)
regrouped {a} {b} {c} p q r =
    ap₂ (λ u v. (a && u) && v) (and_true b) refl ∙ ap₂ (λ u v. u && v) (ap₂ (λ u v. u && v) p q) r

blocks_is : (e d : DeliveryRow) → blocks (delivery_stored d) (delivery_stored e)
    ≡ (is_delivery d.endpoint d.id e && not (e.seq == d.seq))
unfolding first_key
blocks_is e d = regrouped (equal_numbers e.endpoint d.endpoint) (equal_texts e.id d.id) (differ_numbers e.seq d.seq)

-- ---- tests that no element passes

none_of : {X : Type 0} (p : X → Bool) (xs : List X) → list_any p xs ≡ false → AllByRecursion (λ x. p x ≡ false) xs
none_of p [] none = tt
none_of p (x ∷ xs) none =
    let both = neither (p x) (list_any p xs) none in (both.0, none_of p xs both.1)
  where
    neither : (a b : Bool) → (a || b) ≡ false → (a ≡ false) × (b ≡ false)
    neither false b e = (refl, e)
    neither true b e = absurd (let f = e in cc)

any_of : {X : Type 0} (p : X → Bool) (xs : List X) → AllByRecursion (λ x. p x ≡ false) xs → list_any p xs ≡ false
any_of p [] none = refl
any_of p (x ∷ xs) none = ap₂ (λ a b. a || b) none.0 (any_of p xs none.1)

any_stored : {X : Type 0} (stored : X → Row) (p : Row → Bool) (q : X → Bool) → ((x : X) → p (stored x) ≡ q x)
    → (xs : List X) → list_any p (map stored xs) ≡ list_any q xs
any_stored stored p q same [] = refl
any_stored stored p q same (x ∷ xs) = ap₂ (λ a b. a || b) (same x) (any_stored stored p q same xs)

no_blocker : (a b : Bool) → a ≡ false → (a && b) ≡ false
no_blocker false b e = refl
no_blocker true b e = absurd (let f = e in cc)

never_itself : (a : Bool) (n : ℕ) → (a && not (n == n)) ≡ false
never_itself true n = grind (arith, nat_tests)
never_itself false n = refl

-- the pair of an event is also a pair of the other
same_pair : (d e : DeliveryRow) → is_delivery e.endpoint e.id d ≡ is_delivery d.endpoint d.id e
same_pair d e =
    ap₂ (λ a b. a && b) (grind (arith, nat_tests)) (turned (bytes_eq d.id e.id) (bytes_eq e.id d.id) refl refl)
  where
    turned : (a b : Bool) → bytes_eq d.id e.id ≡ a → bytes_eq e.id d.id ≡ b → bytes_eq d.id e.id ≡ bytes_eq e.id d.id
    turned true b p q = p ∙ sym ((bytes_eq-Decides e.id d.id).1 (sym ((bytes_eq-Decides d.id e.id).0 p)))
    turned false false p q = p ∙ sym q
    turned false true p q =
        absurd (let yes = (bytes_eq-Decides d.id e.id).1 (sym ((bytes_eq-Decides e.id d.id).0 q)) in let no = p in cc)

module _ (db : Trees) (rows : Rows) (are : IsPermutation (db 5) (map delivery_stored rows.deliveries)) (d : DeliveryRow)
  where
    abbrev new : Row
    new = delivery_stored d

    -- each row of the tree passes what each typed row does
    each_row : (P : Row → Type 0) → AllByRecursion (λ (e : DeliveryRow). P (delivery_stored e)) rows.deliveries
        → AllByRecursion P (db 5)
    each_row P all = all-permutation P (map delivery_stored rows.deliveries) (db 5) (IsPermutation-sym _ _ are)
        (all-map P delivery_stored rows.deliveries all)

    -- ---- a row whose pair is new keeps the key

    module _ (unknown : has_id rows d.endpoint d.id ≡ false) where
      apart : AllByRecursion (λ (e : DeliveryRow). is_delivery d.endpoint d.id e ≡ false) rows.deliveries
      apart = none_of (is_delivery d.endpoint d.id) rows.deliveries unknown

      not_blocked : AllByRecursion (λ row. blocks new row ≡ false) (db 5)
      not_blocked = each_row (λ row. blocks new row ≡ false)
          (all_weaker _ (λ (e : DeliveryRow). blocks new (delivery_stored e) ≡ false)
          (λ e other. blocks_is e d ∙ no_blocker _ _ other) rows.deliveries apart)

      not_blocking : AllByRecursion (λ row. blocks row new ≡ false) (db 5)
      not_blocking = each_row (λ row. blocks row new ≡ false)
          (all_weaker _ (λ (e : DeliveryRow). blocks (delivery_stored e) new ≡ false)
          (λ e other. blocks_is d e ∙ no_blocker _ _ (same_pair d e ∙ other)) rows.deliveries apart)

      -- no row of the tree with the new one has another with its key
      passes_with : (row : Row) → blocks row new ≡ false → AllByRecursion (λ other. blocks row other ≡ false) (db 5)
          → not (clashes plain (2 ∷ 3 ∷ []) (put_row new (db 5)) row) && true ≡ true
      passes_with row first all =
          ap (λ b. not b && true) (any_of (blocks row) (put_row new (db 5))
          (all-put_row (λ other. blocks row other ≡ false) new (db 5) first all))

      old_apart : AllByRecursion (λ row. not (clashes plain (2 ∷ 3 ∷ []) (db 5) row) && true ≡ true) (db 5)
          → AllByRecursion (λ row. not (clashes plain (2 ∷ 3 ∷ []) (put_row new (db 5)) row) && true ≡ true) (db 5)
      old_apart kept = both_apart (db 5) kept not_blocking
        where
          cleared : (b : Bool) → not b && true ≡ true → b ≡ false
          cleared false e = refl
          cleared true e = absurd (let f = e in cc)

          both_apart : (some : List Row)
              → AllByRecursion (λ row. not (clashes plain (2 ∷ 3 ∷ []) (db 5) row) && true ≡ true) some
              → AllByRecursion (λ row. blocks row new ≡ false) some
              → AllByRecursion (λ row. not (clashes plain (2 ∷ 3 ∷ []) (put_row new (db 5)) row) && true ≡ true) some
          both_apart [] all none = tt
          both_apart (row ∷ some) all none =
              (passes_with row none.0 (none_of (blocks row) (db 5) (cleared _ all.0)), both_apart some all.1 none.1)

      pub keeps_unique : IsSound relay_schema db → Keeps Unique relay_schema (with_tree db 5 (put_row new (db 5)))
      keeps_unique sound =
          let old = sound.obeys.rules Unique in
          let itself = passes_with new (blocks_is d d ∙ never_itself _ d.seq) not_blocked in
          let news = all-put_row (λ row. not (clashes plain (2 ∷ 3 ∷ []) (put_row new (db 5)) row) && true ≡ true) new
          (db 5) itself (old_apart old.1.1.1.0) in
          (old.0, (old.1.0, (old.1.1.0, (news, (old.1.1.1.1.0, (old.1.1.1.1.1.0, tt))))))

    -- ---- and a row that was put has a new pair

    pub is_unknown : (after : Trees) → IsSound relay_schema after → after 5 ≡ put_row new (db 5)
        → are_fresh (db 5) (new ∷ []) ≡ true → has_id rows d.endpoint d.id ≡ false
    is_unknown after sound is fresh = unseen rows.deliveries (old_ones rows.deliveries among) free
      where
        unblocked : list_any (blocks new) (put_row new (db 5)) ≡ false
        unblocked =
            let all = subst (λ tree.
            AllByRecursion (λ row. not (clashes plain (2 ∷ 3 ∷ []) tree row) && true ≡ true) tree) is
            (sound.obeys.rules Unique).1.1.1.0 in
            cleared _ (all_has (λ row. not (clashes plain (2 ∷ 3 ∷ []) (put_row new (db 5)) row) && true ≡ true)
            (put_row new (db 5)) new all (has_put new (db 5)))
          where
            cleared : (b : Bool) → not b && true ≡ true → b ≡ false
            cleared false e = refl
            cleared true e = absurd (let f = e in cc)

        among : list_any (λ (e : DeliveryRow). is_delivery d.endpoint d.id e && not (e.seq == d.seq))
            (rows.deliveries ++ d ∷ []) ≡ false
        among =
            sym (list_any-IsPermutation (blocks new) _ _ (put_typed delivery_stored d (db 5) rows.deliveries fresh are)
            ∙ any_stored delivery_stored (blocks new)
            (λ (e : DeliveryRow). is_delivery d.endpoint d.id e && not (e.seq == d.seq)) (λ e. blocks_is e d)
            (rows.deliveries ++ d ∷ []))
            ∙ unblocked

        free : list_any (λ (e : DeliveryRow). e.seq == d.seq) rows.deliveries ≡ false
        free =
            sym (list_any-IsPermutation (λ r. is_eq (value_cmp (rowid r) (rowid new))) _ _ are
            ∙ any_stored delivery_stored (λ r. is_eq (value_cmp (rowid r) (rowid new)))
            (λ (e : DeliveryRow). e.seq == d.seq)
            (λ e. ap is_eq (value_cmp-Int (pos e.seq) (pos d.seq)) ∙ equal_ints e.seq d.seq) rows.deliveries)
            ∙ not_taken (is_taken (db 5) new) fresh
          where
            not_taken : (b : Bool) → not b && true ≡ true → b ≡ false
            not_taken false e = refl
            not_taken true e = absurd (let f = e in cc)

        old_ones : (some : List DeliveryRow)
            → list_any (λ (e : DeliveryRow). is_delivery d.endpoint d.id e && not (e.seq == d.seq)) (some ++ d ∷ [])
            ≡ false
            → list_any (λ (e : DeliveryRow). is_delivery d.endpoint d.id e && not (e.seq == d.seq)) some ≡ false
        old_ones [] none = refl
        old_ones (e ∷ some) none =
            let all = none_of (λ (e : DeliveryRow). is_delivery d.endpoint d.id e && not (e.seq == d.seq))
            (e ∷ some ++ d ∷ []) none in
            ap₂ (λ a b. a || b) all.0 (old_ones some (any_of _ (some ++ d ∷ []) all.1))

        unseen : (some : List DeliveryRow)
            → list_any (λ (e : DeliveryRow). is_delivery d.endpoint d.id e && not (e.seq == d.seq)) some ≡ false
            → list_any (λ (e : DeliveryRow). e.seq == d.seq) some ≡ false
            → list_any (is_delivery d.endpoint d.id) some ≡ false
        unseen [] none lacks = refl
        unseen (e ∷ some) none lacks =
            let all = none_of (λ (e : DeliveryRow). is_delivery d.endpoint d.id e && not (e.seq == d.seq)) (e ∷ some)
            none in
            let others = none_of (λ (e : DeliveryRow). e.seq == d.seq) (e ∷ some) lacks in
            ap₂ (λ a b. a || b) (first _ _ all.0 others.0) (unseen some (any_of _ some all.1) (any_of _ some others.1))
          where
            first : (a b : Bool) → (a && not b) ≡ false → b ≡ false → a ≡ false
            first false b e lacks = refl
            first true false e lacks = absurd (let f = e in cc)
            first true true e lacks = absurd (let f = lacks in cc)
