-- A row that is put where its rowid is free.
use Rattle.std.proofs.Common.{◌≡◌, List, [], ◌∷◌, ◌++◌, map, drop, Bool, true, false, not, ◌&&◌, ◌||◌, refl, ap, subst}
use Rattle.std.specs.declared.cmp.Ordering.{Ordering}
use Rattle.std.specs.declared.cmp.Ordering.TheVariants.{Less, Equal, Greater}
use Rattle.std.specs.Ordering.{is_eq, match_ordering}
use Rattle.std.specs.List.Sorted.{IsPermutation}
use Rattle.std.proofs.lemmas.List.Sorted.{IsPermutation-refl, IsPermutation-cons, IsPermutation-append_comm}
use Rattle.std.proofs.lemmas.List.Sorted.{IsPermutation-append, IsPermutation-map, IsPermutation-trans}
use Rattle.sqlite.specs.declared.types.Value.{Value}
use Rattle.sqlite.specs.Order.{Row}
use Rattle.sqlite_value.specs.Order.{value_cmp}
use Rattle.sqlite.specs.Tree.{put_row, rowid}
use Rattle.sqlite_rules.specs.Edit.{is_taken, are_fresh}

-- neither is taken
neither : (a b : Bool) → not (a || b) && true ≡ true → (a ≡ false) × (not b && true ≡ true)
neither false b e = (refl, e)
neither true b e = absurd (let f = e in cc)

placed : (new r : Row) (rs : List Row) (o : Ordering) → is_eq o ≡ false
    → IsPermutation (put_row new rs) (rs ++ new ∷ [])
    → IsPermutation (match_ordering o (r ∷ put_row new rs) (new ∷ rs) (new ∷ r ∷ rs)) (r ∷ rs ++ new ∷ [])
placed new r rs Less free rest = IsPermutation-cons r _ _ rest
placed new r rs Equal free rest = absurd (let f = free in cc)
placed new r rs Greater free rest = IsPermutation-append_comm (new ∷ []) (r ∷ rs)

pub put_fresh : (new : Row) (rows : List Row) → are_fresh rows (new ∷ []) ≡ true
    → IsPermutation (put_row new rows) (rows ++ new ∷ [])
put_fresh new [] free = IsPermutation-refl _
put_fresh new (r ∷ rs) free =
    let both = neither (is_eq (value_cmp (rowid r) (rowid new))) (is_taken rs new) free in
    placed new r rs (value_cmp (rowid r) (rowid new)) both.0 (put_fresh new rs both.1)

pub map_last : {X Y : Type 0} (f : X → Y) (xs : List X) (x : X) → map f xs ++ f x ∷ [] ≡ map f (xs ++ x ∷ [])
map_last f [] x = refl
map_last f (y ∷ ys) x = ap (λ zs. f y ∷ zs) (map_last f ys x)

-- a typed row more
pub put_typed : {X : Type 0} (row : X → Row) (new : X) (tree : List Row) (xs : List X)
    → are_fresh tree (row new ∷ []) ≡ true → IsPermutation tree (map row xs)
    → IsPermutation (put_row (row new) tree) (map row (xs ++ new ∷ []))
put_typed row new tree xs free same =
    subst (IsPermutation (put_row (row new) tree)) (map_last row xs new)
    (IsPermutation-trans _ _ _ (put_fresh (row new) tree free)
    (IsPermutation-append tree (map row xs) (row new ∷ []) (row new ∷ []) same (IsPermutation-refl _)))

map_append : {X Y : Type 0} (f : X → Y) (xs ys : List X) → map f (xs ++ ys) ≡ map f xs ++ map f ys
map_append f [] ys = refl
map_append f (x ∷ xs) ys = ap (λ zs. f x ∷ zs) (map_append f xs ys)

-- a typed row more, behind a rowid that nobody sees
pub put_hidden : {X : Type 0} (row : X → Row) (new : X) (id : Value) (tree : List Row) (xs : List X)
    → are_fresh tree ((id ∷ row new) ∷ []) ≡ true → IsPermutation (map (drop 1) tree) (map row xs)
    → IsPermutation (map (drop 1) (put_row (id ∷ row new) tree)) (map row (xs ++ new ∷ []))
put_hidden row new id tree xs free same =
    let moved = subst (IsPermutation (map (drop 1) (put_row (id ∷ row new) tree)))
    (map_append (drop 1) tree ((id ∷ row new) ∷ []))
    (IsPermutation-map (drop 1) _ _ (put_fresh (id ∷ row new) tree free)) in
    subst (IsPermutation (map (drop 1) (put_row (id ∷ row new) tree))) (map_last row xs new)
    (IsPermutation-trans _ _ _ moved (IsPermutation-append (map (drop 1) tree) (map row xs) (row new ∷ [])
    (row new ∷ []) same (IsPermutation-refl _)))
