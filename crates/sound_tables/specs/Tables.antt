-- What a whole table shows.
use Rattle.std.specs.Prelude.{List, [], ◌∷◌, Vec, Option, Some, None, map}
use Rattle.std.specs.declared.alloc.Global.{Global}
use Rattle.sqlite_value.specs.Order.{column, value_cmp}
use Rattle.std.specs.List.{AllByRecursion, AllZip}
use Rattle.std.specs.List.Sorted.{IsPermutation, IsSorted}
use Rattle.sqlite.specs.Order.{Row}
use Rattle.sound_tables.specs.Reading.{Shows}

-- the rows stand in the order of their first column
abbrev pub AreByFirst : List Row → Type 0
AreByFirst rows = IsSorted (λ r s. value_cmp (column r 0) (column s 0)) rows

-- each row shows one of these values, in the order of its first column, where a query shows so much of a row
abbrev pub HasShown : {X : Type 0} → Shows X → (of : Row → Row) → (tree : List Row) → List X → Type 0
HasShown shows of tree xs = (rows : List Row) × IsPermutation (map of tree) rows × AllZip shows rows xs
    × AreByFirst rows

-- not every row shows a value
abbrev pub LacksShown : {X : Type 0} → Shows X → (of : Row → Row) → (tree : List Row) → Type 0
LacksShown shows of tree = ¬ AllByRecursion (λ r. (x : _) × shows (of r) x) tree

-- reading the whole table gives this answer
abbrev pub Yields : {X : Type 0} → Shows X → (of : Row → Row) → (tree : List Row) → Option (Vec X Global) → Type 0
Yields shows of tree (Some xs) = HasShown shows of tree xs.items
Yields shows of tree None = LacksShown shows of tree

-- what is read of a row of each table

abbrev pub meta_columns : Row → Row
meta_columns r = column r 0 ∷ column r 2 ∷ column r 3 ∷ column r 4 ∷ []

abbrev pub endpoint_columns : Row → Row
endpoint_columns r = column r 0 ∷ column r 2 ∷ column r 3 ∷ column r 4 ∷ column r 5 ∷ column r 6 ∷ column r 7 ∷ []

abbrev pub secret_columns : Row → Row
secret_columns r = column r 0 ∷ column r 1 ∷ column r 2 ∷ column r 3 ∷ []

abbrev pub delivery_columns : Row → Row
delivery_columns r = column r 0 ∷ column r 2 ∷ column r 3 ∷ column r 4 ∷ column r 5 ∷ []

abbrev pub attempt_columns : Row → Row
attempt_columns r = column r 0 ∷ column r 2 ∷ column r 3 ∷ column r 4 ∷ column r 5 ∷ []

abbrev pub topic_columns : Row → Row
topic_columns r = column r 0 ∷ column r 1 ∷ column r 2 ∷ column r 3 ∷ column r 4 ∷ []
