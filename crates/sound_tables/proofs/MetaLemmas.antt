-- The row of meta, as it is read.
use Rattle.std.proofs.Common.{◌≡◌, ◌≢◌, inr, ℕ, pos, suc, List, [], ◌∷◌, map, length, get_or, refl, sym, ap, subst}
use Rattle.std.proofs.Common.{arith, IsPermutation}
use Rattle.std.specs.List.{AllZip}
use Rattle.std.proofs.lemmas.List.Sorted.{length_permutation}
use Rattle.sqlite.specs.Order.{Row}
use Rattle.sqlite.specs.Effect.{Database}
use Rattle.sqlite_trees.proofs.ListLemmas.{all-permutation}
use Rattle.relay_types.specs.Rows.{Rows}
use Rattle.sound_tables.specs.Checks.{AreSoundAt, HasMeta, HasRecords, HasVersion, Refuses}
use Rattle.sound_tables.specs.Versions.{number_of}
use Rattle.sound_tables.specs.declared.version.Version.{Version}
use Rattle.sound_tables.specs.declared.fault.TableFault.TheVariants.{Damaged}
use Rattle.sound_tables.specs.Shown.{ShowsMeta}
use Rattle.sound_tables.specs.Tables.{HasShown, meta_columns}
use Rattle.sound_tables.specs.declared.meta.Meta.{Meta}

zip_length : (rows : List Row) (ms : List Meta) → AllZip ShowsMeta rows ms → length rows ≡ length ms
zip_length [] [] zip = refl
zip_length [] (m ∷ ms) zip = absurd zip
zip_length (r ∷ rows) [] zip = absurd zip
zip_length (r ∷ rows) (m ∷ ms) zip = ap suc (zip_length rows ms zip.1)

pub not_one : (db : Database) (ms : List Meta) → HasShown ShowsMeta meta_columns (db.trees 0) ms → length ms ≢ 1
    → (m : Meta) → ¬ HasMeta db m
not_one db ms shown many m has =
    let one : length (map meta_columns (db.trees 0)) ≡ 1 = ap (λ t. length (map meta_columns t)) has.1 in
    let same = length_permutation (map meta_columns (db.trees 0)) shown.0 shown.1 in
    let as_long = zip_length shown.0 ms shown.2 in
    many (omega (arith, one, same, as_long))

pub one_shown : (db : Database) (ms : List Meta) (d : Meta) → HasShown ShowsMeta meta_columns (db.trees 0) ms
    → length ms ≡ 1 → HasMeta db (get_or ms 0 d)
one_shown db [] d shown one = absurd (omega (arith, one))
one_shown db (m ∷ n ∷ ms) d shown one = absurd (omega (arith, one))
one_shown db (m ∷ []) d shown one = at (db.trees 0) shown.0 refl shown.1 shown.2
  where
    at : (tree rows : List Row) → db.trees 0 ≡ tree → IsPermutation (map meta_columns tree) rows
        → AllZip ShowsMeta rows (m ∷ []) → HasMeta db m
    at tree [] is same zip = absurd zip
    at tree (r ∷ s ∷ rows) is same zip = absurd zip.1
    at [] (r ∷ []) is same zip = absurd (let n = length_permutation [] (r ∷ []) same in omega (arith, n))
    at (row ∷ more ∷ tree) (r ∷ []) is same zip =
        absurd (let n = length_permutation (map meta_columns (row ∷ more ∷ tree)) (r ∷ []) same in omega (arith, n))
    at (row ∷ []) (r ∷ []) is same zip =
        let each = all-permutation (λ w. w ≡ meta_columns row) (meta_columns row ∷ []) (r ∷ []) same (refl, tt) in
        (row, is, subst (λ w. ShowsMeta w m) each.0 zip.0)

pub one_version : (n version : ℕ) → pos n ≡ pos version → version ≡ n
one_version n version same = let both : n ≡ version = cc in sym both

-- meta tells the version that is asked for
pub tells_version : (v : Version) (db : Database) (records : ℕ) → HasRecords (number_of v) db records
    → HasVersion db (λ version. version ≡ number_of v)
tells_version v db records has = (
  record { key = pos 1; version = pos (number_of v); records = pos records },
  has,
  number_of v,
  refl,
  refl,
)

-- tables of the version that is asked for, which have no sound rows
pub damaged : (v : Version) (db : Database) (records : ℕ) → HasRecords (number_of v) db records
    → ((rows : Rows) → ¬ AreSoundAt v db rows) → Refuses v (AreSoundAt v) db Damaged
damaged v db records has none = (
  (
    record { key = pos 1; version = pos (number_of v); records = pos records },
    has,
    λ version same. inr
        (one_version (number_of v) version same),
  ),
  none,
)
