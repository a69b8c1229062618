-- A table that is read page by page, in the order of its numbers; which error of the store stands for a row's fault.
use Rattle.std.specs.Prelude.{◌≡◌, ◌+◌, ◌≤◌, List, [], ◌∷◌, ◌++◌}
use Rattle.relay_types.specs.declared.limits.TheConstants.{MAX_RECORDS}
use Rattle.relay_types.specs.Values.{Seq}
use Rattle.sqlite.specs.declared.error.Error.{Error}
use Rattle.sqlite.specs.declared.error.Error.TheVariants.{SqliteFailure}
use Rattle.sqlite.specs.declared.error.ErrorCode.TheVariants.{DatabaseCorrupt}
use Rattle.spool_sql.specs.declared.row.RowFault.{RowFault}
use Rattle.spool_sql.specs.declared.row.RowFault.TheVariants.{Failed, Unreadable}

-- the numbers rise, from this one on and below that one
abbrev pub IsRising : {X : Type 0} → (number : X → Seq) → (from upto : Seq) → List X → Type 0
IsRising number from upto [] = from ≤ upto
IsRising number from upto (x ∷ xs) = (from ≤ number x) × IsRising number (number x + 1) upto xs

-- these rows of a table were read, and those that are left have numbers from this one on
pub record IsLeft {X : Type 0} (number : X → Seq) (from : Seq) (xs read left : List X) : Type 0 where
  pub parted : xs ≡ read ++ left
  pub before : IsRising number 0 from read
  pub behind : IsRising number from MAX_RECORDS left

-- some rows of a table come next after those before: what `old` says of those before, `new` says of both
abbrev pub ReadsOn : {X : Type 0} → (table : List X) → (old new : List X → Type 0) → (more : List X) → Type 0
ReadsOn table old new more = (before after : List _) → table ≡ before ++ (more ++ after) → old before
    → new (before ++ more)

-- some rows of a table come next after those before, of which so much is known
abbrev pub ComeNext : {X : Type 0} → (table : List X) → (old : List X → Type 0) → (more : List X) → Type 0
ComeNext {X} table old more = (before : List X) × (after : List X) × (table ≡ before ++ (more ++ after)) × old before

-- the error of the store as which a fault is told
abbrev pub error_of : RowFault → Error
error_of (Failed error) = error
error_of Unreadable = SqliteFailure DatabaseCorrupt
