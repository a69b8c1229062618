-- What a vault holds for a world, and what a stop may leave of its store.
use Rattle.std.specs.Prelude.{◌≡◌, ℕ, ◌⊎◌, false, List, [], ◌∷◌, take, IsTrue}
use Rattle.sqlite.specs.Store.{Ghosts}
use Rattle.sqlite.specs.State.{HasCleanDisk}
use Rattle.sqlite.specs.Held as store
use Rattle.relay_types.specs.declared.record.Record.{Record}
use Rattle.relay_types.specs.Records.{records_of}
use Rattle.relay_types.specs.Rows.{Rows, rows_of}
use Rattle.spool_sql.specs.Tables.{no_schema}
use Rattle.spool_sql.specs.Steps.{IsBegun, MayLeave, Stands}
use Rattle.spool.specs.Commits.{HoldsOnDisk}
use Rattle.spool.specs.Vaults.{VaultValue}
use Rattle.desk.specs.World.{World, Out, Nothing, Batch, Receipt, Doubt}

-- the store takes commits, holds these records, and a stop leaves them
abbrev pub IsOpenAt : {S : Type 0} → Ghosts S → VaultValue S → List Record → Type 0
IsOpenAt g vault records = (vault.closed ≡ false) × HoldsOnDisk g vault records

-- the records of the first so many steps, and their rows
abbrev pub records_of_first : World → (steps : ℕ) → List Record
records_of_first w steps = records_of (take steps w.history)

abbrev pub rows_of_first : World → (steps : ℕ) → Rows
rows_of_first w steps = rows_of (records_of_first w steps)

-- these are the rows of the first steps, for one of these numbers of steps
abbrev pub AreOfSteps : World → (numbers : List ℕ) → Rows → Type 0
AreOfSteps w [] rows = ⊥
AreOfSteps w (steps ∷ others) rows = (rows ≡ rows_of_first w steps) ⊎ AreOfSteps w others rows

-- these are rows that a stop may leave of the world
abbrev pub AreLeft : World → Rows → Type 0
AreLeft w = AreOfSteps w w.left

-- How many steps a stop may leave, by what is out: the settled ones, or the sealed ones once they are committed. A
-- doubt leaves either, also once a committer has given up.
abbrev pub LeavesBy : Out → World → Type 0
LeavesBy Nothing w = (w.left ≡ w.settled ∷ []) ⊎ (IsTrue w.halted × (w.left ≡ w.settled ∷ w.sealed ∷ []))
LeavesBy Batch w = w.left ≡ w.settled ∷ []
LeavesBy Receipt w = w.left ≡ w.sealed ∷ []
LeavesBy Doubt w = w.left ≡ w.settled ∷ w.sealed ∷ []

-- Where a stop may leave one number of steps, the store takes commits and holds these steps. Otherwise it takes none,
-- and if it is still open, the fewest of them stand.
abbrev pub HoldsLeft : {S : Type 0} → Ghosts S → VaultValue S → World → (left : List ℕ) → Type 0
HoldsLeft g vault w [] = ⊥
HoldsLeft g vault w (steps ∷ []) = IsOpenAt g vault (records_of_first w steps)
HoldsLeft g vault w (steps ∷ other ∷ more) =
    IsTrue vault.closed × MayLeave (store.state g vault.conn) (AreOfSteps w (steps ∷ other ∷ more))
    × (IsTrue (store.state g vault.conn).is_open → Stands (store.state g vault.conn) (rows_of_first w steps))

-- the store holds what a stop may leave
pub record VaultStandsFor {S : Type 0} (g : Ghosts S) (vault : VaultValue S) (w : World) : Type 0 where
  pub leaves : LeavesBy w.out w
  pub holds : HoldsLeft g vault w w.left

-- The connection was opened on what a stop left of the world, or outlived it: such rows stand.
abbrev pub FindsLeft : {S : Type 0} → Ghosts S → store.Held S → World → Type 0
FindsLeft g conn w = (rows : Rows) × AreLeft w rows × Stands (store.state g conn) rows

-- A stop leaves the rows of the first steps, for one of the numbers that the world says. Where there is but one, these
-- rows stand in the store, and if the connection is still open, such rows stand.
pub record KeepsRows {S : Type 0} (g : Ghosts S) (conn : store.Held S) (w : World) : Type 0 where
  pub leaves : MayLeave (store.state g conn) (AreLeft w)
  pub stand : (steps : ℕ) → w.left ≡ steps ∷ [] → Stands (store.state g conn) (rows_of_first w steps)
  pub finds : IsTrue (store.state g conn).is_open → FindsLeft g conn w

-- the connection's disk has returned what was written
abbrev pub IsCleanAt : {S : Type 0} → Ghosts S → store.Held S → Type 0
IsCleanAt g conn = HasCleanDisk (store.state g conn)

-- the store is open and has no table
abbrev pub HasNoTable : {S : Type 0} → Ghosts S → store.Held S → Type 0
HasNoTable g conn = IsBegun no_schema (store.state g conn).now
