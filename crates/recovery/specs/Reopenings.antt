-- What the opening of a store that stands gives.
use Rattle.std.specs.Prelude.{◌⊎◌, ℕ, List, [], ◌∷◌, map, take, IsTrue}
use Rattle.sqlite.specs.Store.{Ghosts}
use Rattle.sqlite.specs.State.{State}
use Rattle.sqlite.specs.Effect.{Database}
use Rattle.sqlite.specs.Held.{Held}
use Rattle.relay_types.specs.Records.{History, records_of}
use Rattle.relay_types.specs.Legal.{IsLegal}
use Rattle.relay_types.specs.Rows.{Rows, rows_of}
use Rattle.relay_types.specs.Sound.{history_from}
use Rattle.spool_sql.specs.Readable.{WasRefusal}
use Rattle.spool.specs.Writing.{LeavesAsBefore}
use Rattle.spool.specs.Migrating.{AreSoundRows, HaveRows, IsUnmigrated, MayMigrate}
use Rattle.spool_load.specs.Loading.{greatest_of}
use Rattle.spool.specs.Vaults.{VaultValue, Holds}
use Rattle.spool.specs.declared.faults.OpenFault.{OpenFault}
use Rattle.spool.specs.declared.faults.OpenFault.TheVariants.{NewerVersion, Damaged, Store, OutOfMemory}
use Rattle.desk.specs.World.{World, all_records}
use Rattle.desk.specs.Moves.{opened}
use Rattle.desk.specs.Desks.{DeskValue, StandsFor}
use Rattle.recovery.specs.Left.{VaultStandsFor, FindsLeft}

-- the opening of a history: all of it is settled, nothing is out, no attempt is under way, and the clock stands at its
-- greatest moment
abbrev pub opening_of : History → World
opening_of history =
    opened history (greatest_of (rows_of (records_of history)).deliveries (rows_of (records_of history)).attempts)

-- desk and vault stand for the opening of the history
abbrev pub AreOpenedAt : {S : Type 0} → Ghosts S → DeskValue → VaultValue S → History → Type 0
AreOpenedAt g desk vault history = StandsFor desk (opening_of history) × VaultStandsFor g vault (opening_of history)

-- They do so of each history that the vault held, however its records are cut into steps.
abbrev pub OpensHeld : {S : Type 0} → Ghosts S → VaultValue S → DeskValue → VaultValue S → Type 0
OpensHeld g old desk new =
    (history : History) → Holds g old (records_of history) → AreOpenedAt g desk new history

-- the history of sound rows, each record a step of its own
abbrev pub steps_from : Rows → History
steps_from rows = map (λ entry. entry ∷ []) (history_from rows)

-- The tables, of either version, have sound rows, and desk and vault stand for the opening of their history, and of
-- each legal history that has these rows.
pub record IsReopened {S : Type 0} (g : Ghosts S) (db : Database) (desk : DeskValue)
    (vault : VaultValue S) : Type 0 where
  pub rows : Rows
  pub sound : AreSoundRows db rows
  pub stands : AreOpenedAt g desk vault (steps_from rows)
  pub each : (history : History) → IsLegal (records_of history) → HaveRows db (rows_of (records_of history))
      → AreOpenedAt g desk vault history

-- they stand for the opening of the first steps of the world, for one of these numbers of steps
abbrev pub AreOpenedAtOne : {S : Type 0} → Ghosts S → DeskValue → VaultValue S → World → (numbers : List ℕ) → Type 0
AreOpenedAtOne g desk vault w [] = ⊥
AreOpenedAtOne g desk vault w (steps ∷ others) = AreOpenedAt g desk vault (take steps w.history)
    ⊎ AreOpenedAtOne g desk vault w others

-- Of each world of a legal history: where the connection was opened on what a stop left of it, they stand for the
-- opening of what was left.
abbrev pub ReopensLeft : {S : Type 0} → Ghosts S → Held S → DeskValue → VaultValue S → Type 0
ReopensLeft g conn desk vault = (w : World) → IsLegal (all_records w) → FindsLeft g conn w
    → AreOpenedAtOne g desk vault w w.left

-- it was refused by the store or for memory
abbrev pub IsOfReading : OpenFault → Type 0
IsOfReading (Store cause) = Unit {0}
IsOfReading OutOfMemory = Unit {0}
IsOfReading other = ⊥

-- Memory was refused, the store failed under this name, or a query took more steps than the connection may.
abbrev pub IsReadingRefusal : (old new : State) → OpenFault → Type 0
IsReadingRefusal old new (Store cause) = WasRefusal old new cause
IsReadingRefusal old new OutOfMemory = Unit {0}
IsReadingRefusal old new other = ⊥

-- The same of tables of version 1, or nothing was written to the disk.
abbrev pub IsNotMigrated : (old new : State) → OpenFault → Type 0
IsNotMigrated old new (Store cause) = WasRefusal old new cause ⊎ LeavesAsBefore old new
IsNotMigrated old new OutOfMemory = Unit {0}
IsNotMigrated old new other = ⊥

-- it is the relay's by its meta, and isn't taken for its rows or its version
abbrev pub IsOfRows : OpenFault → Type 0
IsOfRows NewerVersion = Unit {0}
IsOfRows Damaged = Unit {0}
IsOfRows other = ⊥

-- Why the tables that stand weren't opened: as the vault says, or they are sound, and reading the books was refused.
abbrev pub IsUnopened : (old new : State) → OpenFault → Type 0
IsUnopened old new fault = IsUnmigrated old new fault ⊎ (IsOfReading fault × (rows : Rows) × AreSoundRows old.now rows)

-- the store was seen to be open, and what it had may be migrated
abbrev pub IsOpenBehind : (old new : State) → Type 0
IsOpenBehind old new = MayMigrate old new × IsTrue new.is_open
