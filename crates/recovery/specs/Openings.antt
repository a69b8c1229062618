-- What an opening gives.
use Rattle.std.specs.Prelude.{◌≡◌, ◌⊎◌, Bool, false, IsTrue}
use Rattle.sqlite.specs.Store.{Ghosts}
use Rattle.sqlite.specs.Held.{Held}
use Rattle.sqlite.specs.Schema.{Schema}
use Rattle.spool_sql.specs.Steps.{IfClean}
use Rattle.spool_sql.specs.Tables.{no_schema}
use Rattle.spool.specs.Opening.{has_ours, IsBack, LeavesAt}
use Rattle.spool.specs.declared.faults.OpenFault.{OpenFault}
use Rattle.spool.specs.declared.faults.OpenFault.TheVariants.{NotOurs, Store}
use Rattle.spool.specs.declared.faults.OpenFault.TheVariants.{OutOfMemory}

-- The store is new, and has no table, no index and no view.
abbrev pub IsNewStore : Bool → Schema → Type 0
IsNewStore is_new schema = IsTrue is_new × (schema ≡ no_schema)

-- Why a store without tables wasn't opened. A table of ours is told as such, or memory was refused before the look at
-- the store.
abbrev pub IsRefusedAs : Schema → OpenFault → Type 0
IsRefusedAs schema NotOurs = IsTrue (has_ours schema)
IsRefusedAs schema OutOfMemory = Unit {0}
IsRefusedAs schema (Store cause) = has_ours schema ≡ false
IsRefusedAs schema _ = ⊥

-- The connection is as it was, or its store has what the vault's opening leaves at this refusal.
abbrev pub LeavesOr : {S : Type 0} → Ghosts S → (old new : Held S) → OpenFault → Type 0
LeavesOr g old new fault = (new ≡ old) ⊎ IfClean g old new (λ a b. LeavesAt a b fault)

-- The connection is as it was, or if its store is still open, all tables are as the last commit left them.
abbrev pub KeepsOr : {S : Type 0} → Ghosts S → (old new : Held S) → Type 0
KeepsOr g old new = (new ≡ old) ⊎ IfClean g old new (λ a b. IsTrue b.is_open → IsBack a b)
