-- What a look at a place finds, and what a guard keeps.
use Rattle.std.specs.Prelude.{◌≡◌, ◌++◌, ◌⊎◌, ℕ, false, IsSome, IsTrue, List, Option, Some, None}
use Rattle.std.specs.Prelude.{codes, string_bytes}
use Rattle.spool.specs.declared.faults.Unchanged.{Unchanged}
use Rattle.spool.specs.declared.faults.Unchanged.TheVariants as why
use Rattle.relay_host.specs.declared.place.FilePlace.{FilePlace}
use Rattle.relay_host.specs.declared.place.FileCheck.{FileCheck}
use Rattle.relay_host.specs.declared.place.FileCheck.TheVariants.{Stands, Gone, Unseen, OutOfMemory}
use Rattle.relay_host.specs.declared.file_guard.FileGuard.{FileGuard}

-- the look found nothing out about what is there
abbrev pub SawNothing : FileCheck → Type 0
SawNothing Stands = ⊥
SawNothing Gone = ⊥
SawNothing Unseen = Unit {0}
SawNothing OutOfMemory = Unit {0}

-- The place of the file at this path. Nothing is known of it yet. Its log is that of a database in
-- WAL mode.
pub record IsPlaceOf {F File Dir : Type 0} (path : List ℕ) (place : FilePlace F File Dir) : Type 0 where
  pub file_path : place.path.now ≡ path
  pub log_path : string_bytes place.log_path ≡ path ++ codes "-wal"
  pub file : place.is_known ≡ false
  pub log : place.log ≡ None

-- The paths stay the same. What is known of the file and of its log stays known. A look that found
-- something out makes the file known. One that didn't changes nothing.
pub record IsCheckOf {F File Dir : Type 0} (old new : FilePlace F File Dir) (check : FileCheck) : Type 0 where
  pub file_path : new.path ≡ old.path
  pub log_path : new.log_path ≡ old.log_path
  pub known : SawNothing check ⊎ IsTrue new.is_known
  pub file : IsTrue old.is_known → new.file ≡ old.file
  pub log : IsSome old.log → new.log ≡ old.log
  pub stands : check ≡ Stands → IsTrue new.is_known × IsSome new.file
  pub blind : SawNothing check → new ≡ old

-- Why a batch is handed back if a look finds this. It isn't if the file is there.
abbrev pub refusal_at : FileCheck → Option Unchanged
refusal_at Stands = None
refusal_at Gone = Some why.OutOfTurn
refusal_at Unseen = Some why.OutOfTurn
refusal_at OutOfMemory = Some why.OutOfMemory

module _ {K P : Type 0} where
  -- the keeper, whatever its place is
  abbrev pub keeper_of : FileGuard K P → K
  keeper_of guard = guard.keeper

  abbrev pub place_of : FileGuard K P → P
  place_of guard = guard.place

  -- what the last look found
  abbrev pub last_check_of : FileGuard K P → FileCheck
  last_check_of guard = guard.last_check
