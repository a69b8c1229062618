-- Why tables that have the rows of a legal history aren't adopted.
use Rattle.std.proofs.Common.{◌≡◌, inl, inr, ℕ, Result, Ok, Err, IfErr, refl, sym, subst, arith}
use Rattle.sqlite.specs.State.{State, HasCleanDisk, Survives}
use Rattle.sqlite.specs.declared.error.Error.{Error}
use Rattle.sqlite.specs.Effect.{Database}
use Rattle.relay_types.specs.Rows.{rows_of}
use Rattle.relay_types.proofs.KeyLaws.{legal_sound}
use Rattle.spool_sql.specs.Causes.{cause}
use Rattle.spool_sql.specs.Readable.{IsRefusal}
use Rattle.spool_sql.specs.declared.cause.Cause.{Cause}
use Rattle.spool_sql.specs.declared.cause.Cause.TheVariants as of
use Rattle.spool_sql.proofs.RefusalLemmas.{of_failure}
use Rattle.sound_tables.specs.Checks.{AreSoundFirstTables, AreSoundTables, IsOldRefusal, IsSoundRefusal}
use Rattle.sound_tables.specs.Checks.{RefusesFirst, RefusesOld, RefusesSound}
use Rattle.sound_tables.specs.declared.fault.TableFault.{TableFault}
use Rattle.sound_tables.specs.declared.fault.TableFault.TheVariants as table
use Rattle.spool_sql.proofs.BothRefused.{refusal_since, refusal_until}
use Rattle.sound_tables.proofs.RefusedLemmas.{not_other}
use Rattle.spool.specs.Adopting.{HaveFirstHistory, HaveHistory, IsOfStore, IsOldOrOfStore, IsToldAs, TellsCheck}
use Rattle.spool.specs.Adopting.{fault_by, fault_of}
use Rattle.spool.specs.declared.faults.OpenFault.{OpenFault}
use Rattle.spool.specs.declared.faults.OpenFault.TheVariants.{NotOurs, NewerVersion, OldVersion, Damaged, Store}
use Rattle.spool.specs.declared.faults.OpenFault.TheVariants.{OutOfMemory}

are_sound : (db : Database) (history : HaveHistory db) → AreSoundTables db (rows_of history.0)
are_sound db history = let laws = legal_sound history.0 history.1 in
    record { tables = history.2; keyed = laws.1; sound = laws.0 }

first_sound : (db : Database) (history : HaveFirstHistory db) → AreSoundFirstTables db (rows_of history.0)
first_sound db history = let laws = legal_sound history.0 history.1 in record
    { tables = history.2; keyed = laws.1; sound = laws.0 }

module _ (a m b : State) (early : Survives a m (λ _. ⊥)) (late : Survives m b (λ _. ⊥)) (clean : HasCleanDisk b) where
  by_cause : (error : Error) (why : Cause) → cause error ≡ why → IsRefusal a m error
      → IsOfStore a m (fault_by error why)
  by_cause error of.Memory is refusal = tt
  by_cause error of.Store is refusal = (is, refusal)
  by_cause error of.Other is refusal = absurd (not_other a m error refusal is)

  of_check : (fault : TableFault) → IsSoundRefusal a m fault → IsOfStore a m (fault_of fault)
  of_check table.NotOurs none = absurd none
  of_check table.NewerVersion none = absurd none
  of_check table.OldVersion none = absurd none
  of_check table.Damaged none = absurd none
  of_check (table.Failed error) refusal = by_cause error (cause error) refl refusal

  old_or : (told : OpenFault) → IsOfStore a m told → IsOldOrOfStore a m told
  old_or NotOurs none = none
  old_or NewerVersion none = none
  old_or OldVersion none = tt
  old_or Damaged none = none
  old_or (Store error) h = h
  old_or OutOfMemory h = tt

  of_old : (fault : TableFault) → IsOldRefusal a m fault → IsOldOrOfStore a m (fault_of fault)
  of_old table.NotOurs none = absurd none
  of_old table.NewerVersion none = absurd none
  of_old table.OldVersion old = tt
  of_old table.Damaged none = absurd none
  of_old (table.Failed error) refusal = old_or (fault_of (table.Failed error)) (of_check (table.Failed error) refusal)

  module _ (checked : Result ℕ TableFault) (refused : (fault : TableFault) → checked ≡ Err fault → IsSoundRefusal a m
      fault) where
    told_as : (told : OpenFault) → IsToldAs checked told → IsOfStore a m told
    told_as told (fault, is, same) = subst (IsOfStore a m) (sym same) (of_check fault (refused fault is))

    -- a check of such tables, and a look at the store after it
    check_told : (result : Result ℕ OpenFault) → TellsCheck m b checked result → IfErr result (IsOfStore a b)
    check_told (Ok records) told = tt
    check_told (Err NotOurs) told = told_as NotOurs told.0
    check_told (Err NewerVersion) told = told_as NewerVersion told.0
    check_told (Err OldVersion) told = told_as OldVersion told.0
    check_told (Err Damaged) told = told_as Damaged told.0
    check_told (Err OutOfMemory) told = tt
    check_told (Err (Store error)) (inl told) =
        let own = told_as (Store error) told.0 in
        (own.0, refusal_until a m b late told.2 error own.1)
    check_told (Err (Store error)) (inr (is, fails)) = (
      is,
      refusal_since a m b early late clean error
          (of_failure m b error fails),
    )

  module _ (checked : Result ℕ TableFault) (refused : (fault : TableFault) → checked ≡ Err fault → IsOldRefusal a m
      fault) where
    told_old : (told : OpenFault) → IsToldAs checked told → IsOldOrOfStore a m told
    told_old told (fault, is, same) = subst (IsOldOrOfStore a m) (sym same) (of_old fault (refused fault is))

    old_told : (result : Result ℕ OpenFault) → TellsCheck m b checked result → IfErr result (IsOldOrOfStore a b)
    old_told (Ok records) told = tt
    old_told (Err NotOurs) told = told_old NotOurs told.0
    old_told (Err NewerVersion) told = told_old NewerVersion told.0
    old_told (Err OldVersion) told = tt
    old_told (Err Damaged) told = told_old Damaged told.0
    old_told (Err OutOfMemory) told = tt
    old_told (Err (Store error)) (inl told) =
        let own = told_old (Store error) told.0 in
        (own.0, refusal_until a m b late told.2 error own.1)
    old_told (Err (Store error)) (inr (is, fails)) = (
      is,
      refusal_since a m b early late clean error
          (of_failure m b error fails),
    )

  -- what is said of a refused check, where it was refused
  said : (checked : Result ℕ TableFault) (P : TableFault → Type 0) → (HasCleanDisk m → IfErr checked P)
      → (fault : TableFault) → checked ≡ Err fault → P fault
  said checked P says fault is = subst (λ r. IfErr r P) is (says (omega (arith, clean, late.clean)))

  pub check_refused : (checked : Result ℕ TableFault) → HaveHistory a.now
      → (HasCleanDisk m → IfErr checked (RefusesSound a m)) → (result : Result ℕ OpenFault)
      → TellsCheck m b checked result
      → IfErr result (IsOfStore a b)
  check_refused checked history says = check_told checked
      (λ fault is. said checked (RefusesSound a m) says fault is (rows_of history.0) (are_sound a.now history))

  pub first_refused : (checked : Result ℕ TableFault) → HaveFirstHistory a.now
      → (HasCleanDisk m → IfErr checked (RefusesFirst a m)) → (result : Result ℕ OpenFault)
      → TellsCheck m b checked result
      → IfErr result (IsOfStore a b)
  first_refused checked history says = check_told checked
      (λ fault is. said checked (RefusesFirst a m) says fault is (rows_of history.0) (first_sound a.now history))

  pub old_refused : (checked : Result ℕ TableFault) → HaveFirstHistory a.now
      → (HasCleanDisk m → IfErr checked (RefusesOld a m)) → (result : Result ℕ OpenFault)
      → TellsCheck m b checked result
      → IfErr result (IsOldOrOfStore a b)
  old_refused checked history says = old_told checked (λ fault is. said checked (RefusesOld a m) says fault is
      (rows_of history.0) (first_sound a.now history))
