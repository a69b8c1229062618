-- What one of two calls was refused for, both were.
use Rattle.std.proofs.Common.{◌≡◌, inl, inr, Bool, true, false, IsTrue, refl, sym, subst, arith}
use Rattle.std.specs.Prelude.{IsSome}
use Rattle.sqlite.specs.Tree.{Trees}
use Rattle.sqlite.specs.State.{State, HasCleanDisk, Survives}
use Rattle.sqlite.specs.declared.error.Error.{Error}
use Rattle.sqlite_trees.specs.View.{Tells}
use Rattle.sqlite_trees.specs.declared.error.StoreError.{StoreError}
use Rattle.sqlite_trees.specs.declared.error.StoreError.TheVariants as store
use Rattle.spool_sql.specs.Readable.{HasFailed, HasFault, IsRefusal, WasRefusal}

module _ {Q : Trees → Type 0} (a b c : State) (late : Survives b c Q) where
  fault_until : (fault : StoreError) → HasFault a b fault → HasFault a c fault
  fault_until store.OutOfMemory none = none
  fault_until store.Io failed = omega (arith, failed, late.counts)
  fault_until store.Corrupt failed = omega (arith, failed, late.counts)
  fault_until store.Full failed = omega (arith, failed, late.counts)
  fault_until store.Broken (inl failed) = inl (omega (arith, failed, late.counts))
  fault_until store.Broken (inr shut) = inr shut
  fault_until store.Unstorable none = none

  pub was_until : (error : Error) → WasRefusal a b error → WasRefusal a c error
  was_until error (inl memory) = inl memory
  was_until error (inr (inl (fault, told, has))) = inr (inl (fault, told, fault_until fault has))
  was_until error (inr (inr stopped)) = inr (inr stopped)

  -- where the store told no other fault since
  pub refusal_until : c.blamed ≡ b.blamed → (error : Error) → IsRefusal a b error → IsRefusal a c error
  refusal_until same error (inl memory) = inl memory
  refusal_until same error (inr (inl (fault, told, has, blamed))) = inr
      (inl (fault, told, fault_until fault has, subst (λ it. Tells it fault) (sym same) blamed))
  refusal_until same error (inr (inr stopped)) = inr (inr stopped)

module _ {P : Trees → Type 0} (a b c : State) (early : Survives a b P)
    (failed_since : HasFailed b c → HasFailed a c) where
  fault_since : (fault : StoreError) → HasFault b c fault → HasFault a c fault
  fault_since store.OutOfMemory none = none
  fault_since store.Io failed = omega (arith, failed, early.counts)
  fault_since store.Corrupt failed = omega (arith, failed, early.counts)
  fault_since store.Full failed = omega (arith, failed, early.counts)
  fault_since store.Broken failed = failed_since failed
  fault_since store.Unstorable none = none

module _ {P Q : Trees → Type 0} (a b c : State) (early : Survives a b P) (late : Survives b c Q)
    (clean : HasCleanDisk c) where
  failed_both : HasFailed b c → HasFailed a c
  failed_both (inl failed) = inl (omega (arith, failed, early.counts))
  failed_both (inr shut) = at a.is_open refl
    where
      at : (was_open : Bool) → a.is_open ≡ was_open → HasFailed a c
      at false is = inr is
      at true is =
          elim (early.closes (omega (arith, clean, late.clean)) is) [
            | inl still ↦ absurd (let yes = still in let no = shut in cc)
            | inr failed ↦ inl (omega (arith, failed, late.counts))
          ]

  pub refusal_since : (error : Error) → IsRefusal b c error → IsRefusal a c error
  refusal_since error (inl memory) = inl memory
  refusal_since error (inr (inl (fault, told, has, blamed))) = inr
      (inl (fault, told, fault_since a b c early failed_both fault has, blamed))
  refusal_since error (inr (inr stopped)) = inr (inr (stopped.0, subst IsSome early.limit stopped.1))

-- behind a call that left the store open
module _ {P : Trees → Type 0} (a b c : State) (early : Survives a b P) (is_open : IsTrue b.is_open) where
  failed_open : HasFailed b c → HasFailed a c
  failed_open (inl failed) = inl (omega (arith, failed, early.counts))
  failed_open (inr shut) = absurd (let yes = is_open in let no = shut in cc)

  pub was_since : (error : Error) → WasRefusal b c error → WasRefusal a c error
  was_since error (inl memory) = inl memory
  was_since error (inr (inl (fault, told, has))) = inr
      (inl (fault, told, fault_since a b c early failed_open fault has))
  was_since error (inr (inr stopped)) = inr (inr (stopped.0, subst IsSome early.limit stopped.1))
