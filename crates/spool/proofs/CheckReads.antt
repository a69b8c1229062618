-- What a check of the tables leaves, with the look at the store after it.
use Rattle.std.proofs.Common.{◌≡◌, ◌⊎◌, inl, inr, ℕ, false, Result, Ok, Err, IsTrue, sym, subst, ◌∙◌, arith}
use Rattle.std.specs.Prelude.{MatchResult}
use Rattle.sqlite.specs.State.{State, HasCleanDisk, IsRolledBack, IsUnchanged, Survives}
use Rattle.spool_sql.specs.Stored.{IsTables}
use Rattle.spool_sql.proofs.StepLemmas.{stands_along}
use Rattle.sound_tables.specs.declared.fault.TableFault.{TableFault}
use Rattle.spool.specs.Adopting.{IsOnlyRead, LeavesRead, TellsCheck}
use Rattle.spool.specs.Books.{KeepsOpen}
use Rattle.spool.specs.Opening.{IsBack}
use Rattle.spool.specs.declared.faults.OpenFault.{OpenFault}
use Rattle.spool.specs.declared.faults.OpenFault.TheVariants.{NotOurs, NewerVersion, OldVersion, Damaged, Store}
use Rattle.spool.specs.declared.faults.OpenFault.TheVariants.{OutOfMemory}

pub same_keeps : (a b : State) → IsUnchanged a b → KeepsOpen a b
same_keeps a b same is_open = (same.0.was_open, λ rows stands. stands_along a b rows stands same)

back_keeps : (a b : State) → IsRolledBack a b → KeepsOpen a b
back_keeps a b back is_open = (
  back.was_open is_open,
  λ rows stands. record {
    is_open = is_open;
    autocommit = back.autocommit;
    now = subst (λ d. IsTables d rows) (sym (back.undone is_open).0) stands.committed;
    committed = subst (λ d. IsTables d rows) (sym (back.undone is_open).1) stands.committed;
  },
)

-- ---- the last commit stands after calls that wrote nothing

abbrev IsEnded : State → State → Type 0
IsEnded a b = IsUnchanged a b ⊎ IsRolledBack a b

pub was_open : (a b : State) → (IsTrue b.is_open → IsEnded a b) → IsTrue b.is_open → IsTrue a.is_open
was_open a b ended is_open = elim (ended is_open) [ inl same ↦ same.0.was_open | inr back ↦ back.was_open is_open ]

is_back : (a b : State) → a.in_transaction ≡ false → a.now ≡ a.committed → IsTrue b.is_open → IsEnded a b → IsBack a b
is_back a b mode settled is_open (inl same) = record {
  now = same.0.now_is ∙ settled;
  committed = same.0.committed_is;
  autocommit = same.0.mode ∙ mode;
}
is_back a b mode settled is_open (inr back) = record {
  now = (back.undone is_open).0;
  committed = (back.undone is_open).1;
  autocommit = back.autocommit;
}

pub back_then : (a m b : State) → IsBack a m → IsBack m b → IsBack a b
back_then a m b first later = record {
  now = later.now ∙ first.committed;
  committed = later.committed ∙ first.committed;
  autocommit = later.autocommit;
}

-- after a call that was undone
pub back_behind : (a m b : State) → (IsTrue m.is_open → IsBack a m) → (IsTrue b.is_open → IsEnded m b)
    → IsTrue b.is_open → IsBack a b
back_behind a m b first later is_open =
    let back = first (was_open m b later is_open) in
    back_then a m b back (is_back m b back.autocommit (back.now ∙ sym back.committed) is_open (later is_open))

module _ (a m b : State) (early : Survives a m (λ _. ⊥)) (late : Survives m b (λ _. ⊥)) (clean : HasCleanDisk b)
    (left : HasCleanDisk m → IsTrue m.is_open → IsUnchanged a m ⊎ IsRolledBack a m) where
  early_clean : HasCleanDisk m
  early_clean = omega (arith, clean, late.clean)

  first_keeps : KeepsOpen a m
  first_keeps is_open =
      elim (left early_clean is_open) [
        | inl same ↦ same_keeps a m same is_open
        | inr back ↦ back_keeps a m back is_open
      ]

  only_read : KeepsOpen m b → IsOnlyRead a b
  only_read keeps = record {
    stays = λ is_open.
        let later = keeps is_open in
        let before = first_keeps later.0 in
        (before.0, λ rows stands. later.1 rows (before.1 rows stands));
    leaves = λ db may.
        elim (late.crash clean db may) [
          | inl was ↦ elim (early.crash early_clean db was) [ inl first ↦ first | inr none ↦ absurd none ]
          | inr none ↦ absurd none
        ];
  }

  read_same : IsUnchanged m b → IsOnlyRead a b
  read_same same = only_read (same_keeps m b same)

  read_back : IsRolledBack m b → IsOnlyRead a b
  read_back back = only_read (back_keeps m b back)

  pub check_read : (checked : Result ℕ TableFault) (result : Result ℕ OpenFault) → TellsCheck m b checked result
      → MatchResult result (λ _. IsOnlyRead a b) (LeavesRead a b)
  check_read checked (Ok records) told = read_same told.1
  check_read checked (Err NotOurs) told = (read_same told.1, told.1.0.is_open)
  check_read checked (Err NewerVersion) told = (read_same told.1, told.1.0.is_open)
  check_read checked (Err OldVersion) told = (read_same told.1, told.1.0.is_open)
  check_read checked (Err Damaged) told = (read_same told.1, told.1.0.is_open)
  check_read checked (Err OutOfMemory) (inl told) = read_same told.1
  check_read checked (Err OutOfMemory) (inr (error, is, fails)) = read_back fails.3
  check_read checked (Err (Store error)) (inl told) = only_read told.1
  check_read checked (Err (Store error)) (inr (is, fails)) = read_back fails.3

  pub check_back : a.in_transaction ≡ false → (IsTrue a.is_open → a.now ≡ a.committed)
      → (IsTrue b.is_open → IsEnded m b) → IsTrue b.is_open → IsBack a b
  check_back mode settled = back_behind a m b
      (λ is_open. is_back a m mode (settled (was_open a m (left early_clean) is_open)) is_open
      (left early_clean is_open))
