-- What is left of a store in which the tables were to be made.
use Rattle.std.proofs.Common.{◌≡◌, inl, inr, false, IsTrue, refl, sym, subst, ◌∙◌, arith}
use Rattle.sqlite.specs.declared.error.Error.{Error}
use Rattle.sqlite.specs.Tree.{Trees}
use Rattle.sqlite.specs.State.{State, HasCleanDisk, IsUnchanged, Survives}
use Rattle.spool_sql.proofs.RefusalLemmas.{of_failure}
use Rattle.spool_sql.proofs.BothRefused.{refusal_since}
use Rattle.spool.specs.Writing.{IsCause}
use Rattle.spool.proofs.CommitLemmas.{caused_until}
use Rattle.spool.specs.Opening.{has_ours, IsBack, Founded, LeavesAt, TellsFault}
use Rattle.spool.specs.declared.faults.OpenFault.{OpenFault}
use Rattle.spool.specs.declared.faults.OpenFault.TheVariants.{NotOurs, NewerVersion, OldVersion, Damaged, Store}
use Rattle.spool.specs.declared.faults.OpenFault.TheVariants.{OutOfMemory}

abbrev IsSettled : State → Type 0
IsSettled s = (db : Trees) → IsTrue s.is_open → s.may_leave db → db ≡ s.committed.trees

-- why they weren't made
pub unmade : {P : Trees → Type 0} (old mid new : State) (error told : Error)
    → (HasCleanDisk mid → IsCause old mid error)
    → Survives old mid P → Survives mid new (λ _. ⊥) → HasCleanDisk new
    → TellsFault mid new error (Store told) → IsCause old new told
unmade old mid new error told cause first later clean (inl (is, other, same)) =
    caused_until old mid new first later clean told same
    (subst (IsCause old mid) (sym is) (cause (omega (arith, clean, later.clean))))
unmade old mid new error told cause first later clean (inr (asks, fails)) =
    inl (refusal_since old mid new first later clean told (of_failure mid new told (fails clean)))

-- a store in which the tables weren't made for this error
pub leaves_told : (old mid new : State) (error : Error) (fault : OpenFault) → has_ours old.now.schema ≡ false
    → (IsTrue mid.is_open → IsBack old mid) → (HasCleanDisk mid → IsCause old mid error)
    → Survives old mid (Founded old) → Survives mid new (λ _. ⊥) → HasCleanDisk new → TellsFault mid new error fault
    → (fault ≡ OutOfMemory → IsUnchanged mid new) → IsSettled new → LeavesAt old new fault
leaves_told old mid new error NotOurs free back cause first later clean told same settled = absurd told
leaves_told old mid new error NewerVersion free back cause first later clean told same settled = absurd told
leaves_told old mid new error OldVersion free back cause first later clean told same settled = absurd told
leaves_told old mid new error Damaged free back cause first later clean told same settled = absurd told
leaves_told old mid new error OutOfMemory free back cause first later clean told same settled =
    let unchanged = same refl in
    let was = back unchanged.0.was_open in
    record {
      is_open = unchanged.0.is_open;
      back = record {
        now = unchanged.0.now_is ∙ was.now;
        committed = unchanged.0.committed_is
            ∙ was.committed;
        autocommit = unchanged.0.mode ∙ was.autocommit;
      };
      leaves = λ db may. settled db unchanged.0.is_open may
          ∙ (λ i. ((unchanged.0.committed_is ∙ was.committed) i).trees);
    }
leaves_told old mid new error (Store fault) free back cause first later clean told same settled = (
  λ db may.
      let early : HasCleanDisk mid = omega (arith, clean, later.clean) in
      elim (later.crash clean db may) [
        | inl was ↦ elim (first.crash early db was) [ inl before ↦ inl before | inr made ↦ inr (free, made) ]
        | inr none ↦ absurd none
      ],
  unmade old mid new error fault cause first later clean told,
)
