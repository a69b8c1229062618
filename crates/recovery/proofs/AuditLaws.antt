-- What an audit tells of a load that was refused.
use Rattle.std.proofs.Common.{◌≡◌, ◌∙◌, Err, List, IsTrue, inl, inr, refl, sym, ap}
use Rattle.sqlite.specs.Store.{Ghosts}
use Rattle.sqlite.specs.State.{State}
use Rattle.sqlite.specs.Held.{state}
use Rattle.sqlite.specs.declared.error.Error.{Error}
use Rattle.relay_types.specs.declared.record.Record.{Record}
use Rattle.spool_sql.specs.Causes.{cause}
use Rattle.spool_sql.specs.declared.cause.Cause.{Cause}
use Rattle.spool_sql.specs.declared.cause.Cause.TheVariants as of
use Rattle.spool_sql.specs.Readable.{WasRefusal}
use Rattle.spool_sql.proofs.RefusalLemmas.{has_failed}
use Rattle.spool_sql.specs.Steps.{IfClean}
use Rattle.spool.specs.Books.{IsLoadRefusal}
use Rattle.spool.specs.declared.faults.LoadFault.{LoadFault}
use Rattle.spool.specs.declared.faults.LoadFault.TheVariants as load
use Rattle.spool.specs.Vaults.{VaultValue, Holds}
use Rattle.desk.specs.Desks.{DeskValue}
use Rattle.recovery.specs.declared.audits.AuditFault.TheVariants.{Store}
use Rattle.recovery.specs.Audits.{HasRefused, TellsAudit, refusal_by, refusal_of}

-- what a read is refused for, if memory was at hand
has_refused : (old new : State) (error : Error) → (cause error ≡ of.Memory → ⊥) → WasRefusal old new error
    → HasRefused old new
has_refused old new error other (inl memory) = absurd (other (ap cause memory))
has_refused old new error other (inr (inl (fault, told, has))) = inl (has_failed old new fault has)
has_refused old new error other (inr (inr (told, limit))) = inr limit

module _ {S : Type 0} (g : Ghosts S) (old new : VaultValue S) (desk : DeskValue) where
  of_other : (error : Error) → (cause error ≡ of.Memory → ⊥)
      → IfClean g old.conn new.conn (λ a b. (history : List Record) → Holds g old history → WasRefusal a b error)
      → TellsAudit {X = Unit {0}} g old new desk (Err Store)
  of_other error other sound =
      inr (λ clean history held. has_refused (state g old.conn) (state g new.conn) error other
      (sound clean history held))

  of_cause : (error : Error) (why : Cause) → cause error ≡ why
      → IfClean g old.conn new.conn (λ a b. (history : List Record) → Holds g old history → WasRefusal a b error)
      → TellsAudit {X = Unit {0}} g old new desk (Err (refusal_by why))
  of_cause error of.Memory is sound = tt
  of_cause error of.Store is sound = of_other error (λ memory. let no = sym is ∙ memory in cc) sound
  of_cause error of.Other is sound = of_other error (λ memory. let no = sym is ∙ memory in cc) sound

  pub refused_load : (fault : LoadFault) → (fault ≡ load.Closed → IsTrue old.closed)
      → IfClean g old.conn new.conn (λ a b. (history : List Record) → Holds g old history → IsLoadRefusal a b fault)
      → TellsAudit {X = Unit {0}} g old new desk (Err (refusal_of fault))
  refused_load load.Closed closed sound = inl (closed refl)
  refused_load (load.Store error) closed sound = of_cause error (cause error) refl sound
  refused_load load.OutOfMemory closed sound = tt
