-- Records in one transaction that is committed, and what a stop leaves.
use Rattle.std.proofs.Common.{◌≡◌, ◌⊎◌, inl, inr, ℕ, Bool, true, false, List, ◌++◌, Result, Ok, IfOk, IfErr, IsTrue}
use Rattle.std.proofs.Common.{refl, sym, subst, ◌∙◌, arith}
use Rattle.sqlite.specs.declared.error.Error.{Error}
use Rattle.sqlite.specs.Tree.{Trees}
use Rattle.sqlite.specs.State.{State, HasCleanDisk, IsUnchanged, KeepsCommit, Survives}
use Rattle.sqlite.specs.Steps.{FailsToCommit}
use Rattle.sqlite.specs.Store.{Ghosts}
use Rattle.sqlite.specs.Held.{Held, state}
use Rattle.sqlite.proofs.StateLemmas.{survives_then}
use Rattle.sqlite.proofs.Callers.{survives_begin}
use Rattle.relay_types.specs.declared.record.Record.{Record}
use Rattle.relay_types.specs.Legal.{IsLegal}
use Rattle.relay_types.specs.Rows.{Rows, rows_of}
use Rattle.spool_sql.specs.Readable.{IsRefusal}
use Rattle.spool_sql.specs.Stored.{IsTables}
use Rattle.spool_sql.specs.Steps.{MayLeave, Spares, Stands}
use Rattle.spool_sql.proofs.RefusalLemmas.{of_failure}
use Rattle.spool_sql.proofs.StepLemmas.{leaves_commit, leaves_along, stands_along}
use Rattle.spool_sql.proofs.BothRefused.{refusal_since, refusal_until}
use Rattle.spool.specs.Vaults.{HoldsAt}
use Rattle.spool.specs.Books.{KeepsOpen}
use Rattle.spool_write.specs.Entering.{EntersWhole}
use Rattle.spool.specs.Writing.{AsksForLook, Commits, CommitsAll, HasCause, IsCause, LeavesAsBefore}
use Rattle.spool.specs.Writing.{StaysAs, Rests, RestsInDoubt, WriteEndsAs, IsUnwritten, ReportsWrite}
use Rattle.spool.specs.declared.transaction.WriteEnd.{WriteEnd}
use Rattle.spool.specs.declared.transaction.WriteEnd.TheVariants.{Committed, Illegal, OutOfMemory, Doubtful}

pub survives_all : {S : Type 0} (g : Ghosts S) (old : Held S) (mid new : State) (next : ℕ) (entries : List Record)
    (legal : Bool) → IsTrue legal → Spares (state g (record old { in_transaction = true })) mid
    → (HasCleanDisk mid → EntersWhole (state g (record old { in_transaction = true })) mid next entries legal)
    → Survives mid new (λ db. db ≡ mid.now.trees) → Survives (state g old) new (CommitsAll (state g old) next entries)
survives_all g old mid new next entries legal is s made ended =
    survives_then (state g old) mid new _ _ (CommitsAll (state g old) next entries) (λ _ db none. absurd none)
    (λ clean db now records at.
    let whole = made (omega (arith, clean, ended.clean)) in (
      sym (whole.judges records at.legal at.next at.stands.now) ∙ is,
      rw now (whole.makes is records at.legal at.next at.stands.now).tables,
    ))
    (survives_begin g old mid _ s.survives) ended

-- a refused commit is rolled back
pub back_along : {S : Type 0} (g : Ghosts S) (old : Held S) (mid new : State) (e : Error) → IsTrue mid.in_transaction
    → KeepsCommit (state g (record old { in_transaction = true })) mid
    → FailsToCommit mid new e → IsTrue new.is_open → StaysAs (state g old) new
back_along g old mid new e inside kept (inl fails) is_open rows at =
    let back = fails.3 in
    let undone = back.undone is_open in
    let same = kept.committed (back.was_open is_open) in
    record {
      is_open = is_open;
      autocommit = back.autocommit;
      now = subst (λ d. IsTables d rows) (sym (undone.0 ∙ same)) at.committed;
      committed = subst (λ d. IsTables d rows) (sym (undone.1 ∙ same)) at.committed;
    }
back_along g old mid new e inside kept (inr late) is_open rows at = absurd (let a = inside in let b = late.1 in cc)

abbrev IsSettled : State → Type 0
IsSettled s = (db : Trees) → IsTrue s.is_open → s.may_leave db → db ≡ s.committed.trees

rests_along : (old mid new : State) (rows : Rows) → StaysAs old mid → IsUnchanged mid new → IsSettled new
    → Stands old rows → Rests new rows
rests_along old mid new rows stays same settled stands =
    let now = stands_along mid new rows (stays rows stands) same in
    (now, leaves_commit new rows now settled)

ends_illegal : (old mid new : State) (next : ℕ) (entries : List Record) (legal : Bool)
    → Commits old mid next entries legal → legal ≡ false → StaysAs old mid → IsUnchanged mid new → IsSettled new
    → WriteEndsAs old new next entries Illegal
ends_illegal old mid new next entries legal turns is stays same settled records at = (
  λ yes. absurd (let no = sym (turns.judges records at) ∙ is in let h = yes in cc),
  rests_along old mid new (rows_of records) stays same settled at.stands,
)

leaves_all : (a b : State) (next : ℕ) (entries records : List Record) → Survives a b (CommitsAll a next entries)
    → HasCleanDisk b → HoldsAt a next records → IsSettled a
    → MayLeave b (λ r. (r ≡ rows_of records) ⊎ (IsLegal (records ++ entries) × (r ≡ rows_of (records ++ entries))))
leaves_all a b next entries records s clean at settled db may = elim (s.crash clean db may) [
  | inl was ↦ (rows_of records, inl refl, rw (settled db at.stands.is_open was) at.stands.committed.tables)
  | inr new ↦ let now = new records at in (rows_of (records ++ entries), inr (now.0, refl), now.1)
]

-- a transaction whose end isn't known wasn't seen to be committed
not_seen : (mid new : State) (tried : Result Bool Error) (error : Error) → ReportsWrite mid new tried (Doubtful error)
    → tried ≡ Ok true → ⊥
not_seen mid new tried error (inl (failed, other, same)) made = absurd (let e = sym failed ∙ made in cc)
not_seen mid new tried error (inr (asks, fails)) made = absurd (let e = subst AsksForLook made asks in cc)

doubts_all : (a b c : State) (next : ℕ) (entries : List Record) → Survives a b (CommitsAll a next entries)
    → Survives b c (λ _. ⊥) → HasCleanDisk c → IsSettled a
    → (IsTrue c.is_open → IsTrue b.is_open × StaysAs b c) → (IsTrue b.is_open → StaysAs a b) → (records : List Record)
    → HoldsAt a next records → RestsInDoubt c records entries
doubts_all a b c next entries s probed clean settled looked undone records at =
    let early : HasCleanDisk b = omega (arith, clean, probed.clean) in
    record {
      leaves = leaves_along b c _ probed clean (leaves_all a b next entries records s early at settled);
      stands = λ is_open. let (was_open, stays) = looked is_open in
          stays (rows_of records) (undone was_open (rows_of records) at.stands);
    }

-- how the write ends, by what is told of the transaction
pub ends_told : (old mid new : State) (next : ℕ) (entries : List Record) (tried : Result Bool Error) (told : WriteEnd)
    → IfOk tried (Commits old mid next entries)
    → ((tried ≡ Ok true → ⊥) → IsTrue mid.is_open → StaysAs old mid) → Survives old mid (CommitsAll old next entries)
    → Survives mid new (λ _. ⊥) → HasCleanDisk new
    → ReportsWrite mid new tried told → (told ≡ Committed → StaysAs mid new) → (IsUnwritten told → IsUnchanged mid new)
    → KeepsOpen mid new → IsSettled old → IsSettled new → WriteEndsAs old new next entries told
ends_told old mid new next entries tried Committed turns undone first later clean told made same looked was_settled
    settled = λ records at.
    let turned : Commits old mid next entries true = subst (λ t. IfOk t (Commits old mid next entries)) told turns in
    let now = made refl (rows_of (records ++ entries)) (turned.makes refl records at) in
    (sym (turned.judges records at), (now, leaves_commit new (rows_of (records ++ entries)) now settled))
ends_told old mid new next entries tried Illegal turns undone first later clean told made same looked was_settled
    settled =
    let turned : Commits old mid next entries false = subst (λ t. IfOk t (Commits old mid next entries)) told turns in
    let unchanged = same tt in
    ends_illegal old mid new next entries false turned refl
    (undone (λ yes. absurd (let a = sym told ∙ yes in cc)) unchanged.0.was_open) unchanged settled
ends_told old mid new next entries tried OutOfMemory turns undone first later clean told made same looked was_settled
    settled = λ rows stands.
    let unchanged = same tt in
    rests_along old mid new rows (undone (λ yes. absurd (let a = sym told.1 ∙ yes in cc)) unchanged.0.was_open)
    unchanged settled stands
ends_told old mid new next entries tried (Doubtful error) turns undone first later clean told made same looked
    was_settled settled = doubts_all old mid new next entries first later clean was_settled looked
    (undone (not_seen mid new tried error told))

-- ---- why it isn't known how the write ended

pub commit_refused : {S : Type 0} (g : Ghosts S) (old : Held S) (mid new : State) (e : Error) {P : Trees → Type 0}
    → IsTrue mid.in_transaction → Spares (state g (record old { in_transaction = true })) mid
    → FailsToCommit mid new e → Survives mid new P → HasCleanDisk new → IsRefusal (state g old) new e
commit_refused g old mid new e inside spares (inl fails) ended clean =
    refusal_since (state g old) mid new (survives_begin g old mid _ spares.survives) ended clean e
    (of_failure mid new e fails)
commit_refused g old mid new e inside spares (inr late) ended clean = absurd (let a = inside in let b = late.1 in cc)

pub leaves_before : (a b : State) → Survives a b (λ _. ⊥) → HasCleanDisk b → LeavesAsBefore a b
leaves_before a b survives clean db may = elim (survives.crash clean db may) [ inl was ↦ was | inr none ↦ absurd none ]

module _ {P : Trees → Type 0} (a m b : State) (early : Survives a m P) (late : Survives m b (λ _. ⊥))
    (clean : HasCleanDisk b) where
  pub caused_until : (error : Error) → b.blamed ≡ m.blamed → IsCause a m error → IsCause a b error
  caused_until error same (inl refusal) = inl (refusal_until a m b late same error refusal)
  caused_until error same (inr before) = inr (λ db may. before db (leaves_before m b late clean db may))

  pub caused : (tried : Result Bool Error) (told : WriteEnd) → (HasCleanDisk m → IfErr tried (IsCause a m))
      → ReportsWrite m b tried told → HasCause a b told
  caused tried Committed cause is = tt
  caused tried Illegal cause is = tt
  caused tried OutOfMemory cause is = tt
  caused tried (Doubtful error) cause (inl (is, other, same)) =
      caused_until error same (subst (λ r. IfErr r (IsCause a m)) is (cause (omega (arith, clean, late.clean))))
  caused tried (Doubtful error) cause (inr (asks, fails)) =
      inl (refusal_since a m b early late clean error (of_failure m b error (fails clean)))
