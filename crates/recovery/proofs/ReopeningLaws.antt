-- A store that stands is opened as what it holds, and a store that a stop left as what was left.
use Rattle.std.proofs.Common.{◌≡◌, ℕ, Result, Ok, Err, IfOk, IfErr, List, [], ◌∷◌, map, ◌++◌, take, drop, inl, inr}
use Rattle.std.proofs.Common.{refl, sym, ap, subst, ◌∙◌, append_assoc}
use Rattle.std.proofs.lemmas.List.{take-append-drop}
use Rattle.std.specs.Prelude.{IsTrue, MatchResult}
use Rattle.sqlite.specs.Store.{Ghosts}
use Rattle.sqlite.specs.State.{State, Survives}
use Rattle.sqlite.specs.declared.error.Error.TheVariants.{SqliteFailure}
use Rattle.sqlite.specs.declared.error.ErrorCode.TheVariants as code
use Rattle.sqlite.specs.Effect.{Database}
use Rattle.sqlite.specs.Tree.{Trees}
use Rattle.sqlite.specs.Held.{Held, state}
use Rattle.relay_types.specs.declared.record.Record.{Record}
use Rattle.relay_types.specs.Records.{History, records_of}
use Rattle.relay_types.specs.Legal.{IsLegal}
use Rattle.relay_types.specs.Rows.{Rows, rows_of}
use Rattle.relay_types.specs.Sound.{AreKeyed, are_sound, history_from}
use Rattle.relay_types.proofs.HistoryLaws.{of_a_history}
use Rattle.relay_types.proofs.KnownLaws.{legal_front}
use Rattle.spool_sql.proofs.RefusalLemmas.{was_refusal}
use Rattle.spool_sql.proofs.BothRefused.{was_since}
use Rattle.spool_sql.specs.Stored.{IsTables}
use Rattle.spool_sql.specs.Tables.{IsOwn}
use Rattle.spool.specs.Adopting.{IsOnlyRead, LeavesRead, IsOfStore, unloaded_fault}
use Rattle.spool.specs.Migrating.{HaveRows, IsMigrated, IsUnmade, LeavesMigrated, MayMigrate}
use Rattle.spool.specs.Books.{IsLoadRefusal, IsSeen}
use Rattle.spool.specs.declared.faults.LoadFault.{LoadFault}
use Rattle.spool.specs.declared.faults.LoadFault.TheVariants as load
use Rattle.spool.specs.declared.faults.OpenFault.{OpenFault}
use Rattle.spool.specs.declared.faults.OpenFault.TheVariants.{NotOurs, NewerVersion, OldVersion, Damaged, Store}
use Rattle.spool.specs.declared.faults.OpenFault.TheVariants.{OutOfMemory}
use Rattle.spool.specs.Vaults.{VaultValue}
use Rattle.desk.specs.World.{World, all_records}
use Rattle.desk.specs.Desks.{DeskValue}
use Rattle.recovery.specs.Left.{AreLeft, AreOfSteps}
use Rattle.recovery.specs.Reopenings.{AreOpenedAt, AreOpenedAtOne, IsNotMigrated, IsOfReading, IsReadingRefusal}
use Rattle.recovery.specs.Reopenings.{IsReopened, OpensHeld, ReopensLeft, steps_from}

records_of_each : (records : List Record) → records_of (map (λ entry. entry ∷ []) records) ≡ records
records_of_each [] = refl
records_of_each (entry ∷ records) = ap (λ rest. entry ∷ rest) (records_of_each records)

-- what was adopted, and the desk of what the vault holds
pub is_reopened : {S : Type 0} (g : Ghosts S) (db : Database) (vault : VaultValue S) (desk : DeskValue)
    (new : VaultValue S) → IsMigrated g db vault → OpensHeld g vault desk new → IsReopened g db desk new
is_reopened g db vault desk new adopted opens = record {
  rows = adopted.rows;
  sound = adopted.stand;
  stands = stands;
  each = each;
}
  where
    each : (history : History) → IsLegal (records_of history) → HaveRows db (rows_of (records_of history))
        → AreOpenedAt g desk new history
    each history legal have = opens history (adopted.holds (records_of history) legal have).0

    of_rows : AreKeyed adopted.rows → IsTrue (are_sound adopted.rows) → HaveRows db adopted.rows
        → AreOpenedAt g desk new (steps_from adopted.rows)
    of_rows keyed sound have =
        let law = of_a_history adopted.rows keyed sound in
        let same : history_from adopted.rows ≡ records_of (steps_from adopted.rows) =
        sym (records_of_each (history_from adopted.rows)) in
        each (steps_from adopted.rows) (subst IsLegal same law.0)
        (subst (λ (records : List Record). HaveRows db (rows_of records)) same
        (subst (HaveRows db) (sym law.1) have))

    stands : AreOpenedAt g desk new (steps_from adopted.rows)
    stands = elim adopted.stand [
      | inl second ↦ of_rows second.keyed second.sound (inl second.tables)
      | inr first ↦ of_rows first.keyed first.sound (inr first.tables)
    ]

records_of_both : (xs ys : History) → records_of (xs ++ ys) ≡ records_of xs ++ records_of ys
records_of_both [] ys = refl
records_of_both (x ∷ xs) ys = ap (λ rest. x ++ rest) (records_of_both xs ys)
    ∙ sym (append_assoc x (records_of xs) (records_of ys))

legal_first : (steps : ℕ) (history : History) → IsLegal (records_of history) → IsLegal (records_of (take steps history))
legal_first steps history legal = legal_front (records_of (take steps history)) (records_of (drop steps history))
    (subst IsLegal (ap records_of (sym (take-append-drop steps history))
    ∙ records_of_both (take steps history) (drop steps history)) legal)

-- what a stop left of a world is one of the legal histories of the rows
pub opens_one : {S : Type 0} (g : Ghosts S) (desk : DeskValue) (vault : VaultValue S) (w : World)
    → IsLegal (all_records w) → (rows : Rows) → AreLeft w rows
    → ((history : History) → IsLegal (records_of history) → rows ≡ rows_of (records_of history)
    → AreOpenedAt g desk vault history) → AreOpenedAtOne g desk vault w w.left
opens_one g desk vault w legal rows left opened = at w.left left
  where
    at : (numbers : List ℕ) → AreOfSteps w numbers rows → AreOpenedAtOne g desk vault w numbers
    at [] none = absurd none
    at (steps ∷ others) (inl is) = inl (opened (take steps w.history) (legal_first steps w.history legal) is)
    at (steps ∷ others) (inr of) = inr (at others of)

pub reopens_left : {S : Type 0} (g : Ghosts S) (conn : Held S) (desk : DeskValue) (vault : VaultValue S)
    → (IsOwn (state g conn).now.schema → IsReopened g (state g conn).now desk vault) → ReopensLeft g conn desk vault
reopens_left g conn desk vault opened w legal (rows, left, stands) =
    opens_one g desk vault w legal rows left (λ history of is. (opened (inr stands.now.schema_is)).each history of
    (inl (subst (IsTables (state g conn).now) is stands.now)))

-- What is known of an answer or of a refusal, with what a clause on both says of it

module _ {A E : Type 0} (P Q R : A → Type 0) (M : E → Type 0) where
  pub of_answer : (r : Result A E) → ((x : A) → P x → Q x → R x) → IfOk r P → MatchResult r Q M → IfOk r R
  of_answer (Ok x) then p q = then x p q
  of_answer (Err e) then p q = tt

module _ {A E : Type 0} (P Q R : E → Type 0) (M : A → Type 0) where
  pub of_refusal : (r : Result A E) → ((e : E) → P e → Q e → R e) → IfErr r P → MatchResult r M Q → IfErr r R
  of_refusal (Ok x) then p q = tt
  of_refusal (Err e) then p q = then e p q

module _ {A E : Type 0} (P R U : A → Type 0) (Q M V : E → Type 0) where
  pub of_both : (r : Result A E) → ((x : A) → P x → R x → U x) → ((e : E) → Q e → M e → V e) → MatchResult r P Q
      → MatchResult r R M → MatchResult r U V
  of_both (Ok x) answers refuses p r = answers x p r
  of_both (Err e) answers refuses q m = refuses e q m

-- what is said of a refusal, beside what is said of it and of an answer
module _ {A E : Type 0} (P : A → Type 0) (C Q : E → Type 0) where
  pub with_cause : (r : Result A E) → IfErr r C → MatchResult r P Q → MatchResult r P (λ e. C e × Q e)
  with_cause (Ok x) cause p = p
  with_cause (Err e) cause q = (cause, q)

-- A read after a migration

pub migrated_then : (a b c : State) → MayMigrate a b → IsOnlyRead b c → MayMigrate a c
migrated_then a b c first second = record {
  stays = λ is_open.
      let later = second.stays is_open in
      let before = first.stays later.0 in
      (before.0, λ rows stands. later.1 rows (before.1 rows stands));
  leaves = λ db may. first.leaves db (second.leaves db may);
}

pub leaves_then : (a b c : State) (fault : OpenFault) → IsOfReading fault → MayMigrate a b → LeavesRead b c fault
    → LeavesMigrated a c fault
leaves_then a b c NotOurs none first second = absurd none
leaves_then a b c NewerVersion none first second = absurd none
leaves_then a b c OldVersion none first second = absurd none
leaves_then a b c Damaged none first second = absurd none
leaves_then a b c (Store cause) reading first second = migrated_then a b c first second
leaves_then a b c OutOfMemory reading first second = migrated_then a b c first second

-- Why a store of a legal history isn't opened

pub of_reading : (a b : State) (fault : OpenFault) → IsOfStore a b fault → IsReadingRefusal a b fault
of_reading a b NotOurs none = none
of_reading a b NewerVersion none = none
of_reading a b OldVersion none = none
of_reading a b Damaged none = none
of_reading a b (Store cause) h = was_refusal a b cause h.1
of_reading a b OutOfMemory h = tt

pub unloaded : (a b : State) (fault : LoadFault) (told : OpenFault) → told ≡ unloaded_fault fault
    → (fault ≡ load.Closed → ⊥)
    → IsLoadRefusal a b fault → IsReadingRefusal a b told
unloaded a b load.Closed told same not_closed h = absurd (not_closed refl)
unloaded a b (load.Store error) told same not_closed h = subst (IsReadingRefusal a b) (sym same) h
unloaded a b load.OutOfMemory told same not_closed h = subst (IsReadingRefusal a b) (sym same) tt

-- a load that is reported as out of memory saw the store open
pub seen_open : (P : Type 0) (fault : LoadFault) (told : OpenFault) → told ≡ unloaded_fault fault → told ≡ OutOfMemory
    → (IsSeen (Err fault) → P) → P
seen_open P load.Closed told same memory seen = absurd (let no : Store (SqliteFailure code.Closed) ≡ OutOfMemory =
    sym same ∙ memory in cc)
seen_open P (load.Store error) told same memory seen = absurd (let no : Store error ≡ OutOfMemory = sym same
    ∙ memory in cc)
seen_open P load.OutOfMemory told same memory seen = seen tt

-- after a read that left the store open
module _ {P : Trees → Type 0} (a m b : State) (early : Survives a m P) (is_open : IsTrue m.is_open) where
  pub reading_since : (fault : OpenFault) → IsReadingRefusal m b fault → IsReadingRefusal a b fault
  reading_since NotOurs none = none
  reading_since NewerVersion none = none
  reading_since OldVersion none = none
  reading_since Damaged none = none
  reading_since (Store error) refusal = was_since a m b early is_open error refusal
  reading_since OutOfMemory h = tt

-- of tables of version 1, a refusal is that of a reading or of the migration
pub not_migrated : (a b : State) (fault : OpenFault) → IsReadingRefusal a b fault → IsNotMigrated a b fault
not_migrated a b NotOurs none = none
not_migrated a b NewerVersion none = none
not_migrated a b OldVersion none = none
not_migrated a b Damaged none = none
not_migrated a b (Store error) refusal = inl refusal
not_migrated a b OutOfMemory h = tt

pub of_migrating : (a b : State) (fault : OpenFault) → IsUnmade a b fault → IsNotMigrated a b fault
of_migrating a b NotOurs none = none
of_migrating a b NewerVersion none = none
of_migrating a b OldVersion none = none
of_migrating a b Damaged none = none
of_migrating a b (Store error) (inl refusal) = inl (was_refusal a b error refusal)
of_migrating a b (Store error) (inr before) = inr before
of_migrating a b OutOfMemory h = tt
