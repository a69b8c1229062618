-- What a migration says of tables of version 1, by the check of six tables, of the five, and what comes after them.
use Rattle.std.proofs.Common.{◌≡◌, inl, inr, ℕ, Bool, true, false, Result, Ok, Err, IfErr, IfOk, IsTrue, OnOk}
use Rattle.std.proofs.Common.{refl, sym, subst}
use Rattle.std.specs.Prelude.{IsErr, MatchResult, OnErr}
use Rattle.sqlite.specs.Effect.{Database}
use Rattle.sqlite.specs.Schema.{Schema}
use Rattle.sqlite.specs.State.{State, HasCleanDisk, IsUnchanged, Survives}
use Rattle.sqlite.specs.Tree.{Trees}
use Rattle.relay_types.specs.Rows.{rows_of}
use Rattle.spool_sql.specs.Tables.{IsOwn, first_schema}
use Rattle.sound_tables.specs.Checks as tables
use Rattle.sound_tables.specs.Keys.{has_first_tables}
use Rattle.sound_tables.specs.declared.fault.TableFault.TheVariants as table
use Rattle.spool.specs.Adopting.{HaveFirstHistory}
use Rattle.spool.specs.Migrating.{AreMigrated, AreSoundRows, HaveRows, IsFirstUnadopted, IsFirstUnmigrated}
use Rattle.spool.specs.Migrating.{IsMigratedTo, IsUnmade, IsUnmigrated, LeavesMigrated, MayMigrate, has_topics}
use Rattle.spool.specs.declared.faults.OpenFault.{OpenFault}
use Rattle.spool.specs.declared.faults.OpenFault.TheVariants.{NotOurs, NewerVersion, OldVersion, Damaged, Store}
use Rattle.spool.specs.declared.faults.OpenFault.TheVariants.{OutOfMemory}
use Rattle.spool.proofs.MigrateLemmas.{left_since, made_whole, may_since, unmade_since, unmade_then, unmigrated_first}

if_not_false : (b : Bool) → (b ≡ false → ⊥) → IsTrue b
if_not_false true never = refl
if_not_false false never = absurd (never refl)

pub first_whole : (schema : Schema) (r : Result ℕ OpenFault) → (has_first_tables schema ≡ false → IsErr r)
    → OnOk r (IsTrue (has_first_tables schema))
first_whole schema (Ok records) whole = if_not_false (has_first_tables schema) (λ none. let no = whole none in cc)
first_whole schema (Err fault) whole = tt

pub on_err : {X E : Type 0} (r : Result X E) (P Q : Type 0) → OnErr r P → (P → Q) → OnErr r Q
on_err (Ok x) P Q h f = tt
on_err (Err e) P Q h f = f h

module _ (a b : State) where
  pub first_migrated : (r : Result ℕ OpenFault) → IsOwn a.now.schema → OnOk r (has_topics a.now.schema ≡ false)
      → (a.now.schema ≡ first_schema → IfOk r (tables.HasSound tables.AreSoundFirstTables a.now)) → OnOk r
      (IsMigratedTo a b)
      → IfOk r (AreMigrated a b)
  first_migrated (Ok records) own free found made = made_whole a b records own free found made
  first_migrated (Err fault) own free found made = tt

module _ (a m b : State) (same : IsUnchanged a m) where
  pub own_since : IsOwn a.now.schema → IsOwn m.now.schema
  own_since = subst (λ (d : Database). IsOwn d.schema) (sym same.0.now_is)

  pub history_since : HaveFirstHistory a.now → HaveFirstHistory m.now
  history_since = subst HaveFirstHistory (sym same.0.now_is)

  pub whole_since : (r : Result ℕ OpenFault) → OnOk r (IsTrue (has_first_tables m.now.schema))
      → OnOk r (IsTrue (has_first_tables a.now.schema))
  whole_since r = subst (λ (d : Database). OnOk r (IsTrue (has_first_tables d.schema))) same.0.now_is

  pub migrated_since : (r : Result ℕ OpenFault) → IfOk r (AreMigrated m b) → IfOk r (AreMigrated a b)
  migrated_since (Ok records) it = record {
    rows = it.rows;
    stand = subst (λ d. AreSoundRows d it.rows) same.0.now_is it.stand;
    holds = λ entries legal have. it.holds entries legal
        (subst (λ d. HaveRows d (rows_of entries)) (sym same.0.now_is) have);
  }
  migrated_since (Err fault) it = tt

  first_since : (fault : OpenFault) → IsFirstUnadopted m b fault → IsFirstUnadopted a b fault
  first_since NotOurs h = subst (λ d. tables.IsFirstRefusedAt d table.NotOurs) same.0.now_is h
  first_since NewerVersion h = subst (λ d. tables.IsFirstRefusedAt d table.NewerVersion) same.0.now_is h
  first_since OldVersion h = subst (λ d. tables.IsFirstRefusedAt d table.OldVersion) same.0.now_is h
  first_since Damaged h = subst (λ d. tables.IsFirstRefusedAt d table.Damaged) same.0.now_is h
  first_since (Store error) h = h
  first_since OutOfMemory h = h

  module _ (early : Survives a m (λ _. ⊥)) (clean : HasCleanDisk m) where
    pub left_behind : (r : Result ℕ OpenFault) → MatchResult r (λ _. MayMigrate m b) (LeavesMigrated m b)
        → MatchResult r (λ _. MayMigrate a b) (LeavesMigrated a b)
    left_behind (Ok records) may = may_since a m b same early clean may
    left_behind (Err fault) left = left_since a m b same early clean fault left

    module _ {P : Trees → Type 0} (later : Survives m b P) (late : HasCleanDisk b) where
      pub unmade_behind : (r : Result ℕ OpenFault) → IfErr r (IsUnmade m b) → IfErr r (IsUnmade a b)
      unmade_behind (Ok records) h = tt
      unmade_behind (Err fault) h = unmade_since a m b same early clean later late fault h

      pub refused_since : (r : Result ℕ OpenFault) → IsOwn a.now.schema → tables.IsRefusedAt a.now table.OldVersion
          → IfErr r (IsFirstUnmigrated m b) → IfErr r (IsUnmigrated a b)
      refused_since (Ok records) own old h = tt
      refused_since (Err fault) own old (inl refused) =
          unmigrated_first a b fault own old (inl (first_since fault refused))
      refused_since (Err fault) own old (inr failed) =
          unmigrated_first a b fault own old (inr (unmade_then a m b same early clean later late fault failed))
