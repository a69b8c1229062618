-- How tables become those of version 2, by the calls that do it.
use Rattle.std.proofs.Common.{◌≡◌, ◌≢◌, ◌⊎◌, ◌≤◌, inl, inr, ℕ, List, [], ◌∷◌, length, true, false, Result, Ok}
use Rattle.std.proofs.Common.{Err}
use Rattle.std.proofs.Common.{IfErr, IsTrue, refl, sym, ap, subst, ◌∙◌, arith}
use Rattle.std.specs.Prelude.{IsErr}
use Rattle.sqlite.specs.declared.error.Error.{Error}
use Rattle.sqlite.specs.Effect.{Database}
use Rattle.sqlite.specs.Schema.{Schema}
use Rattle.sqlite.specs.State.{State, HasCleanDisk, IsUnchanged, Survives}
use Rattle.sqlite.specs.Tree.{Trees}
use Rattle.sqlite.proofs.StateLemmas.{survives_then}
use Rattle.sqlite.proofs.Callers.{survives_begin, unchanged_then}
use Rattle.sqlite.specs.Store.{Ghosts}
use Rattle.sqlite.specs.Held.{Held, state}
use Rattle.sqlite_schema.specs.Names.{same_name}
use Rattle.relay_types.specs.declared.record.Record.{Record}
use Rattle.relay_types.specs.Legal.{IsLegal}
use Rattle.relay_types.specs.Rows.{Rows, rows_of}
use Rattle.spool_sql.specs.Causes.{cause}
use Rattle.spool_sql.specs.declared.cause.Cause.{Cause}
use Rattle.spool_sql.specs.declared.cause.Cause.TheVariants as of
use Rattle.spool_sql.specs.Steps.{MayLeave, Migrates, Spares}
use Rattle.spool_sql.specs.Stored.{IsFirstTables, meta_stored}
use Rattle.spool_sql.specs.Tables.{IsOwn, first_schema, relay_schema}
use Rattle.sound_tables.specs.Checks as tables
use Rattle.sound_tables.specs.declared.fault.TableFault.{TableFault}
use Rattle.sound_tables.specs.declared.fault.TableFault.TheVariants as table
use Rattle.spool_sql.proofs.BothRefused.{refusal_since}
use Rattle.sound_tables.specs.Keys.{has_first_tables, has_tables}
use Rattle.sound_tables.proofs.KeyedLemmas.{never_nameless}
use Rattle.sound_tables.proofs.RefusedLemmas.{meta_tells, one_told}
use Rattle.spool.specs.Adopting.{AreAdopted, IsOfStore, IsOldOrOfStore, IsOnlyRead, IsReadOpen, IsUnadopted}
use Rattle.spool.specs.Adopting.{IsToldAs, LeavesRead, TellsCheck, fault_by, fault_of}
use Rattle.spool.specs.Vaults.{HoldsAt}
use Rattle.spool.specs.Writing.{IsCause}
use Rattle.spool.specs.Books.{KeepsOpen}
use Rattle.spool.specs.Migrating.{AreMigrated, AreSoundIfFirst, AreSoundRows, HaveRows, IsFirstUnadopted}
use Rattle.spool.specs.Migrating.{IsFirstUnmigrated, IsMigratedTo, IsUnmade, IsUnmadeFor, IsUnmigrated, MigratesRows}
use Rattle.spool.specs.Migrating.{LeavesMigrated, MayCommit, MayMigrate, Migrated, has_topics}
use Rattle.spool.specs.Opening.{TellsFault}
use Rattle.spool.specs.declared.faults.OpenFault.{OpenFault}
use Rattle.spool.specs.declared.faults.OpenFault.TheVariants.{NotOurs, NewerVersion, OldVersion, Damaged, Store}
use Rattle.spool.specs.declared.faults.OpenFault.TheVariants.{OutOfMemory}
use Rattle.spool.proofs.CheckReads.{same_keeps}
use Rattle.spool.proofs.CreateLemmas.{unmade}

-- ---- which fault of the check is told so

not_old : (error : Error) (why : Cause) → OldVersion ≡ fault_by error why → table.Failed error ≡ table.OldVersion
not_old error of.Memory e = cc
not_old error of.Store e = cc
not_old error of.Other e = cc

old_only : (fault : TableFault) → OldVersion ≡ fault_of fault → fault ≡ table.OldVersion
old_only table.NotOurs e = cc
old_only table.NewerVersion e = cc
old_only table.OldVersion e = refl
old_only table.Damaged e = cc
old_only (table.Failed error) e = not_old error (cause error) e

-- the store was seen as it was before the check
pub old_unchanged : (a m b : State) (checked : Result ℕ TableFault) → (checked ≡ Err table.OldVersion → IsUnchanged a m)
    → TellsCheck m b checked (Err OldVersion) → IsUnchanged a b
old_unchanged a m b checked old ((fault, is, same), unchanged) = unchanged_then a m b
    (old (is ∙ ap Err (old_only fault same))) unchanged

-- what the check of the five tables says, as it is told
module _ (a m b : State) (late : Survives m b (λ _. ⊥)) (clean : HasCleanDisk b) (checked : Result ℕ TableFault)
    (says : HasCleanDisk m → IfErr checked (tables.IsFirstRefusedAt a.now)) where
  by_cause : (error : Error) (why : Cause) → cause error ≡ why → cause error ≢ of.Other
      → IsFirstUnadopted a b (fault_by error why)
  by_cause error of.Memory is other = tt
  by_cause error of.Store is other = is
  by_cause error of.Other is other = absurd (other is)

  of_check : (fault : TableFault) → tables.IsFirstRefusedAt a.now fault → IsFirstUnadopted a b (fault_of fault)
  of_check table.NotOurs h = h
  of_check table.NewerVersion h = h
  of_check table.OldVersion h = h
  of_check table.Damaged h = h
  of_check (table.Failed error) other = by_cause error (cause error) refl other

  told_as : (told : OpenFault) → IsToldAs checked told → IsFirstUnadopted a b told
  told_as told (fault, is, same) = subst (IsFirstUnadopted a b) (sym same) (of_check fault
      (subst (λ r. IfErr r (tables.IsFirstRefusedAt a.now)) is (says (omega (arith, clean, late.clean)))))

  pub first_unadopted : (result : Result ℕ OpenFault) → TellsCheck m b checked result
      → IfErr result (IsFirstUnadopted a b)
  first_unadopted (Ok records) told = tt
  first_unadopted (Err NotOurs) told = told_as NotOurs told.0
  first_unadopted (Err NewerVersion) told = told_as NewerVersion told.0
  first_unadopted (Err OldVersion) told = told_as OldVersion told.0
  first_unadopted (Err Damaged) told = told_as Damaged told.0
  first_unadopted (Err OutOfMemory) told = tt
  first_unadopted (Err (Store error)) (inl told) = told_as (Store error) told.0
  first_unadopted (Err (Store error)) (inr (is, fails)) = is

-- ---- the transaction

topics_there : has_topics relay_schema ≡ true
unfolding same_name
topics_there = refl

pub topics_free : {P : Type 0} (schema : Schema) → has_topics schema ≡ false → schema ≡ relay_schema → P
topics_free schema free is = absurd (let no : true ≡ false = sym topics_there ∙ ap has_topics (sym is) ∙ free in cc)

-- a store without a table of topics that a migration was tried on
pub may_commit : (a b : State) → has_topics a.now.schema ≡ false → (IsTrue b.is_open → IsTrue a.is_open)
    → Survives a b (Migrated a) → HasCleanDisk b → MayCommit a b
may_commit a b free was_open survives clean = record {
  stays = λ is_open. (was_open is_open, λ rows stands. topics_free a.now.schema free stands.now.schema_is);
  leaves = λ db may. elim (survives.crash clean db may) [ inl was ↦ inl was | inr made ↦ inr (free, made) ];
}

pub may_stay : (a : State) → MayCommit a a
may_stay a = record { stays = λ is_open. (is_open, λ rows stands. stands); leaves = λ db may. inl may }

-- what it leaves of tables that the check took
pub may_migrate : (a b : State) (records : ℕ)
    → IsTrue (has_first_tables a.now.schema)
    → (a.now.schema ≡ first_schema → tables.HasSound tables.AreSoundFirstTables a.now records) → MayCommit a b
    → MayMigrate a b
may_migrate a b records whole found may = record {
  stays = may.stays;
  leaves = λ db left. elim (may.leaves db left) [
    | inl was ↦ inl was
    | inr (free, made) ↦ inr (record { whole = whole; free = free; kept = made; sound = sound_rows db made })
  ];
}
  where
    sound_rows : (db : Trees) → Migrated a db → AreSoundIfFirst a db
    sound_rows db made is = let (rows, sound, same) = found is in (rows, sound, made rows sound.tables)

-- a transaction that was refused for this error, and a look at the store after it
pub unmade_for : (a m b : State) (error : Error) (told : OpenFault) → (HasCleanDisk m → IsCause a m error)
    → Survives a m (Migrated a) → Survives m b (λ _. ⊥) → HasCleanDisk b → TellsFault m b error told
    → IsUnmadeFor a b told
unmade_for a m b error NotOurs caused first later clean told = absurd told
unmade_for a m b error NewerVersion caused first later clean told = told
unmade_for a m b error OldVersion caused first later clean told = told
unmade_for a m b error Damaged caused first later clean told = told
unmade_for a m b error OutOfMemory caused first later clean told = tt
unmade_for a m b error (Store other) caused first later clean told =
    unmade a m b error other caused first later clean told

-- what the transaction commits, and a look after it
pub survives_look : (a m b : State) → Survives a m (Migrated a) → Survives m b (λ _. ⊥) → Survives a b (Migrated a)
survives_look a m b first later = survives_then a m b _ _ (Migrated a) (λ _ db made. made) (λ _ db none. absurd none)
    first later

pub survives_made : {S : Type 0} (g : Ghosts S) (old : Held S) (mid new : State)
    → Spares (state g (record old { in_transaction = true })) mid
    → (HasCleanDisk mid → Migrates (state g (record old { in_transaction = true })) mid)
    → Survives mid new (λ db. db ≡ mid.now.trees) → Survives (state g old) new (Migrated (state g old))
survives_made g old mid new s made ended =
    survives_then (state g old) mid new _ _ (Migrated (state g old)) (λ _ db none. absurd none)
    (λ clean db now rows first. rw now ((made (omega (arith, clean, ended.clean))).makes rows first).tables)
    (survives_begin g old mid _ s.survives) ended

-- ---- the check, and then the transaction

pub survives_since : (a m b : State) → Survives a m (λ _. ⊥) → (HasCleanDisk m → IsUnchanged a m)
    → Survives m b (Migrated m) → Survives a b (Migrated a)
survives_since a m b first same later =
    survives_then a m b _ _ (Migrated a) (λ _ db none. absurd none)
    (λ clean db made rows had. made rows
    (subst (λ d. IsFirstTables d rows) (sym (same (omega (arith, clean, later.clean))).0.now_is) had)) first later

module _ (a m b : State) (same : IsUnchanged a m) (early : Survives a m (λ _. ⊥)) (clean : HasCleanDisk m) where
  schema_same : m.now.schema ≡ a.now.schema
  schema_same = ap (λ (db : Database). db.schema) same.0.now_is

  pub free_since : has_topics m.now.schema ≡ false → has_topics a.now.schema ≡ false
  free_since free = sym (ap has_topics schema_same) ∙ free

  first_then : (rows : Rows) → IsFirstTables a.now rows → IsFirstTables m.now rows
  first_then rows = subst (λ d. IsFirstTables d rows) (sym same.0.now_is)

  stays_since : KeepsOpen m b → KeepsOpen a b
  stays_since stays is_open =
      let later = stays is_open in
      let before = same_keeps a m same later.0 in
      (before.0, λ rows stands. later.1 rows (before.1 rows stands))

  left_before : (db : Trees) → m.may_leave db → a.may_leave db
  left_before db was = elim (early.crash clean db was) [ inl first ↦ first | inr none ↦ absurd none ]

  kept_since : (db : Trees) → MigratesRows m db → MigratesRows a db
  kept_since db it = record {
    whole = subst (λ (d : Database). IsTrue (has_first_tables d.schema)) same.0.now_is it.whole;
    free = free_since it.free;
    kept = λ rows first. it.kept rows (first_then rows first);
    sound = λ is.
        let (rows, sound, made) = it.sound (schema_same ∙ is) in
        (rows, subst (λ d. tables.AreSoundFirstTables d rows) same.0.now_is sound, made);
  }

  pub may_since : MayMigrate m b → MayMigrate a b
  may_since may = record {
    stays = stays_since may.stays;
    leaves = λ db left. elim (may.leaves db left) [
      | inl was ↦ inl (left_before db was)
      | inr it ↦ inr (kept_since db it)
    ];
  }

  pub commit_since : MayCommit m b → MayCommit a b
  commit_since may = record {
    stays = stays_since may.stays;
    leaves = λ db left. elim (may.leaves db left) [
      | inl was ↦ inl (left_before db was)
      | inr (free, made) ↦ inr (free_since free, λ rows first. made rows (first_then rows first))
    ];
  }

  read_since : IsReadOpen m b → IsReadOpen a b
  read_since (read, is_open) = (
    record { stays = stays_since read.stays; leaves = λ db may. left_before db (read.leaves db may) },
    is_open,
  )

  pub left_since : (fault : OpenFault) → LeavesMigrated m b fault → LeavesMigrated a b fault
  left_since NotOurs read = read_since read
  left_since NewerVersion read = read_since read
  left_since OldVersion read = read_since read
  left_since Damaged read = read_since read
  left_since (Store error) may = may_since may
  left_since OutOfMemory may = may_since may

  pub made_since : IsMigratedTo m b → IsMigratedTo a b
  made_since made rows first = made rows (first_then rows first)

  module _ {P : Trees → Type 0} (later : Survives m b P) (late : HasCleanDisk b) where
    pub unmade_since : (fault : OpenFault) → IsUnmade m b fault → IsUnmade a b fault
    unmade_since NotOurs none = none
    unmade_since NewerVersion none = none
    unmade_since OldVersion none = none
    unmade_since Damaged none = none
    unmade_since (Store error) (inl refusal) = inl (refusal_since a m b early later late error refusal)
    unmade_since (Store error) (inr before) = inr
        (λ db may. elim (early.crash clean db (before db may)) [ inl first ↦ first | inr none ↦ absurd none ])
    unmade_since OutOfMemory h = tt

    -- where the check took the tables
    pub unmade_then : (fault : OpenFault) → IsUnmadeFor m b fault → IsUnmadeFor a b fault
    unmade_then NotOurs taken = ap has_topics (sym schema_same) ∙ taken
    unmade_then NewerVersion none = none
    unmade_then OldVersion none = none
    unmade_then Damaged none = none
    unmade_then (Store error) h = unmade_since (Store error) h
    unmade_then OutOfMemory h = tt

-- what was only read may be migrated
pub only_read : (a b : State) → IsOnlyRead a b → MayMigrate a b
only_read a b read = record { stays = read.stays; leaves = λ db may. inl (read.leaves db may) }

pub left_read : (a b : State) (fault : OpenFault) → LeavesRead a b fault → LeavesMigrated a b fault
left_read a b NotOurs read = read
left_read a b NewerVersion read = read
left_read a b OldVersion read = read
left_read a b Damaged read = read
left_read a b (Store error) read = only_read a b read
left_read a b OutOfMemory read = only_read a b read

-- a transaction that made nothing leaves what it may, and where the name was taken there was none
pub left_unmade : (a m b : State) (fault : OpenFault) → IsUnmadeFor m b fault → MayMigrate a b
    → (fault ≡ NotOurs → IsReadOpen a b) → LeavesMigrated a b fault
left_unmade a m b NotOurs h may read = read refl
left_unmade a m b NewerVersion none may read = absurd none
left_unmade a m b OldVersion none may read = absurd none
left_unmade a m b Damaged none may read = absurd none
left_unmade a m b (Store error) h may read = may
left_unmade a m b OutOfMemory h may read = may

pub unmade_read : (a b : State) (fault : OpenFault) → IsOfStore a b fault → IsUnmade a b fault
unmade_read a b NotOurs none = none
unmade_read a b NewerVersion none = none
unmade_read a b OldVersion none = none
unmade_read a b Damaged none = none
unmade_read a b (Store error) h = inl h.1
unmade_read a b OutOfMemory h = tt

-- ---- both versions

no_topics : has_topics first_schema ≡ false
unfolding same_name
no_topics = refl

not_second : has_tables first_schema ≡ false
unfolding same_name
not_second = refl

never_both : {P : Type 0} (schema : Schema) → schema ≡ first_schema → schema ≡ relay_schema → P
never_both schema first relay = topics_free schema (ap has_topics first ∙ no_topics) relay

-- tables of version 1 have no table of topics
pub unmade_first : (a b : State) (fault : OpenFault) → a.now.schema ≡ first_schema → IsUnmadeFor a b fault
    → IsUnmade a b fault
unmade_first a b NotOurs is taken = let no : true ≡ false = sym taken ∙ ap has_topics is ∙ no_topics in cc
unmade_first a b NewerVersion is none = none
unmade_first a b OldVersion is none = none
unmade_first a b Damaged is none = none
unmade_first a b (Store error) is h = h
unmade_first a b OutOfMemory is h = tt

-- as what a check of six tables is told
pub unmigrated : (a b : State) (fault : OpenFault) → (fault ≡ OldVersion → ⊥) → IsUnadopted a b fault
    → IsUnmigrated a b fault
unmigrated a b NotOurs other h = inl h
unmigrated a b NewerVersion other h = h
unmigrated a b OldVersion other h = absurd (other refl)
unmigrated a b Damaged other ((m, has, told), none) = ((m, has, λ version is. two (told version is)), never)
  where
    two : {version : ℕ} → (version ≡ 0) ⊎ (version ≡ 2) → version ≤ 2
    two (inl none_is) = omega (arith, none_is)
    two (inr both) = omega (arith, both)

    never : (rows : Rows) → ¬ AreSoundRows a.now rows
    never rows (inl sound) = none rows sound
    never rows (inr first) = elim (told 1 (meta_tells first_schema 1 a.now rows
        (record { schema_is = first.tables.schema_is; tables = first.tables.tables.five }) m has)) [
          | inl none_is ↦ absurd (omega (arith, none_is))
          | inr both ↦ absurd (omega (arith, both))
        ]
unmigrated a b (Store error) other h = inl h
unmigrated a b OutOfMemory other h = tt

abbrev IsOfFirst : Database → Type 0
IsOfFirst db = tables.HasVersion db (λ version. version ≡ 1)

of_first : (db : Database) → tables.IsRefusedAt db table.OldVersion → IsOfFirst db
of_first db (m, has, version, is, (above, below)) = (m, has, version, is, omega (arith, above, below))

-- meta told an older version, and the five tables were refused
first_refused : (a b : State) (fault : OpenFault) → IsOwn a.now.schema → tables.IsRefusedAt a.now table.OldVersion
    → IsFirstUnadopted a b fault → IsUnmigrated a b fault
first_refused a b NotOurs own old (inl none) = inl (inl none)
first_refused a b NotOurs own old (inr (told, unnamed)) = never_nameless a.now.schema own unnamed
first_refused a b NewerVersion own (m, has, version, is, (above, below)) (n, other, later, told, past) =
    let one = one_told a.now m n version later has is other told in absurd (omega (arith, one, below, past))
first_refused a b OldVersion own old (m, has, version, is, (above, below)) = absurd (omega (arith, above, below))
first_refused a b Damaged own old ((m, has, told), none) = ((m, has, λ version is. two (told version is)), never)
  where
    two : {version : ℕ} → (version ≡ 0) ⊎ (version ≡ 1) → version ≤ 2
    two (inl none_is) = omega (arith, none_is)
    two (inr one) = omega (arith, one)

    never : (rows : Rows) → ¬ AreSoundRows a.now rows
    never rows (inr first) = none rows first
    never rows (inl sound) =
        elim (told 2 (meta_tells relay_schema 2 a.now rows
        (record { schema_is = sound.tables.schema_is; tables = sound.tables.tables.five }) m has)) [
          | inl none_is ↦ absurd (omega (arith, none_is))
          | inr one ↦ absurd (omega (arith, one))
        ]
first_refused a b (Store error) own old is = inl is
first_refused a b OutOfMemory own old h = tt

-- or the table of topics wasn't made beside them
first_unmade : (a b : State) (fault : OpenFault) → tables.IsRefusedAt a.now table.OldVersion → IsUnmadeFor a b fault
    → IsUnmigrated a b fault
first_unmade a b NotOurs old taken = inr (of_first a.now old, taken)
first_unmade a b NewerVersion old none = absurd none
first_unmade a b OldVersion old none = none
first_unmade a b Damaged old none = absurd none
first_unmade a b (Store error) old caused = inr (of_first a.now old, caused)
first_unmade a b OutOfMemory old h = tt

pub unmigrated_first : (a b : State) (fault : OpenFault) → IsOwn a.now.schema
    → tables.IsRefusedAt a.now table.OldVersion → IsFirstUnmigrated a b fault → IsUnmigrated a b fault
unmigrated_first a b fault own old (inl refused) = first_refused a b fault own old refused
unmigrated_first a b fault own old (inr failed) = first_unmade a b fault old failed

pub unmade_else : (a b : State) (fault : OpenFault) → (fault ≡ OldVersion → ⊥) → IsOldOrOfStore a b fault
    → IsUnmade a b fault
unmade_else a b NotOurs other none = absurd none
unmade_else a b NewerVersion other none = absurd none
unmade_else a b OldVersion other h = absurd (other refl)
unmade_else a b Damaged other none = absurd none
unmade_else a b (Store error) other h = inl h.1
unmade_else a b OutOfMemory other h = tt

-- what was adopted is what a migration gives
pub adopted_whole : (a b : State) (records : ℕ) → IsOwn a.now.schema
    → (has_tables a.now.schema ≡ false → IsErr {E = OpenFault} (Ok records))
    → (a.now.schema ≡ relay_schema → AreAdopted a b records) → AreMigrated a b records
adopted_whole a b records (inl first) whole adopted = absurd (let no = whole (ap has_tables first ∙ not_second) in cc)
adopted_whole a b records (inr is) whole adopted =
    let it = adopted is in
    record { rows = it.rows; stand = inl it.stand; holds = holds it }
  where
    holds : AreAdopted a b records → (entries : List Record) → IsLegal entries → HaveRows a.now (rows_of entries)
        → HoldsAt b records entries × MayLeave b (λ r. r ≡ rows_of entries)
    holds it entries legal (inl tables) = it.holds entries legal tables
    holds it entries legal (inr first) = never_both a.now.schema first.schema_is is

same_count : (m n : ℕ) → meta_stored 1 m ∷ [] ≡ meta_stored 1 n ∷ [] → m ≡ n
same_count m n e = cc

-- and so is what was made of version 1
pub made_whole : (a b : State) (records : ℕ) → IsOwn a.now.schema → has_topics a.now.schema ≡ false
    → (a.now.schema ≡ first_schema → tables.HasSound tables.AreSoundFirstTables a.now records) → IsMigratedTo a b
    → AreMigrated a b records
made_whole a b records (inr relay) free found made = topics_free a.now.schema free relay
made_whole a b records (inl is) free found made =
    let (rows, sound, same) = found is in
    record { rows = rows; stand = inr sound; holds = holds rows sound same }
  where
    holds : (rows : Rows) → tables.AreSoundFirstTables a.now rows → rows.records ≡ records → (entries : List Record)
        → IsLegal entries → HaveRows a.now (rows_of entries)
        → HoldsAt b records entries × MayLeave b (λ r. r ≡ rows_of entries)
    holds rows sound same entries legal (inl tables) = never_both a.now.schema is tables.schema_is
    holds rows sound same entries legal (inr first) =
        let (stands, leaves) = made (rows_of entries) first in (
          record {
            legal = legal;
            stands = stands;
            next = sym same ∙ same_count rows.records (length entries)
                (sym sound.tables.tables.five.meta ∙ first.tables.five.meta);
          },
          leaves,
        )
