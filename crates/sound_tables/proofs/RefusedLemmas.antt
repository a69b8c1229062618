-- Sound tables are refused as none of what refusals say of tables.
use Rattle.std.proofs.Common.{◌≡◌, ◌≢◌, ◌⊎◌, inl, inr, ℕ, pos, [], ◌∷◌, Result, Ok, Err, IfErr, refl, sym, ap, subst}
use Rattle.std.proofs.Common.{◌∙◌, ◌<◌, arith}
use Rattle.sqlite.specs.Effect.{Database}
use Rattle.sqlite.specs.Order.{Row}
use Rattle.sqlite.specs.State.{State, store_error}
use Rattle.sqlite.specs.declared.error.Error.{Error}
use Rattle.sqlite.specs.declared.error.Error.TheVariants.{SqliteFailure}
use Rattle.sqlite.specs.declared.error.ErrorCode.TheVariants as code
use Rattle.sqlite_trees.specs.declared.error.StoreError.{StoreError}
use Rattle.sqlite_trees.specs.declared.error.StoreError.TheVariants as store
use Rattle.sqlite.specs.declared.types.Value.TheVariants.{Int}
use Rattle.sqlite_value.specs.Order.{column}
use Rattle.relay_types.specs.Rows.{Rows}
use Rattle.spool_sql.specs.Causes.{cause}
use Rattle.spool_sql.specs.Readable.{IsRefusal}
use Rattle.sqlite.specs.Schema.{Schema}
use Rattle.spool_sql.specs.Stored.{IsTablesOf, meta_stored}
use Rattle.spool_sql.specs.Tables.{IsOwn, first_schema}
use Rattle.spool_sql.specs.declared.cause.Cause.TheVariants.{Other}
use Rattle.sound_tables.specs.Checks.{AreSoundAt, AreSoundFirstTables, HasMeta, HasRecords}
use Rattle.sound_tables.specs.Checks.{IsOldRefusal, IsRefusedMeta, IsSoundRefusal, RefusesAt, RefusesOld}
use Rattle.sound_tables.specs.Tables.{meta_columns}
use Rattle.sound_tables.specs.declared.meta.Meta.{Meta}
use Rattle.sound_tables.specs.declared.fault.TableFault.{TableFault}
use Rattle.sound_tables.specs.declared.fault.TableFault.TheVariants.{NotOurs, NewerVersion, OldVersion, Damaged, Failed}
use Rattle.sound_tables.specs.Versions.{number_of, schema_of}
use Rattle.sound_tables.specs.declared.version.Version.{Version}
use Rattle.sound_tables.specs.declared.version.Version.TheVariants.{First, Second}
use Rattle.sound_tables.proofs.KeyedLemmas.{own_schema}
use Rattle.sound_tables.proofs.VersionLemmas.{five_at, schema_at}

never_other : (kind : StoreError) → cause (store_error kind) ≢ Other
never_other store.OutOfMemory e = cc
never_other store.Io e = cc
never_other store.Corrupt e = cc
never_other store.Full e = cc
never_other store.Broken e = cc
never_other store.Unstorable e = cc

-- an error that a query of the relay's tables is refused for
pub not_other : (a b : State) (e : Error) → IsRefusal a b e → cause e ≢ Other
not_other a b e (inl memory) = rw memory (λ x. let y = x in cc)
not_other a b e (inr (inl (why, told, failed, blamed))) = subst (λ x. cause x ≢ Other) (sym told) (never_other why)
not_other a b e (inr (inr (told, some))) = rw told (λ x. let y = x in cc)

head_is : (x y : Row) → x ∷ [] ≡ y ∷ [] → x ≡ y
head_is x y e = cc

same_int : (n : ℕ) (z : _) → Int z ≡ Int (pos n) → z ≡ pos n
same_int n z e = cc

same_pos : (m n : ℕ) → pos m ≡ pos n → m ≡ n
same_pos m n e = cc

-- the meta of tables of a version
module _ (schema : Schema) (version : ℕ) (db : Database) (rows : Rows) (tables : IsTablesOf schema version db rows)
  where
    abbrev stored : Row
    stored = meta_stored version rows.records

    pub has_meta : HasMeta db (record { key = pos 1; version = pos version; records = pos rows.records })
    has_meta = (stored, tables.tables.meta, record { key = refl; app = refl; version = refl; records = refl })

    pub meta_tells : (m : Meta) → HasMeta db m → m.version ≡ pos version
    meta_tells m has =
        let row : has.0 ≡ stored = head_is has.0 stored (sym has.1 ∙ tables.tables.meta) in
        same_int version m.version (sym has.2.version ∙ ap (λ r. column (meta_columns r) 2) row)

    pub version_is : (m : Meta) (told : ℕ) → HasMeta db m → m.version ≡ pos told → told ≡ version
    version_is m told has is = same_pos told version (sym is ∙ meta_tells m has)

pub some_version : (v : Version) → 0 < number_of v
some_version First = omega arith
some_version Second = omega arith

-- what the meta of sound tables tells
pub sound_meta : (v : Version) (db : Database) (rows : Rows) → AreSoundAt v db rows → (m : Meta) → HasMeta db m
    → (m.key ≡ pos 1) × (m.version ≡ pos (number_of v)) × (m.records ≡ pos rows.records)
sound_meta v db rows it m has =
    let five = five_at v db rows it.tables in
    let kept = meta_stored (number_of v) rows.records in
    let row : has.0 ≡ kept = head_is has.0 kept (sym has.1 ∙ five.tables.meta) in (
      same_int 1 m.key (sym has.2.key ∙ ap (λ r. column (meta_columns r) 0) row),
      same_int (number_of v) m.version (sym has.2.version ∙ ap (λ r. column (meta_columns r) 2) row),
      same_int rows.records m.records (sym has.2.records ∙ ap (λ r. column (meta_columns r) 3) row),
    )

-- there is one meta
pub one_told : (db : Database) (m n : Meta) (v w : ℕ) → HasMeta db m → m.version ≡ pos v → HasMeta db n
    → n.version ≡ pos w → v ≡ w
one_told db m n v w has is other told =
    let row : has.0 ≡ other.0 = head_is has.0 other.0 (sym has.1 ∙ other.1) in
    same_pos v w (sym is ∙ both m.version n.version (sym has.2.version ∙ ap (λ r. column (meta_columns r) 2)
    row ∙ other.2.version) ∙ told)
  where
    both : (x y : _) → Int x ≡ Int y → x ≡ y
    both x y e = cc

-- where a statement was refused, it was for memory or by the store
abbrev pub FailsOnlySo : (a b : State) → TableFault → Type 0
FailsOnlySo a b fault = (error : Error) → fault ≡ Failed error → IsRefusal a b error

-- of sound tables a refusal that says something of meta is none
refuses_five : (v : Version) (a b : State) (fault : TableFault) (rows : Rows) → AreSoundAt v a.now rows
    → IsRefusedMeta v (AreSoundAt v) a.now fault → FailsOnlySo a b fault → IsSoundRefusal a b fault
refuses_five v a b NotOurs rows it none failed = absurd
    (none _ (has_meta (schema_of v) (number_of v) a.now rows (five_at v a.now rows it.tables)))
refuses_five v a b NewerVersion rows it (m, has, version, is, above) failed =
    let one = version_is (schema_of v) (number_of v) a.now rows (five_at v a.now rows it.tables) m version has is in
    absurd
    (omega (arith, one, above))
refuses_five v a b OldVersion rows it (m, has, version, is, (above, below)) failed =
    let one = version_is (schema_of v) (number_of v) a.now rows (five_at v a.now rows it.tables) m version has is in
    absurd
    (omega (arith, one, below))
refuses_five v a b Damaged rows it (told, none) failed = absurd (none rows it)
refuses_five v a b (Failed error) rows it says failed = failed error refl

-- and of tables of version 1 it tells of their age
refuses_old : (v : Version) (a b : State) (fault : TableFault) (rows : Rows) → AreSoundFirstTables a.now rows
    → IsRefusedMeta v (AreSoundAt v) a.now fault → FailsOnlySo a b fault → IsOldRefusal a b fault
refuses_old First a b NotOurs rows it says failed = refuses_five First a b NotOurs rows it says failed
refuses_old First a b NewerVersion rows it says failed = refuses_five First a b NewerVersion rows it says failed
refuses_old First a b Damaged rows it says failed = refuses_five First a b Damaged rows it says failed
refuses_old First a b OldVersion rows it says failed = tt
refuses_old First a b (Failed error) rows it says failed = failed error refl
refuses_old Second a b NotOurs rows it none failed =
    absurd (none _ (has_meta first_schema 1 a.now rows (five_at First a.now rows it.tables)))
refuses_old Second a b NewerVersion rows it (m, has, version, is, above) failed =
    let one = version_is first_schema 1 a.now rows (five_at First a.now rows it.tables) m version has is in
    absurd (omega (arith, one, above))
refuses_old Second a b OldVersion rows it says failed = tt
refuses_old Second a b (Failed error) rows it says failed = failed error refl
refuses_old Second a b Damaged rows it ((m, has, told), none) failed = elim
    (told 1 (meta_tells first_schema 1 a.now rows (five_at First a.now rows it.tables) m has)) [
      | inl zero ↦ absurd (omega (arith, zero))
      | inr two ↦ absurd (omega (arith, two))
    ]

module _ {A : Type 0} (v : Version) (a b : State) where
  pub five_refused : (r : Result A TableFault) → (IsOwn a.now.schema → IfErr r (IsRefusedMeta v (AreSoundAt v) a.now))
      → (IsOwn a.now.schema → IfErr r (FailsOnlySo a b)) → IfErr r (RefusesAt v a b)
  five_refused (Ok x) says failed = tt
  five_refused (Err fault) says failed = λ rows it. let own =
      own_schema v a.now.schema (schema_at v a.now rows it.tables) in
      refuses_five v a b fault rows it (says own) (failed own)

  pub old_refused : (r : Result A TableFault) → (IsOwn a.now.schema → IfErr r (IsRefusedMeta v (AreSoundAt v) a.now))
      → (IsOwn a.now.schema → IfErr r (FailsOnlySo a b)) → IfErr r (RefusesOld a b)
  old_refused (Ok x) says failed = tt
  old_refused (Err fault) says failed = λ rows it. let own = inl it.tables.schema_is in refuses_old v a b fault rows it
      (says own) (failed own)

weaker_refusal : (a b : State) (fault : TableFault) → IsSoundRefusal a b fault → IsOldRefusal a b fault
weaker_refusal a b NotOurs none = none
weaker_refusal a b NewerVersion none = none
weaker_refusal a b OldVersion none = tt
weaker_refusal a b Damaged none = none
weaker_refusal a b (Failed error) refusal = refusal

-- tables whose meta tells the version that is asked for are of version 1 only if that is
pub told_old : (v : Version) (a b : State) (fault : TableFault) (records : ℕ)
    → (IsOwn a.now.schema → HasRecords (number_of v) a.now records) → RefusesAt v a b fault → RefusesOld a b fault
told_old First a b fault records has refuses = λ rows it. weaker_refusal a b fault (refuses rows it)
told_old Second a b fault records has refuses = λ rows it. absurd
    (let one = version_is first_schema 1 a.now rows (five_at First a.now rows it.tables) _ 2
    (has (inl it.tables.schema_is)) refl in omega
    (arith, one))

pub never_failed : {A : Type 0} (a b : State) (r : Result A TableFault)
    → IfErr r (λ why. (error : Error) → why ≢ Failed error) → IfErr r (FailsOnlySo a b)
never_failed a b (Ok x) never = tt
never_failed a b (Err fault) never = λ error is. absurd (never error is)

pub only_memory : {A : Type 0} (a b : State) (r : Result A TableFault)
    → IfErr r (λ why. (why ≡ Damaged) ⊎ (why ≡ Failed (SqliteFailure code.OutOfMemory))) → IfErr r (FailsOnlySo a b)
only_memory a b (Ok x) told = tt
only_memory a b (Err fault) (inl damaged) = λ error is. absurd (let no : Failed error ≡ Damaged = sym is
    ∙ damaged in cc)
only_memory a b (Err fault) (inr memory) =
    λ error is. inl (let same : Failed error ≡ Failed (SqliteFailure code.OutOfMemory) = sym is ∙ memory in cc)
