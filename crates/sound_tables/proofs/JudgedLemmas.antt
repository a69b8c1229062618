-- What a judgement of the tables says of those of a version.
use Rattle.std.proofs.Common.{◌≡◌, ℕ, Result, Ok, Err, IfErr, refl}
use Rattle.sqlite.specs.Effect.{Database}
use Rattle.sqlite.specs.State.{State}
use Rattle.relay_types.specs.Rows.{Rows}
use Rattle.spool_sql.specs.Tables.{IsOwn}
use Rattle.sound_tables.specs.Checks.{AreSoundAt, HasRecords, IsJudgedAt, IsJudgement, Refuses, RefusesAt, RefusesOld}
use Rattle.sound_tables.specs.Versions.{number_of, schema_of}
use Rattle.sound_tables.specs.declared.fault.TableFault.{TableFault}
use Rattle.sound_tables.specs.declared.fault.TableFault.TheVariants.{NotOurs, NewerVersion, OldVersion, Damaged, Failed}
use Rattle.sound_tables.specs.declared.version.Version.{Version}
use Rattle.sound_tables.proofs.MetaLemmas.{damaged}
use Rattle.sound_tables.proofs.RefusedLemmas.{FailsOnlySo, told_old}
use Rattle.sound_tables.proofs.VersionLemmas.{schema_at}

pub judged_refuses : (v : Version) (db : Database) (records : ℕ) (r : Result ℕ TableFault)
    → HasRecords (number_of v) db records → IfErr r IsJudgement → (db.schema ≡ schema_of v → IfErr r (IsJudgedAt v db))
    → IfErr r (Refuses v (AreSoundAt v) db)
judged_refuses v db records (Ok x) has is told = tt
judged_refuses v db records (Err NotOurs) has none told = absurd none
judged_refuses v db records (Err NewerVersion) has none told = absurd none
judged_refuses v db records (Err OldVersion) has none told = absurd none
judged_refuses v db records (Err Damaged) has is told = damaged v db records has
    (λ rows it. told (schema_at v db rows it.tables) rows it)
judged_refuses v db records (Err (Failed error)) has failed told = failed

module _ (v : Version) (a b : State) where
  pub judged_sound : (r : Result ℕ TableFault) → (a.now.schema ≡ schema_of v → IfErr r (IsJudgedAt v a.now))
      → ((rows : Rows) → AreSoundAt v a.now rows → IfErr r (FailsOnlySo a b))
      → IfErr r (RefusesAt v a b)
  judged_sound (Ok x) told failed = tt
  judged_sound (Err NotOurs) told failed = λ rows it. absurd (told (schema_at v a.now rows it.tables))
  judged_sound (Err NewerVersion) told failed = λ rows it. absurd (told (schema_at v a.now rows it.tables))
  judged_sound (Err OldVersion) told failed = λ rows it. absurd (told (schema_at v a.now rows it.tables))
  judged_sound (Err Damaged) told failed = λ rows it. absurd (told (schema_at v a.now rows it.tables) rows it)
  judged_sound (Err (Failed error)) told failed = λ rows it. failed rows it error refl

  pub judged_first : (records : ℕ) (r : Result ℕ TableFault)
      → (IsOwn a.now.schema → HasRecords (number_of v) a.now records) → IfErr r (RefusesAt v a b)
      → IfErr r (RefusesOld a b)
  judged_first records (Ok x) has refuses = tt
  judged_first records (Err fault) has refuses = told_old v a b fault records has refuses
