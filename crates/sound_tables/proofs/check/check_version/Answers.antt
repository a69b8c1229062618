use Rattle.std.proofs.Common.{◌≡◌, inl, inr, MatchResult, None, subst, sym, ◌∙◌}
use Rattle.sqlite.specs.Effect.{Database}
use Rattle.sqlite.specs.Held.{state}
use Rattle.sqlite.specs.State.{HasCleanDisk}
use Rattle.sound_tables.specs.Checks.{AreRead, AreSoundAt, HasSound, IsJudgedAt, TellsStored}
use Rattle.sound_tables.specs.Versions.{IsReadable, schema_of}
use Rattle.sound_tables.specs.declared.fault.TableFault.TheVariants.{NotOurs, Damaged, Failed}
use Rattle.sound_tables.proofs.JudgedLemmas.{judged_first, judged_refuses, judged_sound}
use Rattle.sound_tables.proofs.KeyedLemmas.{named_readable, never_foreign, never_unkeyed, never_unnamed, own_schema}
use Rattle.sound_tables.proofs.LackLemmas.{lacks_sound}
use Rattle.sound_tables.proofs.LookLemmas.{are_read, clean_early, refused_since, same_now, schema_still, told_err}
use Rattle.sound_tables.proofs.LookLemmas.{told_ok}
use Rattle.sound_tables.proofs.MetaLemmas.{damaged, tells_version}
use Rattle.sound_tables.proofs.ReadOrderLemmas.{sound_in_order}
use Rattle.sound_tables.proofs.RefusedLemmas.{not_other, only_memory, told_old}
use Rattle.sound_tables.proofs.VersionLemmas.{readable_at, readable_own, schema_at}
use Rattle.sound_tables.proofs.check.check_version.Given.{Over}
use Rattle.sound_tables.proofs.check.check_version.Goals.{After-judge}
use Rattle.sound_tables.proofs.check.check_version.Goals as goal

-- what was read is so of the tables
read : (g : Over) (c : After-judge g) → HasCleanDisk (state g.S.Store c.read_stored.new.conn)
    → IsReadable c.args.version (state g.S.Store c.args.conn.now).now.schema
    → AreRead c.args.version (state g.S.Store c.args.conn.now).now c.in_ok-records.records c.in-Ok-Some.rows
read g c clean readable =
    let v = c.args.version in
    let a = c.args.conn.now in
    let m = c.read_records.new.conn in
    let b = c.read_stored.new.conn in
    let first = c.in_ok-records.ensures in
    let later = c.in-Ok-Some.ensures in
    let still = schema_still g.S.Store a m b first.looks first.same later.looks (IsReadable v) clean readable in
    let shown = subst (TellsStored v (state g.S.Store m).now) c.in-Ok-Some.field-0-is (later.found clean still) in
    let meta = first.found (clean_early g.S.Store a m b first.looks first.same later.looks clean)
    (readable_own v _ readable) in
    are_read g.S.Store a m b first.looks first.same later.looks v c.in_ok-records.records
    c.in-Ok-Some.rows c.has_meta.ensures.live clean meta shown

-- and so is what it is judged to be
judged : (g : Over) (c : After-judge g) → HasCleanDisk (state g.S.Store c.read_stored.new.conn)
    → (state g.S.Store c.args.conn.now).now.schema ≡ schema_of c.args.version
    → let db = (state g.S.Store c.args.conn.now).now in
    MatchResult c.judge.result (HasSound (AreSoundAt c.args.version) db) (IsJudgedAt c.args.version db)
judged g c clean is =
    c.judge.ensures.judged c.args.version (state g.S.Store c.args.conn.now).now is
    (read g c clean (readable_at c.args.version _ is))

pub returns-in-Ok-Some-clause-found : goal.returns-in-Ok-Some-clause-found
returns-in-Ok-Some-clause-found g c clean is =
    let after = (goal.at.returns-in-Ok-Some-clause-found g c).After-judge in
    told_ok c.judge.result _ _ (judged g after clean is)

pub returns-in-Ok-Some-clause-refused : goal.returns-in-Ok-Some-clause-refused
returns-in-Ok-Some-clause-refused g c clean own =
    let v = c.args.version in
    let db = (state g.S.Store c.args.conn.now).now in
    let after = (goal.at.returns-in-Ok-Some-clause-refused g c).After-judge in
    let readable = named_readable v _ own
    (sym c.look_at_schema-is_whole.ensures.names ∙ c.if-not-is_whole.false) in
    judged_refuses v db c.in_ok-records.records c.judge.result (read g after clean readable).meta
    c.judge.ensures.refused (λ is. told_err c.judge.result _ _ (judged g after clean is))

pub returns-in-Ok-Some-clause-sound : goal.returns-in-Ok-Some-clause-sound
returns-in-Ok-Some-clause-sound g c clean =
    let v = c.args.version in
    let a = state g.S.Store c.args.conn.now in
    let b = state g.S.Store c.read_stored.new.conn in
    let after = (goal.at.returns-in-Ok-Some-clause-sound g c).After-judge in
    judged_sound v a b c.judge.result (λ is. told_err c.judge.result _ _ (judged g after clean is))
    (λ rows it. only_memory a b c.judge.result
    (c.judge.ensures.told (sound_in_order v a.now c.in-Ok-Some.rows rows
    (read g after clean (readable_at v _ (schema_at v a.now rows it.tables))).shown it)))

pub returns-in-Ok-Some-clause-first : goal.returns-in-Ok-Some-clause-first
returns-in-Ok-Some-clause-first g c clean =
    let v = c.args.version in
    let named = sym c.look_at_schema-is_whole.ensures.names ∙ c.if-not-is_whole.false in
    let after = (goal.at.returns-in-Ok-Some-clause-first g c).After-judge in
    judged_first v (state g.S.Store c.args.conn.now) (state g.S.Store c.read_stored.new.conn)
    c.in_ok-records.records c.judge.result (λ own. (read g after clean (named_readable v _ own named)).meta)
    (returns-in-Ok-Some-clause-sound g c clean)

pub returns-in-Ok-None-clause-refused : goal.returns-in-Ok-None-clause-refused
returns-in-Ok-None-clause-refused g c clean own =
    let v = c.args.version in
    let a = c.args.conn.now in
    let m = c.read_records.new.conn in
    let b = c.read_stored.new.conn in
    let first = c.in_ok-records.ensures in
    let later = c.in-Ok-None.ensures in
    let db = (state g.S.Store a).now in
    let readable = named_readable v _ own
    (sym c.look_at_schema-is_whole.ensures.names ∙ c.if-not-is_whole.false) in
    let still = schema_still g.S.Store a m b first.looks first.same later.looks (IsReadable v) clean readable in
    let lacks = subst (TellsStored v (state g.S.Store m).now) c.in-Ok-None.field-0-is (later.found clean still) in
    let meta = first.found (clean_early g.S.Store a m b first.looks first.same later.looks clean) own in
    let of_old = subst (λ (d : Database). TellsStored v d None)
    (same_now g.S.Store a m b first.looks first.same later.looks clean) lacks in
    damaged v db c.in_ok-records.records meta (lacks_sound v db of_old)

pub returns-in-Ok-None-clause-sound : goal.returns-in-Ok-None-clause-sound
returns-in-Ok-None-clause-sound g c clean rows it = (returns-in-Ok-None-clause-refused g c clean
    (own_schema c.args.version _ (schema_at c.args.version _ rows it.tables))).1 rows it

pub returns-in-Ok-None-clause-first : goal.returns-in-Ok-None-clause-first
returns-in-Ok-None-clause-first g c clean =
    let first = c.in_ok-records.ensures in
    told_old c.args.version (state g.S.Store c.args.conn.now) (state g.S.Store c.read_stored.new.conn) Damaged
    c.in_ok-records.records
    (first.found (clean_early g.S.Store c.args.conn.now c.read_records.new.conn c.read_stored.new.conn first.looks
    first.same c.in-Ok-None.ensures.looks clean)) (returns-in-Ok-None-clause-sound g c clean)

pub returns-in-Err-clause-refused : goal.returns-in-Err-clause-refused
returns-in-Err-clause-refused g c clean own =
    let v = c.args.version in
    let first = c.in_ok-records.ensures in
    let later = c.in-Err.ensures in
    let readable = named_readable v _ own
    (sym c.look_at_schema-is_whole.ensures.names ∙ c.if-not-is_whole.false) in
    let still = schema_still g.S.Store c.args.conn.now c.read_records.new.conn c.read_stored.new.conn first.looks
    first.same later.looks (IsReadable v) clean readable in
    not_other (state g.S.Store c.read_records.new.conn) (state g.S.Store c.read_stored.new.conn) _
    (later.fault clean still)

pub returns-in-Err-clause-sound : goal.returns-in-Err-clause-sound
returns-in-Err-clause-sound g c clean rows it =
    let v = c.args.version in
    let a = c.args.conn.now in
    let m = c.read_records.new.conn in
    let b = c.read_stored.new.conn in
    let first = c.in_ok-records.ensures in
    let later = c.in-Err.ensures in
    let still = schema_still g.S.Store a m b first.looks first.same later.looks (IsReadable v) clean
    (readable_at v _ (schema_at v _ rows it.tables)) in
    refused_since g.S.Store a m b first.looks first.same later.looks _ clean (later.fault clean still)

pub returns-in-Err-clause-first : goal.returns-in-Err-clause-first
returns-in-Err-clause-first g c clean =
    let first = c.in_ok-records.ensures in
    told_old c.args.version (state g.S.Store c.args.conn.now) (state g.S.Store c.read_stored.new.conn)
    (Failed c.in-Err.error) c.in_ok-records.records
    (first.found (clean_early g.S.Store c.args.conn.now c.read_records.new.conn c.read_stored.new.conn first.looks
    first.same c.in-Err.ensures.looks clean)) (returns-in-Err-clause-sound g c clean)

-- the relay's schemas lack none of these
pub returns-then-not-has_meta-clause-refused : goal.returns-then-not-has_meta-clause-refused
returns-then-not-has_meta-clause-refused g c clean own = never_foreign _ own
    (sym c.has_meta.ensures.meta ∙ c.if-not-has_meta.true)

pub returns-then-not-has_meta-clause-sound : goal.returns-then-not-has_meta-clause-sound
returns-then-not-has_meta-clause-sound g c clean rows it = never_foreign _
    (own_schema c.args.version _ (schema_at c.args.version _ rows it.tables)) (sym c.has_meta.ensures.meta
    ∙ c.if-not-has_meta.true)

pub returns-then-not-has_meta-clause-first : goal.returns-then-not-has_meta-clause-first
returns-then-not-has_meta-clause-first g c clean rows it = never_foreign _ (inl it.tables.schema_is)
    (sym c.has_meta.ensures.meta ∙ c.if-not-has_meta.true)

pub returns-then-not-is_whole-clause-refused : goal.returns-then-not-is_whole-clause-refused
returns-then-not-is_whole-clause-refused g c clean own = inr (
  tells_version c.args.version (state g.S.Store c.args.conn.now).now c.in_ok-records.records
      (c.in_ok-records.ensures.found clean own),
  sym c.look_at_schema-is_whole.ensures.names ∙ c.if-not-is_whole.true,
)

pub returns-then-not-is_whole-clause-sound : goal.returns-then-not-is_whole-clause-sound
returns-then-not-is_whole-clause-sound g c clean rows it = never_unnamed c.args.version _
    (schema_at c.args.version _ rows it.tables)
    (sym c.look_at_schema-is_whole.ensures.names ∙ c.if-not-is_whole.true)

pub returns-then-not-is_whole-clause-first : goal.returns-then-not-is_whole-clause-first
returns-then-not-is_whole-clause-first g c clean =
    told_old c.args.version (state g.S.Store c.args.conn.now) (state g.S.Store c.read_records.new.conn) NotOurs
    c.in_ok-records.records (c.in_ok-records.ensures.found clean)
    (returns-then-not-is_whole-clause-sound g c clean)

pub returns-then-not-is_keyed-clause-refused : goal.returns-then-not-is_keyed-clause-refused
returns-then-not-is_keyed-clause-refused g c clean own =
    never_unkeyed c.args.version _ own (sym c.look_at_schema-is_whole.ensures.names ∙ c.if-not-is_whole.false)
    (sym c.look_at_schema-is_whole.ensures.keys ∙ c.if-not-is_keyed.true)

pub returns-then-not-is_keyed-clause-sound : goal.returns-then-not-is_keyed-clause-sound
returns-then-not-is_keyed-clause-sound g c clean rows it =
    never_unkeyed c.args.version _ (own_schema c.args.version _ (schema_at c.args.version _ rows it.tables))
    (sym c.look_at_schema-is_whole.ensures.names ∙ c.if-not-is_whole.false)
    (sym c.look_at_schema-is_whole.ensures.keys ∙ c.if-not-is_keyed.true)

pub returns-then-not-is_keyed-clause-first : goal.returns-then-not-is_keyed-clause-first
returns-then-not-is_keyed-clause-first g c clean =
    told_old c.args.version (state g.S.Store c.args.conn.now) (state g.S.Store c.read_records.new.conn) Damaged
    c.in_ok-records.records (c.in_ok-records.ensures.found clean)
    (returns-then-not-is_keyed-clause-sound g c clean)
