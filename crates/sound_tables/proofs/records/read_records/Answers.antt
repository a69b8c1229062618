use Rattle.std.proofs.Common.{inl}
use Rattle.sqlite.specs.Held.{state}
use Rattle.sound_tables.specs.Checks.{AreSoundAt, HasRecords, IsRefusedMeta}
use Rattle.sound_tables.specs.Versions.{number_of}
use Rattle.sound_tables.proofs.KeyedLemmas.{own_schema}
use Rattle.sound_tables.proofs.LookLemmas.{told_err}
use Rattle.sound_tables.proofs.RefusedLemmas.{five_refused, never_failed, not_other, old_refused}
use Rattle.sound_tables.proofs.VersionLemmas.{schema_at}
use Rattle.sound_tables.proofs.records.read_records.Goals as goal

pub returns-in-Ok-clause-refused : goal.returns-in-Ok-clause-refused
returns-in-Ok-clause-refused g c clean own =
    let db = (state g.S.Store c.args.conn.now).now in
    told_err c.records_in.result (HasRecords (number_of c.args.version) db)
    (IsRefusedMeta c.args.version (AreSoundAt c.args.version) db)
    (c.records_in.ensures.judged db (c.in-Ok.ensures.found clean own))

pub returns-in-Ok-clause-sound : goal.returns-in-Ok-clause-sound
returns-in-Ok-clause-sound g c clean =
    let a = state g.S.Store c.args.conn.now in
    let b = state g.S.Store c.read_meta.new.conn in
    five_refused c.args.version a b c.records_in.result (λ own. returns-in-Ok-clause-refused g c clean own)
    (λ own. never_failed a b c.records_in.result c.records_in.ensures.told)

pub returns-in-Ok-clause-first : goal.returns-in-Ok-clause-first
returns-in-Ok-clause-first g c clean =
    let a = state g.S.Store c.args.conn.now in
    let b = state g.S.Store c.read_meta.new.conn in
    old_refused c.args.version a b c.records_in.result (λ own. returns-in-Ok-clause-refused g c clean own)
    (λ own. never_failed a b c.records_in.result c.records_in.ensures.told)

pub returns-in-Err-clause-refused : goal.returns-in-Err-clause-refused
returns-in-Err-clause-refused g c clean own = not_other (state g.S.Store c.args.conn.now)
    (state g.S.Store c.read_meta.new.conn) _ (c.in-Err.ensures.fault clean own)

pub returns-in-Err-clause-sound : goal.returns-in-Err-clause-sound
returns-in-Err-clause-sound g c clean rows it = c.in-Err.ensures.fault clean
    (own_schema c.args.version _ (schema_at c.args.version _ rows it.tables))

pub returns-in-Err-clause-first : goal.returns-in-Err-clause-first
returns-in-Err-clause-first g c clean rows it = c.in-Err.ensures.fault clean (inl it.tables.schema_is)
