use Rattle.std.proofs.Common.{refl}
use Rattle.spool_sql.specs.Tables.{IsOwn}
use Rattle.sound_tables.specs.Shown.{ShowsSecret}
use Rattle.sound_tables.proofs.TableLemmas.{plain_text, reads_whole}
use Rattle.sound_tables.proofs.Texts.{secrets_text, secrets_columns, secrets_read}
use Rattle.sound_tables.proofs.tables.read_secrets.Goals as goal

pub read_table-requires : goal.read_table-requires
read_table-requires g c = record { plain = plain_text IsOwn secrets_text 3 secrets_columns _ secrets_read }

pub returns : goal.returns
returns g c =
    let told = c.read_table.ensures in
    reads_whole IsOwn secrets_text 3 secrets_columns _ secrets_read g.S.Store ShowsSecret (λ r. refl)
    c.args.conn.now c.read_table.new.conn c.read_table.result told.looks told.taken told.fault
