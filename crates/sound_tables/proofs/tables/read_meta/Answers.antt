use Rattle.std.proofs.Common.{refl}
use Rattle.spool_sql.specs.Tables.{IsOwn}
use Rattle.sound_tables.specs.Shown.{ShowsMeta}
use Rattle.sound_tables.proofs.TableLemmas.{plain_text, reads_whole}
use Rattle.sound_tables.proofs.Texts.{meta_text, meta_columns, meta_read}
use Rattle.sound_tables.proofs.tables.read_meta.Goals as goal

pub read_table-requires : goal.read_table-requires
read_table-requires g c = record { plain = plain_text IsOwn meta_text 0 meta_columns _ meta_read }

pub returns : goal.returns
returns g c =
    let told = c.read_table.ensures in
    reads_whole IsOwn meta_text 0 meta_columns _ meta_read g.S.Store ShowsMeta (λ r. refl)
    c.args.conn.now c.read_table.new.conn c.read_table.result told.looks told.taken told.fault
