use Rattle.std.proofs.Common.{refl}
use Rattle.spool_sql.specs.Tables.{IsOwn}
use Rattle.sound_tables.specs.Shown.{ShowsDelivery}
use Rattle.sound_tables.proofs.TableLemmas.{plain_text, reads_whole}
use Rattle.sound_tables.proofs.Texts.{deliveries_text, deliveries_columns, deliveries_read}
use Rattle.sound_tables.proofs.tables.read_deliveries.Goals as goal

pub read_table-requires : goal.read_table-requires
read_table-requires g c = record { plain = plain_text IsOwn deliveries_text 5 deliveries_columns _ deliveries_read }

pub returns : goal.returns
returns g c =
    let told = c.read_table.ensures in
    reads_whole IsOwn deliveries_text 5 deliveries_columns _ deliveries_read g.S.Store ShowsDelivery (λ r. refl)
    c.args.conn.now c.read_table.new.conn c.read_table.result told.looks told.taken told.fault
