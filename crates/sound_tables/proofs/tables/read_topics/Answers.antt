use Rattle.std.proofs.Common.{refl}
use Rattle.sound_tables.specs.Shown.{ShowsTopic}
use Rattle.sound_tables.proofs.TableLemmas.{plain_text, reads_whole}
use Rattle.sound_tables.proofs.Texts.{IsRelays, topics_text, topics_columns, topics_read}
use Rattle.sound_tables.proofs.tables.read_topics.Goals as goal

pub read_table-requires : goal.read_table-requires
read_table-requires g c = record { plain = plain_text IsRelays topics_text 9 topics_columns _ topics_read }

pub returns : goal.returns
returns g c =
    let told = c.read_table.ensures in
    reads_whole IsRelays topics_text 9 topics_columns _ topics_read g.S.Store ShowsTopic (λ r. refl)
    c.args.conn.now c.read_table.new.conn c.read_table.result told.looks told.taken told.fault
