use Rattle.std.proofs.Common.{not, ap, ◌∙◌}
use Rattle.sqlite.specs.Held.{state}
use Rattle.spool.proofs.CheckReads.{check_back, check_read}
use Rattle.spool.proofs.HistoryLemmas.{first_refused}
use Rattle.spool.proofs.MigrateLemmas.{first_unadopted}
use Rattle.spool.proofs.adopt.adopt_first_tables.Goals as goal

pub returns-clause-refused : goal.returns-clause-refused
returns-clause-refused g c clean own =
    first_unadopted (state g.S.Store c.args.conn.now) (state g.S.Store c.check_first_tables-five.new.conn)
    (state g.S.Store c.end_check.new.conn) c.end_check.ensures.survives clean
    c.check_first_tables-five.result (λ early. c.check_first_tables-five.ensures.refused early own)
    c.end_check.result
    (c.end_check.ensures.told clean)

pub returns-clause-first : goal.returns-clause-first
returns-clause-first g c clean history =
    first_refused (state g.S.Store c.args.conn.now) (state g.S.Store c.check_first_tables-five.new.conn)
    (state g.S.Store c.end_check.new.conn) c.check_first_tables-five.ensures.looks.survives
    c.end_check.ensures.survives
    clean c.check_first_tables-five.result history c.check_first_tables-five.ensures.sound c.end_check.result
    (c.end_check.ensures.told clean)

pub returns-clause-read : goal.returns-clause-read
returns-clause-read g c clean =
    check_read (state g.S.Store c.args.conn.now) (state g.S.Store c.check_first_tables-five.new.conn)
    (state g.S.Store c.end_check.new.conn) c.check_first_tables-five.ensures.looks.survives
    c.end_check.ensures.survives
    clean c.check_first_tables-five.ensures.looks.left c.check_first_tables-five.result c.end_check.result
    (c.end_check.ensures.told clean)

pub returns-clause-back : goal.returns-clause-back
returns-clause-back g c clean =
    check_back (state g.S.Store c.args.conn.now) (state g.S.Store c.check_first_tables-five.new.conn)
    (state g.S.Store c.end_check.new.conn) c.check_first_tables-five.ensures.looks.survives c.end_check.ensures.survives
    clean
    c.check_first_tables-five.ensures.looks.left c.requires
    (c.is_autocommit.ensures.settled (c.is_autocommit.ensures.value ∙ ap not c.requires))
    (c.end_check.ensures.ended clean)
