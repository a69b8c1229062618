use Rattle.std.proofs.Common.{not, ap, subst, ◌∙◌, arith}
use Rattle.sqlite.specs.Held.{state}
use Rattle.spool.specs.Adopting.{TellsCheck}
use Rattle.spool.proofs.CheckReads.{check_back, check_read}
use Rattle.spool.proofs.HistoryLemmas.{check_refused, old_refused}
use Rattle.spool.proofs.MigrateLemmas.{old_unchanged}
use Rattle.spool.proofs.adopt.adopt_tables.Goals as goal

pub returns-clause-sound : goal.returns-clause-sound
returns-clause-sound g c clean history =
    check_refused (state g.S.Store c.args.conn.now) (state g.S.Store c.check_tables-checked.new.conn)
    (state g.S.Store c.end_check.new.conn) c.check_tables-checked.ensures.looks.survives c.end_check.ensures.survives
    clean c.check_tables-checked.result history c.check_tables-checked.ensures.sound c.end_check.result
    (c.end_check.ensures.told clean)

pub returns-clause-read : goal.returns-clause-read
returns-clause-read g c clean =
    check_read (state g.S.Store c.args.conn.now) (state g.S.Store c.check_tables-checked.new.conn)
    (state g.S.Store c.end_check.new.conn) c.check_tables-checked.ensures.looks.survives c.end_check.ensures.survives
    clean c.check_tables-checked.ensures.looks.left c.check_tables-checked.result c.end_check.result
    (c.end_check.ensures.told clean)

pub returns-clause-first : goal.returns-clause-first
returns-clause-first g c clean history =
    old_refused (state g.S.Store c.args.conn.now) (state g.S.Store c.check_tables-checked.new.conn)
    (state g.S.Store c.end_check.new.conn) c.check_tables-checked.ensures.looks.survives c.end_check.ensures.survives
    clean c.check_tables-checked.result history c.check_tables-checked.ensures.first c.end_check.result
    (c.end_check.ensures.told clean)

pub returns-clause-old : goal.returns-clause-old
returns-clause-old g c clean is =
    old_unchanged (state g.S.Store c.args.conn.now) (state g.S.Store c.check_tables-checked.new.conn)
    (state g.S.Store c.end_check.new.conn) c.check_tables-checked.result
    (c.check_tables-checked.ensures.old (omega (arith, clean, c.end_check.ensures.survives.clean)))
    (subst (TellsCheck _ _ c.check_tables-checked.result) is (c.end_check.ensures.told clean))

pub returns-clause-back : goal.returns-clause-back
returns-clause-back g c clean =
    check_back (state g.S.Store c.args.conn.now) (state g.S.Store c.check_tables-checked.new.conn)
    (state g.S.Store c.end_check.new.conn) c.check_tables-checked.ensures.looks.survives c.end_check.ensures.survives
    clean
    c.check_tables-checked.ensures.looks.left c.requires
    (c.is_autocommit.ensures.settled (c.is_autocommit.ensures.value ∙ ap not c.requires))
    (c.end_check.ensures.ended clean)
