use Rattle.std.proofs.Common.{◌≡◌, false, refl, sym, ◌∙◌, arith}
use Rattle.sqlite.specs.State.{HasCleanDisk}
use Rattle.sqlite.specs.Held.{state}
use Rattle.spool.specs.Migrating.{has_topics}
use Rattle.spool.proofs.CheckReads.{back_behind, was_open}
use Rattle.spool.proofs.MigrateLemmas.{may_commit, may_stay, survives_look, unmade_for}
use Rattle.spool.proofs.migrate.add_topics.Goals as goal

pub returns-then-has_topics-clause-left : goal.returns-then-has_topics-clause-left
returns-then-has_topics-clause-left g c clean = may_stay (state g.S.Store c.args.conn.now)

pub returns-then-has_topics-clause-undone : goal.returns-then-has_topics-clause-undone
returns-then-has_topics-clause-undone g c clean is_open settled = record {
  now = settled;
  committed = refl;
  autocommit = c.requires;
}

pub returns-in-Ok-clause-left : goal.returns-in-Ok-clause-left
returns-in-Ok-clause-left g c clean =
    let a = state g.S.Store c.args.conn.now in
    let free : has_topics a.now.schema ≡ false = rw c.schema.ensures.value at
    (sym c.has_topics.ensures ∙ c.if-has_topics.false) in
    may_commit a (state g.S.Store c.add_in_transaction.new.conn) free (c.in-Ok.ensures.was_open clean)
    c.in-Ok.ensures.survives clean

pub returns-in-Err-clause-left : goal.returns-in-Err-clause-left
returns-in-Err-clause-left g c clean =
    let a = state g.S.Store c.args.conn.now in
    let m = state g.S.Store c.add_in_transaction.new.conn in
    let b = state g.S.Store c.fault_of.new.conn in
    let early : HasCleanDisk m = omega (arith, clean, c.fault_of.ensures.survives.clean) in
    let free : has_topics a.now.schema ≡ false = rw c.schema.ensures.value at
    (sym c.has_topics.ensures ∙ c.if-has_topics.false) in
    may_commit a b free (λ is_open. c.in-Err.ensures.was_open early
    (was_open m b (c.fault_of.ensures.ended clean) is_open))
    (survives_look a m b c.in-Err.ensures.survives c.fault_of.ensures.survives) clean

pub returns-in-Err-clause-undone : goal.returns-in-Err-clause-undone
returns-in-Err-clause-undone g c clean is_open settled =
    let m = state g.S.Store c.add_in_transaction.new.conn in
    let early : HasCleanDisk m = omega (arith, clean, c.fault_of.ensures.survives.clean) in
    back_behind (state g.S.Store c.args.conn.now) m (state g.S.Store c.fault_of.new.conn)
    (c.in-Err.ensures.undone early) (c.fault_of.ensures.ended clean) is_open

pub returns-in-Err-clause-cause : goal.returns-in-Err-clause-cause
returns-in-Err-clause-cause g c clean =
    unmade_for (state g.S.Store c.args.conn.now) (state g.S.Store c.add_in_transaction.new.conn)
    (state g.S.Store c.fault_of.new.conn)
    c.in-Err.error c.fault_of.result c.in-Err.ensures.cause c.in-Err.ensures.survives c.fault_of.ensures.survives clean
    c.fault_of.ensures.told

pub returns-in-Err-clause-survives : goal.returns-in-Err-clause-survives
returns-in-Err-clause-survives g c =
    survives_look (state g.S.Store c.args.conn.now) (state g.S.Store c.add_in_transaction.new.conn)
    (state g.S.Store c.fault_of.new.conn)
    c.in-Err.ensures.survives c.fault_of.ensures.survives
