use Rattle.std.proofs.Common.{sym, subst, arith}
use Rattle.sqlite.specs.State.{HasCleanDisk}
use Rattle.sqlite.specs.Held.{state}
use Rattle.relay_types.specs.Records.{records_of}
use Rattle.spool_sql.specs.Steps.{Stands}
use Rattle.spool.proofs.CommitLemmas.{caused, ends_told}
use Rattle.spool.proofs.transaction.write_steps.Goals as goal

pub returns-clause-ends : goal.returns-clause-ends
returns-clause-ends g c clean =
    let old = state g.S.Store c.args.conn.now in
    let mid = state g.S.Store c.commit_steps-tried.new.conn in
    let new = state g.S.Store c.end_of.new.conn in
    let early : HasCleanDisk mid = omega (arith, clean, c.end_of.ensures.survives.clean) in
    ends_told old mid new c.args.next (records_of c.args.steps.now) c.commit_steps-tried.result c.end_of.result
    (c.commit_steps-tried.ensures.done early) (c.commit_steps-tried.ensures.undone early)
    c.commit_steps-tried.ensures.survives
    c.end_of.ensures.survives clean c.end_of.ensures.told
    (λ made rows. subst (λ h. Stands (state g.S.Store h) rows) (sym (c.end_of.ensures.committed made)))
    (c.end_of.ensures.same clean) (c.end_of.ensures.stays clean) (g.met.S.Store.settled c.args.conn.now.store)
    (g.met.S.Store.settled c.end_of.new.conn.store)

pub returns-clause-cause : goal.returns-clause-cause
returns-clause-cause g c clean =
    caused (state g.S.Store c.args.conn.now) (state g.S.Store c.commit_steps-tried.new.conn)
    (state g.S.Store c.end_of.new.conn) c.commit_steps-tried.ensures.survives c.end_of.ensures.survives clean
    c.commit_steps-tried.result c.end_of.result c.commit_steps-tried.ensures.cause c.end_of.ensures.told
