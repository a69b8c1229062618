use Rattle.std.proofs.Common.{arith}
use Rattle.sqlite.specs.State.{HasCleanDisk}
use Rattle.sqlite.specs.Held.{state}
use Rattle.spool_sql.proofs.StepLemmas.{becomes_then, becomes_same, on_ok, spares_then}
use Rattle.spool.proofs.migrate.write_topics.Goals as goal

pub returns-clause-done : goal.returns-clause-done
returns-clause-done g c clean inside =
    let s0 = state g.S.Store c.args.tx.now.conn.now in
    let s1 = state g.S.Store c.create_topics.new.tx.conn.now in
    let s2 = state g.S.Store c.update_version.new.tx.conn.now in
    let s3 = state g.S.Store c.prepare_probe.new.tx.conn.now in
    let c2 : HasCleanDisk s2 = omega (arith, clean, c.prepare_probe.ensures.spares.survives.clean) in
    let c1 : HasCleanDisk s1 = omega (arith, c2, c.update_version.ensures.spares.survives.clean) in
    let adds = c.in_ok-create_topics.ensures.done c1 inside in
    let becomes = becomes_then s0 s1 s2 adds (c.in_ok-update_version.ensures.done c2 adds.on.mode) in
    on_ok c.prepare_probe.result _ _ (c.prepare_probe.ensures.same clean) (λ same. becomes_same s0 s2 s3 becomes same)

pub returns-clause-spares : goal.returns-clause-spares
returns-clause-spares g c =
    let s0 = state g.S.Store c.args.tx.now.conn.now in
    let s1 = state g.S.Store c.create_topics.new.tx.conn.now in
    let s2 = state g.S.Store c.update_version.new.tx.conn.now in
    let s3 = state g.S.Store c.prepare_probe.new.tx.conn.now in
    spares_then s0 s1 s3 c.create_topics.ensures.spares
    (spares_then s1 s2 s3 c.update_version.ensures.spares c.prepare_probe.ensures.spares)
