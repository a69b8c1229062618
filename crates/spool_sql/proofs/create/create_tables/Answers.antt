use Rattle.std.proofs.Common.{arith}
use Rattle.sqlite.specs.State.{HasCleanDisk}
use Rattle.sqlite.specs.Held.{state}
use Rattle.spool_sql.specs.Tables.{first_schema, no_schema, relay_schema}
use Rattle.spool_sql.proofs.StepLemmas.{founds_then, founds_same, grows_then, on_ok, spares_then}
use Rattle.spool_sql.proofs.create.create_tables.Goals as goal

pub returns-clause-done : goal.returns-clause-done
returns-clause-done g c clean inside =
    let s0 = state g.S.Store c.args.tx.now.conn.now in
    let s1 = state g.S.Store c.create_first_schema.new.tx.conn.now in
    let s2 = state g.S.Store c.create_topics.new.tx.conn.now in
    let s3 = state g.S.Store c.insert_first_meta.new.tx.conn.now in
    let s4 = state g.S.Store c.prepare_probe.new.tx.conn.now in
    let c3 : HasCleanDisk s3 = omega (arith, clean, c.prepare_probe.ensures.spares.survives.clean) in
    let c2 : HasCleanDisk s2 = omega (arith, c3, c.insert_first_meta.ensures.spares.survives.clean) in
    let c1 : HasCleanDisk s1 = omega (arith, c2, c.create_topics.ensures.spares.survives.clean) in
    let five = c.in_ok-create_first_schema.ensures.done c1 inside in
    let six = grows_then no_schema first_schema relay_schema s0 s1 s2 five
    (c.in_ok-create_topics.ensures.grows c2 five.on.mode) in
    let founded = founds_then no_schema relay_schema s0 s2 s3 six
    (c.in_ok-insert_first_meta.ensures.done c3 six.on.mode) in
    on_ok c.prepare_probe.result _ _ (c.prepare_probe.ensures.same clean)
    (λ same. founds_same no_schema s0 s3 s4 founded same)

pub returns-clause-spares : goal.returns-clause-spares
returns-clause-spares g c =
    let s0 = state g.S.Store c.args.tx.now.conn.now in
    let s1 = state g.S.Store c.create_first_schema.new.tx.conn.now in
    let s2 = state g.S.Store c.create_topics.new.tx.conn.now in
    let s3 = state g.S.Store c.insert_first_meta.new.tx.conn.now in
    let s4 = state g.S.Store c.prepare_probe.new.tx.conn.now in
    spares_then s0 s1 s4 c.create_first_schema.ensures.spares (spares_then s1 s2 s4 c.create_topics.ensures.spares
    (spares_then s2 s3 s4 c.insert_first_meta.ensures.spares c.prepare_probe.ensures.spares))
