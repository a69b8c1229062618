use Rattle.std.proofs.Common.{subst, arith}
use Rattle.sqlite.specs.State.{HasCleanDisk}
use Rattle.sqlite.specs.Held.{state}
use Rattle.spool_sql.specs.Steps.{Grows}
use Rattle.spool_sql.specs.Tables.{schema_1, schema_2, schema_3, schema_4, no_schema, first_schema}
use Rattle.spool_sql.specs.Tables.{meta, endpoints, secrets, deliveries, attempts}
use Rattle.spool_sql.proofs.CreateLemmas.{makes_meta, makes_endpoints, makes_secrets, makes_deliveries, makes_attempts}
use Rattle.spool_sql.proofs.CreateLemmas.{makes_first}
use Rattle.spool_sql.proofs.StepLemmas.{grows_then, on_ok, spares_then}
use Rattle.spool_sql.proofs.create.create_first_schema.Goals as goal

pub returns-clause-done : goal.returns-clause-done
returns-clause-done g c clean inside =
    let s0 = state g.S.Store c.args.tx.now.conn.now in
    let s1 = state g.S.Store c.create.new.tx.conn.now in
    let s2 = state g.S.Store c.create-2.new.tx.conn.now in
    let s3 = state g.S.Store c.create-3.new.tx.conn.now in
    let s4 = state g.S.Store c.create-4.new.tx.conn.now in
    let s5 = state g.S.Store c.create-5.new.tx.conn.now in
    let c4 : HasCleanDisk s4 = omega (arith, clean, c.create-5.ensures.spares.survives.clean) in
    let c3 : HasCleanDisk s3 = omega (arith, c4, c.create-4.ensures.spares.survives.clean) in
    let c2 : HasCleanDisk s2 = omega (arith, c3, c.create-3.ensures.spares.survives.clean) in
    let c1 : HasCleanDisk s1 = omega (arith, c2, c.create-2.ensures.spares.survives.clean) in
    let one = c.in_ok-create.ensures.done no_schema meta makes_meta c1 inside in
    let two = grows_then no_schema schema_1 schema_2 s0 s1 s2 one
    (c.in_ok-create-2.ensures.done schema_1 endpoints makes_endpoints c2 one.on.mode) in
    let three = grows_then no_schema schema_2 schema_3 s0 s2 s3 two
    (c.in_ok-create-3.ensures.done schema_2 secrets makes_secrets c3 two.on.mode) in
    let four = grows_then no_schema schema_3 schema_4 s0 s3 s4 three
    (c.in_ok-create-4.ensures.done schema_3 deliveries makes_deliveries c4 three.on.mode) in
    on_ok c.create-5.result _ _ (c.create-5.ensures.done schema_4 attempts makes_attempts clean four.on.mode)
    (λ five. grows_then no_schema schema_4 first_schema s0 s4 s5 four
    (subst (λ s. Grows schema_4 s s4 s5) makes_first five))

pub returns-clause-spares : goal.returns-clause-spares
returns-clause-spares g c =
    let s0 = state g.S.Store c.args.tx.now.conn.now in
    let s1 = state g.S.Store c.create.new.tx.conn.now in
    let s2 = state g.S.Store c.create-2.new.tx.conn.now in
    let s3 = state g.S.Store c.create-3.new.tx.conn.now in
    let s4 = state g.S.Store c.create-4.new.tx.conn.now in
    let s5 = state g.S.Store c.create-5.new.tx.conn.now in
    spares_then s0 s1 s5 c.create.ensures.spares
    (spares_then s1 s2 s5 c.create-2.ensures.spares (spares_then s2 s3 s5 c.create-3.ensures.spares
    (spares_then s3 s4 s5 c.create-4.ensures.spares c.create-5.ensures.spares)))
