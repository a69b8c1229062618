use Rattle.std.proofs.Common.{sym, subst, arith, ◌∙◌}
use Rattle.sqlite.specs.State.{HasCleanDisk}
use Rattle.sqlite.specs.Held.{state}
use Rattle.relay_types.specs.Rows.{rows_of}
use Rattle.spool_sql.specs.Stored.{IsTables, with_records}
use Rattle.spool_write.proofs.ChangeLemmas.{some_if}
use Rattle.spool_write.proofs.SubscribedLemmas.{counted_told, named_told, unknown_told}
use Rattle.spool_write.proofs.subscribed.find_subscribing.Goals as goal

pub returns-in_default-clause-found : goal.returns-in_default-clause-found
returns-in_default-clause-found g c clean count records has =
    unknown_told records has.legal c.args.topic.now c.args.name.now
    (rw c.in_default.is at (c.in_ok-put.ensures.found clean (with_records count (rows_of records)) has.tables))

pub returns-then-branch-clause-found : goal.returns-then-branch-clause-found
returns-then-branch-clause-found g c clean count records has =
    let rows = with_records count (rows_of records) in
    let b = state g.S.Store c.select_put.new.tx.conn.now in
    let at_b : HasCleanDisk b = omega (arith, clean, c.in_ok-has_topic.ensures.spares.survives.clean) in
    let same = c.in_ok-put.ensures.unchanged at_b in
    let here = subst (λ d. IsTables d rows) (sym same.0.now_is) has.tables in
    named_told records has.legal c.args.topic.now c.args.name.now c.in-Some.put
    (rw c.in-Some.is at (c.in_ok-put.ensures.found at_b rows has.tables))
    (sym c.if-branch.true ∙ c.in_ok-has_topic.ensures.found clean rows here)

pub returns-clause-found : goal.returns-clause-found
returns-clause-found g c clean count records has =
    let rows = with_records count (rows_of records) in
    let b = state g.S.Store c.select_put.new.tx.conn.now in
    let m = state g.S.Store c.has_topic.new.tx.conn.now in
    let at_m : HasCleanDisk m = omega (arith, clean, c.in_ok-count.ensures.spares.survives.clean) in
    let at_b : HasCleanDisk b = omega (arith, at_m, c.in_ok-has_topic.ensures.spares.survives.clean) in
    let same = c.in_ok-put.ensures.unchanged at_b in
    let here = subst (λ d. IsTables d rows) (sym same.0.now_is) has.tables in
    let also = c.in_ok-has_topic.ensures.unchanged at_m in
    let there = subst (λ d. IsTables d rows) (sym also.0.now_is) here in
    c.then_some.ensures ∙ some_if _ _ ∙ counted_told records has.legal c.args.topic.now c.args.name.now c.in-Some.put _
    (rw c.in-Some.is at (c.in_ok-put.ensures.found at_b rows has.tables))
    (sym c.if-branch.false ∙ c.in_ok-has_topic.ensures.found at_m rows here)
    (c.in_ok-count.ensures.counted clean rows there)
