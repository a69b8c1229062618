use Rattle.std.proofs.Common.{sym, subst, arith, ◌∙◌}
use Rattle.sqlite.specs.State.{HasCleanDisk}
use Rattle.sqlite.specs.Held.{state}
use Rattle.relay_types.specs.Rows.{rows_of}
use Rattle.spool_sql.specs.Stored.{IsTables, with_records}
use Rattle.spool_write.proofs.RowLemmas.{may_put-taken, may_put-free}
use Rattle.spool_write.proofs.LegalLemmas.{allows_put-is}
use Rattle.spool_write.proofs.put.may_put.Goals as goal

pub returns-then-is_some-clause-legal : goal.returns-then-is_some-clause-legal
returns-then-is_some-clause-legal g c clean count records has =
    let rows = with_records count (rows_of records) in
    may_put-taken rows c.args.name.now _ (c.in_ok-select_put.ensures.found clean rows has.tables)
    (sym c.is_some.ensures ∙ c.if-is_some.true) ∙ allows_put-is records c.args.name.now

pub returns-clause-legal : goal.returns-clause-legal
returns-clause-legal g c clean count records has =
    let rows = with_records count (rows_of records) in
    let b = state g.S.Store c.select_put.new.tx.conn.now in
    let at_b : HasCleanDisk b = omega (arith, clean, c.in_ok-count.ensures.spares.survives.clean) in
    let same = c.in_ok-select_put.ensures.unchanged at_b in
    let counted = c.in_ok-count.ensures.counted clean rows (subst (λ d. IsTables d rows) (sym same.0.now_is) has.tables)
    in
    may_put-free rows c.args.name.now _ c.in_ok-count.count (c.in_ok-select_put.ensures.found at_b rows has.tables)
    (sym c.is_some.ensures ∙ c.if-is_some.false) counted
    ∙ allows_put-is records c.args.name.now
