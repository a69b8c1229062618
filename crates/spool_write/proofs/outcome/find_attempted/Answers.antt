use Rattle.std.proofs.Common.{sym, subst, arith, ◌∙◌}
use Rattle.sqlite.specs.State.{HasCleanDisk}
use Rattle.sqlite.specs.Held.{state}
use Rattle.relay_types.specs.Rows.{rows_of}
use Rattle.spool_sql.specs.Stored.{IsTables, with_records}
use Rattle.spool_sql.proofs.ReadableLemmas.{handed_on}
use Rattle.spool_sql.proofs.BothRefused.{refusal_since}
use Rattle.spool_write.specs.Entering.{IsLookRefusal}
use Rattle.spool_sql.proofs.LegalRows.{counted_readable}
use Rattle.spool_write.proofs.ChangeLemmas.{some_if}
use Rattle.spool_write.proofs.OutcomeLemmas.{attempting-unknown, attempting-found}
use Rattle.spool_write.proofs.outcome.find_attempted.Goals as goal

pub returns-in_default-clause-found : goal.returns-in_default-clause-found
returns-in_default-clause-found g c clean count records has =
    attempting-unknown records c.args.delivery c.args.attempt c.args.status
    (rw c.in_default.is at (c.in_ok-put.ensures.found clean (with_records count (rows_of records)) has.tables))

pub returns-clause-found : goal.returns-clause-found
returns-clause-found g c clean count records has =
    let rows = with_records count (rows_of records) in
    let b = state g.S.Store c.select_endpoint.new.tx.conn.now in
    let at_b : HasCleanDisk b = omega (arith, clean, c.in_ok-statuses.ensures.spares.survives.clean) in
    let same = c.in_ok-put.ensures.unchanged at_b in
    let known = c.in_ok-statuses.ensures.found clean rows
    (subst (λ d. IsTables d rows) (sym same.0.now_is) has.tables) in
    c.then_some.ensures ∙ some_if _ _ ∙ attempting-found records c.args.delivery c.args.attempt c.args.status
    c.in-Some.put _ _ (rw c.in-Some.is at (c.in_ok-put.ensures.found at_b rows has.tables)) known
    (rw c.deref.ensures.value at c.may_be_next.ensures.next)

pub returns-in_err-put-clause-refused : goal.returns-in_err-put-clause-refused
returns-in_err-put-clause-refused g c clean =
    let a = state g.S.Store c.args.tx.now.conn.now in
    let b = state g.S.Store c.select_endpoint.new.tx.conn.now in
    handed_on c.from_residual.result c.in_err-put.field-0.0 (IsLookRefusal a b) c.from_residual.ensures.1
    (λ count records has. c.in_err-put.ensures.refused clean (with_records count (rows_of records)) has.tables
    (counted_readable records has.legal count))

pub returns-in_err-statuses-clause-refused : goal.returns-in_err-statuses-clause-refused
returns-in_err-statuses-clause-refused g c clean =
    let a = state g.S.Store c.args.tx.now.conn.now in
    let m = state g.S.Store c.select_endpoint.new.tx.conn.now in
    let b = state g.S.Store c.select_statuses.new.tx.conn.now in
    let at_m : HasCleanDisk m = omega (arith, clean, c.select_statuses.ensures.spares.survives.clean) in
    let same = c.in_ok-put.ensures.unchanged at_m in
    handed_on c.from_residual-in_err-statuses.result c.in_err-statuses.field-0.0 (IsLookRefusal a b)
    c.from_residual-in_err-statuses.ensures.1
    (λ count records has.
    let rows = with_records count (rows_of records) in
    refusal_since a m b c.select_endpoint.ensures.spares.survives c.select_statuses.ensures.spares.survives clean _
    (c.in_err-statuses.ensures.refused clean rows (subst (λ d. IsTables d rows) (sym same.0.now_is) has.tables)
    (counted_readable records has.legal count)))
