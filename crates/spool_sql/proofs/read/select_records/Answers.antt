use Rattle.std.proofs.Common.{inl, ◌∙◌}
use Rattle.sqlite.specs.Held.{state}
use Rattle.relay_types.specs.Rows.{Rows}
use Rattle.spool_sql.specs.Stored.{IsTables}
use Rattle.spool_sql.specs.Readable.{AreReadable, IsRefusal}
use Rattle.spool_sql.proofs.ReadableLemmas.{handed_on, err_then}
use Rattle.spool_sql.proofs.Refusals.{records_refused}
use Rattle.spool_sql.proofs.MetaSelects.{records_select_bare, record_shown, tells_records}
use Rattle.spool_sql.proofs.StepLemmas.{ok_then}
use Rattle.spool_sql.proofs.read.select_records.Goals as goal

pub query-requires : goal.query-requires
query-requires g c = records_select_bare

pub returns-clause-found : goal.returns-clause-found
returns-clause-found g c clean =
    ok_then c.first_number.result _ _ c.first_number.ensures.value (λ count is rows t.
    tells_records (state g.S.Store c.args.tx.now.conn.now) (state g.S.Store c.query.new.tx.conn.now)
    c.in_ok-rows.rows.items rows t (c.in_ok-rows.ensures.shown clean) count (rw c.deref.ensures.value at is))

pub returns-in_err-rows-clause-refused : goal.returns-in_err-rows-clause-refused
returns-in_err-rows-clause-refused g c clean =
    let a = state g.S.Store c.args.tx.now.conn.now in
    let b = state g.S.Store c.query.new.tx.conn.now in
    handed_on c.from_residual.result c.in_err-rows.field-0.0 (λ e. (rows : Rows) → IsTables a.now rows
    → AreReadable rows → IsRefusal a b e) c.from_residual.ensures.1
    (λ rows t readable. records_refused a b _ rows t (c.in_err-rows.ensures.failed clean))

pub returns-clause-refused : goal.returns-clause-refused
returns-clause-refused g c clean =
    let a = state g.S.Store c.args.tx.now.conn.now in
    let b = state g.S.Store c.query.new.tx.conn.now in
    err_then c.first_number.result _ (λ e. (rows : Rows) → IsTables a.now rows → AreReadable rows → IsRefusal a b e)
    c.first_number.ensures.refused
    (λ e memory rows t readable. inl
    (memory rows.records (c.deref.ensures.value ∙ record_shown a b _ rows t (c.in_ok-rows.ensures.shown clean))))
