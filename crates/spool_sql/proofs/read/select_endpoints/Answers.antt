use Rattle.std.proofs.Common.{sym, ap, subst, ◌∙◌, map}
use Rattle.sqlite.specs.Held.{state}
use Rattle.relay_types.specs.Rows.{Rows, EndpointRow}
use Rattle.spool_sql.specs.declared.row.RowFault.TheVariants.{Failed}
use Rattle.spool_sql.specs.Stored.{IsTables, IsPage, endpoint_in}
use Rattle.spool_sql.specs.Readable.{AreReadable, IsRowRefusal}
use Rattle.spool_sql.proofs.ReadableLemmas.{handed_on, err_then, row_memory}
use Rattle.spool_sql.proofs.Refusals.{endpoints_refused}
use Rattle.spool_sql.proofs.Pages.{shows_endpoints, endpoints_page_bare, tells_endpoints}
use Rattle.spool_sql.proofs.StepLemmas.{ok_then}
use Rattle.spool_sql.proofs.read.select_endpoints.Goals as goal

pub query-requires : goal.query-requires
query-requires g c = endpoints_page_bare

pub returns-clause-found : goal.returns-clause-found
returns-clause-found g c clean =
    ok_then c.read_rows.result _ _ c.read_rows.ensures.value (λ page is rows t.
    subst (IsPage (λ (e : EndpointRow). e.put) c.args.from rows.endpoints)
    (sym (is ∙ ap (map endpoint_in) c.deref.ensures.value))
    (tells_endpoints (state g.S.Store c.args.tx.now.conn.now) (state g.S.Store c.query.new.tx.conn.now)
    c.in_ok-rows.rows.items rows t c.args.from (rw c.value.ensures.value at (c.in_ok-rows.ensures.shown clean))))

pub returns-in_err-rows-clause-refused : goal.returns-in_err-rows-clause-refused
returns-in_err-rows-clause-refused g c clean =
    let a = state g.S.Store c.args.tx.now.conn.now in
    let b = state g.S.Store c.query.new.tx.conn.now in
    handed_on c.from_residual.result (Failed c.in_err-rows.field-0.0) (λ e. (rows : Rows) → IsTables a.now rows
    → AreReadable rows → IsRowRefusal a b e) c.from_residual.ensures.1
    (λ rows t readable. endpoints_refused c.args.from a b _ rows t
    (rw c.value.ensures.value at (c.in_err-rows.ensures.failed clean)))

pub returns-clause-refused : goal.returns-clause-refused
returns-clause-refused g c clean =
    let a = state g.S.Store c.args.tx.now.conn.now in
    let b = state g.S.Store c.query.new.tx.conn.now in
    err_then c.read_rows.result _ (λ e. (rows : Rows) → IsTables a.now rows → AreReadable rows
    → IsRowRefusal a b e) c.read_rows.ensures.refused
    (λ e memory rows t readable. row_memory a b e
    (memory (rw c.deref.ensures.value
    (shows_endpoints a b _ rows t c.args.from (rw c.value.ensures.value at (c.in_ok-rows.ensures.shown clean))
    readable))))
