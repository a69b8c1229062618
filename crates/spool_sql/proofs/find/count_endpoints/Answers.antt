use Rattle.std.proofs.Common.{◌≡◌, ◌∙◌, length, vec_len, arith}
use Rattle.sqlite.specs.Held.{state}
use Rattle.relay_types.specs.Rows.{Rows}
use Rattle.spool_sql.specs.Stored.{IsTables}
use Rattle.spool_sql.specs.Readable.{AreReadable, IsRefusal}
use Rattle.spool_sql.proofs.ReadableLemmas.{handed_on}
use Rattle.spool_sql.proofs.Refusals.{count_refused}
use Rattle.spool_sql.proofs.SelectLemmas.{endpoints_select_asks, endpoints_select_bare, counts_endpoints}
use Rattle.spool_sql.proofs.find.count_endpoints.Goals as goal

pub query-requires : goal.query-requires
query-requires g c = endpoints_select_bare

pub returns-clause-counted : goal.returns-clause-counted
returns-clause-counted g c clean rows t =
    let many : vec_len c.in_ok-rows.rows ≡ length c.in_ok-rows.rows.items = omega (arith, c.in_ok-rows.rows.ok.0) in
    c.len.ensures ∙ many ∙ counts_endpoints (state g.S.Store c.args.tx.now.conn.now)
    (state g.S.Store c.query.new.tx.conn.now) c.in_ok-rows.rows.items rows t endpoints_select_asks
    (c.in_ok-rows.ensures.shown clean)

pub returns-in_err-rows-clause-refused : goal.returns-in_err-rows-clause-refused
returns-in_err-rows-clause-refused g c clean =
    let a = state g.S.Store c.args.tx.now.conn.now in
    let b = state g.S.Store c.query.new.tx.conn.now in
    handed_on c.from_residual.result c.in_err-rows.field-0.0 (λ e. (rows : Rows) → IsTables a.now rows
    → AreReadable rows → IsRefusal a b e) c.from_residual.ensures.1
    (λ rows t readable. count_refused a b _ rows t (c.in_err-rows.ensures.failed clean))
