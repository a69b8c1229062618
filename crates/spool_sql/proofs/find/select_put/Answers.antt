use Rattle.std.proofs.Common.{inl}
use Rattle.sqlite.specs.Held.{state}
use Rattle.relay_types.specs.Rows.{Rows}
use Rattle.spool_sql.specs.Stored.{IsTables}
use Rattle.spool_sql.specs.Readable.{AreReadable, IsRefusal}
use Rattle.spool_sql.proofs.ReadableLemmas.{handed_on, err_then}
use Rattle.spool_sql.proofs.Refusals.{named_refused}
use Rattle.spool_sql.proofs.SelectLemmas.{shows_puts, named_select_asks, named_select_bare, tells_put}
use Rattle.spool_sql.proofs.StepLemmas.{ok_then}
use Rattle.spool_sql.proofs.find.select_put.Goals as goal

pub query-requires : goal.query-requires
query-requires g c = named_select_bare

pub returns-clause-found : goal.returns-clause-found
returns-clause-found g c clean =
    ok_then c.first_seq.result _ _ c.first_seq.ensures.value (λ put is rows t.
    tells_put (state g.S.Store c.args.tx.now.conn.now) (state g.S.Store c.query.new.tx.conn.now)
    c.in_ok-rows.rows.items rows t named_select_asks c.args.name.now
    (rw c.as_bytes.ensures.text at (c.in_ok-rows.ensures.shown clean)) put (rw c.deref.ensures.value at is))

pub returns-in_err-rows-clause-refused : goal.returns-in_err-rows-clause-refused
returns-in_err-rows-clause-refused g c clean =
    let a = state g.S.Store c.args.tx.now.conn.now in
    let b = state g.S.Store c.query.new.tx.conn.now in
    handed_on c.from_residual.result c.in_err-rows.field-0.0 (λ e. (rows : Rows) → IsTables a.now rows
    → AreReadable rows → IsRefusal a b e) c.from_residual.ensures.1
    (λ rows t readable. named_refused c.args.name.now a b _ rows t
    (rw c.as_bytes.ensures.text at (c.in_err-rows.ensures.failed clean)))

pub returns-clause-refused : goal.returns-clause-refused
returns-clause-refused g c clean =
    let a = state g.S.Store c.args.tx.now.conn.now in
    let b = state g.S.Store c.query.new.tx.conn.now in
    err_then c.first_seq.result _ (λ e. (rows : Rows) → IsTables a.now rows → AreReadable rows
    → IsRefusal a b e) c.first_seq.ensures.refused
    (λ e memory rows t readable. inl (memory (rw c.deref.ensures.value
    (shows_puts a b _ rows t named_select_asks c.args.name.now
    (rw c.as_bytes.ensures.text at (c.in_ok-rows.ensures.shown clean)) readable.endpoints))))
