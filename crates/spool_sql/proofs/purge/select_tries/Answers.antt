use Rattle.std.proofs.Common.{inl, sym, ap, subst, ◌∙◌, map}
use Rattle.sqlite.specs.Held.{state}
use Rattle.relay_types.specs.Rows.{Rows}
use Rattle.spool_sql.specs.Stored.{IsTables, AreTriesBetween, tried_in}
use Rattle.spool_sql.specs.Readable.{AreReadable, IsRefusal}
use Rattle.spool_sql.proofs.ReadableLemmas.{handed_on, err_then}
use Rattle.spool_sql.proofs.Refusals.{tries_refused}
use Rattle.spool_sql.proofs.Purges.{shows_tries, tries_select_bare, tells_tries}
use Rattle.spool_sql.proofs.StepLemmas.{ok_then}
use Rattle.spool_sql.proofs.purge.select_tries.Goals as goal

pub query-requires : goal.query-requires
query-requires g c = tries_select_bare

pub returns-clause-found : goal.returns-clause-found
returns-clause-found g c clean =
    ok_then c.read_tries.result _ _ c.read_tries.ensures.value (λ found is rows t.
    subst (AreTriesBetween c.args.first c.args.last rows) (sym (is ∙ ap (map tried_in) c.deref.ensures.value))
    (tells_tries (state g.S.Store c.args.tx.now.conn.now) (state g.S.Store c.query.new.tx.conn.now)
    c.in_ok-rows.rows.items rows t c.args.first c.args.last
    (rw (c.value.ensures.value, c.value-2.ensures.value) at (c.in_ok-rows.ensures.shown clean))))

pub returns-in_err-rows-clause-refused : goal.returns-in_err-rows-clause-refused
returns-in_err-rows-clause-refused g c clean =
    let a = state g.S.Store c.args.tx.now.conn.now in
    let b = state g.S.Store c.query.new.tx.conn.now in
    handed_on c.from_residual.result c.in_err-rows.field-0.0 (λ e. (rows : Rows) → IsTables a.now rows
    → AreReadable rows → IsRefusal a b e) c.from_residual.ensures.1
    (λ rows t readable. tries_refused c.args.first c.args.last a b _ rows t
    (rw (c.value.ensures.value, c.value-2.ensures.value) at (c.in_err-rows.ensures.failed clean)))

pub returns-clause-refused : goal.returns-clause-refused
returns-clause-refused g c clean =
    let a = state g.S.Store c.args.tx.now.conn.now in
    let b = state g.S.Store c.query.new.tx.conn.now in
    err_then c.read_tries.result _ (λ e. (rows : Rows) → IsTables a.now rows → AreReadable rows
    → IsRefusal a b e) c.read_tries.ensures.refused
    (λ e memory rows t readable. inl (memory (rw c.deref.ensures.value
    (shows_tries a b _ rows t c.args.first c.args.last
    (rw (c.value.ensures.value, c.value-2.ensures.value) at (c.in_ok-rows.ensures.shown clean)) readable))))
