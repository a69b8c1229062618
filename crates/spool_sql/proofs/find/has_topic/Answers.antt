use Rattle.std.proofs.Common.{◌≡◌, ◌==◌, ◌∙◌, ap, not, length, vec_len, arith}
use Rattle.sqlite.specs.Held.{state}
use Rattle.relay_types.specs.Rows.{Rows}
use Rattle.spool_sql.specs.Stored.{IsTables}
use Rattle.spool_sql.specs.Readable.{AreReadable, IsRefusal}
use Rattle.spool_sql.proofs.ReadableLemmas.{handed_on}
use Rattle.spool_sql.proofs.Refusals.{topic_refused}
use Rattle.spool_sql.proofs.TopicSelects.{topic_select_bare, tells_topic}
use Rattle.spool_sql.proofs.find.has_topic.Goals as goal

pub query-requires : goal.query-requires
query-requires g c = topic_select_bare

pub returns-clause-found : goal.returns-clause-found
returns-clause-found g c clean rows t =
    let shown = rw (c.as_bytes.ensures.text, c.value.ensures.value) at (c.in_ok-rows.ensures.shown clean) in
    let many : vec_len c.in_ok-rows.rows ≡ length c.in_ok-rows.rows.items = omega (arith, c.in_ok-rows.rows.ok.0) in
    ap not c.is_empty.ensures ∙ ap (λ n. not (n == 0)) many ∙ tells_topic (state g.S.Store c.args.tx.now.conn.now)
    (state g.S.Store c.query.new.tx.conn.now) c.in_ok-rows.rows.items rows t c.args.topic.now
    c.args.endpoint shown

pub returns-in_err-rows-clause-refused : goal.returns-in_err-rows-clause-refused
returns-in_err-rows-clause-refused g c clean =
    let a = state g.S.Store c.args.tx.now.conn.now in
    let b = state g.S.Store c.query.new.tx.conn.now in
    handed_on c.from_residual.result c.in_err-rows.field-0.0 (λ e. (rows : Rows) → IsTables a.now rows
    → AreReadable rows → IsRefusal a b e) c.from_residual.ensures.1
    (λ rows t readable. topic_refused c.args.topic.now c.args.endpoint a b _ rows t
    (rw (c.as_bytes.ensures.text, c.value.ensures.value) at (c.in_err-rows.ensures.failed clean)))
