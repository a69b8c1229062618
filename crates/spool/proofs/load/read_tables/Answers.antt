use Rattle.std.proofs.Common.{◌∙◌}
use Rattle.sqlite.specs.State.{State}
use Rattle.sqlite.specs.Held.{state}
use Rattle.relay_types.specs.Rows.{rows_of}
use Rattle.spool_sql.specs.Steps.{Spares}
use Rattle.spool_sql.proofs.StepLemmas.{spares_then}
use Rattle.spool_sql.specs.declared.row.RowFault.TheVariants.{Failed}
use Rattle.spool_sql.proofs.ReadableLemmas.{handed_on}
use Rattle.spool_load.specs.Loading.{IsReadRefusal}
use Rattle.spool.proofs.BookLoads.{all_read, all_settle, books_read, settles_read}
use Rattle.spool_load.proofs.QuietReads.{IsQuiet, quiet_then, clean_before, tables_along}
use Rattle.spool_sql.proofs.LegalRows.{legal_readable}
use Rattle.spool_load.proofs.PageReads.{refused_behind}
use Rattle.spool.proofs.load.read_tables.Goals as goal

-- four reads, one after another
spares_four : (a b t d e : State) → Spares a b → Spares b t → Spares t d → Spares d e → Spares a e
spares_four a b t d e first second third fourth =
    spares_then a d e (spares_then a t d (spares_then a b t first second) third) fourth

pub returns-in_err-load_attempts-clause-spares : goal.returns-in_err-load_attempts-clause-spares
returns-in_err-load_attempts-clause-spares g c =
    spares_four _ _ _ _ _ c.load_endpoints.ensures.spares c.load_topics.ensures.spares
    c.load_deliveries.ensures.spares c.load_attempts.ensures.spares

pub returns-in_err-records-clause-spares : goal.returns-in_err-records-clause-spares
returns-in_err-records-clause-spares g c =
    spares_then _ _ _
    (spares_four _ _ _ _ _ c.load_endpoints.ensures.spares c.load_topics.ensures.spares
    c.load_deliveries.ensures.spares c.load_attempts.ensures.spares) c.select_records.ensures.spares

pub returns-clause-spares : goal.returns-clause-spares
returns-clause-spares g c =
    spares_then _ _ _
    (spares_four _ _ _ _ _ c.load_endpoints.ensures.spares c.load_topics.ensures.spares
    c.load_deliveries.ensures.spares c.load_attempts.ensures.spares) c.select_records.ensures.spares

pub returns-clause-found : goal.returns-clause-found
returns-clause-found g c clean =
    let a = state g.S.Store c.args.tx.now.conn.now in
    let b = state g.S.Store c.load_endpoints.new.tx.conn.now in
    let t = state g.S.Store c.load_topics.new.tx.conn.now in
    let d = state g.S.Store c.load_deliveries.new.tx.conn.now in
    let e = state g.S.Store c.load_attempts.new.tx.conn.now in
    let z = state g.S.Store c.select_records.new.tx.conn.now in
    let first = c.in_ok-endpoints.ensures in
    let topics = c.in_ok-load_topics.ensures in
    let second = c.in_ok-deliveries.ensures in
    let third = c.in_ok-load_attempts.ensures in
    let look = c.in_ok-records.ensures in
    let end = c.settle_books.ensures in
    books_read a.now c.load_topics.new.loaded c.load_attempts.new.loaded c.in_ok-records.records
    c.settle_books.result end.endpoints end.deliveries end.records end.clock
    (all_read a b t d e z c.in_ok-endpoints.endpoints c.load_topics.new.loaded c.in_ok-deliveries.deliveries
    c.load_attempts.new.loaded c.in_ok-records.records
    (record { spares = first.spares; unchanged = first.unchanged })
    (record { spares = topics.spares; unchanged = topics.unchanged })
    (record { spares = second.spares; unchanged = second.unchanged })
    (record { spares = third.spares; unchanged = third.unchanged })
    look.spares look.unchanged first.found topics.found
    (λ at_d records legal tables names. second.found at_d records legal tables (c.deref.ensures.value ∙ names))
    third.found look.found clean)

pub returns-clause-refused : goal.returns-clause-refused
returns-clause-refused g c clean =
    let a = state g.S.Store c.args.tx.now.conn.now in
    let b = state g.S.Store c.load_endpoints.new.tx.conn.now in
    let t = state g.S.Store c.load_topics.new.tx.conn.now in
    let d = state g.S.Store c.load_deliveries.new.tx.conn.now in
    let e = state g.S.Store c.load_attempts.new.tx.conn.now in
    let z = state g.S.Store c.select_records.new.tx.conn.now in
    let first = c.in_ok-endpoints.ensures in
    let topics = c.in_ok-load_topics.ensures in
    let second = c.in_ok-deliveries.ensures in
    let third = c.in_ok-load_attempts.ensures in
    let look = c.in_ok-records.ensures in
    settles_read a z c.settle_books.result _ c.settle_books.ensures.unreadable (λ is_open.
    all_settle a b t d e z c.in_ok-endpoints.endpoints c.load_topics.new.loaded c.in_ok-deliveries.deliveries
    c.load_attempts.new.loaded c.in_ok-records.records
    (record { spares = first.spares; unchanged = first.unchanged })
    (record { spares = topics.spares; unchanged = topics.unchanged })
    (record { spares = second.spares; unchanged = second.unchanged })
    (record { spares = third.spares; unchanged = third.unchanged })
    look.spares look.unchanged first.found topics.found
    (λ at_d records legal tables names. second.found at_d records legal tables (c.deref.ensures.value ∙ names))
    third.found look.found clean)

pub returns-in_err-load_topics-clause-refused : goal.returns-in_err-load_topics-clause-refused
returns-in_err-load_topics-clause-refused g c clean =
    let a = state g.S.Store c.args.tx.now.conn.now in
    let b = state g.S.Store c.load_endpoints.new.tx.conn.now in
    let t = state g.S.Store c.load_topics.new.tx.conn.now in
    let first = c.in_ok-endpoints.ensures in
    let step = c.in_err-load_topics.ensures in
    handed_on c.from_residual-in_err-load_topics.result c.in_err-load_topics.field-0.0
    (IsReadRefusal a t (λ _. Unit {0})) c.from_residual-in_err-load_topics.ensures.1
    (λ is_open records legal tables given. refused_behind a b t
    (record { spares = first.spares; unchanged = first.unchanged }) step.spares clean is_open (rows_of records) _
    tables (λ at_b open_b here. step.refused clean open_b records legal here (first.found at_b records legal tables)))

pub returns-in_err-deliveries-clause-refused : goal.returns-in_err-deliveries-clause-refused
returns-in_err-deliveries-clause-refused g c clean =
    let a = state g.S.Store c.args.tx.now.conn.now in
    let b = state g.S.Store c.load_endpoints.new.tx.conn.now in
    let t = state g.S.Store c.load_topics.new.tx.conn.now in
    let d = state g.S.Store c.load_deliveries.new.tx.conn.now in
    let first = c.in_ok-endpoints.ensures in
    let topics = c.in_ok-load_topics.ensures in
    let step = c.in_err-deliveries.ensures in
    let quiet_b : IsQuiet a b = record { spares = first.spares; unchanged = first.unchanged } in
    handed_on c.from_residual-in_err-deliveries.result c.in_err-deliveries.field-0.0 (IsReadRefusal a d (λ _. Unit {0}))
    c.from_residual-in_err-deliveries.ensures.1
    (λ is_open records legal tables given. refused_behind a t d
    (quiet_then a b t quiet_b (record { spares = topics.spares; unchanged = topics.unchanged }))
    step.spares clean is_open (rows_of records) _ tables (λ at_t open_t here.
    let at_b = clean_before b t topics.spares at_t in
    let along = tables_along a b (rows_of records) quiet_b at_b (quiet_b.unchanged at_b is_open).0.is_open tables in
    step.refused clean open_t records legal here
    (c.deref.ensures.value ∙ (topics.found at_t records legal along (first.found at_b records legal tables)).names)))

pub returns-in_err-load_attempts-clause-refused : goal.returns-in_err-load_attempts-clause-refused
returns-in_err-load_attempts-clause-refused g c clean =
    let a = state g.S.Store c.args.tx.now.conn.now in
    let b = state g.S.Store c.load_endpoints.new.tx.conn.now in
    let t = state g.S.Store c.load_topics.new.tx.conn.now in
    let d = state g.S.Store c.load_deliveries.new.tx.conn.now in
    let e = state g.S.Store c.load_attempts.new.tx.conn.now in
    let first = c.in_ok-endpoints.ensures in
    let topics = c.in_ok-load_topics.ensures in
    let second = c.in_ok-deliveries.ensures in
    let step = c.in_err-load_attempts.ensures in
    let quiet_b : IsQuiet a b = record { spares = first.spares; unchanged = first.unchanged } in
    let quiet_t : IsQuiet a t =
    quiet_then a b t quiet_b (record { spares = topics.spares; unchanged = topics.unchanged }) in
    handed_on c.from_residual-in_err-load_attempts.result c.in_err-load_attempts.field-0.0
    (IsReadRefusal a e (λ _. Unit {0})) c.from_residual-in_err-load_attempts.ensures.1
    (λ is_open records legal tables given.
    refused_behind a d e (quiet_then a t d quiet_t (record { spares = second.spares; unchanged = second.unchanged }))
    step.spares clean is_open (rows_of records) _ tables (λ at_d open_d here.
    let at_t = clean_before t d second.spares at_d in
    let at_b = clean_before b t topics.spares at_t in
    let along = tables_along a b (rows_of records) quiet_b at_b (quiet_b.unchanged at_b is_open).0.is_open tables in
    let names = c.deref.ensures.value
    ∙ (topics.found at_t records legal along (first.found at_b records legal tables)).names in
    step.refused clean open_d records legal here
    (second.found at_d records legal
    (tables_along a t (rows_of records) quiet_t at_t (quiet_t.unchanged at_t is_open).0.is_open tables) names)))

pub returns-in_err-records-clause-refused : goal.returns-in_err-records-clause-refused
returns-in_err-records-clause-refused g c clean =
    let a = state g.S.Store c.args.tx.now.conn.now in
    let b = state g.S.Store c.load_endpoints.new.tx.conn.now in
    let t = state g.S.Store c.load_topics.new.tx.conn.now in
    let d = state g.S.Store c.load_deliveries.new.tx.conn.now in
    let e = state g.S.Store c.load_attempts.new.tx.conn.now in
    let z = state g.S.Store c.select_records.new.tx.conn.now in
    let first = c.in_ok-endpoints.ensures in
    let topics = c.in_ok-load_topics.ensures in
    let second = c.in_ok-deliveries.ensures in
    let third = c.in_ok-load_attempts.ensures in
    let look = c.in_err-records.ensures in
    let quiet_t = quiet_then a b t (record { spares = first.spares; unchanged = first.unchanged })
    (record { spares = topics.spares; unchanged = topics.unchanged }) in
    let quiet_d = quiet_then a t d quiet_t (record { spares = second.spares; unchanged = second.unchanged }) in
    handed_on c.from_residual-in_err-records.result (Failed c.in_err-records.field-0.0)
    (IsReadRefusal a z (λ _. Unit {0})) c.from_residual-in_err-records.ensures.1
    (λ is_open records legal tables given.
    refused_behind a e z (quiet_then a d e quiet_d (record { spares = third.spares; unchanged = third.unchanged }))
    look.spares clean is_open (rows_of records) (Failed c.in_err-records.field-0.0) tables (λ at_e open_e here.
    look.refused clean (rows_of records) here (legal_readable records legal)))
