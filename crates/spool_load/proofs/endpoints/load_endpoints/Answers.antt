use Rattle.std.proofs.Common.{◌≡◌, map, refl, ap, ◌∙◌, rules, arith}
use Rattle.sqlite.specs.Held.{state}
use Rattle.relay_types.specs.Rows.{EndpointRow, rows_of}
use Rattle.endpoint_book.specs.Entries.{BookValue, empty_book}
use Rattle.spool_sql.specs.Stored.{endpoint_of}
use Rattle.spool_sql.proofs.ReadableLemmas.{handed_on}
use Rattle.spool_load.specs.Loading.{AreRestored, IsReadRefusal}
use Rattle.spool_sql.proofs.PageLaws.{last_read}
use Rattle.spool_load.proofs.QuietReads.{quiet_none, quiet_look, quiet_then, page_then, read_whole}
use Rattle.spool_load.proofs.EndpointLoads.{restored_none}
use Rattle.spool_sql.proofs.LegalRows.{legal_readable}
use Rattle.spool_load.proofs.PageReads.{page_ends, page_refused, refused_behind}
use Rattle.spool_load.proofs.endpoints.load_endpoints.Goals as goal

pub loop-from-init : goal.loop-from-init
loop-from-init g c =
    let book : c.in_ok-map_err.field-0 ≡ empty_book = search rules in
    record {
      same_reference = refl;
      quiet = quiet_none (state g.S.Store c.args.tx.now.conn.now);
      settled = ap (λ (b : BookValue). b.changes) book;
      bound = omega arith;
      done = λ clean records legal tables. restored_none records _ legal book c.new-2.ensures.items;
    }

pub loop-from-preserved : goal.loop-from-preserved
loop-from-preserved g c =
    let a = state g.S.Store c.args.tx.now.conn.now in
    let b = state g.S.Store c.loop-from.tx.conn.now in
    let m = state g.S.Store c.select_endpoints.new.tx.conn.now in
    let z = state g.S.Store c.restore_page.new.tx.conn.now in
    let so_far = c.loop-from.invariant in
    let look = c.in_ok-page.ensures in
    let step = c.in_ok-restore_page.ensures in
    let quiet = quiet_then a b z so_far.quiet (quiet_then b m z (quiet_look b m look.spares look.unchanged)
    (record { spares = step.spares; unchanged = step.unchanged })) in
    let items = c.in_ok-page.page.items in
    let last = last_read endpoint_of (λ (e : EndpointRow). e.put) items c.last.result c.map.result _
    (rw c.deref.ensures.value at c.last.ensures.value) c.map.ensures.cases (λ x k p. search rules) in
    record {
      same_reference = step.same_reference ∙ look.same_reference ∙ so_far.same_reference;
      quiet = quiet;
      settled = step.settled;
      bound = c.in_ok-from.ensures.room (omega arith);
      done = λ clean records legal.
          page_then (λ (e : EndpointRow). e.put) (rows_of records).endpoints a b m z (rows_of records)
          (AreRestored c.loop-from.loaded records) (AreRestored c.restore_page.new.loaded records)
          c.loop-from.from _ (map endpoint_of items)
          so_far.quiet look.spares look.unchanged step.spares (λ early. so_far.done early records legal)
          (λ early tables. rw c.of.ensures at (look.found early (rows_of records) tables))
          (λ late. step.found late records legal)
          so_far.bound (rw last at c.in_ok-from.ensures.number) clean;
    }

pub returns-clause-found : goal.returns-clause-found
returns-clause-found g c clean records legal tables =
    read_whole (λ (e : EndpointRow). e.put) (rows_of records).endpoints
    (AreRestored c.loop-from.loaded records) c.loop-from.from (omega (arith, c.loop-from-test.false))
    (c.loop-from.invariant.done clean records legal tables)

pub returns-in_err-page-clause-refused : goal.returns-in_err-page-clause-refused
returns-in_err-page-clause-refused g c clean =
    let a = state g.S.Store c.args.tx.now.conn.now in
    let b = state g.S.Store c.loop-from.tx.conn.now in
    let m = state g.S.Store c.select_endpoints.new.tx.conn.now in
    let look = c.in_err-page.ensures in
    handed_on c.from_residual-in_err-page.result c.in_err-page.field-0.0 (IsReadRefusal a m (λ _. Unit {0}))
    c.from_residual-in_err-page.ensures.1
    (λ is_open records legal tables given. refused_behind a b m c.loop-from.invariant.quiet look.spares clean is_open
    (rows_of records) _ tables (λ at_b open_b here.
    look.refused clean (rows_of records) here (legal_readable records legal)))

pub returns-in_err-from-clause-refused : goal.returns-in_err-from-clause-refused
returns-in_err-from-clause-refused g c clean =
    let a = state g.S.Store c.args.tx.now.conn.now in
    let b = state g.S.Store c.loop-from.tx.conn.now in
    let m = state g.S.Store c.select_endpoints.new.tx.conn.now in
    let so_far = c.loop-from.invariant in
    let look = c.in_ok-page.ensures in
    let items = c.in_ok-page.page.items in
    let last = last_read endpoint_of (λ (e : EndpointRow). e.put) items c.last.result c.map.result _
    (rw c.deref.ensures.value at c.last.ensures.value) c.map.ensures.cases (λ x k p. search rules) in
    handed_on c.from_residual-in_err-from.result c.in_err-from.field-0.0
    (IsReadRefusal a m (λ _. Unit {0})) c.from_residual-in_err-from.ensures.1
    (λ is_open records legal tables given.
    absurd (page_ends (λ (e : EndpointRow). e.put) (rows_of records).endpoints a b m (rows_of records)
    (AreRestored c.loop-from.loaded records) c.loop-from.from (map endpoint_of items)
    so_far.quiet look.spares look.unchanged (λ early. so_far.done early records legal)
    (λ early tables. rw c.of.ensures at (look.found early (rows_of records) tables))
    clean is_open tables (rw last at c.in_err-from.ensures.fallen.0 refl)))

pub returns-in_err-restore_page-clause-refused : goal.returns-in_err-restore_page-clause-refused
returns-in_err-restore_page-clause-refused g c clean =
    let a = state g.S.Store c.args.tx.now.conn.now in
    let b = state g.S.Store c.loop-from.tx.conn.now in
    let m = state g.S.Store c.select_endpoints.new.tx.conn.now in
    let z = state g.S.Store c.restore_page.new.tx.conn.now in
    let so_far = c.loop-from.invariant in
    let look = c.in_ok-page.ensures in
    let step = c.in_err-restore_page.ensures in
    let items = c.in_ok-page.page.items in
    handed_on c.from_residual-in_err-restore_page.result c.in_err-restore_page.field-0.0
    (IsReadRefusal a z (λ _. Unit {0})) c.from_residual-in_err-restore_page.ensures.1
    (λ is_open records legal tables given.
    page_refused (λ (e : EndpointRow). e.put) (rows_of records).endpoints a b m (rows_of records)
    (AreRestored c.loop-from.loaded records) c.loop-from.from (map endpoint_of items)
    so_far.quiet look.spares look.unchanged (λ early. so_far.done early records legal)
    (λ early tables. rw c.of.ensures at (look.found early (rows_of records) tables))
    z _ step.spares clean is_open tables (λ open_m here next. step.refused clean open_m records legal here next))
