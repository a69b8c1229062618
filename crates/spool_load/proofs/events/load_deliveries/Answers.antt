use Rattle.std.proofs.Common.{map, refl, rules, ◌∙◌, arith}
use Rattle.sqlite.specs.Held.{state}
use Rattle.relay_types.specs.Rows.{DeliveryRow, rows_of}
use Rattle.spool_sql.specs.Stored.{delivery_of}
use Rattle.spool_sql.proofs.ReadableLemmas.{handed_on, row_memory}
use Rattle.spool_load.specs.Loading.{AreAccepted, AreNames, IsReadRefusal}
use Rattle.spool_sql.proofs.StepLemmas.{spares_none}
use Rattle.spool_sql.proofs.PageLaws.{last_read}
use Rattle.spool_load.proofs.QuietReads.{quiet_none, quiet_look, quiet_then, page_then, read_whole}
use Rattle.spool_load.proofs.DeliveryLoads.{accepted_none}
use Rattle.spool_sql.proofs.LegalRows.{legal_readable}
use Rattle.spool_load.proofs.PageReads.{page_ends, page_refused, refused_behind}
use Rattle.spool_load.proofs.events.load_deliveries.Goals as goal

pub loop-from-init : goal.loop-from-init
loop-from-init g c = record {
  same_reference = refl;
  quiet = quiet_none (state g.S.Store c.args.tx.now.conn.now);
  bound = omega arith;
  done = λ clean records legal tables are. accepted_none records _ legal c.new.ensures.value c.in-Ok.ensures.value;
}

pub loop-from-preserved : goal.loop-from-preserved
loop-from-preserved g c =
    let a = state g.S.Store c.args.tx.now.conn.now in
    let b = state g.S.Store c.loop-from.tx.conn.now in
    let m = state g.S.Store c.select_deliveries.new.tx.conn.now in
    let so_far = c.loop-from.invariant in
    let look = c.in_ok-page.ensures in
    let quiet = quiet_then a b m so_far.quiet (quiet_look b m look.spares look.unchanged) in
    let items = c.in_ok-page.page.items in
    let last = last_read delivery_of (λ (d : DeliveryRow). d.seq) items c.last.result c.map.result _
    (rw c.deref.ensures.value at c.last.ensures.value) c.map.ensures.cases (λ x k p. search rules) in
    record {
      same_reference = look.same_reference ∙ so_far.same_reference;
      quiet = quiet;
      bound = c.in_ok-from.ensures.room (omega arith);
      done = λ clean records legal tables are.
          page_then (λ (d : DeliveryRow). d.seq) (rows_of records).deliveries a b m m (rows_of records)
          (AreAccepted c.loop-from.loaded records) (AreAccepted c.accept_page.new.loaded records) c.loop-from.from
          _ (map delivery_of items)
          so_far.quiet look.spares look.unchanged (spares_none m)
          (λ early tables. so_far.done early records legal tables are)
          (λ early tables. rw c.of-in-loop-from.ensures at (look.found early (rows_of records) tables))
          (λ late tables. c.in_ok-accept_page.ensures.found records are)
          so_far.bound (rw last at c.in_ok-from.ensures.number) clean tables;
    }

pub returns-clause-found : goal.returns-clause-found
returns-clause-found g c clean records legal tables are =
    read_whole (λ (d : DeliveryRow). d.seq) (rows_of records).deliveries
    (AreAccepted c.loop-from.loaded records) c.loop-from.from (omega (arith, c.loop-from-test.false))
    (c.loop-from.invariant.done clean records legal tables are)

pub returns-in_err-page-clause-refused : goal.returns-in_err-page-clause-refused
returns-in_err-page-clause-refused g c clean =
    let a = state g.S.Store c.args.tx.now.conn.now in
    let b = state g.S.Store c.loop-from.tx.conn.now in
    let m = state g.S.Store c.select_deliveries.new.tx.conn.now in
    let look = c.in_err-page.ensures in
    handed_on c.from_residual.result c.in_err-page.field-0.0 (IsReadRefusal a m (AreNames c.args.names.now))
    c.from_residual.ensures.1
    (λ is_open records legal tables given. refused_behind a b m c.loop-from.invariant.quiet look.spares clean is_open
    (rows_of records) _ tables (λ at_b open_b here.
    look.refused clean (rows_of records) here (legal_readable records legal)))

pub returns-in_err-from-clause-refused : goal.returns-in_err-from-clause-refused
returns-in_err-from-clause-refused g c clean =
    let a = state g.S.Store c.args.tx.now.conn.now in
    let b = state g.S.Store c.loop-from.tx.conn.now in
    let m = state g.S.Store c.select_deliveries.new.tx.conn.now in
    let so_far = c.loop-from.invariant in
    let look = c.in_ok-page.ensures in
    let items = c.in_ok-page.page.items in
    let last = last_read delivery_of (λ (d : DeliveryRow). d.seq) items c.last.result c.map.result _
    (rw c.deref.ensures.value at c.last.ensures.value) c.map.ensures.cases (λ x k p. search rules) in
    handed_on c.from_residual-in_err-from.result c.in_err-from.field-0.0
    (IsReadRefusal a m (AreNames c.args.names.now)) c.from_residual-in_err-from.ensures.1
    (λ is_open records legal tables given.
    absurd (page_ends (λ (d : DeliveryRow). d.seq) (rows_of records).deliveries a b m (rows_of records)
    (AreAccepted c.loop-from.loaded records) c.loop-from.from (map delivery_of items)
    so_far.quiet look.spares look.unchanged (λ early tables. so_far.done early records legal tables given)
    (λ early tables. rw c.of-in-loop-from.ensures at (look.found early (rows_of records) tables))
    clean is_open tables (rw last at c.in_err-from.ensures.fallen.0 refl)))

pub returns-in_err-accept_page-clause-refused : goal.returns-in_err-accept_page-clause-refused
returns-in_err-accept_page-clause-refused g c clean =
    let a = state g.S.Store c.args.tx.now.conn.now in
    let b = state g.S.Store c.loop-from.tx.conn.now in
    let m = state g.S.Store c.select_deliveries.new.tx.conn.now in
    let so_far = c.loop-from.invariant in
    let look = c.in_ok-page.ensures in
    let items = c.in_ok-page.page.items in
    handed_on c.from_residual-in_err-accept_page.result c.in_err-accept_page.field-0.0
    (IsReadRefusal a m (AreNames c.args.names.now)) c.from_residual-in_err-accept_page.ensures.1
    (λ is_open records legal tables given.
    page_refused (λ (d : DeliveryRow). d.seq) (rows_of records).deliveries a b m (rows_of records)
    (AreAccepted c.loop-from.loaded records) c.loop-from.from (map delivery_of items)
    so_far.quiet look.spares look.unchanged (λ early tables. so_far.done early records legal tables given)
    (λ early tables. rw c.of-in-loop-from.ensures at (look.found early (rows_of records) tables))
    m _ (spares_none m) clean is_open tables
    (λ open_m here next. row_memory m m _ (c.in_err-accept_page.ensures.refused records legal given next)))
