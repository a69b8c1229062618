use Rattle.std.proofs.Common.{map, refl, rules, ◌∙◌, arith}
use Rattle.sqlite.specs.Held.{state}
use Rattle.relay_types.specs.Rows.{AttemptRow, rows_of}
use Rattle.spool_sql.specs.Stored.{attempt_of}
use Rattle.spool_sql.proofs.ReadableLemmas.{handed_on}
use Rattle.spool_load.specs.Loading.{AreAccepted, HaveAttempts, IsReadRefusal}
use Rattle.spool_sql.proofs.StepLemmas.{spares_none}
use Rattle.spool_sql.proofs.PageLaws.{last_read}
use Rattle.spool_load.proofs.QuietReads.{quiet_none, quiet_look, quiet_then, page_then, read_whole}
use Rattle.spool_load.proofs.AttemptLoads.{attempts_none, attempts_all}
use Rattle.spool_sql.proofs.LegalRows.{legal_readable}
use Rattle.spool_load.proofs.PageReads.{page_ends, page_refused, refused_behind}
use Rattle.spool_load.proofs.attempts.load_attempts.Goals as goal

pub loop-from-init : goal.loop-from-init
loop-from-init g c = record {
  same_reference = refl;
  quiet = quiet_none (state g.S.Store c.args.tx.now.conn.now);
  bound = omega arith;
  done = λ clean records legal tables accepted. attempts_none records c.args.loaded.now legal accepted;
}

pub loop-from-preserved : goal.loop-from-preserved
loop-from-preserved g c =
    let a = state g.S.Store c.args.tx.now.conn.now in
    let b = state g.S.Store c.loop-from.tx.conn.now in
    let m = state g.S.Store c.select_attempts.new.tx.conn.now in
    let so_far = c.loop-from.invariant in
    let look = c.in_ok-page.ensures in
    let quiet = quiet_then a b m so_far.quiet (quiet_look b m look.spares look.unchanged) in
    let items = c.in_ok-page.page.items in
    let last = last_read attempt_of (λ (a : AttemptRow). a.seq) items c.last.result c.map.result _
    (rw c.deref.ensures.value at c.last.ensures.value) c.map.ensures.cases (λ x k p. search rules) in
    record {
      same_reference = look.same_reference ∙ so_far.same_reference;
      quiet = quiet;
      bound = c.in_ok-from.ensures.room (omega arith);
      done = λ clean records legal tables accepted.
          page_then (λ (a : AttemptRow). a.seq) (rows_of records).attempts a b m m (rows_of records)
          (HaveAttempts c.loop-from.loaded records) (HaveAttempts c.restore_page.new.loaded records)
          c.loop-from.from _ (map attempt_of items)
          so_far.quiet look.spares look.unchanged (spares_none m)
          (λ early tables. so_far.done early records legal tables accepted)
          (λ early tables. rw c.of.ensures at (look.found early (rows_of records) tables))
          (λ late tables. c.in_ok-restore_page.ensures.found records)
          so_far.bound (rw last at c.in_ok-from.ensures.number) clean tables;
    }

pub returns-clause-found : goal.returns-clause-found
returns-clause-found g c clean records legal tables accepted =
    attempts_all records c.loop-from.loaded legal (read_whole (λ (a : AttemptRow). a.seq) (rows_of records).attempts
    (HaveAttempts c.loop-from.loaded records) c.loop-from.from (omega (arith, c.loop-from-test.false))
    (c.loop-from.invariant.done clean records legal tables accepted))

pub returns-in_err-page-clause-refused : goal.returns-in_err-page-clause-refused
returns-in_err-page-clause-refused g c clean =
    let a = state g.S.Store c.args.tx.now.conn.now in
    let b = state g.S.Store c.loop-from.tx.conn.now in
    let m = state g.S.Store c.select_attempts.new.tx.conn.now in
    let look = c.in_err-page.ensures in
    handed_on c.from_residual.result c.in_err-page.field-0.0
    (IsReadRefusal a m (λ records. AreAccepted c.args.loaded.now records (rows_of records).deliveries))
    c.from_residual.ensures.1
    (λ is_open records legal tables given. refused_behind a b m c.loop-from.invariant.quiet look.spares clean is_open
    (rows_of records) _ tables (λ at_b open_b here.
    look.refused clean (rows_of records) here (legal_readable records legal)))

pub returns-in_err-from-clause-refused : goal.returns-in_err-from-clause-refused
returns-in_err-from-clause-refused g c clean =
    let a = state g.S.Store c.args.tx.now.conn.now in
    let b = state g.S.Store c.loop-from.tx.conn.now in
    let m = state g.S.Store c.select_attempts.new.tx.conn.now in
    let so_far = c.loop-from.invariant in
    let look = c.in_ok-page.ensures in
    let items = c.in_ok-page.page.items in
    let last = last_read attempt_of (λ (a : AttemptRow). a.seq) items c.last.result c.map.result _
    (rw c.deref.ensures.value at c.last.ensures.value) c.map.ensures.cases (λ x k p. search rules) in
    handed_on c.from_residual-in_err-from.result c.in_err-from.field-0.0
    (IsReadRefusal a m (λ records. AreAccepted c.args.loaded.now records (rows_of records).deliveries))
    c.from_residual-in_err-from.ensures.1
    (λ is_open records legal tables given.
    absurd (page_ends (λ (a : AttemptRow). a.seq) (rows_of records).attempts a b m (rows_of records)
    (HaveAttempts c.loop-from.loaded records) c.loop-from.from (map attempt_of items)
    so_far.quiet look.spares look.unchanged (λ early tables. so_far.done early records legal tables given)
    (λ early tables. rw c.of.ensures at (look.found early (rows_of records) tables))
    clean is_open tables (rw last at c.in_err-from.ensures.fallen.0 refl)))

pub returns-in_err-restore_page-clause-refused : goal.returns-in_err-restore_page-clause-refused
returns-in_err-restore_page-clause-refused g c clean =
    let a = state g.S.Store c.args.tx.now.conn.now in
    let b = state g.S.Store c.loop-from.tx.conn.now in
    let m = state g.S.Store c.select_attempts.new.tx.conn.now in
    let so_far = c.loop-from.invariant in
    let look = c.in_ok-page.ensures in
    let items = c.in_ok-page.page.items in
    handed_on c.from_residual-in_err-restore_page.result c.in_err-restore_page.field-0.0
    (IsReadRefusal a m (λ records. AreAccepted c.args.loaded.now records (rows_of records).deliveries))
    c.from_residual-in_err-restore_page.ensures.1
    (λ is_open records legal tables given.
    page_refused (λ (a : AttemptRow). a.seq) (rows_of records).attempts a b m (rows_of records)
    (HaveAttempts c.loop-from.loaded records) c.loop-from.from (map attempt_of items)
    so_far.quiet look.spares look.unchanged (λ early tables. so_far.done early records legal tables given)
    (λ early tables. rw c.of.ensures at (look.found early (rows_of records) tables))
    m _ (spares_none m) clean is_open tables
    (λ open_m here next. absurd (c.in_err-restore_page.ensures.refused refl records legal next)))
