use Rattle.std.proofs.Common.{◌≡◌, [], ◌∷◌, map, refl, sym, subst, ◌∙◌}
use Rattle.std.proofs.lemmas.List.{map-append}
use Rattle.std.proofs.lemmas.Iterator.Adapters.{YieldsList-from_vec}
use Rattle.std.proofs.lemmas.Iterator.Consumers.{YieldsList-end}
use Rattle.sqlite.specs.Held.{state}
use Rattle.relay_types.specs.Rows.{rows_of}
use Rattle.spool_sql.specs.Stored.{endpoint_of}
use Rattle.spool_sql.proofs.ReadableLemmas.{handed_on}
use Rattle.spool_load.specs.Loading.{AreRestored, IsReadRefusal, NextToRestore, Restores}
use Rattle.spool_sql.proofs.PageLaws.{map_itself, turned}
use Rattle.spool_load.proofs.QuietReads.{quiet_none, quiet_look, quiet_then, clean_before, tables_along, next_row}
use Rattle.spool_load.proofs.QuietReads.{reads_none, reads_then}
use Rattle.spool_load.proofs.PageReads.{refused_behind}
use Rattle.spool_load.proofs.endpoints.restore_page.Goals as goal

pub loop-row-preserved : goal.loop-row-preserved
loop-row-preserved g c =
    let a = state g.S.Store c.args.tx.now.conn.now in
    let b = state g.S.Store c.loop-row.tx.conn.now in
    let z = state g.S.Store c.restore_endpoint.new.tx.conn.now in
    let so_far = c.loop-row.invariant in
    let step = c.in_ok-restore_endpoint.ensures in
    record {
      same_reference = step.same_reference ∙ so_far.same_reference;
      quiet = quiet_then a b z so_far.quiet (quiet_look b z step.spares step.unchanged);
      settled = step.settled;
      done = λ clean records legal tables.
          let before = clean_before b z step.spares clean in
          let there = tables_along a b (rows_of records) so_far.quiet before (step.unchanged clean).0.was_open tables in
          subst (λ more. Restores c.args.loaded.now c.restore_endpoint.new.loaded more records)
          (sym (map-append endpoint_of c.loop-row.yielded (c.in-Some.row ∷ [])))
          (reads_then (rows_of records).endpoints (AreRestored c.args.loaded.now records)
          (AreRestored c.loop-row.loaded records) (AreRestored c.restore_endpoint.new.loaded records)
          (map endpoint_of c.loop-row.yielded) (endpoint_of c.in-Some.row ∷ [])
          (so_far.done before records legal tables) (step.found clean records legal there));
    }

pub loop-row-init : goal.loop-row-init
loop-row-init g c = record {
  same_reference = refl;
  quiet = quiet_none (state g.S.Store c.args.tx.now.conn.now);
  settled = c.requires;
  done = λ clean records legal tables. reads_none (rows_of records).endpoints (AreRestored c.args.loaded.now records);
}

pub returns-clause-found : goal.returns-clause-found
returns-clause-found g c clean records legal tables =
    let given = c.into_iter-row-iterator.ensures.into_iter_gives in
    let ended = YieldsList-end (YieldsList-from_vec c.args.page.items given.0 (given.1 ∙ c.args.page.ok.0))
    c.loop-row.yielded c.loop-row.row-iterator c.loop-row.yielded_by c.next.result c.next.new.self c.in-None.is
    c.next.ensures.steps in
    let all : c.loop-row.yielded ≡ c.args.page.items = sym (map_itself c.loop-row.yielded) ∙ ended.0 in
    subst (λ items. Restores c.args.loaded.now c.loop-row.loaded (map endpoint_of items) records) all
    (c.loop-row.invariant.done clean records legal tables)

pub returns-in_err-restore_endpoint-clause-refused : goal.returns-in_err-restore_endpoint-clause-refused
returns-in_err-restore_endpoint-clause-refused g c clean =
    let a = state g.S.Store c.args.tx.now.conn.now in
    let b = state g.S.Store c.loop-row.tx.conn.now in
    let z = state g.S.Store c.restore_endpoint.new.tx.conn.now in
    let so_far = c.loop-row.invariant in
    let step = c.in_err-restore_endpoint.ensures in
    let given = c.into_iter-row-iterator.ensures.into_iter_gives in
    let here = turned (YieldsList-from_vec c.args.page.items given.0 (given.1 ∙ c.args.page.ok.0)) c.loop-row.yielded
    c.loop-row.row-iterator c.loop-row.yielded_by c.next.result c.next.new.self c.in-Some.row c.in-Some.is
    c.next.ensures.steps in
    handed_on c.from_residual.result c.in_err-restore_endpoint.field-0.0
    (IsReadRefusal a z (NextToRestore c.args.loaded.now (map endpoint_of c.args.page.items)))
    c.from_residual.ensures.1
    (λ is_open records legal tables next. refused_behind a b z so_far.quiet step.spares clean is_open (rows_of records)
    _ tables (λ at_b open_b there.
    step.refused clean open_b records legal there
    (next_row (rows_of records).endpoints endpoint_of (AreRestored c.args.loaded.now records)
    (AreRestored c.loop-row.loaded records) c.loop-row.yielded c.args.page.items c.in-Some.row here
    (so_far.done at_b records legal tables) next)))
