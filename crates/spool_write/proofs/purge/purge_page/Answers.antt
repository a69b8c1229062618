use Rattle.std.proofs.Common.{sym, arith, ◌∙◌}
use Rattle.sqlite.specs.State.{HasCleanDisk}
use Rattle.sqlite.specs.Held.{state}
use Rattle.spool_sql.proofs.StepLemmas.{on_ok}
use Rattle.spool_write.proofs.PurgeLemmas.{last-is}
use Rattle.spool_write.proofs.PurgeSteps.{page_empty, page_told}
use Rattle.spool_write.proofs.purge.purge_page.Goals as goal

pub returns-in_default-2-clause-done : goal.returns-in_default-2-clause-done
returns-in_default-2-clause-done g c clean inside is_open =
    page_empty (state g.S.Store c.args.tx.now.conn.now) c.args.before c.args.page.now inside is_open
    (sym (rw c.in_default.is-0 at c.first.ensures.value))

pub returns-clause-done : goal.returns-clause-done
returns-clause-done g c clean inside =
    let a = state g.S.Store c.args.tx.now.conn.now in
    let b = state g.S.Store c.select_tries.new.tx.conn.now in
    let z = state g.S.Store c.purge_events.new.tx.conn.now in
    let at_b : HasCleanDisk b = omega (arith, clean, c.purge_events.ensures.spares.survives.clean) in
    let same = c.in_ok-tries.ensures.unchanged at_b in
    on_ok c.purge_events.result _ _ (c.purge_events.ensures.done clean (same.0.mode ∙ inside))
    (λ made is_open.
    page_told a b z c.args.before c.in-Some-Some.first.now c.in-Some-Some.last.now c.args.page.now
    c.in_ok-tries.tries.items inside same (c.in_ok-tries.ensures.found at_b)
    (sym c.in-Some-Some.ensures.value) (sym (c.in-Some-Some.ensures'.value ∙ last-is c.args.page.now))
    (rw c.deref.ensures.value at (made same.0.is_open)))
