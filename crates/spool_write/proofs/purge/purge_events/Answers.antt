use Rattle.std.proofs.Common.{take_all, refl, subst, arith, ◌∙◌}
use Rattle.sqlite.specs.State.{HasCleanDisk}
use Rattle.sqlite.specs.Held.{state}
use Rattle.spool_sql.specs.Steps.{AltersWhere}
use Rattle.spool_sql.proofs.StepLemmas.{spares_then}
use Rattle.spool_write.specs.Entering.{AreInTurn, without_events}
use Rattle.spool_write.proofs.PurgeSteps.{AreByEvent, are_taken, page_begun, page_more}
use Rattle.spool_sql.proofs.StepLemmas.{spares_none}
use Rattle.spool_write.proofs.purge.purge_events.Goals as goal

pub loop-delivery-init : goal.loop-delivery-init
loop-delivery-init g c = record {
  same_reference = refl;
  spares = spares_none (state g.S.Store c.args.tx.now.conn.now);
  done = λ clean inside is_open.
      page_begun (state g.S.Store c.args.tx.now.conn.now) c.args.before c.args.tries.now inside is_open;
}

pub loop-delivery-preserved : goal.loop-delivery-preserved
loop-delivery-preserved g c =
    let a = state g.S.Store c.args.tx.now.conn.now in
    let b = state g.S.Store c.loop-delivery.tx.conn.now in
    let z = state g.S.Store c.purge_event.new.tx.conn.now in
    let so_far = c.loop-delivery.invariant in
    let step = c.in_ok-purge_event.ensures in
    record {
      same_reference = step.same_reference ∙ so_far.same_reference;
      spares = spares_then a b z so_far.spares step.spares;
      done = λ clean inside is_open.
          let at_b : HasCleanDisk b = omega (arith, clean, step.spares.survives.clean) in
          let before = so_far.done at_b inside is_open in
          page_more a b z c.args.before c.loop-delivery.delivery-index c.args.page.now c.args.tries.now
          c.delivery-item.result c.loop-delivery-test.true c.delivery-item.is before
          (step.done clean before.on.mode before.on.is_open);
    }

pub returns-clause-done : goal.returns-clause-done
returns-clause-done g c clean inside is_open =
    subst (λ page. AltersWhere (state g.S.Store c.args.tx.now.conn.now) (state g.S.Store c.loop-delivery.tx.conn.now)
    (λ rows. AreInTurn rows × AreByEvent c.args.tries.now)
    (without_events (are_taken c.args.before page c.args.tries.now)))
    (take_all c.loop-delivery.delivery-index c.args.page.now c.loop-delivery-test.false)
    (c.loop-delivery.invariant.done clean inside is_open)
