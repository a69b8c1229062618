use Rattle.std.proofs.Common.{refl, arith, ◌∙◌}
use Rattle.sqlite.specs.State.{HasCleanDisk}
use Rattle.sqlite.specs.Held.{state}
use Rattle.spool_sql.proofs.StepLemmas.{spares_then}
use Rattle.spool_write.proofs.PurgeSteps.{walk_begun, walk_more, purge_made}
use Rattle.spool_sql.proofs.StepLemmas.{spares_none}
use Rattle.spool_write.proofs.purge.write_purge.Goals as goal

pub loop-from-init : goal.loop-from-init
loop-from-init g c = record {
  same_reference = refl;
  spares = spares_none (state g.S.Store c.args.tx.now.conn.now);
  inside = λ clean inside. inside;
  was_open = λ clean inside some. absurd (omega (arith, some));
  done = λ clean inside is_open.
      walk_begun (state g.S.Store c.args.tx.now.conn.now) c.seconds-moment.result c.get-end.result inside is_open;
}

pub loop-from-preserved : goal.loop-from-preserved
loop-from-preserved g c =
    let a = state g.S.Store c.args.tx.now.conn.now in
    let b = state g.S.Store c.loop-from.tx.conn.now in
    let m = state g.S.Store c.select_events.new.tx.conn.now in
    let z = state g.S.Store c.purge_page.new.tx.conn.now in
    let so_far = c.loop-from.invariant in
    let look = c.in_ok-page.ensures in
    let step = c.in_ok-purge_page.ensures in
    let next = rw c.deref.ensures.value at c.in_ok-from.ensures.number in
    record {
      same_reference = step.same_reference ∙ look.same_reference ∙ so_far.same_reference;
      spares = spares_then a m z (spares_then a b m so_far.spares look.spares) step.spares;
      inside = λ clean inside.
          let at_m : HasCleanDisk m = omega (arith, clean, step.spares.survives.clean) in
          let at_b : HasCleanDisk b = omega (arith, at_m, look.spares.survives.clean) in
          let same = look.unchanged at_m in
          (step.done clean (same.0.mode ∙ so_far.inside at_b inside) same.0.is_open).on.mode;
      was_open = λ clean inside some.
          let at_m : HasCleanDisk m = omega (arith, clean, step.spares.survives.clean) in
          let at_b : HasCleanDisk b = omega (arith, at_m, look.spares.survives.clean) in
          (so_far.spares.kept at_b).was_open (look.unchanged at_m).0.was_open;
      done = λ clean inside is_open.
          let at_m : HasCleanDisk m = omega (arith, clean, step.spares.survives.clean) in
          let at_b : HasCleanDisk b = omega (arith, at_m, look.spares.survives.clean) in
          let same = look.unchanged at_m in
          let before = so_far.done at_b inside is_open in
          walk_more a b m z c.seconds-moment.result c.get-end.result c.loop-from.from c.in_ok-from.from
          c.in_ok-page.page.items before same
          (rw c.of.ensures at (look.found at_m)) c.in_ok-from.ensures.above next
          (rw c.deref-in-loop-from.ensures.value at (step.done clean (same.0.mode ∙ before.on.mode) same.0.is_open));
    }

pub returns-clause-done : goal.returns-clause-done
returns-clause-done g c clean inside =
    let a = state g.S.Store c.args.tx.now.conn.now in
    let z = state g.S.Store c.loop-from.tx.conn.now in
    let so_far = c.loop-from.invariant in
    let made = so_far.done clean inside (so_far.was_open clean inside (omega (arith, c.loop-from-test.false))) in
    rw (c.seconds-moment.ensures.number, c.get-end.ensures.number) at
    (purge_made a z c.get-end.result c.seconds-moment.result c.loop-from.from
    (omega (arith, c.seconds-moment.ensures.most, c.seconds-moment.ensures.number))
    (omega (arith, c.get-end.ensures.bound, c.get-end.ensures.number)) (omega (arith, c.loop-from-test.false)) made)
