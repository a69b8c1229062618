use Rattle.std.proofs.Common.{◌+◌, ◌++◌, length, take, take_all, true, false, append_assoc, sym, ap, subst, arith, ◌∙◌}
use Rattle.std.proofs.Common.{length-append}
use Rattle.sqlite.specs.State.{HasCleanDisk}
use Rattle.sqlite.specs.Held.{state}
use Rattle.relay_types.specs.Records.{records_of}
use Rattle.spool_write.specs.Entering.{Enters, EntersWhole}
use Rattle.spool_sql.proofs.StepLemmas.{spares_then}
use Rattle.spool_write.proofs.EntryLemmas.{enters_then, enters_stopped, enters_whole, records_more, records_split}
use Rattle.spool_write.proofs.EntryLemmas.{step_some, step_room, got_step}
use Rattle.spool_write.proofs.records.write_records.Goals as goal

pub write_step-requires-clause-some : goal.write_step-requires-clause-some
write_step-requires-clause-some g c = omega
    (arith, step_some c.step-item.result c.records-records.ensures.step, ap length c.records-records.ensures.records)

pub write_step-requires-clause-room : goal.write_step-requires-clause-room
write_step-requires-clause-room g c =
    let at = got_step c.loop-step.step-index c.args.steps.now c.step-item.result c.loop-step-test.true c.step-item.is in
    omega (
      arith,
      c.loop-step.invariant.place,
      ap length c.records-records.ensures.records,
      step_room
          c.loop-step.step-index c.args.next c.args.steps.now c.step-item.result at c.requires.room,
    )

pub overflow_add-place : goal.overflow_add-place
overflow_add-place g c =
    let at = got_step c.loop-step.step-index c.args.steps.now c.step-item.result c.loop-step-test.true c.step-item.is in
    omega (
      arith,
      c.loop-step.invariant.place,
      ap length c.records-records.ensures.records,
      step_room
          c.loop-step.step-index c.args.next c.args.steps.now c.step-item.result at c.requires.room,
    )

pub returns-then-not-branch-clause-done : goal.returns-then-not-branch-clause-done
returns-then-not-branch-clause-done g c clean inside =
    let a = state g.S.Store c.args.tx.now.conn.now in
    let b = state g.S.Store c.loop-step.tx.conn.now in
    let z = state g.S.Store c.write_step.new.tx.conn.now in
    let k = c.loop-step.step-index in
    let step_records = c.step-item.result in
    let at = got_step k c.args.steps.now c.step-item.result c.loop-step-test.true c.step-item.is in
    let split = records_split k c.args.steps.now step_records at in
    let at_b : HasCleanDisk b = omega (arith, clean, c.in_ok-write_step.ensures.spares.survives.clean) in
    let one = subst (λ rs. Enters b z c.loop-step.place rs false) c.records-records.ensures.records
    (rw c.if-not-branch.true at
    (c.in_ok-write_step.ensures.done clean (c.loop-step.invariant.inside at_b inside))) in
    let so_far = c.loop-step.invariant.done at_b inside
    ((c.loop-step.invariant.spares.kept at_b).was_open one.on.was_open) in
    let stopped = enters_then a b z c.args.next c.loop-step.place (records_of (take k c.args.steps.now)) step_records
    false c.loop-step.invariant.place so_far one in
    subst (λ all. EntersWhole a z c.args.next all false)
    (append_assoc (records_of (take k c.args.steps.now)) step_records split.0 ∙ sym split.1)
    (enters_stopped a z c.args.next (records_of (take k c.args.steps.now) ++ step_records) split.0 stopped)

pub loop-step-preserved : goal.loop-step-preserved
loop-step-preserved g c =
    let a = state g.S.Store c.args.tx.now.conn.now in
    let b = state g.S.Store c.loop-step.tx.conn.now in
    let z = state g.S.Store c.write_step.new.tx.conn.now in
    let k = c.loop-step.step-index in
    let step_records = c.step-item.result in
    let at = got_step k c.args.steps.now c.step-item.result c.loop-step-test.true c.step-item.is in
    let more = records_more k c.args.steps.now step_records at in
    let step = c.in_ok-write_step.ensures in
    record {
      place = omega (
        arith,
        c.loop-step.invariant.place,
        ap length more,
        length-append
            (records_of (take k c.args.steps.now)) step_records,
        ap length c.records-records.ensures.records,
      );
      same_reference = step.same_reference ∙ c.loop-step.invariant.same_reference;
      spares = spares_then a b z c.loop-step.invariant.spares step.spares;
      inside = λ clean inside.
          let at_b : HasCleanDisk b = omega (arith, clean, step.spares.survives.clean) in
          (step.done clean (c.loop-step.invariant.inside at_b inside)).on.mode;
      done = λ clean inside is_open.
          let at_b : HasCleanDisk b = omega (arith, clean, step.spares.survives.clean) in
          let one = subst (λ rs. Enters b z c.loop-step.place rs true) c.records-records.ensures.records
          (rw c.if-not-branch.false at (step.done clean (c.loop-step.invariant.inside at_b inside))) in
          subst (λ all. Enters a z c.args.next all true) (sym more)
          (enters_then a b z c.args.next c.loop-step.place (records_of (take k c.args.steps.now)) step_records true
          c.loop-step.invariant.place (c.loop-step.invariant.done at_b inside is_open) one);
    }

pub returns-clause-done : goal.returns-clause-done
returns-clause-done g c clean inside =
    let a = state g.S.Store c.args.tx.now.conn.now in
    let b = state g.S.Store c.loop-step.tx.conn.now in
    let z = state g.S.Store c.update_records.new.tx.conn.now in
    let at_b : HasCleanDisk b = omega (arith, clean, c.in_ok-update_records.ensures.spares.survives.clean) in
    let counted = c.in_ok-update_records.ensures.done clean (c.loop-step.invariant.inside at_b inside) in
    let so_far = c.loop-step.invariant.done at_b inside
    ((c.loop-step.invariant.spares.kept at_b).was_open counted.on.was_open) in
    let all = take_all c.loop-step.step-index c.args.steps.now c.loop-step-test.false in
    enters_whole a b z c.args.next c.loop-step.place (records_of c.args.steps.now)
    (c.loop-step.invariant.place ∙ ap (λ s. c.args.next + length (records_of s)) all)
    (subst (λ s. Enters a b c.args.next (records_of s) true) all so_far) counted
