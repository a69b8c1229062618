use Rattle.std.proofs.Common.{◌++◌, take, take_all, true, false, append_assoc, sym, subst, arith, ◌∙◌, [], ◌∷◌}
use Rattle.std.proofs.lemmas.List.{length-take}
use Rattle.sqlite.specs.State.{HasCleanDisk}
use Rattle.sqlite.specs.Held.{state}
use Rattle.spool_write.specs.Entering.{Enters}
use Rattle.spool_sql.proofs.StepLemmas.{spares_then}
use Rattle.spool_write.proofs.EntryLemmas.{enters_then, enters_cut, take_more, split_at}
use Rattle.spool_write.proofs.records.write_step.Goals as goal

pub returns-then-not-branch-clause-done : goal.returns-then-not-branch-clause-done
returns-then-not-branch-clause-done g c clean inside =
    let a = state g.S.Store c.args.tx.now.conn.now in
    let b = state g.S.Store c.loop-entry.tx.conn.now in
    let z = state g.S.Store c.write_record.new.tx.conn.now in
    let k = c.loop-entry.entry-index in
    let entry = c.entry-item.result in
    let split = split_at k c.args.records.now entry c.loop-entry-test.true c.entry-item.is in
    let front = length-take k c.args.records.now in
    let at_b : HasCleanDisk b = omega (arith, clean, c.in_ok-write_record.ensures.spares.survives.clean) in
    let one = rw (c.of.ensures, c.if-not-branch.true) at (c.in_ok-write_record.ensures.done clean
    (c.loop-entry.invariant.inside at_b inside)) in
    let so_far = c.loop-entry.invariant.done at_b inside
    ((c.loop-entry.invariant.spares.kept at_b).was_open one.on.was_open) in
    let stopped = enters_then a b z c.args.next c.loop-entry.place (take k c.args.records.now) (entry ∷ []) false
    (omega (arith, c.loop-entry.invariant.place, front, c.loop-entry-test.true)) so_far one in
    subst (λ all. Enters a z c.args.next all false) (append_assoc (take k c.args.records.now) (entry ∷ []) split.0
    ∙ sym split.1)
    (enters_cut a z c.args.next (take k c.args.records.now ++ entry ∷ []) split.0 stopped)

pub loop-entry-preserved : goal.loop-entry-preserved
loop-entry-preserved g c =
    let a = state g.S.Store c.args.tx.now.conn.now in
    let b = state g.S.Store c.loop-entry.tx.conn.now in
    let z = state g.S.Store c.write_record.new.tx.conn.now in
    let k = c.loop-entry.entry-index in
    let entry = c.entry-item.result in
    let more = take_more k c.args.records.now entry c.loop-entry-test.true c.entry-item.is in
    let front = length-take k c.args.records.now in
    let step = c.in_ok-write_record.ensures in
    record {
      place = omega (arith, c.loop-entry.invariant.place);
      same_reference = step.same_reference ∙ c.loop-entry.invariant.same_reference;
      spares = spares_then a b z c.loop-entry.invariant.spares step.spares;
      inside = λ clean inside.
          let at_b : HasCleanDisk b = omega (arith, clean, step.spares.survives.clean) in
          (step.done clean (c.loop-entry.invariant.inside at_b inside)).on.mode;
      done = λ clean inside is_open.
          let at_b : HasCleanDisk b = omega (arith, clean, step.spares.survives.clean) in
          let one = rw (c.of.ensures, c.if-not-branch.false)
          at (step.done clean (c.loop-entry.invariant.inside at_b inside)) in
          subst (λ all. Enters a z c.args.next all true) (sym more)
          (enters_then a b z c.args.next c.loop-entry.place (take k c.args.records.now) (entry ∷ []) true
          (omega (arith, c.loop-entry.invariant.place, front, c.loop-entry-test.true))
          (c.loop-entry.invariant.done at_b inside is_open) one);
      was_open = λ clean inside some.
          let at_b : HasCleanDisk b = omega (arith, clean, step.spares.survives.clean) in
          (c.loop-entry.invariant.spares.kept at_b).was_open
          (step.done clean (c.loop-entry.invariant.inside at_b inside)).on.was_open;
    }

pub returns-clause-done : goal.returns-clause-done
returns-clause-done g c clean inside =
    let a = state g.S.Store c.args.tx.now.conn.now in
    let b = state g.S.Store c.loop-entry.tx.conn.now in
    let all = take_all c.loop-entry.entry-index c.args.records.now c.loop-entry-test.false in
    subst (λ rs. Enters a b c.args.next rs true) all
    (c.loop-entry.invariant.done clean inside
    (c.loop-entry.invariant.was_open clean inside (omega (arith, c.requires.some, c.loop-entry-test.false))))
