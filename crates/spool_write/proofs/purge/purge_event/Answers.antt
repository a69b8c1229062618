use Rattle.std.proofs.Common.{sym, arith, ◌∙◌}
use Rattle.sqlite.specs.State.{HasCleanDisk}
use Rattle.sqlite.specs.Held.{state}
use Rattle.spool_sql.proofs.StepLemmas.{on_ok}
use Rattle.spool_write.proofs.PurgeSteps.{event_kept, event_taken}
use Rattle.spool_write.proofs.purge.purge_event.Goals as goal

pub returns-then-not-are_past-clause-done : goal.returns-then-not-are_past-clause-done
returns-then-not-are_past-clause-done g c clean inside is_open =
    event_kept c.args.before c.args.delivery c.args.tries.now _ c.tries_at.ensures
    (state g.S.Store c.args.tx.now.conn.now) inside is_open (sym c.are_past.ensures ∙ c.if-not-are_past.true)

pub returns-clause-done : goal.returns-clause-done
returns-clause-done g c clean inside =
    let a = state g.S.Store c.args.tx.now.conn.now in
    let d = state g.S.Store c.delete_attempts.new.tx.conn.now in
    let z = state g.S.Store c.delete_delivery.new.tx.conn.now in
    let at_d : HasCleanDisk d = omega (arith, clean, c.delete_delivery.ensures.spares.survives.clean) in
    let first = c.in_ok-delete_attempts.ensures.done at_d inside in
    on_ok c.delete_delivery.result _ _ (c.delete_delivery.ensures.done clean first.on.mode)
    (λ second is_open.
    event_taken c.args.before c.args.delivery c.args.tries.now _ c.tries_at.ensures a d z
    (sym c.are_past.ensures ∙ c.if-not-are_past.false) first second)
