use Rattle.std.proofs.Common.{arith, ◌∙◌}
use Rattle.sqlite.specs.State.{HasCleanDisk}
use Rattle.sqlite.specs.Held.{state}
use Rattle.spool_write.proofs.EntryLemmas.{enabled_refused, enabled_made}
use Rattle.spool_write.proofs.enabled.write_enabled.Goals as goal

pub returns-in_default-clause-done : goal.returns-in_default-clause-done
returns-in_default-clause-done g c clean inside =
    enabled_refused (state g.S.Store c.args.tx.now.conn.now) (state g.S.Store c.select_put.new.tx.conn.now) c.args.seq
    c.args.name.now c.args.flag inside (c.in_ok-put.ensures.unchanged clean)
    (rw c.in_default.is at (c.in_ok-put.ensures.found clean))

pub returns-clause-done : goal.returns-clause-done
returns-clause-done g c clean inside =
    let a = state g.S.Store c.args.tx.now.conn.now in
    let b = state g.S.Store c.select_put.new.tx.conn.now in
    let z = state g.S.Store c.update_enabled.new.tx.conn.now in
    let at_b : HasCleanDisk b = omega (arith, clean, c.in_ok-update_enabled.ensures.spares.survives.clean) in
    let same = c.in_ok-put.ensures.unchanged at_b in
    enabled_made a b z c.args.seq c.args.name.now c.args.flag c.in-Some.put inside same
    (rw c.in-Some.is at (c.in_ok-put.ensures.found at_b)) c.in_ok-put.ensures.named
    c.in_ok-update_enabled.ensures.room
    (c.in_ok-update_enabled.ensures.done clean (same.0.mode ∙ inside))
