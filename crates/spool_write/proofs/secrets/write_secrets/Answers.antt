use Rattle.std.proofs.Common.{arith, ◌∙◌}
use Rattle.sqlite.specs.State.{HasCleanDisk}
use Rattle.sqlite.specs.Held.{state}
use Rattle.relay_types.proofs.KnownLaws.{and_both}
use Rattle.spool_write.proofs.EntryLemmas.{secrets_refused, secrets_made}
use Rattle.spool_write.proofs.secrets.write_secrets.Goals as goal

pub returns-in_default-clause-done : goal.returns-in_default-clause-done
returns-in_default-clause-done g c clean inside =
    secrets_refused (state g.S.Store c.args.tx.now.conn.now) (state g.S.Store c.select_put.new.tx.conn.now) c.args.seq
    c.args.name.now c.args.secrets.now inside (c.in_ok-put.ensures.unchanged clean)
    (rw c.in_default.is at (c.in_ok-put.ensures.found clean))

pub returns-clause-done : goal.returns-clause-done
returns-clause-done g c clean inside =
    let a = state g.S.Store c.args.tx.now.conn.now in
    let b = state g.S.Store c.select_put.new.tx.conn.now in
    let z = state g.S.Store c.replace_secrets.new.tx.conn.now in
    let at_b : HasCleanDisk b = omega (arith, clean, c.in_ok-replace_secrets.ensures.spares.survives.clean) in
    let same = c.in_ok-put.ensures.unchanged at_b in
    secrets_made a b z c.args.seq c.args.name.now c.args.secrets.now c.in-Some.put inside same
    (rw c.in-Some.is at (c.in_ok-put.ensures.found at_b))
    (and_both _ _ c.in_ok-put.ensures.named c.in_ok-replace_secrets.ensures.limits) c.in_ok-replace_secrets.ensures.room
    (c.in_ok-replace_secrets.ensures.done clean (same.0.mode ∙ inside))
