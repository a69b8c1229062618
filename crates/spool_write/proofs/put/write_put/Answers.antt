use Rattle.std.proofs.Common.{sym, arith, ◌∙◌}
use Rattle.sqlite.specs.State.{HasCleanDisk}
use Rattle.sqlite.specs.Held.{state}
use Rattle.spool_write.proofs.EntryLemmas.{put_refused, put_made}
use Rattle.spool_write.proofs.put.write_put.Goals as goal

pub returns-then-not-branch-clause-done : goal.returns-then-not-branch-clause-done
returns-then-not-branch-clause-done g c clean inside =
    put_refused (state g.S.Store c.args.tx.now.conn.now) (state g.S.Store c.may_put.new.tx.conn.now) c.args.seq
    c.args.name.now c.args.target.now c.args.max c.args.secrets.now inside
    (c.in_ok-may_put.ensures.unchanged clean) (λ count records has. sym c.if-not-branch.true
    ∙ c.in_ok-may_put.ensures.legal clean count records has)

pub returns-clause-done : goal.returns-clause-done
returns-clause-done g c clean inside =
    let a = state g.S.Store c.args.tx.now.conn.now in
    let b = state g.S.Store c.may_put.new.tx.conn.now in
    let z = state g.S.Store c.insert_put.new.tx.conn.now in
    let at_b : HasCleanDisk b = omega (arith, clean, c.in_ok-insert_put.ensures.spares.survives.clean) in
    let same = c.in_ok-may_put.ensures.unchanged at_b in
    put_made a b z c.args.seq c.args.name.now c.args.target.now c.args.max c.args.secrets.now inside same
    (λ count records has. sym c.if-not-branch.false ∙ c.in_ok-may_put.ensures.legal at_b count records has)
    c.in_ok-insert_put.ensures.limits c.in_ok-insert_put.ensures.room
    (c.in_ok-insert_put.ensures.done clean (same.0.mode ∙ inside))
