use Rattle.std.proofs.Common.{arith}
use Rattle.sqlite.specs.State.{HasCleanDisk}
use Rattle.sqlite.specs.Held.{state}
use Rattle.spool_sql.specs.Stored.{with_endpoint, new_endpoint}
use Rattle.spool_write.specs.Entering.{with_secrets}
use Rattle.spool_sql.proofs.StepLemmas.{alters_last, on_ok}
use Rattle.spool_write.proofs.put.insert_put.Goals as goal

pub returns-clause-done : goal.returns-clause-done
returns-clause-done g c clean inside =
    let a = state g.S.Store c.args.tx.now.conn.now in
    let b = state g.S.Store c.insert_endpoint.new.tx.conn.now in
    let z = state g.S.Store c.insert_secrets.new.tx.conn.now in
    let at_b : HasCleanDisk b = omega (arith, clean, c.insert_secrets.ensures.spares.survives.clean) in
    let one = c.in_ok-insert_endpoint.ensures.done at_b inside in
    alters_last a b z (with_endpoint (new_endpoint c.args.seq c.args.name.now c.args.target.now c.args.max))
    (with_secrets c.args.seq c.args.secrets.now) c.insert_secrets.result one
    (on_ok c.insert_secrets.result _ _ (c.insert_secrets.ensures.done clean one.on.mode)
    (λ more. more one.on.is_open))
