use Rattle.std.proofs.Common.{arith}
use Rattle.sqlite.specs.State.{HasCleanDisk}
use Rattle.sqlite.specs.Held.{state}
use Rattle.spool_sql.specs.Stored.{with_secrets_by, without_secrets}
use Rattle.spool_write.specs.Entering.{with_secrets}
use Rattle.spool_sql.proofs.StepLemmas.{alters_then, alters_last}
use Rattle.spool_write.proofs.secrets.replace_secrets.Goals as goal

pub returns-clause-done : goal.returns-clause-done
returns-clause-done g c clean inside =
    let a = state g.S.Store c.args.tx.now.conn.now in
    let b = state g.S.Store c.delete_secrets.new.tx.conn.now in
    let d = state g.S.Store c.insert_secrets.new.tx.conn.now in
    let z = state g.S.Store c.update_secrets_by.new.tx.conn.now in
    let at_d : HasCleanDisk d = omega (arith, clean, c.update_secrets_by.ensures.spares.survives.clean) in
    let at_b : HasCleanDisk b = omega (arith, at_d, c.in_ok-insert_secrets.ensures.spares.survives.clean) in
    let out = c.in_ok-delete_secrets.ensures.done at_b inside in
    let both = alters_then a b d (without_secrets c.args.put) (with_secrets c.args.put c.args.secrets.now) out
    (c.in_ok-insert_secrets.ensures.done at_d out.on.mode out.on.is_open) in
    alters_last a d z (λ rows. with_secrets c.args.put c.args.secrets.now (without_secrets c.args.put rows))
    (with_secrets_by c.args.put c.args.by) c.update_secrets_by.result both
    (c.update_secrets_by.ensures.done clean both.on.mode)
