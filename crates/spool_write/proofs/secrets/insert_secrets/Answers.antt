use Rattle.std.proofs.Common.{sym, arith, ◌∙◌}
use Rattle.sqlite.specs.State.{HasCleanDisk}
use Rattle.sqlite.specs.Held.{state}
use Rattle.spool_sql.proofs.StepLemmas.{spares_then}
use Rattle.spool_write.proofs.SecretLemmas.{alters_more, get_is_there, all_more}
use Rattle.spool_write.proofs.secrets.insert_secrets.Goals as goal
use Rattle.spool_write.proofs.secrets.insert_secrets.Goals.{in-Some+in_ok-insert_secret-in-Some, in-None}

pub loop-place-preserved : goal.loop-place-preserved
loop-place-preserved g c = elim c.match-get.branch [
  | in-Some+in_ok-insert_secret-in-Some w ↦
      let a = state g.S.Store c.args.tx.now.conn.now in
      let b = state g.S.Store c.loop-place.tx.conn.now in
      let z = state g.S.Store w.insert_secret.new.tx.conn.now in
      let step = w.in_ok-insert_secret-in-Some.ensures in
      rw w.tx-is (record {
        same_reference = step.same_reference ∙ c.loop-place.invariant.same_reference;
        spares = spares_then a b z c.loop-place.invariant.spares step.spares;
        done = λ clean inside is_open.
            let before : HasCleanDisk b = omega (arith, clean, step.spares.survives.clean) in
            let so_far = c.loop-place.invariant.done before inside is_open in
            alters_more a b z c.args.put c.loop-place.place c.args.secrets.now _ (sym c.get.ensures ∙ w.in-Some.is)
            so_far (step.done clean so_far.on.mode);
        valid = all_more c.args.secrets.now c.loop-place.place _ (sym c.get.ensures ∙ w.in-Some.is)
            c.loop-place.invariant.valid step.limits;
      })
  | in-None w ↦ absurd (get_is_there c.args.secrets.now c.loop-place.place
      (omega (arith, c.loop-place-test.true, c.count-place-end.ensures.count)) (sym w.in-None.is ∙ c.get.ensures))
]
