use Rattle.std.proofs.Common.{[], ◌∷◌, arith, ◌∙◌}
use Rattle.sqlite.specs.State.{HasCleanDisk}
use Rattle.sqlite.specs.Held.{state}
use Rattle.relay_types.specs.declared.record.Record.TheVariants.{Accept}
use Rattle.relay_types.specs.Rows.{DeliveryRow}
use Rattle.relay_types.proofs.KnownLaws.{and_both}
use Rattle.spool_sql.specs.Steps.{AddsUnlessKnown}
use Rattle.spool_sql.proofs.StepLemmas.{ok_then}
use Rattle.spool_write.specs.Entering.{Enters}
use Rattle.spool_write.proofs.EntryLemmas.{accept_answered, accept_unnamed}
use Rattle.spool_write.proofs.accept.write_accept.Goals as goal

pub returns-in_default-clause-done : goal.returns-in_default-clause-done
returns-in_default-clause-done g c clean inside =
    accept_unnamed (state g.S.Store c.args.tx.now.conn.now) (state g.S.Store c.select_put.new.tx.conn.now)
    c.args.seq c.args.name.now c.args.id.now c.args.body.now c.args.at inside
    (c.in_ok-endpoint.ensures.unchanged clean)
    (rw c.in_default.is at (c.in_ok-endpoint.ensures.found clean))

pub returns-clause-done : goal.returns-clause-done
returns-clause-done g c clean inside =
    let a = state g.S.Store c.args.tx.now.conn.now in
    let b = state g.S.Store c.select_put.new.tx.conn.now in
    let z = state g.S.Store c.insert_delivery.new.tx.conn.now in
    let at_b : HasCleanDisk b = omega (arith, clean, c.insert_delivery.ensures.spares.survives.clean) in
    let same = c.in_ok-endpoint.ensures.unchanged at_b in
    let d : DeliveryRow = record {
      seq = c.args.seq;
      endpoint = c.in-Some.endpoint;
      id = c.args.id.now;
      at = c.args.at;
      body = c.args.body.now;
    } in
    ok_then c.insert_delivery.result (AddsUnlessKnown d b z)
    (Enters a z c.args.seq (Accept c.args.name.now c.args.id.now c.args.body.now c.args.at ∷ []))
    (c.insert_delivery.ensures.done clean (same.0.mode ∙ inside))
    (λ made adds. accept_answered a b z c.args.seq c.args.name.now c.args.id.now c.args.body.now c.args.at
    c.in-Some.endpoint made inside same (rw c.in-Some.is at (c.in_ok-endpoint.ensures.found at_b))
    (and_both _ _ c.in_ok-endpoint.ensures.named c.insert_delivery.ensures.limits) c.insert_delivery.ensures.room adds)
