use Rattle.std.proofs.Common.{pos, [], ◌∷◌, codes, Err, IfErr, IfOk, refl, sym, subst}
use Rattle.sqlite.specs.declared.types.Value.TheVariants.{Blob, Int, Text}
use Rattle.sqlite.specs.State.{ExecutesInside, KeepsCommit}
use Rattle.sqlite.specs.Held.{state}
use Rattle.relay_types.specs.Rows.{DeliveryRow}
use Rattle.spool_sql.specs.Steps.{AddsUnlessKnown}
use Rattle.spool_sql.proofs.KnownLemmas.{adds_unless_known, hands_on}
use Rattle.spool_sql.proofs.StepLemmas.{spares_inside}
use Rattle.spool_sql.proofs.write.insert_delivery.Goals as goal

pub returns-clause-done : goal.returns-clause-done
returns-clause-done g c clean inside =
    let old = state g.S.Store c.args.tx.now.conn.now in
    let new = state g.S.Store c.execute-inserted.new.self.conn.now in
    let d : DeliveryRow = record {
      seq = c.args.seq;
      endpoint = c.args.endpoint;
      id = c.args.id.now;
      at = c.args.at;
      body = c.args.body.now;
    } in
    let ran = rw (
      c.value.ensures.value,
      c.value-2.ensures.value,
      c.as_bytes.ensures.text,
      c.int.ensures,
      c.seconds.ensures.number,
      c.as_bytes-2.ensures.bytes,
    ) at (c.execute-inserted.ensures.runs clean inside) in
    subst (λ r. IfOk r (AddsUnlessKnown d old new)) (sym c.was_added.ensures.value)
    (adds_unless_known d old new c.execute-inserted.result inside ran)

pub returns-clause-refused : goal.returns-clause-refused
returns-clause-refused g c clean inside =
    let old = state g.S.Store c.args.tx.now.conn.now in
    let new = state g.S.Store c.execute-inserted.new.self.conn.now in
    let ran = rw (
      c.value.ensures.value,
      c.value-2.ensures.value,
      c.as_bytes.ensures.text,
      c.int.ensures,
      c.seconds.ensures.number,
      c.as_bytes-2.ensures.bytes,
    ) at (c.execute-inserted.ensures.runs clean inside) in
    subst (λ r. IfErr r (λ e. ExecutesInside 0 (codes "INSERT INTO deliveries VALUES(?1, ?2, ?3, ?4, ?5)")
    (Int (pos c.args.seq) ∷ Int (pos c.args.endpoint) ∷ Text c.args.id.now ∷ Int (pos c.args.at)
    ∷ Blob c.args.body.now ∷ []) old new (Err e))) (sym c.was_added.ensures.value)
    (hands_on _ _ old new c.execute-inserted.result ran)

pub returns-clause-spares : goal.returns-clause-spares
returns-clause-spares g c =
    spares_inside _ _ (state g.S.Store c.args.tx.now.conn.now) (state g.S.Store c.execute-inserted.new.self.conn.now)
    c.execute-inserted.result
    (λ out. subst (λ h. KeepsCommit (state g.S.Store c.args.tx.now.conn.now) (state g.S.Store h))
    (sym (c.execute-inserted.ensures.ended out).1) (record { was_open = λ is_open. is_open; committed = λ _. refl }))
    c.execute-inserted.ensures.runs c.execute-inserted.ensures.survives
