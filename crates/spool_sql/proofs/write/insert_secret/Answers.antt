use Rattle.std.proofs.Common.{pos, [], ◌∷◌, codes, Err}
use Rattle.sqlite.specs.declared.types.Value.TheVariants.{Blob, Int}
use Rattle.sqlite.specs.State.{ExecutesInside}
use Rattle.spool_sql.proofs.ReadableLemmas.{handed_on}
use Rattle.sqlite.specs.Held.{state}
use Rattle.spool_sql.proofs.Inserts.{makes_secret}
use Rattle.spool_sql.proofs.write.insert_secret.Goals as goal

pub returns-clause-done : goal.returns-clause-done
returns-clause-done g c clean inside =
    let old = state g.S.Store c.args.tx.now.conn.now in
    let new = state g.S.Store c.execute.new.self.conn.now in
    let ran = rw (c.value.ensures.value, c.int.ensures, c.as_bytes.ensures.bytes) at
    (c.in_ok-execute.ensures.runs clean inside) in
    record {
      on = ran.1;
      makes =
          makes_secret old new (record { endpoint = c.args.endpoint; place = c.args.place; secret = c.args.secret.now })
          c.in_ok-execute.field-0 ran.0;
    }

pub returns-in_err-execute-clause-refused : goal.returns-in_err-execute-clause-refused
returns-in_err-execute-clause-refused g c clean inside =
    let old = state g.S.Store c.args.tx.now.conn.now in
    let new = state g.S.Store c.execute.new.self.conn.now in
    handed_on c.from_residual.result c.in_err-execute.field-0.0
    (λ e. ExecutesInside 0 (codes "INSERT INTO secrets VALUES(?1, ?2, ?3)")
    (Int (pos c.args.endpoint) ∷ Int (pos c.args.place) ∷ Blob c.args.secret.now ∷ []) old new (Err e))
    c.from_residual.ensures.1
    (rw (c.value.ensures.value, c.int.ensures, c.as_bytes.ensures.bytes)
    at (c.in_err-execute.ensures.runs clean inside))
