use Rattle.std.proofs.Common.{pos, [], ◌∷◌, codes, Err}
use Rattle.sqlite.specs.declared.types.Value.TheVariants.{Int, Text}
use Rattle.sqlite.specs.State.{ExecutesInside}
use Rattle.spool_sql.proofs.ReadableLemmas.{handed_on}
use Rattle.spool_sql.specs.Stored.{flag_number}
use Rattle.sqlite.specs.Held.{state}
use Rattle.spool_sql.proofs.Inserts.{makes_topic}
use Rattle.spool_sql.proofs.Changes.{flag_is}
use Rattle.spool_sql.proofs.write.insert_topic.Goals as goal

pub returns-clause-done : goal.returns-clause-done
returns-clause-done g c clean inside =
    let old = state g.S.Store c.args.tx.now.conn.now in
    let new = state g.S.Store c.execute.new.self.conn.now in
    let ran = rw (
      c.as_bytes.ensures.text,
      c.value.ensures.value,
      c.int.ensures,
      c.from.ensures,
      flag_is c.args.subscribed,
      c.value-2.ensures.value,
    ) at (c.in_ok-execute.ensures.runs clean inside) in
    record {
      on = ran.1;
      makes = makes_topic old new
          (record {
            topic = c.args.topic.now;
            endpoint = c.args.endpoint;
            subscribed = c.args.subscribed;
            set_by = c.args.set_by;
          }) c.in_ok-execute.field-0 ran.0;
    }

pub returns-in_err-execute-clause-refused : goal.returns-in_err-execute-clause-refused
returns-in_err-execute-clause-refused g c clean inside =
    let old = state g.S.Store c.args.tx.now.conn.now in
    let new = state g.S.Store c.execute.new.self.conn.now in
    handed_on c.from_residual.result c.in_err-execute.field-0.0
    (λ e. ExecutesInside 0 (codes "INSERT INTO topics VALUES(?1, ?2, ?3, ?4)")
    (Text c.args.topic.now ∷ Int (pos c.args.endpoint) ∷ Int (pos (flag_number c.args.subscribed))
    ∷ Int (pos c.args.set_by) ∷ []) old new (Err e))
    c.from_residual.ensures.1
    (rw (
      c.as_bytes.ensures.text,
      c.value.ensures.value,
      c.int.ensures,
      c.from.ensures,
      flag_is c.args.subscribed,
      c.value-2.ensures.value,
    ) at (c.in_err-execute.ensures.runs clean inside))
