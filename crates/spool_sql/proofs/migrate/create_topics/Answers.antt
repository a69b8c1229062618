use Rattle.std.proofs.Common.{[], Err}
use Rattle.sqlite.specs.State.{ExecutesInside}
use Rattle.sqlite.specs.Held.{state}
use Rattle.spool_sql.specs.Tables.{topics_text}
use Rattle.spool_sql.proofs.ReadableLemmas.{handed_on}
use Rattle.spool_sql.proofs.CreateLemmas.{adds_topics, begins_topics}
use Rattle.spool_sql.proofs.migrate.create_topics.Goals as goal

pub returns-clause-grows : goal.returns-clause-grows
returns-clause-grows g c clean inside =
    let old = state g.S.Store c.args.tx.now.conn.now in
    let new = state g.S.Store c.execute.new.self.conn.now in
    let ran = c.in_ok-execute.ensures.runs clean inside in
    record { on = ran.1; begins = begins_topics old new c.in_ok-execute.field-0 ran.0 }

pub returns-clause-done : goal.returns-clause-done
returns-clause-done g c clean inside =
    let old = state g.S.Store c.args.tx.now.conn.now in
    let new = state g.S.Store c.execute.new.self.conn.now in
    let ran = c.in_ok-execute.ensures.runs clean inside in
    record { on = ran.1; makes = adds_topics old new c.in_ok-execute.field-0 ran.0 }

pub returns-in_err-execute-clause-refused : goal.returns-in_err-execute-clause-refused
returns-in_err-execute-clause-refused g c clean inside =
    let old = state g.S.Store c.args.tx.now.conn.now in
    let new = state g.S.Store c.execute.new.self.conn.now in
    handed_on c.from_residual.result c.in_err-execute.field-0.0 (λ e. ExecutesInside 0 topics_text [] old new (Err e))
    c.from_residual.ensures.1 (c.in_err-execute.ensures.runs clean inside)
