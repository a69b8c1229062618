use Rattle.sqlite.specs.Held.{state}
use Rattle.spool_sql.proofs.CreateLemmas.{begins}
use Rattle.spool_sql.proofs.create.create.Goals as goal

pub returns-clause-done : goal.returns-clause-done
returns-clause-done g c schema table m clean inside =
    let old = state g.S.Store c.args.tx.now.conn.now in
    let new = state g.S.Store c.execute.new.self.conn.now in
    let ran = c.in_ok-execute.ensures.runs clean inside in
    record { on = ran.1; begins = begins schema c.args.sql.now table m old new c.in_ok-execute.field-0 ran.0 }
