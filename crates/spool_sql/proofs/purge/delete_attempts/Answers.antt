use Rattle.std.proofs.Common.{pos, [], ◌∷◌, codes, Err}
use Rattle.sqlite.specs.declared.types.Value.TheVariants.{Int}
use Rattle.sqlite.specs.State.{ExecutesInside}
use Rattle.spool_sql.proofs.ReadableLemmas.{handed_on}
use Rattle.sqlite.specs.Held.{state}
use Rattle.spool_sql.proofs.Purges.{makes_without_attempts}
use Rattle.spool_sql.proofs.purge.delete_attempts.Goals as goal

pub returns-clause-done : goal.returns-clause-done
returns-clause-done g c clean inside =
    let old = state g.S.Store c.args.tx.now.conn.now in
    let new = state g.S.Store c.execute.new.self.conn.now in
    let ran = rw c.value.ensures.value at (c.in_ok-execute.ensures.runs clean inside) in
    record { on = ran.1; makes = makes_without_attempts old new c.args.delivery c.in_ok-execute.field-0 ran.0 }

pub returns-in_err-execute-clause-refused : goal.returns-in_err-execute-clause-refused
returns-in_err-execute-clause-refused g c clean inside =
    let old = state g.S.Store c.args.tx.now.conn.now in
    let new = state g.S.Store c.execute.new.self.conn.now in
    handed_on c.from_residual.result c.in_err-execute.field-0.0
    (λ e. ExecutesInside 0 (codes "DELETE FROM attempts WHERE delivery = ?1")
    (Int (pos c.args.delivery) ∷ []) old new (Err e))
    c.from_residual.ensures.1
    (rw c.value.ensures.value at (c.in_err-execute.ensures.runs clean inside))
