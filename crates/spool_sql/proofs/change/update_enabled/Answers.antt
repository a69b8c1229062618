use Rattle.std.proofs.Common.{pos, [], ◌∷◌, codes, Err}
use Rattle.sqlite.specs.declared.types.Value.TheVariants.{Int}
use Rattle.sqlite.specs.State.{ExecutesInside}
use Rattle.spool_sql.proofs.ReadableLemmas.{handed_on}
use Rattle.spool_sql.specs.Stored.{flag_number}
use Rattle.sqlite.specs.Held.{state}
use Rattle.spool_sql.proofs.Changes.{makes_enabled, flag_is}
use Rattle.spool_sql.proofs.change.update_enabled.Goals as goal

pub returns-clause-done : goal.returns-clause-done
returns-clause-done g c clean inside =
    let old = state g.S.Store c.args.tx.now.conn.now in
    let new = state g.S.Store c.execute.new.self.conn.now in
    let ran = rw (c.int.ensures, c.from.ensures, flag_is c.args.flag, c.value.ensures.value, c.value-2.ensures.value) at
    (c.in_ok-execute.ensures.runs clean inside) in
    record { on = ran.1; makes = makes_enabled old new c.args.put c.args.flag c.args.by c.in_ok-execute.field-0 ran.0 }

pub returns-in_err-execute-clause-refused : goal.returns-in_err-execute-clause-refused
returns-in_err-execute-clause-refused g c clean inside =
    let old = state g.S.Store c.args.tx.now.conn.now in
    let new = state g.S.Store c.execute.new.self.conn.now in
    handed_on c.from_residual.result c.in_err-execute.field-0.0
    (λ e. ExecutesInside 0 (codes "UPDATE endpoints SET enabled = ?1, enabled_by = ?2 WHERE put = ?3")
    (Int (pos (flag_number c.args.flag)) ∷ Int (pos c.args.by) ∷ Int (pos c.args.put) ∷ []) old new (Err e))
    c.from_residual.ensures.1
    (rw (c.int.ensures, c.from.ensures, flag_is c.args.flag, c.value.ensures.value, c.value-2.ensures.value)
    at (c.in_err-execute.ensures.runs clean inside))
