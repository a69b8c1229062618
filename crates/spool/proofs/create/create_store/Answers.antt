use Rattle.std.proofs.Common.{◌≡◌, false, sym, ◌∙◌, arith}
use Rattle.sqlite.specs.State.{HasCleanDisk}
use Rattle.sqlite.specs.Held.{state}
use Rattle.spool.specs.Opening.{has_ours}
use Rattle.spool.proofs.CreateLemmas.{leaves_told}
use Rattle.spool.proofs.create.create_store.Goals as goal

pub returns-in-Err-clause-ends : goal.returns-in-Err-clause-ends
returns-in-Err-clause-ends g c clean =
    let old = state g.S.Store c.args.conn.now in
    let mid = state g.S.Store c.create_in_transaction.new.conn in
    let new = state g.S.Store c.fault_of.new.conn in
    let early : HasCleanDisk mid = omega (arith, clean, c.fault_of.ensures.survives.clean) in
    let free : has_ours old.now.schema ≡ false = rw c.schema.ensures.value at (sym c.has_ours.ensures
    ∙ c.if-has_ours.false) in
    leaves_told old mid new c.in-Err.error c.fault_of.result free (c.in-Err.ensures.undone early) c.in-Err.ensures.cause
    c.in-Err.ensures.survives c.fault_of.ensures.survives clean c.fault_of.ensures.told
    (c.fault_of.ensures.same clean) (g.met.S.Store.settled c.fault_of.new.conn.store)
