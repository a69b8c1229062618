use Rattle.std.proofs.Common.{sym, arith, ◌∙◌}
use Rattle.sqlite.specs.State.{HasCleanDisk}
use Rattle.sqlite.specs.Held.{state}
use Rattle.spool_sql.proofs.StepLemmas.{alters_then}
use Rattle.spool_write.specs.Entering.{disabled_if_gone}
use Rattle.spool_write.proofs.EntryLemmas.{outcome_refused, outcome_made}
use Rattle.spool_write.proofs.outcome.write_outcome.Goals as goal

pub returns-in_default-clause-done : goal.returns-in_default-clause-done
returns-in_default-clause-done g c clean inside =
    outcome_refused (state g.S.Store c.args.tx.now.conn.now) (state g.S.Store c.find_attempted.new.tx.conn.now)
    c.args.seq c.args.delivery c.args.attempt c.args.status c.args.at inside (c.in_ok-put.ensures.unchanged clean)
    (λ count records has. rw (c.of-named.ensures, c.min.ensures, c.get.ensures.number) at (sym c.in_default.is
    ∙ c.in_ok-put.ensures.found clean count records has))

pub returns-clause-done : goal.returns-clause-done
returns-clause-done g c clean inside =
    let a = state g.S.Store c.args.tx.now.conn.now in
    let b = state g.S.Store c.find_attempted.new.tx.conn.now in
    let d = state g.S.Store c.insert_attempt.new.tx.conn.now in
    let z = state g.S.Store c.disable_if_gone.new.tx.conn.now in
    let at_d : HasCleanDisk d = omega (arith, clean, c.in_ok-disable_if_gone.ensures.spares.survives.clean) in
    let at_b : HasCleanDisk b = omega (arith, at_d, c.in_ok-insert_attempt.ensures.spares.survives.clean) in
    let same = c.in_ok-put.ensures.unchanged at_b in
    let row = rw (c.of-named.ensures, c.min.ensures, c.get.ensures.number) at (c.in_ok-insert_attempt.ensures.done at_d
    (same.0.mode ∙ inside)) in
    outcome_made a b z c.args.seq c.args.delivery c.args.attempt c.args.status c.args.at c.in-Some.put inside same
    (λ count records has. rw (c.of-named.ensures, c.min.ensures, c.get.ensures.number) at (sym c.in-Some.is
    ∙ c.in_ok-put.ensures.found at_b count records has)) c.in_ok-insert_attempt.ensures.limits
    c.in_ok-insert_attempt.ensures.room
    (alters_then b d z _ (disabled_if_gone c.in-Some.put c.args.status c.args.seq) row
    (c.in_ok-disable_if_gone.ensures.done clean row.on.mode row.on.is_open))
