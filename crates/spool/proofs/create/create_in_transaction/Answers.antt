use Rattle.std.proofs.Common.{◌≡◌, IfErr, inl, refl, rules, subst, arith}
use Rattle.sqlite.specs.State.{HasCleanDisk}
use Rattle.sqlite.specs.Held.{state}
use Rattle.spool_sql.proofs.ReadableLemmas.{err_then}
use Rattle.spool.specs.Writing.{IsCause}
use Rattle.spool.proofs.CommitLemmas.{commit_refused}
use Rattle.spool.proofs.create.create_in_transaction.Goals as goal

pub returns-clause-cause : goal.returns-clause-cause
returns-clause-cause g c clean =
    let old = c.args.conn.now in
    let mid = state g.S.Store c.create_tables.new.tx.conn.now in
    let new = state g.S.Store c.commit.new.self.0 in
    let begun = c.transaction-tx.ensures.begun in
    let same : c.commit.new.self.0 ≡ c.conn-2-1.given.0 = search rules in
    let late : HasCleanDisk new = rw same clean in
    let early : HasCleanDisk mid = omega (arith, late, c.commit.ensures.survives.clean) in
    let founded = (rw begun at c.in_ok-create_tables.ensures.done) early refl in
    let spares = rw begun at c.in_ok-create_tables.ensures.spares in
    subst (λ h. IfErr c.commit.result (IsCause (state g.S.Store old) (state g.S.Store h))) same
    (err_then c.commit.result _ (IsCause (state g.S.Store old) new) (c.commit.ensures.err late) (λ e fails.
    inl (commit_refused g.S.Store old mid new e founded.on.mode spares fails c.commit.ensures.survives late)))
