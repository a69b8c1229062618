use Rattle.std.proofs.Common.{◌≡◌, IfErr, inl, refl, rules, subst, arith}
use Rattle.sqlite.specs.State.{HasCleanDisk, Survives}
use Rattle.sqlite.specs.Held.{state}
use Rattle.spool_sql.proofs.ReadableLemmas.{err_then}
use Rattle.spool.specs.Writing.{IsCause}
use Rattle.spool.specs.Migrating.{Migrated}
use Rattle.spool.proofs.CommitLemmas.{commit_refused}
use Rattle.spool.proofs.MigrateLemmas.{survives_made}
use Rattle.spool.proofs.migrate.add_in_transaction.Goals as goal

pub returns-clause-cause : goal.returns-clause-cause
returns-clause-cause g c clean =
    let old = c.args.conn.now in
    let mid = state g.S.Store c.write_topics.new.tx.conn.now in
    let new = state g.S.Store c.commit.new.self.0 in
    let begun = c.transaction-tx.ensures.begun in
    let same : c.commit.new.self.0 ≡ c.conn-2-1.given.0 = search rules in
    let late : HasCleanDisk new = rw same clean in
    let early : HasCleanDisk mid = omega (arith, late, c.commit.ensures.survives.clean) in
    let becomes = (rw begun at c.in_ok-write_topics.ensures.done) early refl in
    let spares = rw begun at c.in_ok-write_topics.ensures.spares in
    subst (λ h. IfErr c.commit.result (IsCause (state g.S.Store old) (state g.S.Store h))) same
    (err_then c.commit.result _ (IsCause (state g.S.Store old) new) (c.commit.ensures.err late) (λ e fails.
    inl (commit_refused g.S.Store old mid new e becomes.on.mode spares fails c.commit.ensures.survives late)))

pub returns-clause-survives : goal.returns-clause-survives
returns-clause-survives g c =
    let old = c.args.conn.now in
    let mid = state g.S.Store c.write_topics.new.tx.conn.now in
    let begun = c.transaction-tx.ensures.begun in
    let same : c.commit.new.self.0 ≡ c.conn-2-1.given.0 = search rules in
    subst (λ h. Survives (state g.S.Store old) (state g.S.Store h) (Migrated (state g.S.Store old))) same
    (survives_made g.S.Store old mid (state g.S.Store c.commit.new.self.0)
    (rw begun at c.in_ok-write_topics.ensures.spares)
    (λ clean. (rw begun at c.in_ok-write_topics.ensures.done) clean refl) c.commit.ensures.survives)
