use Rattle.std.proofs.Common.{◌≡◌, inl, refl, subst, rules, arith}
use Rattle.sqlite.specs.State.{HasCleanDisk, Survives}
use Rattle.sqlite.specs.Held.{state}
use Rattle.relay_types.specs.Records.{records_of}
use Rattle.spool_sql.specs.Readable.{IsRefusal}
use Rattle.spool_sql.proofs.ReadableLemmas.{handed_on}
use Rattle.spool.specs.Writing.{CommitsAll, IsCause, StaysAs}
use Rattle.spool.proofs.CommitLemmas.{survives_all, back_along, commit_refused}
use Rattle.spool.proofs.transaction.commit_steps.Goals as goal

pub returns-in_err-commit-clause-undone : goal.returns-in_err-commit-clause-undone
returns-in_err-commit-clause-undone g c clean not_made is_open =
    let old = c.args.conn.now in
    let mid = state g.S.Store c.write_records.new.tx.conn.now in
    let begun = c.transaction-tx.ensures.begun in
    let same : c.commit.new.self.0 ≡ c.conn-then-legal-1.given.0 = search rules in
    let late : HasCleanDisk (state g.S.Store c.commit.new.self.0) = rw same clean in
    let early : HasCleanDisk mid = omega (arith, late, c.commit.ensures.survives.clean) in
    let entered = (rw begun at c.in_ok-legal.ensures.done) early refl in
    let spares = rw begun at c.in_ok-legal.ensures.spares in
    subst (λ h. StaysAs (state g.S.Store old) (state g.S.Store h)) same
    (back_along g.S.Store old mid (state g.S.Store c.commit.new.self.0) _ entered.on.mode (spares.kept early)
    (c.in_err-commit.ensures.err late) (rw same is_open))

pub returns-in_err-commit-clause-survives : goal.returns-in_err-commit-clause-survives
returns-in_err-commit-clause-survives g c =
    let old = c.args.conn.now in
    let mid = state g.S.Store c.write_records.new.tx.conn.now in
    let begun = c.transaction-tx.ensures.begun in
    let whole = survives_all g.S.Store old mid (state g.S.Store c.commit.new.self.0) c.args.next
    (records_of c.args.steps.now) c.in_ok-legal.legal c.if-legal.true (rw begun at c.in_ok-legal.ensures.spares)
    (λ clean. (rw begun at c.in_ok-legal.ensures.done) clean refl) c.commit.ensures.survives in
    let same : c.commit.new.self.0 ≡ c.conn-then-legal-1.given.0 = search rules in
    subst (λ h. Survives (state g.S.Store old) (state g.S.Store h)
    (CommitsAll (state g.S.Store old) c.args.next (records_of c.args.steps.now))) same whole

pub returns-then-legal-clause-survives : goal.returns-then-legal-clause-survives
returns-then-legal-clause-survives g c =
    let old = c.args.conn.now in
    let mid = state g.S.Store c.write_records.new.tx.conn.now in
    let begun = c.transaction-tx.ensures.begun in
    let whole = survives_all g.S.Store old mid (state g.S.Store c.commit.new.self.0) c.args.next
    (records_of c.args.steps.now) c.in_ok-legal.legal c.if-legal.true (rw begun at c.in_ok-legal.ensures.spares)
    (λ clean. (rw begun at c.in_ok-legal.ensures.done) clean refl) c.commit.ensures.survives in
    let same : c.commit.new.self.0 ≡ c.conn-then-legal-1.given.0 = search rules in
    subst (λ h. Survives (state g.S.Store old) (state g.S.Store h)
    (CommitsAll (state g.S.Store old) c.args.next (records_of c.args.steps.now))) same whole

pub returns-in_err-commit-clause-cause : goal.returns-in_err-commit-clause-cause
returns-in_err-commit-clause-cause g c clean =
    let old = c.args.conn.now in
    let mid = state g.S.Store c.write_records.new.tx.conn.now in
    let begun = c.transaction-tx.ensures.begun in
    let same : c.commit.new.self.0 ≡ c.conn-then-legal-1.given.0 = search rules in
    let late : HasCleanDisk (state g.S.Store c.commit.new.self.0) = rw same clean in
    let early : HasCleanDisk mid = omega (arith, late, c.commit.ensures.survives.clean) in
    let entered = (rw begun at c.in_ok-legal.ensures.done) early refl in
    let refused = commit_refused g.S.Store old mid (state g.S.Store c.commit.new.self.0) c.in_err-commit.field-0.0
    entered.on.mode (rw begun at c.in_ok-legal.ensures.spares)
    (c.in_err-commit.ensures.err late) c.commit.ensures.survives late in
    handed_on c.from_residual-in_err-commit.result c.in_err-commit.field-0.0
    (IsCause (state g.S.Store old) (state g.S.Store c.conn-then-legal-1.given.0))
    c.from_residual-in_err-commit.ensures.1
    (inl (subst (λ h. IsRefusal (state g.S.Store old) (state g.S.Store h) c.in_err-commit.field-0.0) same refused))
