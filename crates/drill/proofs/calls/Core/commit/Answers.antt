use Rattle.std.proofs.Common.{refl}
use Rattle.drill.proofs.CommitLaws.{answers_commit, core_kept}
use Rattle.drill.proofs.calls.Core.commit.Goals as goal

pub returns-in-Batch-clause-answers : goal.returns-in-Batch-clause-answers
returns-in-Batch-clause-answers g c clean = rw c.hold.ensures
    (answers_commit g.S.Store c.args.self.now _ c.args.vault.now c.commit_batch-held.new.vault c.in-Batch.batch
    c.commit_batch-held.result.1 c.in-Batch.ensures.value refl c.commit_batch-held.ensures.held
    c.commit_batch-held.ensures.mark (c.commit_batch-held.ensures.commits clean))

pub returns-in-Batch-clause-core : goal.returns-in-Batch-clause-core
returns-in-Batch-clause-core g c = rw c.hold.ensures
    (core_kept c.args.self.now _ c.in-Batch.batch c.requires c.in-Batch.ensures.value c.commit_batch-held.ensures.held
    refl)

pub returns-in_default-clause-core : goal.returns-in_default-clause-core
returns-in_default-clause-core g c = rw (c.hold-in_default.ensures, c.replace.ensures.value) c.requires
