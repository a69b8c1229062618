use Rattle.std.proofs.Common.{Err, ap, subst, ◌∙◌}
use Rattle.spool.specs.Commits.{HandsBack}
use Rattle.drill.proofs.CommitLaws.{unchanged_ends}
use Rattle.drill.proofs.commit.commit_batch.Goals as goal

pub returns-in-Err-Unchanged-clause-commits : goal.returns-in-Err-Unchanged-clause-commits
returns-in-Err-Unchanged-clause-commits g c clean = rw c.unchanged_reply.ensures
    (unchanged_ends g.S.Store c.args.vault.now c.commit.new.self c.args.batch c.in-Err-Unchanged.batch
    c.in-Err-Unchanged.why c.commit.result (c.in-Err-Unchanged.is ∙ ap Err c.in-Err-Unchanged.field-0-is)
    (subst (HandsBack c.args.batch) c.in-Err-Unchanged.field-0-is c.in-Err-Unchanged.ensures.handed_back)
    c.commit.ensures.closed.0 (λ e. (c.commit.ensures.out_of_turn.0 e).1) (c.commit.ensures.illegal clean)
    c.commit.ensures.doubt.0 (c.commit.ensures.history clean))
