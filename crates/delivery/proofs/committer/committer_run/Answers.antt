use Rattle.std.specs.Prelude.{Option}
use Rattle.std.proofs.Common.{◌++◌, subst}
use Rattle.delivery.specs.declared.committer.CommitterEnd.{CommitterEnd}
use Rattle.delivery.specs.Logs.{receipt_of}
use Rattle.delivery.specs.Keepers.{EndsAfterCommit, records_in}
use Rattle.delivery.proofs.KeeperLaws.{appends_on, ends_so, goes_on, keeps_log}
use Rattle.delivery.proofs.committer.committer_run.Goals as goal

pub loop-preserved-in_default : goal.loop-preserved-in_default
loop-preserved-in_default g c =
    let holds = g.K.Keeper.holds in
    let in_doubt = g.K.Keeper.in_doubt in
    let old = c.loop.logged in
    let commit = c.commit-ended in
    let new = commit.new.self in
    let batch = c.in-Commit.batch in
    let goes_on_by =
    subst (λ (end : Option CommitterEnd). EndsAfterCommit (receipt_of commit.result) end) c.in_default.is
    c.hand_in.ensures in
    record {
      next = tt;
      finite = tt;
      clean = λ clean. c.loop.invariant.clean (commit.ensures.clean clean);
      adds = λ clean records held.
          let before = c.loop.invariant.adds (commit.ensures.clean clean) records held in
          goes_on holds in_doubt old.keeper new.keeper batch (receipt_of commit.result) goes_on_by
          (commit.ensures.history clean) records before.0 before.1;
      logs = λ clean records held.
          keeps_log holds in_doubt old.keeper new.keeper batch commit.result old.writer new.writer goes_on_by
          (commit.ensures.history clean) commit.ensures.logged commit.ensures.same records
          (c.loop.invariant.logs (commit.ensures.clean clean) records held);
      appended = appends_on commit.result batch _ old.writer new.writer
          commit.ensures.logged commit.ensures.same c.loop.invariant.appended;
    }

pub returns-in-Some-hand_in-clause-rows : goal.returns-in-Some-hand_in-clause-rows
returns-in-Some-hand_in-clause-rows g c clean records held =
    let commit = c.commit-ended in
    let ended =
    subst (λ (end : Option CommitterEnd). EndsAfterCommit (receipt_of commit.result) end) c.in-Some-hand_in.is
    c.hand_in.ensures in
    let before = c.loop.invariant.adds (commit.ensures.clean clean) records held in (
      before.0,
      ends_so g.K.Keeper.holds g.K.Keeper.in_doubt c.loop.logged.keeper commit.new.self.keeper c.in-Commit.batch
          (receipt_of commit.result) c.in-Some-hand_in.end ended (commit.ensures.history clean)
          (records ++ records_in before.0) before.1,
    )
