use Rattle.std.proofs.Common.{sym, ◌∙◌, subst}
use Rattle.delivery.specs.declared.committer.CommitterEnd.{CommitterEnd}
use Rattle.delivery.specs.Keepers.{AddsRecords, KeepsLog}
use Rattle.relay_serve.proofs.RunLaws.{adds_on, appends_both, logs_on}
use Rattle.relay_serve.proofs.threads.run_threads.Goals as goal

pub returns-in-Finished-clause-rows : goal.returns-in-Finished-clause-rows
returns-in-Finished-clause-rows g c clean =
    let holds = g.K.Keeper.holds in
    let in_doubt = g.K.Keeper.in_doubt in
    let first = c.run_together-logged in
    let second = c.committer_run in
    let finished = subst
    (λ (end : CommitterEnd). AddsRecords holds in_doubt c.args.logged.keeper first.result.0.keeper end)
    (sym c.how.ensures ∙ c.in-Finished.is) (first.ensures.rows (second.ensures.clean clean)) in
    adds_on holds in_doubt c.args.logged.keeper first.result.0.keeper second.result.0.keeper second.result.1
    finished (second.ensures.rows clean)

pub returns-in-Finished-clause-logged : goal.returns-in-Finished-clause-logged
returns-in-Finished-clause-logged g c clean =
    let holds = g.K.Keeper.holds in
    let in_doubt = g.K.Keeper.in_doubt in
    let first = c.run_together-logged in
    let second = c.committer_run in
    let old = c.args.logged in
    let mid = first.result.0 in
    let finished = subst (λ (end : CommitterEnd). KeepsLog holds in_doubt old.keeper old.writer mid.keeper mid.writer
    end)
    (sym c.how.ensures ∙ c.in-Finished.is) (first.ensures.logged (second.ensures.clean clean)) in
    logs_on holds in_doubt old.keeper mid.keeper second.result.0.keeper second.result.1 old.writer mid.writer
    second.result.0.writer
    finished (second.ensures.logged clean)

pub returns-in-Finished-clause-appended : goal.returns-in-Finished-clause-appended
returns-in-Finished-clause-appended g c =
    appends_both c.args.logged.writer c.run_together-logged.result.0.writer c.committer_run.result.0.writer
    c.run_together-logged.ensures.appended c.committer_run.ensures.appended
