use Rattle.std.proofs.Common.{Err, None, List, ap, subst, sym, ◌∙◌}
use Rattle.sqlite.specs.Held.{state}
use Rattle.sqlite.specs.State.{HasCleanDisk}
use Rattle.relay_types.specs.declared.record.Record.{Record}
use Rattle.spool.specs.Commits.{HoldsOnDisk}
use Rattle.spool.specs.Writing.{RestsInDoubt}
use Rattle.spool.specs.Vaults.{VaultValue}
use Rattle.delivery.specs.Keepers.{AppendsBatches, KeepsLog}
use Rattle.relay_host.specs.FileGuards.{keeper_of}
use Rattle.relay_serve.specs.Serving.{AddsBatches, AddsEvent, committer_end}
use Rattle.relay_serve.specs.declared.fault.ServeFault.{ServeFault}
use Rattle.relay_serve.proofs.ServingLaws.{added, added_still, event_of_base, event_still, logged_event, no_event}
use Rattle.relay_serve.proofs.ServingLaws.{nothing_added}
use Rattle.relay_serve.proofs.serving.serve_named.Goals as goal

pub returns-in-Err-clause-rows : goal.returns-in-Err-clause-rows
returns-in-Err-clause-rows g c clean =
    let old = c.args.vault in
    let back = c.into_keeper.ensures ∙ ap keeper_of (c.into_keeper-keeper.ensures ∙ c.begin_run-shared.ensures.keeper)
    ∙ c.new-keeper.ensures.keeper in
    subst (λ v. AddsBatches g.S.Store old v (committer_end (Err c.from.result))) (sym back)
    (subst (λ (fault : ServeFault). AddsBatches g.S.Store old old (committer_end (Err fault))) (sym c.from.ensures)
    (nothing_added g.S.Store old))

pub returns-in-Err-clause-acknowledged : goal.returns-in-Err-clause-acknowledged
returns-in-Err-clause-acknowledged g c clean base is =
    let old = c.args.vault in
    let back = c.into_keeper.ensures ∙ ap keeper_of (c.into_keeper-keeper.ensures ∙ c.begin_run-shared.ensures.keeper)
    ∙ c.new-keeper.ensures.keeper in
    subst (λ v. AddsEvent g.S.Store old v (committer_end (Err c.from.result)) None base) (sym back)
    (subst (λ (fault : ServeFault). AddsEvent g.S.Store old old (committer_end (Err fault)) None base)
    (sym c.from.ensures)
    (no_event g.S.Store old base))

pub returns-clause-rows : goal.returns-clause-rows
returns-clause-rows g c clean =
    let old = c.args.vault in
    let mid = c.into_keeper-vault.result in
    let new = c.report_end-ended.new.vault in
    let run = c.run_threads-logged in
    let begun = c.begin_run-shared.result.1.keeper in
    let ended = run.result.0.keeper in
    let Left : VaultValue _ → VaultValue _ → Type 0 =
    λ a b. HasCleanDisk (state g.S.Store b.conn) → AddsBatches g.S.Store a b run.result.1 in
    let of_keeper : Left (keeper_of begun) (keeper_of ended) =
    λ clean. added g.S.Store keeper_of begun ended run.result.1 (run.ensures.rows clean) in
    let from = ap keeper_of c.begin_run-shared.ensures.keeper ∙ c.new-keeper.ensures.keeper in
    let to = c.into_keeper-vault.ensures
    ∙ ap keeper_of (c.into_keeper-keeper-2.ensures ∙ c.last_acknowledged-acknowledged.ensures.keeper) in
    let left : Left old mid = subst (λ v. Left old v) (sym to) (subst (λ v. Left v (keeper_of ended)) from of_keeper) in
    let told = c.report_end-ended.ensures in
    subst (λ end. AddsBatches g.S.Store old new end) (sym told.end)
    (added_still g.S.Store old mid new run.result.1 (left (told.clean clean)) (told.read clean))

pub returns-clause-acknowledged : goal.returns-clause-acknowledged
returns-clause-acknowledged g c clean base is =
    let old = c.args.vault in
    let mid = c.into_keeper-vault.result in
    let new = c.report_end-ended.new.vault in
    let run = c.run_threads-logged in
    let last = c.last_acknowledged-acknowledged in
    let begun = c.begin_run-shared.result.1.keeper in
    let ended = run.result.0.keeper in
    let end = run.result.1 in
    let log = run.result.0.writer in
    let Left : VaultValue _ → VaultValue _ → Type 0 =
    λ a b. HasCleanDisk (state g.S.Store b.conn) → AddsEvent g.S.Store a b end last.result base in
    let Keeps = λ (before : List Record). KeepsLog (λ k. HoldsOnDisk g.S.Store (keeper_of k))
    (λ k. RestsInDoubt (state g.S.Store (keeper_of k).conn)) begun before ended log end in
    let of_keeper : Left (keeper_of begun) (keeper_of ended) = λ clean.
    logged_event g.S.Store keeper_of begun ended log end last.result base
    (subst Keeps c.begin_run-shared.ensures.writer (run.ensures.logged clean))
    (subst (λ (before : List Record). AppendsBatches before log) c.begin_run-shared.ensures.writer run.ensures.appended)
    (event_of_base g.I.LogId.is_base log last.result base is last.ensures.event) in
    let from = ap keeper_of c.begin_run-shared.ensures.keeper ∙ c.new-keeper.ensures.keeper in
    let to = c.into_keeper-vault.ensures ∙ ap keeper_of (c.into_keeper-keeper-2.ensures ∙ last.ensures.keeper) in
    let left : Left old mid = subst (λ v. Left old v) (sym to) (subst (λ v. Left v (keeper_of ended)) from of_keeper) in
    let told = c.report_end-ended.ensures in
    subst (λ end. AddsEvent g.S.Store old new end last.result base) (sym told.end)
    (event_still g.S.Store old mid new end last.result base (left (told.clean clean)) (told.read clean))

pub returns-clause-clean : goal.returns-clause-clean
returns-clause-clean g c clean =
    let Clean : VaultValue _ → Type 0 = λ v. HasCleanDisk (state g.S.Store v.conn) in
    let from = ap keeper_of c.begin_run-shared.ensures.keeper ∙ c.new-keeper.ensures.keeper in
    let to = c.into_keeper-vault.ensures
    ∙ ap keeper_of (c.into_keeper-keeper-2.ensures ∙ c.last_acknowledged-acknowledged.ensures.keeper) in
    subst Clean from (c.run_threads-logged.ensures.clean (subst Clean to (c.report_end-ended.ensures.clean clean)))
