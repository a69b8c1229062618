use Rattle.std.proofs.Common.{◌≡◌, [], ◌∷◌, map, refl, sym, subst, ◌∙◌}
use Rattle.std.proofs.lemmas.List.{map-append}
use Rattle.std.proofs.lemmas.Iterator.Adapters.{YieldsList-from_vec}
use Rattle.std.proofs.lemmas.Iterator.Consumers.{YieldsList-end}
use Rattle.relay_types.specs.Rows.{rows_of}
use Rattle.spool_sql.specs.Stored.{attempt_of}
use Rattle.spool_load.specs.Loading.{Attempts, HaveAttempts}
use Rattle.spool_sql.proofs.PageLaws.{map_itself, turned}
use Rattle.spool_load.proofs.QuietReads.{next_row, reads_none, reads_then}
use Rattle.spool_load.proofs.AttemptLoads.{attempts_more, may_restore_next, not_both}
use Rattle.spool_load.proofs.attempts.restore_page.Goals as goal

pub loop-row-init : goal.loop-row-init
loop-row-init c records = reads_none (rows_of records).attempts (HaveAttempts c.args.loaded.now records)

pub loop-row-preserved : goal.loop-row-preserved
loop-row-preserved c records =
    let row = attempt_of c.in-Some.row in
    let step = c.in_ok-restore.ensures in
    subst (λ more. Attempts c.args.loaded.now c.restore.new.self more records)
    (sym (map-append attempt_of c.loop-row.yielded (c.in-Some.row ∷ [])))
    (reads_then (rows_of records).attempts (HaveAttempts c.args.loaded.now records)
    (HaveAttempts c.loop-row.loaded records) (HaveAttempts c.restore.new.self records)
    (map attempt_of c.loop-row.yielded) (row ∷ [])
    (c.loop-row.invariant records)
    (attempts_more records row c.loop-row.loaded c.restore.new.self step.book step.clock))

pub returns-clause-found : goal.returns-clause-found
returns-clause-found c records =
    let given = c.into_iter-row-iterator.ensures.into_iter_gives in
    let ended = YieldsList-end (YieldsList-from_vec c.args.page.items given.0 (given.1 ∙ c.args.page.ok.0))
    c.loop-row.yielded c.loop-row.row-iterator c.loop-row.yielded_by c.next.result c.next.new.self c.in-None.is
    c.next.ensures.steps in
    let all : c.loop-row.yielded ≡ c.args.page.items = sym (map_itself c.loop-row.yielded) ∙ ended.0 in
    subst (λ items. Attempts c.args.loaded.now c.loop-row.loaded (map attempt_of items) records) all
    (c.loop-row.invariant records)

pub returns-in_err-restore-clause-refused : goal.returns-in_err-restore-clause-refused
returns-in_err-restore-clause-refused c failed records legal next =
    let given = c.into_iter-row-iterator.ensures.into_iter_gives in
    let here = turned (YieldsList-from_vec c.args.page.items given.0 (given.1 ∙ c.args.page.ok.0)) c.loop-row.yielded
    c.loop-row.row-iterator c.loop-row.yielded_by c.next.result c.next.new.self c.in-Some.row c.in-Some.is
    c.next.ensures.steps in
    let may = may_restore_next records c.loop-row.loaded (attempt_of c.in-Some.row) legal
    (next_row (rows_of records).attempts attempt_of (HaveAttempts c.args.loaded.now records)
    (HaveAttempts c.loop-row.loaded records) c.loop-row.yielded c.args.page.items c.in-Some.row here
    (c.loop-row.invariant records) next) in
    not_both _ may (c.in_err-restore.ensures.unreadable refl)
