use Rattle.std.proofs.Common.{◌≡◌, [], true, false, IfErr, subst, rules, arith}
use Rattle.sqlite.specs.Held.{state}
use Rattle.sqlite.specs.State.{HasCleanDisk, Survives, CommitsShowing, FailsToQuery}
use Rattle.spool_sql.proofs.ReadableLemmas.{handed_on}
use Rattle.sound_tables.specs.Reading.{Looks, IsFault, Fits}
use Rattle.sound_tables.proofs.ReadingLemmas.{commits_nothing, failed_left, fault_at, fault_since, looks_failed}
use Rattle.sound_tables.proofs.ReadingLemmas.{still_begun, taken_begun, fits_from, begun_text}
use Rattle.sound_tables.proofs.reading.read_table.Goals as goal

pub returns-in_err-rows-clause-looks : goal.returns-in_err-rows-clause-looks
returns-in_err-rows-clause-looks g c =
    let old = c.args.conn.now in
    let new = c.query.follows.lender-at-none in
    let held = c.query.follows.holds-at-none in
    let kept : Survives (state g.S.Store old) (state g.S.Store new)
    (CommitsShowing c.args.sql.now [] (state g.S.Store old)) = search rules in
    let mode : old.in_transaction ≡ false → new.in_transaction ≡ false = search rules in
    let failed : HasCleanDisk (state g.S.Store new)
    → IfErr c.query.result (FailsToQuery c.args.sql.now [] (state g.S.Store old) (state g.S.Store new)) =
    search rules in
    record {
      mode = mode;
      survives = commits_nothing c.args.sql.now [] _ _ c.requires.plain kept;
      left = λ clean is_open. failed_left c.args.sql.now [] _ _ _ c.requires.plain
          (rw c.in_err-rows.was at (failed clean));
    }

pub returns-in_err-rows-clause-fault : goal.returns-in_err-rows-clause-fault
returns-in_err-rows-clause-fault g c clean =
    let old = state g.S.Store c.args.conn.now in
    let new = state g.S.Store c.query.follows.lender-at-none in
    let held = c.query.follows.holds-at-none in
    let failed : HasCleanDisk new → IfErr c.query.result (FailsToQuery c.args.sql.now [] old new) = search rules in
    handed_on c.from_residual.result c.in_err-rows.field-0.0 (IsFault c.args.sql.now old new) c.from_residual.ensures.1
    (fault_at c.args.sql.now old new _ c.requires.plain (rw c.in_err-rows.was at (failed clean)))

pub returns-in_err-collect-clause-looks : goal.returns-in_err-collect-clause-looks
returns-in_err-collect-clause-looks g c =
    let made = c.in_ok-rows.ensures in
    let looks = c.in_err-collect.ensures.looks in
    let all : Looks g.S.Store c.args.conn.now c.collect.new.rows.conn.now =
    looks_failed g.S.Store c.args.conn.now c.in_ok-rows.rows.conn.now c.collect.new.rows.conn.now
    (still_begun g.S.Store c.args.sql.now _ _ c.requires.plain made.mode made.survives made.begun) looks.mode
    looks.survives looks.left in
    search rules

pub returns-then-branch-clause-looks : goal.returns-then-branch-clause-looks
returns-then-branch-clause-looks g c =
    let made = c.in_ok-rows.ensures in
    let looks = c.in_ok-collect.ensures.looks in
    let all : Looks g.S.Store c.args.conn.now c.collect.new.rows.conn.now =
    looks_failed g.S.Store c.args.conn.now c.in_ok-rows.rows.conn.now c.collect.new.rows.conn.now
    (still_begun g.S.Store c.args.sql.now _ _ c.requires.plain made.mode made.survives made.begun) looks.mode
    looks.survives looks.left in
    search rules

pub returns-then-branch-clause-taken : goal.returns-then-branch-clause-taken
returns-then-branch-clause-taken g c clean =
    let a = state g.S.Store c.args.conn.now in
    let m = state g.S.Store c.in_ok-rows.rows.conn.now in
    let b = state g.S.Store c.collect.new.rows.conn.now in
    let late : HasCleanDisk b = search rules in
    let early : HasCleanDisk m = omega (arith, late, c.in_ok-collect.ensures.looks.survives.clean) in
    let begun = c.in_ok-rows.ensures.begun early in
    let taken = taken_begun g.S.Store g.T.Reading.is_shown c.args.sql.now c.args.conn.now _ c.new-found.result.items
    c.requires.plain begun c.new-found.ensures.items in
    let same = (begun_text g.S.Store c.args.sql.now [] c.args.conn.now _ c.requires.plain begun).1 in
    let items = c.collect.new.found.items in
    let fits = subst (Fits g.T.Reading.is_shown c.args.sql.now m b items) c.if-branch.true
    (c.in_ok-collect.ensures.taken late c.args.sql.now taken) in
    let whole : Fits g.T.Reading.is_shown c.args.sql.now a b items true = fits_from g.T.Reading.is_shown c.args.sql.now
    a m b items true c.requires.plain same fits in
    search rules

pub returns-else-branch-clause-looks : goal.returns-else-branch-clause-looks
returns-else-branch-clause-looks g c =
    let made = c.in_ok-rows.ensures in
    let looks = c.in_ok-collect.ensures.looks in
    let all : Looks g.S.Store c.args.conn.now c.collect.new.rows.conn.now =
    looks_failed g.S.Store c.args.conn.now c.in_ok-rows.rows.conn.now c.collect.new.rows.conn.now
    (still_begun g.S.Store c.args.sql.now _ _ c.requires.plain made.mode made.survives made.begun) looks.mode
    looks.survives looks.left in
    search rules

pub returns-else-branch-clause-taken : goal.returns-else-branch-clause-taken
returns-else-branch-clause-taken g c clean =
    let a = state g.S.Store c.args.conn.now in
    let m = state g.S.Store c.in_ok-rows.rows.conn.now in
    let b = state g.S.Store c.collect.new.rows.conn.now in
    let late : HasCleanDisk b = search rules in
    let early : HasCleanDisk m = omega (arith, late, c.in_ok-collect.ensures.looks.survives.clean) in
    let begun = c.in_ok-rows.ensures.begun early in
    let taken = taken_begun g.S.Store g.T.Reading.is_shown c.args.sql.now c.args.conn.now _ c.new-found.result.items
    c.requires.plain begun c.new-found.ensures.items in
    let same = (begun_text g.S.Store c.args.sql.now [] c.args.conn.now _ c.requires.plain begun).1 in
    let items = c.collect.new.found.items in
    let fits = subst (Fits g.T.Reading.is_shown c.args.sql.now m b items) c.if-branch.false
    (c.in_ok-collect.ensures.taken late c.args.sql.now taken) in
    let whole : Fits g.T.Reading.is_shown c.args.sql.now a b items false = fits_from g.T.Reading.is_shown c.args.sql.now
    a m b items false c.requires.plain same fits in
    search rules

pub returns-in_err-collect-clause-fault : goal.returns-in_err-collect-clause-fault
returns-in_err-collect-clause-fault g c clean =
    let a = state g.S.Store c.args.conn.now in
    let m = state g.S.Store c.in_ok-rows.rows.conn.now in
    let b = state g.S.Store c.collect.new.rows.conn.now in
    let late : HasCleanDisk b = search rules in
    let early : HasCleanDisk m = omega (arith, late, c.in_err-collect.ensures.looks.survives.clean) in
    let begun = c.in_ok-rows.ensures.begun early in
    let taken = taken_begun g.S.Store g.T.Reading.is_shown c.args.sql.now c.args.conn.now _ c.new-found.result.items
    c.requires.plain begun c.new-found.ensures.items in
    let same = (begun_text g.S.Store c.args.sql.now [] c.args.conn.now _ c.requires.plain begun).1 in
    let survives = commits_nothing c.args.sql.now [] a m c.requires.plain c.in_ok-rows.ensures.survives in
    let told : IfErr c.from_residual-in_err-collect.result (IsFault c.args.sql.now a b) =
    handed_on c.from_residual-in_err-collect.result c.in_err-collect.field-0.0 (IsFault c.args.sql.now a b)
    c.from_residual-in_err-collect.ensures.1
    (fault_since c.args.sql.now a m b _ same.0.now_is survives c.in_err-collect.ensures.looks.survives late
    (c.in_err-collect.ensures.fault late c.args.sql.now taken)) in
    search rules
