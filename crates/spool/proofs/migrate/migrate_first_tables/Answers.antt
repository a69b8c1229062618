use Rattle.std.proofs.Common.{Ok, Err, inl, inr, sym, ap, subst, ◌∙◌, arith}
use Rattle.std.proofs.lemmas.Result.{err_from_is_err_and}
use Rattle.sqlite.specs.State.{HasCleanDisk}
use Rattle.sqlite.specs.Held.{state}
use Rattle.spool.specs.Adopting.{IsReadOpen}
use Rattle.spool.proofs.CheckReads.{back_then}
use Rattle.spool.proofs.EitherLemmas.{first_whole}
use Rattle.spool.proofs.MigrateLemmas.{commit_since, free_since, left_read, left_unmade, made_since, may_migrate}
use Rattle.spool.proofs.MigrateLemmas.{survives_since, unmade_first, unmade_read, unmade_then}
use Rattle.spool.proofs.migrate.migrate_first_tables.Goals as goal

-- ---- the check was refused

pub returns-in_err-records-clause-refused : goal.returns-in_err-records-clause-refused
returns-in_err-records-clause-refused g c =
    let p = err_from_is_err_and c.from_residual.result c.from_residual.ensures.1 in
    rw (p.1, p.2) (λ clean own. inl (c.in_err-records.ensures.refused clean own))

pub returns-in_err-records-clause-first : goal.returns-in_err-records-clause-first
returns-in_err-records-clause-first g c =
    let a = state g.S.Store c.args.conn.now in
    let b = state g.S.Store c.adopt_first_tables.new.conn in
    let p = err_from_is_err_and c.from_residual.result c.from_residual.ensures.1 in
    rw (p.1, p.2) (λ clean history. unmade_read a b c.in_err-records.field-0.0
    (c.in_err-records.ensures.first clean history))

pub returns-in_err-records-clause-left : goal.returns-in_err-records-clause-left
returns-in_err-records-clause-left g c =
    let a = state g.S.Store c.args.conn.now in
    let b = state g.S.Store c.adopt_first_tables.new.conn in
    let p = err_from_is_err_and c.from_residual.result c.from_residual.ensures.1 in
    rw (p.1, p.2) (λ clean. left_read a b c.in_err-records.field-0.0 (c.in_err-records.ensures.read clean))

pub returns-in_err-records-clause-back : goal.returns-in_err-records-clause-back
returns-in_err-records-clause-back g c =
    let p = err_from_is_err_and c.from_residual.result c.from_residual.ensures.1 in
    rw p.1 c.in_err-records.ensures.back

-- ---- the transaction was refused

pub returns-in_err-add_topics-clause-refused : goal.returns-in_err-add_topics-clause-refused
returns-in_err-add_topics-clause-refused g c =
    let a = state g.S.Store c.args.conn.now in
    let m = state g.S.Store c.adopt_first_tables.new.conn in
    let b = state g.S.Store c.add_topics.new.conn in
    let early : HasCleanDisk b → HasCleanDisk m = λ clean. omega (arith, clean, c.add_topics.ensures.survives.clean) in
    let p = err_from_is_err_and c.from_residual-in_err-add_topics.result c.from_residual-in_err-add_topics.ensures.1 in
    rw (p.1, p.2) (λ clean own. inr (unmade_then a m b (c.in_ok-records.ensures.same (early clean))
    c.in_ok-records.ensures.survives (early clean) c.add_topics.ensures.survives clean c.in_err-add_topics.field-0.0
    (c.in_err-add_topics.ensures.cause clean)))

pub returns-in_err-add_topics-clause-first : goal.returns-in_err-add_topics-clause-first
returns-in_err-add_topics-clause-first g c =
    let a = state g.S.Store c.args.conn.now in
    let m = state g.S.Store c.adopt_first_tables.new.conn in
    let b = state g.S.Store c.add_topics.new.conn in
    let fault = c.in_err-add_topics.field-0.0 in
    let early : HasCleanDisk b → HasCleanDisk m = λ clean. omega (arith, clean, c.add_topics.ensures.survives.clean) in
    let p = err_from_is_err_and c.from_residual-in_err-add_topics.result c.from_residual-in_err-add_topics.ensures.1 in
    rw (p.1, p.2) (λ clean history. unmade_first a b fault history.2.schema_is
    (unmade_then a m b (c.in_ok-records.ensures.same (early clean)) c.in_ok-records.ensures.survives (early clean)
    c.add_topics.ensures.survives clean fault (c.in_err-add_topics.ensures.cause clean)))

pub returns-in_err-add_topics-clause-left : goal.returns-in_err-add_topics-clause-left
returns-in_err-add_topics-clause-left g c =
    let a = state g.S.Store c.args.conn.now in
    let m = state g.S.Store c.adopt_first_tables.new.conn in
    let b = state g.S.Store c.add_topics.new.conn in
    let checked = c.in_ok-records.ensures in
    let later = c.in_err-add_topics.ensures in
    let early : HasCleanDisk b → HasCleanDisk m = λ clean. omega (arith, clean, c.add_topics.ensures.survives.clean) in
    let p = err_from_is_err_and c.from_residual-in_err-add_topics.result c.from_residual-in_err-add_topics.ensures.1 in
    rw (p.1, p.2) (λ clean.
    let same = checked.same (early clean) in
    let records = c.in_ok-records.records in
    left_unmade a m b c.in_err-add_topics.field-0.0 (later.cause clean)
    (may_migrate a b records (first_whole a.now.schema (Ok records) checked.whole) (checked.found (early clean))
    (commit_since a m b same checked.survives (early clean) (later.left clean)))
    (λ is. subst (λ h. IsReadOpen a (state g.S.Store h)) (sym (later.untouched (ap Err is)))
    (checked.read (early clean), same.0.is_open)))

pub returns-in_err-add_topics-clause-back : goal.returns-in_err-add_topics-clause-back
returns-in_err-add_topics-clause-back g c =
    let a = state g.S.Store c.args.conn.now in
    let m = state g.S.Store c.adopt_first_tables.new.conn in
    let b = state g.S.Store c.add_topics.new.conn in
    let early : HasCleanDisk b → HasCleanDisk m = λ clean. omega (arith, clean, c.add_topics.ensures.survives.clean) in
    let p = err_from_is_err_and c.from_residual-in_err-add_topics.result c.from_residual-in_err-add_topics.ensures.1 in
    rw p.1 (λ clean is_open.
    let same = c.in_ok-records.ensures.same (early clean) in
    let back = c.in_ok-records.ensures.back (early clean) same.0.is_open in
    back_then a m b back (c.in_err-add_topics.ensures.undone clean is_open (back.now ∙ sym back.committed)))

pub returns-in_err-add_topics-clause-survives : goal.returns-in_err-add_topics-clause-survives
returns-in_err-add_topics-clause-survives g c =
    survives_since (state g.S.Store c.args.conn.now) (state g.S.Store c.adopt_first_tables.new.conn)
    (state g.S.Store c.add_topics.new.conn)
    c.in_ok-records.ensures.survives c.in_ok-records.ensures.same c.add_topics.ensures.survives

-- ---- both were done

pub returns-clause-whole : goal.returns-clause-whole
returns-clause-whole g c clean =
    first_whole (state g.S.Store c.args.conn.now).now.schema (Ok c.in_ok-records.records) c.in_ok-records.ensures.whole

pub returns-clause-made : goal.returns-clause-made
returns-clause-made g c clean =
    let a = state g.S.Store c.args.conn.now in
    let m = state g.S.Store c.adopt_first_tables.new.conn in
    let b = state g.S.Store c.add_topics.new.conn in
    let early : HasCleanDisk m = omega (arith, clean, c.add_topics.ensures.survives.clean) in
    made_since a m b (c.in_ok-records.ensures.same early) c.in_ok-records.ensures.survives early
    (c.in_ok-add_topics.ensures.made clean)

pub returns-clause-free : goal.returns-clause-free
returns-clause-free g c clean =
    let a = state g.S.Store c.args.conn.now in
    let m = state g.S.Store c.adopt_first_tables.new.conn in
    let b = state g.S.Store c.add_topics.new.conn in
    let early : HasCleanDisk m = omega (arith, clean, c.add_topics.ensures.survives.clean) in
    free_since a m b (c.in_ok-records.ensures.same early) c.in_ok-records.ensures.survives early
    c.in_ok-add_topics.ensures.free

pub returns-clause-left : goal.returns-clause-left
returns-clause-left g c clean =
    let a = state g.S.Store c.args.conn.now in
    let m = state g.S.Store c.adopt_first_tables.new.conn in
    let b = state g.S.Store c.add_topics.new.conn in
    let early : HasCleanDisk m = omega (arith, clean, c.add_topics.ensures.survives.clean) in
    let records = c.in_ok-records.records in
    let checked = c.in_ok-records.ensures in
    may_migrate a b records (first_whole a.now.schema (Ok records) checked.whole) (checked.found early)
    (commit_since a m b (checked.same early) checked.survives early (c.in_ok-add_topics.ensures.left clean))

pub returns-clause-survives : goal.returns-clause-survives
returns-clause-survives g c =
    survives_since (state g.S.Store c.args.conn.now) (state g.S.Store c.adopt_first_tables.new.conn)
    (state g.S.Store c.add_topics.new.conn)
    c.in_ok-records.ensures.survives c.in_ok-records.ensures.same c.add_topics.ensures.survives
