use Rattle.sqlite.specs.Held.{state}
use Rattle.spool_sql.proofs.ProbeLemmas.{never_shown, probed_open, probed_failed, probe_survives}
use Rattle.spool_sql.proofs.opened.probe.Goals as goal

pub returns-in_default-clause-same : goal.returns-in_default-clause-same
returns-in_default-clause-same g c clean =
    absurd (never_shown (state g.S.Store c.args.conn.now) (state g.S.Store c.query_all.new.self) _
    (c.in_default.ensures.ok clean))

pub returns-in_default-clause-survives : goal.returns-in_default-clause-survives
returns-in_default-clause-survives g c = probe_survives (state g.S.Store c.args.conn.now)
    (state g.S.Store c.query_all.new.self) c.query_all.ensures.survives

pub returns-in-InvalidQuery-clause-same : goal.returns-in-InvalidQuery-clause-same
returns-in-InvalidQuery-clause-same g c clean =
    probed_open (state g.S.Store c.args.conn.now) (state g.S.Store c.query_all.new.self)
    (rw c.in-InvalidQuery.is at (c.in-Err.ensures.err clean))

pub returns-in-InvalidQuery-clause-survives : goal.returns-in-InvalidQuery-clause-survives
returns-in-InvalidQuery-clause-survives g c = probe_survives (state g.S.Store c.args.conn.now)
    (state g.S.Store c.query_all.new.self) c.query_all.ensures.survives

pub returns-in_default-error : goal.returns-in_default-error
returns-in_default-error g c =
    let old = state g.S.Store c.args.conn.now in
    let new = state g.S.Store c.query_all.new.self in
    record {
      same = λ clean. tt;
      failed = λ clean. probed_failed old new c.in-Err.error c.in_default-error.not-InvalidQuery
          (c.in-Err.ensures.err clean);
      mode = c.query_all.ensures.mode c.requires.settled;
      survives = probe_survives old new c.query_all.ensures.survives;
    }
