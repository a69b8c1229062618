use Rattle.std.proofs.Common.{[]}
use Rattle.sqlite.specs.Held.{state}
use Rattle.spool_sql.proofs.BareLemmas.{not_run_keeps}
use Rattle.spool_sql.proofs.opened.prepare_probe.Goals as goal

pub returns-in_err-prepare-clause-spares : goal.returns-in_err-prepare-clause-spares
returns-in_err-prepare-clause-spares g c =
    let old = state g.S.Store c.args.tx.now.conn.now in
    let new = state g.S.Store c.prepare.new.self.conn.now in
    record {
      kept = λ clean. not_run_keeps _ [] old new _ (c.in_err-prepare.ensures.err clean []);
      survives =
          c.prepare.ensures.survives;
    }
