use Rattle.sqlite.specs.Held.{state}
use Rattle.sqlite.specs.Values.{bound}
use Rattle.spool_sql.proofs.BareLemmas.{look_spares, look_unchanged}
use Rattle.spool_sql.proofs.query.query.Goals as goal

pub returns-clause-unchanged : goal.returns-clause-unchanged
returns-clause-unchanged g c clean =
    look_unchanged c.args.sql.now c.requires (bound c.args.params.now) (state g.S.Store c.args.tx.now.conn.now)
    (state g.S.Store c.query_all.new.self.conn.now) (λ rows. rows.items) c.query_all.result
    (c.query_all.ensures.ok clean)

pub returns-clause-spares : goal.returns-clause-spares
returns-clause-spares g c =
    look_spares c.args.sql.now c.requires (bound c.args.params.now) (state g.S.Store c.args.tx.now.conn.now)
    (state g.S.Store c.query_all.new.self.conn.now) (λ rows. rows.items) c.query_all.result
    c.query_all.ensures.ok c.query_all.ensures.err c.query_all.ensures.survives
