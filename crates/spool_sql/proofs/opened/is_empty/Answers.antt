use Rattle.sqlite.specs.Held.{state}
use Rattle.spool_sql.proofs.StepLemmas.{reopens}
use Rattle.spool_sql.proofs.opened.is_empty.Goals as goal

pub returns-then-is_empty-2-clause-reopened : goal.returns-then-is_empty-2-clause-reopened
returns-then-is_empty-2-clause-reopened g c = reopens (state g.S.Store c.args.conn.now) c.schema-schema.ensures.live

pub returns-else-is_empty-2-clause-reopened : goal.returns-else-is_empty-2-clause-reopened
returns-else-is_empty-2-clause-reopened g c = reopens (state g.S.Store c.args.conn.now) c.schema-schema.ensures.live
