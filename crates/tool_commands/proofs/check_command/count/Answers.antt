use Rattle.sqlite.specs.Held.{state}
use Rattle.recovery.proofs.FileLaws.{may_migrate}
use Rattle.tool_commands.proofs.CheckLaws.{count_of, totals_found}
use Rattle.tool_commands.proofs.check_command.count.Goals as goal

pub returns-in-Ok-clause-counted : goal.returns-in-Ok-clause-counted
returns-in-Ok-clause-counted g c =
    count_of g.S.Store c.args.is_new c.args.conn c.in-Ok.vault.conn c.release.result c.totals-totals.result
    c.release.ensures.same (λ clean.
    totals_found g.S.Store (state g.S.Store c.args.conn).now c.in-Ok.desk c.in-Ok.vault c.totals-totals.result
    (c.in-Ok.ensures.opened clean) c.totals-totals.ensures.stands)
    c.in-Ok.ensures.ours c.in-Ok.ensures.left

pub returns-in-Ok-clause-left : goal.returns-in-Ok-clause-left
returns-in-Ok-clause-left g c old = rw c.release.ensures.same (λ clean. (c.in-Ok.ensures.left old clean).0)

pub returns-in-Err-clause-counted : goal.returns-in-Err-clause-counted
returns-in-Err-clause-counted g c = record {
  counts = c.in-Err.ensures.refused;
  ours = c.in-Err.ensures.ours;
  foreign = c.in-Err.ensures.foreign;
  made = λ new_store. (c.in-Err.ensures.made new_store.0 new_store.1).0;
  leaves = c.in-Err.ensures.left;
}

pub returns-in-Err-clause-left : goal.returns-in-Err-clause-left
returns-in-Err-clause-left g c old clean =
    may_migrate _ _ c.in-Err.fault (c.in-Err.ensures.left old clean)
