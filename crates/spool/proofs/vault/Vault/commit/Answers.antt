use Rattle.sqlite.specs.Held.{state}
use Rattle.spool.specs.Vaults.{VaultValue}
use Rattle.spool.proofs.AnswerLemmas.{doubted_for, leaves_history, leaves_rows}
use Rattle.spool.proofs.vault.Vault.commit.Goals as goal

pub returns-clause-history : goal.returns-clause-history
returns-clause-history g c clean =
    let old : VaultValue g.row.S.Denot = record {
      conn = c.self.inside.conn;
      mark = c.self.inside.mark;
      next =
          c.self.inside.next;
      closed = c.self.inside.closed;
    } in
    let late = rw c.end_commit.ensures.conn at clean in
    let ended = rw (← c.end_commit.ensures.conn, c.steps.ensures.steps) at (c.write_steps-end.ensures.ends late) in
    rw (← c.self.view_is, c.end_commit.ensures.answer)
    (leaves_history g.S.Store old c.end_commit.new.self c.args.batch c.write_steps-end.result
    (rw c.end_commit.ensures.answer at c.end_commit.ensures.next) ended)

pub returns-clause-rows : goal.returns-clause-rows
returns-clause-rows g c clean =
    rw c.end_commit.ensures.answer
    (leaves_rows g.S.Store c.args.self.now c.end_commit.new.self c.args.batch c.write_steps-end.result
    (rw c.end_commit.ensures.answer at (returns-clause-history g c clean)))

pub returns-clause-cause : goal.returns-clause-cause
returns-clause-cause g c clean =
    let a = state g.S.Store c.self.inside.conn in
    let late = rw c.end_commit.ensures.conn at clean in
    let cause = rw (← c.end_commit.ensures.conn) at (c.write_steps-end.ensures.cause late) in
    rw (← c.self.view_is, c.end_commit.ensures.answer)
    (doubted_for a (state g.S.Store c.end_commit.new.self.conn) c.args.batch c.write_steps-end.result cause)
