use Rattle.std.proofs.Common.{◌≡◌, IfErr, rules, subst}
use Rattle.sqlite.specs.State.{HasCleanDisk}
use Rattle.sqlite.specs.Held.{state}
use Rattle.sqlite.proofs.Callers.{survives_begin}
use Rattle.spool_load.specs.Loading.{WasReadRefusal}
use Rattle.spool.proofs.BookLoads.{read_until}
use Rattle.spool.proofs.load.read_books.Goals as goal

pub returns-clause-refused : goal.returns-clause-refused
returns-clause-refused g c clean =
    let a = state g.S.Store c.args.conn.now in
    let begun = c.transaction-tx.ensures.begun in
    let same : c.drop-tx.new.self.0 ≡ c.conn-1.given.0 = search rules in
    let late : HasCleanDisk (state g.S.Store c.drop-tx.new.self.0) = rw same clean in
    subst (λ h. IfErr c.read_tables.result (WasReadRefusal a (state g.S.Store h))) same
    (read_until a (state g.S.Store c.read_tables.new.tx.conn.now) (state g.S.Store c.drop-tx.new.self.0)
    (survives_begin g.S.Store c.args.conn.now _ _ (rw begun at c.read_tables.ensures.spares.survives))
    c.drop-tx.ensures.survives late c.read_tables.result
    (λ early. (rw begun at c.read_tables.ensures.refused) early))
