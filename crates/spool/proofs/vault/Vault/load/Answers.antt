use Rattle.std.proofs.Common.{List, refl}
use Rattle.sqlite.specs.Held.{state}
use Rattle.relay_types.specs.declared.record.Record.{Record}
use Rattle.spool_sql.proofs.ReadableLemmas.{err_then}
use Rattle.spool.specs.Books.{IsLoadRefusal}
use Rattle.spool.specs.Vaults.{Holds, VaultValue}
use Rattle.spool.proofs.BookLoads.{leaves_held, only_read}
use Rattle.spool.proofs.vault.Vault.load.Goals as goal

pub returns-clause-history : goal.returns-clause-history
returns-clause-history g c clean =
    let old : VaultValue g.row.S.Denot = record {
      conn = c.self.inside.conn;
      mark = c.self.inside.mark;
      next =
          c.self.inside.next;
      closed = c.self.inside.closed;
    } in
    let new : VaultValue g.row.S.Denot = record {
      conn = c.load_books.new.conn;
      mark = c.self.inside.mark;
      next =
          c.self.inside.next;
      closed = c.self.inside.closed;
    } in
    let read = c.load_books.ensures in
    rw (← c.self.view_is) (leaves_held g.S.Store old new c.load_books.result read.tried (read.seen clean)
    (read.stays clean) read.survives clean refl (g.met.S.Store.settled old.conn.store)
    (g.met.S.Store.settled new.conn.store))

pub returns-clause-read : goal.returns-clause-read
returns-clause-read g c clean =
    rw (← c.self.view_is) (only_read (state g.S.Store c.self.inside.conn) (state g.S.Store c.load_books.new.conn)
    (c.load_books.ensures.stays clean) c.load_books.ensures.survives clean)

pub returns-clause-sound : goal.returns-clause-sound
returns-clause-sound g c clean =
    let old : VaultValue g.row.S.Denot = record {
      conn = c.self.inside.conn;
      mark = c.self.inside.mark;
      next = c.self.inside.next;
      closed = c.self.inside.closed;
    } in
    let a = state g.S.Store c.self.inside.conn in
    let b = state g.S.Store c.load_books.new.conn in
    rw (← c.self.view_is)
    (err_then c.load_books.result _ (λ fault. (history : List Record) → Holds g.S.Store old history
    → IsLoadRefusal a b fault) (c.load_books.ensures.sound clean)
    (λ fault refused history held. refused history held.legal held.stands))
