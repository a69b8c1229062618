use Rattle.sqlite.specs.Held.{state}
use Rattle.spool.proofs.BookLoads.{load_refused}
use Rattle.spool.proofs.load.load_books.Goals as goal

pub returns-clause-sound : goal.returns-clause-sound
returns-clause-sound g c clean =
    load_refused (state g.S.Store c.args.conn.now) (state g.S.Store c.read_books-read.new.conn)
    (state g.S.Store c.end_load.new.conn) c.read_books-read.ensures.survives c.end_load.ensures.survives clean
    c.read_books-read.result c.end_load.result c.read_books-read.ensures.refused c.end_load.ensures.told
