use Rattle.endpoint_book.proofs.Trees.{put_in}
use Rattle.endpoint_book.proofs.entries.Entries.put.Goals as goal

pub returns-clause-put : goal.returns-clause-put
returns-clause-put c = λ name. put_in c.args.self.now (record { by_name = c.insert.new.self }) c.args.entry name
    c.in_ok-insert.ensures.updates.0
