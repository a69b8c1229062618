use Rattle.endpoint_book.specs.declared.entry.Entry.{Entry}
use Rattle.endpoint_book.proofs.Trees.{changed_in}
use Rattle.endpoint_book.proofs.entries.Entries.give.Goals as goal

pub returns-in-Some-clause-entries : goal.returns-in-Some-clause-entries
returns-in-Some-clause-entries c =
    let later : Entry = record c.in-Some.entry.now { secrets = c.args.secrets } in
    λ asked. changed_in c.args.self.now (c.get_mut.follows.lender later) c.args.name asked c.in-Some.entry.now
    (λ e. record e { secrets = c.args.secrets }) c.in-Some.ensures.value (c.get_mut.follows.holds later)
