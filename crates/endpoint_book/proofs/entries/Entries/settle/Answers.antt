use Rattle.std.specs.Prelude.{Some}
use Rattle.endpoint_book.specs.declared.entry.Entry.{Entry}
use Rattle.endpoint_book.proofs.Trees.{changed_in}
use Rattle.endpoint_book.proofs.entries.Entries.settle.Goals as goal

pub returns-in-Some : goal.returns-in-Some
returns-in-Some c =
    let later : Entry = record c.in-Some.entry.now { settled = Some c.args.change.shown } in
    λ asked. changed_in c.args.self.now (c.get_mut.follows.lender later) c.args.change.name asked c.in-Some.entry.now
    (λ e. record e { settled = Some c.args.change.shown }) c.in-Some.ensures.value (c.get_mut.follows.holds later)
