use Rattle.std.proofs.Common.{◌≡◌, ℕ, List, drop, option_map}
use Rattle.endpoint_book.specs.Entries.{settled_at}
use Rattle.endpoint_book.specs.Fields.{entry_in}
use Rattle.endpoint_book.proofs.changes.settle_below.Given as goal

abbrev pub invariant-loop-change : goal.invariant-loop-change
invariant-loop-change l =
    (name : List ℕ) → option_map (settled_at l.seq (drop l.change-index l.changes) name) (entry_in l.entries name)
    ≡ option_map (settled_at l.seq l.changes name) (entry_in l.fn.entries name)
