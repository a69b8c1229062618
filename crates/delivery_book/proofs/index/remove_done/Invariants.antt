use Rattle.std.proofs.Common.{◌&&◌, take}
use Rattle.std.specs.Prelude.{filter}
use Rattle.delivery_book.specs.Entries.{is_done_before, is_kept}
use Rattle.delivery_book.specs.Fields.{HasLessKeys}
use Rattle.delivery_book.proofs.index.remove_done.Given as goal

abbrev pub invariant-loop-entry : goal.invariant-loop-entry
invariant-loop-entry l =
    HasLessKeys l.initial.index
    (filter (λ e. is_kept e && is_done_before l.moment e.latest) (take l.entry-index l.entries)) l.index
