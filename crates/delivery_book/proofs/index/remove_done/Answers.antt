use Rattle.std.proofs.Common.{◌+◌, ◌&&◌, ◌∙◌, List, subst, sym, take}
use Rattle.std.specs.Prelude.{filter}
use Rattle.delivery_book.specs.declared.entry.Entry.{Entry}
use Rattle.delivery_book.specs.Entries.{is_done_before, is_kept}
use Rattle.delivery_book.specs.Fields.{HasLessKeys}
use Rattle.delivery_book.proofs.IndexLemmas.{keys-drop}
use Rattle.delivery_book.proofs.Sweeps.{filter_no, filter_yes}
use Rattle.delivery_book.proofs.index.remove_done.Goals as goal
use Rattle.delivery_book.proofs.index.remove_done.Goals.{then-is_done_before, else-is_done_before}

pub loop-entry-preserved : goal.loop-entry-preserved
loop-entry-preserved c =
    let l = c.loop-entry in
    let e : Entry = c.entry-item.result in
    let es : List Entry = c.args.entries.now in
    let done = λ (x : Entry). is_kept x && is_done_before c.args.moment x.latest in
    elim c.if-is_done_before.branch [
      | then-is_done_before w ↦
          subst (λ ix. HasLessKeys c.args.index.now (filter done (take (l.entry-index + 1) es)) ix) (sym w.index-is)
          (subst (λ some. HasLessKeys c.args.index.now some w.remove.new.self)
          (sym (filter_yes done es l.entry-index e c.loop-entry-test.true c.entry-item.is
          (sym c.is_done_before.ensures ∙ w.if-is_done_before.true)))
          (keys-drop c.args.index.now l.index w.remove.new.self (filter done (take l.entry-index es)) e l.invariant
          w.remove.ensures))
      | else-is_done_before w ↦
          subst (λ ix. HasLessKeys c.args.index.now (filter done (take (l.entry-index + 1) es)) ix) (sym w.index-is)
          (subst (λ some. HasLessKeys c.args.index.now some l.index)
          (sym (filter_no done es l.entry-index e c.loop-entry-test.true c.entry-item.is
          (sym c.is_done_before.ensures ∙ w.if-is_done_before.false)))
          l.invariant)
    ]
