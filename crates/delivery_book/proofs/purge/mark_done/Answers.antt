use Rattle.std.proofs.Common.{◌∙◌, ◌||◌, ap, arith, get_or, sym}
use Rattle.std.specs.Prelude.{slice_set}
use Rattle.std.specs.List.{list_any}
use Rattle.std.proofs.lemmas.List.{take_all}
use Rattle.std.proofs.lemmas.List.Folds.{list_any_more}
use Rattle.delivery_book.specs.declared.entry.Entry.{Entry}
use Rattle.delivery_book.specs.Entries.{marked}
use Rattle.delivery_book.proofs.Marks.{half_all, half_here, half_more, is_done}
use Rattle.delivery_book.proofs.purge.mark_done.Goals as goal

pub loop-entry-preserved : goal.loop-entry-preserved
loop-entry-preserved c =
    let l = c.loop-entry in
    let i = l.entry-index in
    let e : Entry = c.entry-item.result in
    let es = c.args.entries.now in
    let change = marked c.args.seq c.args.moment in
    let done = is_done c.args.moment in
    record {
      changed = ap (slice_set l.entries i) c.mark-took.ensures.marked
          ∙ half_more change es l.entries i _ (omega (arith, c.loop-entry-test.true)) l.invariant.changed;
      took = (λ k. l.invariant.took k || (c.mark-took.ensures.took ∙ ap done
          (ap (λ ys. get_or ys i e) l.invariant.changed ∙ half_here change es i e c.loop-entry-test.true)) k)
          ∙ sym (list_any_more done es i e c.loop-entry-test.true);
    }

pub returns : goal.returns
returns c =
    let l = c.loop-entry in
    let es = c.args.entries.now in
    record {
      marked = l.invariant.changed ∙ half_all (marked c.args.seq c.args.moment) es l.entry-index
          (omega (arith, c.loop-entry-test.false));
      took = l.invariant.took
          ∙ ap (list_any (is_done c.args.moment)) (take_all l.entry-index es (omega (arith, c.loop-entry-test.false)));
    }
