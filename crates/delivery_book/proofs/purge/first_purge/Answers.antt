use Rattle.std.proofs.Common.{◌≡◌, ◌+◌, ◌∙◌, true, ap, subst, sym, take, ⊎_elim}
use Rattle.std.proofs.lemmas.List.Folds.{list_all_more}
use Rattle.relay_types.proofs.KnownLaws.{and_both}
use Rattle.delivery_book.specs.declared.entry.Entry.{Entry}
use Rattle.delivery_book.specs.Fields.{IsNamed, is_not_before}
use Rattle.delivery_book.proofs.Marks.{named_here, named_more, own_first}
use Rattle.delivery_book.proofs.Updates.{all_weaker}
use Rattle.delivery_book.proofs.purge.first_purge.Goals as goal

pub loop-entry-preserved : goal.loop-entry-preserved
loop-entry-preserved c =
    let l = c.loop-entry in
    let e : Entry = c.entry-item.result in
    let es = c.args.entries.now in
    let later = c.earlier-first.result in
    record {
      first = list_all_more (is_not_before later) es l.entry-index e c.loop-entry-test.true
          ∙ and_both _ _
          (all_weaker (is_not_before l.first) (is_not_before later) (take l.entry-index es)
          (λ x is. c.earlier-first.ensures.first x is) l.invariant.first)
          (ap (is_not_before later) (sym c.entry-item.is)
          ∙ c.earlier-first.ensures.second e
          (subst (λ o. is_not_before o e ≡ true) (sym c.get.ensures) (own_first e)));
      named = ⊎_elim
          (λ same. subst (λ o. IsNamed o (take (l.entry-index + 1) es)) (sym same)
          (named_more l.first es l.entry-index l.invariant.named))
          (λ own. subst (λ o. IsNamed o (take (l.entry-index + 1) es)) (sym (own ∙ c.get.ensures))
          (named_here es l.entry-index e c.loop-entry-test.true c.entry-item.is))
          c.earlier-first.ensures.one_of;
    }
