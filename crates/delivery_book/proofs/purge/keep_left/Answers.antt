use Rattle.std.proofs.Common.{rules, ◌∙◌}
use Rattle.std.proofs.lemmas.Fn.{filter_same}
use Rattle.delivery_book.proofs.purge.keep_left.Goals as goal

pub returns-clause-left : goal.returns-clause-left
returns-clause-left c =
    c.shrink_to.ensures.items ∙ filter_same _ _ _ (λ x b f' k. search rules) _ _ c.retain.ensures.filtered
