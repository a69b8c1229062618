use Rattle.std.proofs.Common.{rules}
use Rattle.std.proofs.lemmas.Fn.{filter_same}
use Rattle.endpoint_book.proofs.changes.keep_from.Goals as goal

pub returns-clause-changes : goal.returns-clause-changes
returns-clause-changes c = filter_same _ _ _ (λ x b f' k. search rules) _ _ c.retain.ensures.filtered
