use Rattle.std.proofs.Common.{rules, tests, ap, length, ◌∙◌}
use Rattle.std.proofs.lemmas.Iterator.Consumers.{count_from_yields_List}
use Rattle.std.proofs.lemmas.Iterator.Splits.{YieldsList-from_slice_split}
use Rattle.text_lines.proofs.PartLaws.{split-from_parts}
use Rattle.text_lines.proofs.words.count_parts.Goals as goal

pub returns : goal.returns
returns c = λ parts h.
    count_from_yields_List c.split.result _ c.count.ensures.ran
    (YieldsList-from_slice_split _ _ c.args.text.now c.split.ensures.rest c.split.ensures.done c.split.ensures.closure
    (λ x r q k. search (rules, tests)))
    ∙ ap length (split-from_parts c.args.mark c.args.text.now parts h)
