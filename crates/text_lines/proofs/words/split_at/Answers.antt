use Rattle.std.proofs.Common.{rules, tests}
use Rattle.std.proofs.lemmas.Iterator.Consumers.{map_from_collect}
use Rattle.std.proofs.lemmas.Iterator.Splits.{YieldsList-from_slice_split}
use Rattle.text_lines.specs.Parts.{texts}
use Rattle.text_lines.proofs.PartLaws.{HasParts-result}
use Rattle.text_lines.proofs.words.split_at.Goals as goal

pub returns : goal.returns
returns c =
    HasParts-result c.collect.result (λ parts. texts parts.items) c.args.mark c.args.text.now
    (map_from_collect _ c.collect.ensures.ran
    (YieldsList-from_slice_split _ _ c.args.text.now c.split.ensures.rest c.split.ensures.done c.split.ensures.closure
    (λ x r q k. search (rules, tests))))
