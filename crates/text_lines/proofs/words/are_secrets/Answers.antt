use Rattle.std.proofs.Common.{rules, tests}
use Rattle.std.proofs.lemmas.Iterator.{cases_from_all}
use Rattle.std.proofs.lemmas.Iterator.Splits.{YieldsList-from_slice_split}
use Rattle.text_lines.proofs.PartLaws.{HasParts-split}
use Rattle.text_lines.proofs.SecretTexts.{IsRead, IsUnread, parts_read}
use Rattle.text_lines.proofs.words.are_secrets.Goals as goal

pub returns : goal.returns
returns c =
    parts_read _ c.args.word.now _ (HasParts-split 44 c.args.word.now)
    (cases_from_all _ _ _ IsRead IsUnread c.all.ensures.ran
    (YieldsList-from_slice_split _ _ c.args.word.now c.split.ensures.rest c.split.ensures.done c.split.ensures.closure
    (λ x r q k. search (rules, tests)))
    (λ x q k. search (rules, tests)) (λ x q k. search (rules, tests)))
