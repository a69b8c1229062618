use borrow.Author.Tests.{lt-leb}
use Rattle.text_lines.proofs.SecretTexts.{word_read, many_parts}
use Rattle.text_lines.proofs.words.is_secrets_word.Goals as goal

pub returns-then-count_parts-le-MAX_SECRETS : goal.returns-then-count_parts-le-MAX_SECRETS
returns-then-count_parts-le-MAX_SECRETS c =
    word_read c.are_secrets.result c.args.word.now c.count_parts.result c.count_parts.ensures
    c.if-count_parts-le-MAX_SECRETS.true c.are_secrets.ensures

pub returns-else-count_parts-le-MAX_SECRETS : goal.returns-else-count_parts-le-MAX_SECRETS
returns-else-count_parts-le-MAX_SECRETS c =
    rw (lt-leb c.count_parts.result 4 c.if-count_parts-le-MAX_SECRETS.false)
    (λ secrets h. many_parts c.args.word.now secrets c.count_parts.result c.count_parts.ensures
    c.if-count_parts-le-MAX_SECRETS.false h)
