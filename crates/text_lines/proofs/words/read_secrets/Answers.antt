use Rattle.std.proofs.Common.{ap, Err}
use Rattle.text_lines.proofs.SecretWords.{the_words, bad_secret}
use Rattle.text_lines.proofs.words.read_secrets.Goals as goal

pub returns-in_err-secrets_of-clause-bad : goal.returns-in_err-secrets_of-clause-bad
returns-in_err-secrets_of-clause-bad c = λ e secrets h.
    let same = the_words c.args.word.now _ secrets c.in_ok-texts.ensures h in
    let refused = c.in_err-secrets_of in
    let fault = bad_secret c.from_residual-in_err-secrets_of.result refused.field-0.0
    c.from_residual-in_err-secrets_of.ensures.1 e refused.ensures.refusal in
    refused.ensures.bad (ap Err fault) secrets (rw c.as_slice.ensures.value same)
