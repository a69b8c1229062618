use Rattle.std.proofs.Common.{rules}
use Rattle.text_lines.proofs.NumberLaws.{err_not_ok}
use Rattle.script_lines.proofs.CallLaws.{put_max, put_secrets}
use Rattle.script_lines.proofs.script.read_put_words.Goals as goal

pub returns-in_err-max-clause-bad : goal.returns-in_err-max-clause-bad
returns-in_err-max-clause-bad c = λ e of to most by h.
    let max = put_max c.args.name.now c.args.url.now c.args.max.now c.args.secrets.now of to most by h in
    err_not_ok (c.in_err-max.ensures.each most max.1 max.0)

pub returns-then-not-is_secrets_word-clause-bad : goal.returns-then-not-is_secrets_word-clause-bad
returns-then-not-is_secrets_word-clause-bad c = λ e of to most by h.
    c.if-not-is_secrets_word.ensures by (put_secrets c.args.name.now c.args.url.now c.args.max.now c.args.secrets.now
    of to most by h)

pub returns-in_err-read_secrets-clause-bad : goal.returns-in_err-read_secrets-clause-bad
returns-in_err-read_secrets-clause-bad c = λ e of to most by h.
    c.in_err-read_secrets.ensures.bad (search rules) by
    (put_secrets c.args.name.now c.args.url.now c.args.max.now c.args.secrets.now of to most by h)
