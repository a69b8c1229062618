use Rattle.std.proofs.Common.{rules}
use Rattle.script_lines.proofs.CallLaws.{new_secrets, lacks_secrets}
use Rattle.script_lines.proofs.script.read_new_secrets_words.Goals as goal

pub returns-in_err-read_secrets-clause-bad : goal.returns-in_err-read_secrets-clause-bad
returns-in_err-read_secrets-clause-bad c = λ e of by h. c.in_err-read_secrets.ensures.bad (search rules) by
    (new_secrets c.args.name.now c.args.secrets.now of by h)

pub returns-in_err-read_secrets-clause-lacked : goal.returns-in_err-read_secrets-clause-lacked
returns-in_err-read_secrets-clause-lacked c = λ e. lacks_secrets c.args.name.now c.args.secrets.now (search rules)
    (c.in_err-read_secrets.ensures.lacked (search rules))
