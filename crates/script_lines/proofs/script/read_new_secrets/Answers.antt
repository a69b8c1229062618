use Rattle.std.proofs.Common.{List, ℕ, subst, sym, arith}
use Rattle.script_lines.specs.Script.{IsSecrets, MayAllocateForSecrets}
use Rattle.script_lines.proofs.CallLaws.{two_texts}
use Rattle.script_lines.proofs.script.read_new_secrets.Goals as goal

pub returns-in-len2-clause-bad : goal.returns-in-len2-clause-bad
returns-in-len2-clause-bad c = λ e of by h.
    c.read_new_secrets_words.ensures.bad e of by
    (subst (λ (words : List (List ℕ)). IsSecrets words of by) (two_texts c.args.arguments.now _ (omega arith)) h)

pub returns-in-len2-clause-lacked : goal.returns-in-len2-clause-lacked
returns-in-len2-clause-lacked c = λ e. subst MayAllocateForSecrets
    (sym (two_texts c.args.arguments.now _ (omega arith)))
    (c.read_new_secrets_words.ensures.lacked e)
