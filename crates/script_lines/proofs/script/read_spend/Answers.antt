use Rattle.std.proofs.Common.{List, ℕ, subst}
use Rattle.script_lines.specs.Script.{IsSpend}
use Rattle.script_lines.proofs.CallLaws.{texts_from_two}
use Rattle.script_lines.proofs.script.read_spend.Goals as goal

pub returns-in-len2-up-clause-bad : goal.returns-in-len2-up-clause-bad
returns-in-len2-up-clause-bad c = λ e delivery now post h.
    c.read_spend_words.ensures.bad e delivery now post
    (subst (λ (words : List (List ℕ)). IsSpend words delivery now post)
    (texts_from_two c.args.arguments.now _ c.in-len2-up.len_at_least) h)
