use Rattle.std.proofs.Common.{arith, List, ℕ, subst, sym}
use Rattle.script_lines.specs.Script.{IsPut, MayAllocateForPut}
use borrow.Author.Tests.{ltb-true, ltb-false}
use Rattle.script_lines.proofs.CallLaws.{four_texts, length-IsPut}
use Rattle.script_lines.proofs.script.read_put.Goals as goal
use Rattle.script_lines.proofs.script.read_put.Goals.{in_default-via-then-arguments-lt4}
use Rattle.script_lines.proofs.script.read_put.Goals.{in_default-via-else-arguments-lt4+else-arguments-lt5}

pub returns-in_default-clause-bad : goal.returns-in_default-clause-bad
returns-in_default-clause-bad c = λ e of to most by h.
    let four = length-IsPut c.args.arguments.now of to most by h in
    elim c.in_default.branch [
      | in_default-via-then-arguments-lt4 w ↦ omega (arith, ltb-true, four)
      | in_default-via-else-arguments-lt4+else-arguments-lt5 w ↦ omega (arith, ltb-true, ltb-false, four)
    ]

pub returns-in-len4-clause-bad : goal.returns-in-len4-clause-bad
returns-in-len4-clause-bad c = λ e of to most by h.
    c.read_put_words.ensures.bad e of to most by
    (subst (λ (words : List (List ℕ)). IsPut words of to most by) (four_texts c.args.arguments.now _ (omega arith)) h)

pub returns-in-len4-clause-lacked : goal.returns-in-len4-clause-lacked
returns-in-len4-clause-lacked c = λ e. subst MayAllocateForPut (sym (four_texts c.args.arguments.now _ (omega arith)))
    (c.read_put_words.ensures.lacked e)
