use Rattle.std.proofs.Common.{arith, rules, List, ℕ, subst}
use borrow.Author.Tests.{ltb-true, ltb-false}
use Rattle.text_lines.specs.Parts.{texts}
use Rattle.tool_commands.specs.Traces.{IsSample}
use Rattle.tool_commands.proofs.SampleWords.{the_sample, three_texts, three_words, has_three, length-IsSample}
use Rattle.tool_commands.proofs.vegas_command.read_sample.Goals as goal
use Rattle.tool_commands.proofs.vegas_command.read_sample.Goals.{in_default, in_default-2}

pub returns-in-len3-clause-bad : goal.returns-in-len3-clause-bad
returns-in-len3-clause-bad c = λ e x reads.
    c.read_words.ensures.none (search rules) x
    (subst (λ (words : List (List ℕ)). IsSample words x) (three_texts c.as_slice.result.now _ (omega arith))
    (rw c.as_slice.ensures.value (the_sample c.args.text.now (texts c.in_ok-words.words.items) x c.in_ok-words.ensures
    reads)))

pub returns-clause-bad : goal.returns-clause-bad
returns-clause-bad c = λ e x reads.
    let three = length-IsSample c.as_slice.result.now x
    (rw c.as_slice.ensures.value
    (the_sample c.args.text.now (texts c.in_ok-words.words.items) x c.in_ok-words.ensures reads)) in
    elim c.if-as_slice-lt3.branch [
      | in_default w ↦ omega (arith, ltb-true, three)
      | in_default-2 w ↦ omega (arith, ltb-true, ltb-false, three)
    ]

pub returns-then-count_words-ne3-clause-bad : goal.returns-then-count_words-ne3-clause-bad
returns-then-count_words-ne3-clause-bad c = λ e x reads. c.if-count_words-ne3.true
    (three_words c.args.text.now c.count_words.result c.count_words.ensures x reads)

pub returns-in_err-words-clause-lacked : goal.returns-in_err-words-clause-lacked
returns-in_err-words-clause-lacked c lacked = has_three c.args.text.now c.count_words.result c.count_words.ensures
    c.if-count_words-ne3.false
