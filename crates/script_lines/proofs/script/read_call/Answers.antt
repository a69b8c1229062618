use Rattle.text_lines.specs.Parts.{texts}
use Rattle.script_lines.proofs.CleanCalls.{the_call, few_words, many_words}
use Rattle.script_lines.proofs.script.read_call.Goals as goal

pub returns-then-count_words-gt-MAX_WORDS-clause-bad : goal.returns-then-count_words-gt-MAX_WORDS-clause-bad
returns-then-count_words-gt-MAX_WORDS-clause-bad c = λ e. many_words c.args.line.now c.count_words.result
    c.count_words.ensures c.if-count_words-gt-MAX_WORDS.true

pub returns-in_err-words-clause-lacked : goal.returns-in_err-words-clause-lacked
returns-in_err-words-clause-lacked c = λ e. few_words c.args.line.now c.count_words.result c.count_words.ensures
    c.if-count_words-gt-MAX_WORDS.false

pub returns-clause-bad : goal.returns-clause-bad
returns-clause-bad c = λ e call h.
    c.read_words.ensures.bad e call
    (rw c.as_slice.ensures.value
    (the_call c.args.line.now (texts c.in_ok-words.words.items) call c.in_ok-words.ensures h))

pub returns-clause-lacked : goal.returns-clause-lacked
returns-clause-lacked c = λ e. few_words c.args.line.now c.count_words.result c.count_words.ensures
    c.if-count_words-gt-MAX_WORDS.false
