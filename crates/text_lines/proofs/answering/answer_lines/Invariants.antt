use Rattle.std.proofs.Common.{◌≡◌, ℕ, ◌-◌, List, Some}
use Rattle.text_lines.specs.Answers.{AnswersEach}
use Rattle.text_lines.proofs.EndLaws.{Progress}
use Rattle.text_lines.proofs.answering.answer_lines.Given as goal
use Rattle.text_lines.specs.declared.limits.TheConstants.{MAX_LINES}

abbrev pub invariant-loop-lines : goal.invariant-loop-lines
invariant-loop-lines g l = record {
  clean : g.A.Answerer.IsClean l.answerer → g.A.Answerer.IsClean l.fn.answerer;
  progress : g.A.Answerer.IsClean l.answerer → (text had : List ℕ) → g.R.Read.remaining l.fn.input ≡ Some text
      → g.O.Write.contents l.fn.output ≡ Some had
      → Progress (λ lines written. AnswersEach g.A.Answerer.Answers l.fn.answerer lines written l.answerer) text had
      l.lines (g.R.Read.remaining l.input) (g.O.Write.contents l.output);
}

abbrev pub decreases-loop-lines : goal.decreases-loop-lines
decreases-loop-lines g l = MAX_LINES - l.lines.count
