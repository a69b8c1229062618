use Rattle.std.proofs.Common.{◌≡◌, Some, Result, Err, ap, sym, refl, ◌∙◌}
use Rattle.std.proofs.lemmas.Result.{err_from_is_err_and}
use Rattle.text_lines.specs.WordFaults.{line_fault}
use Rattle.text_lines.specs.declared.answering.LineFault.TheVariants as line
use Rattle.text_lines.specs.declared.words.WordFault.{WordFault}
use Rattle.text_lines.specs.declared.words.WordFault.TheVariants.{Bad, OutOfMemory}
use Rattle.vegas.specs.Estimators.{sample_of}
use Rattle.text_lines.specs.Parts.{line as line_of}
use Rattle.tool_commands.specs.Traces.{estimator_words}
use Rattle.tool_commands.proofs.vegas_command.FollowerAnswerer.answer.Goals as goal

one_fault : {T E : Type 0} (a b : E) → ◌≡◌ {A = Result T E} (Err a) (Err b) → a ≡ b
one_fault a b e = cc

only_bad : (fault : WordFault) → line_fault fault ≡ line.Bad → fault ≡ Bad
only_bad Bad e = refl
only_bad OutOfMemory e = cc

pub returns-in_err-sample-clause-bad : goal.returns-in_err-sample-clause-bad
returns-in_err-sample-clause-bad c = λ e.
    let p = err_from_is_err_and c.from_residual.result c.from_residual.ensures.1 in
    c.in_err-sample.ensures.bad
    (ap Err (only_bad c.in_err-sample.field-0.0 (sym p.2 ∙ one_fault p.0 line.Bad (sym p.1 ∙ e))))

pub returns-clause-answers : goal.returns-clause-answers
returns-clause-answers c = λ clean.
    let s = c.in_ok-sample.sample in (
      line_of (estimator_words c.args.self.now.explains c.sample.new.self),
      ap (λ words. Some (line_of words)) (sym c.numbers.ensures),
      (
        sample_of s.rtt s.inflight s.dropped,
        c.in_ok-sample.ensures.stands,
        refl,
        c.sample.ensures.maximum,
        c.sample.ensures.follows,
        c.sample.ensures.explains,
        refl,
      ),
    )
