use Rattle.std.proofs.Common.{Ok, Err, inr, ap, refl, sym, subst, ◌∙◌}
use Rattle.std.proofs.lemmas.Result.{err_from_is_err_and}
use Rattle.text_lines.specs.Answers.{AnswersEach, AnswersFrom, AnswersTo, Gives}
use Rattle.text_lines.specs.Ends.{IsBetweenLines}
use Rattle.text_lines.proofs.AnswerLaws.{AnswersEach-more}
use Rattle.text_lines.proofs.EndLaws.{begins, takes, answered, whole, ends_at_once, ends_between, ends_at_line}
use Rattle.text_lines.proofs.EndLaws.{ends_between_lines, exits}
use Rattle.text_lines.proofs.answering.answer_lines.Goals as goal

pub returns-in_err-lines-clause-ends : goal.returns-in_err-lines-clause-ends
returns-in_err-lines-clause-ends g c clean text had input output =
    let p = err_from_is_err_and c.from_residual.result c.from_residual.ensures.1 in
    let Says = AnswersFrom g.A.Answerer.Answers c.args.answerer.now in
    exits Says g.A.Answerer.IsNoLine c.from_residual.result text had _ p.0 p.1
    (ends_at_once Says g.A.Answerer.IsNoLine text had _ p.0 (c.args.answerer.now, (refl, refl)) output (inr p.2))

pub loop-lines-init : goal.loop-lines-init
loop-lines-init g c = record {
  clean = λ clean. clean;
  progress = λ clean text had input output.
      begins (λ lines written. AnswersEach g.A.Answerer.Answers c.args.answerer.now lines written c.args.answerer.now)
      text had _ _ _ (refl, refl) input output c.in_ok-lines.ensures;
}

pub returns-in_err-advance-clause-ends : goal.returns-in_err-advance-clause-ends
returns-in_err-advance-clause-ends g c clean text had input output =
    let p = err_from_is_err_and c.from_residual-in_err-advance.result c.from_residual-in_err-advance.ensures.1 in
    let so_far = c.loop-lines.invariant.progress clean text had input output in
    let Says = AnswersFrom g.A.Answerer.Answers c.args.answerer.now in
    exits Says g.A.Answerer.IsNoLine c.from_residual-in_err-advance.result text had _ _ (p.1 ∙ ap Err p.2)
    (ends_between Says g.A.Answerer.IsNoLine text had c.loop-lines.lines _ _ _ so_far (
      c.loop-lines.answerer,
      so_far.holds,
    ) c.in_err-advance.ensures.faults (λ e. c.in_err-advance.ensures.too_long (ap Err e)))

pub returns-in_err-answer_line-clause-ends : goal.returns-in_err-answer_line-clause-ends
returns-in_err-answer_line-clause-ends g c clean text had input output =
    let p = err_from_is_err_and c.from_residual-in_err-answer_line.result c.from_residual-in_err-answer_line.ensures.1
    in
    let line = c.in_ok-advance.was ∙ ap Ok c.if-branch.true in
    let read = takes text had c.loop-lines.lines c.advance.new.self (g.R.Read.remaining c.loop-lines.input)
    (g.R.Read.remaining c.advance.new.reader) (g.O.Write.contents c.loop-lines.output)
    (c.loop-lines.invariant.progress (c.in_err-answer_line.ensures.clean clean) text had input output)
    (c.advance.ensures.line line) (c.advance.ensures.no_feed line) (c.advance.ensures.number line)
    (c.advance.ensures.most_bytes line) (c.advance.ensures.most_lines line) in
    let Says = AnswersFrom g.A.Answerer.Answers c.args.answerer.now in
    exits Says g.A.Answerer.IsNoLine c.from_residual-in_err-answer_line.result text had _ _ (p.1 ∙ ap Err p.2)
    (ends_at_line Says g.A.Answerer.IsNoLine
    (Gives g.A.Answerer.Answers c.loop-lines.answerer c.advance.new.self.line c.answer_line.new.answerer) text had
    c.advance.new.self (g.R.Read.remaining c.advance.new.reader) (g.O.Write.contents c.loop-lines.output)
    (g.O.Write.contents c.answer_line.new.output) _ read
    (c.loop-lines.answerer, read.holds)
    (λ answer gives. (
      c.answer_line.new.answerer,
      AnswersEach-more g.A.Answerer.Answers c.args.answerer.now c.loop-lines.answerer c.answer_line.new.answerer
          read.lines read.written c.advance.new.self.line answer read.holds gives,
    ))
    (c.in_err-answer_line.ensures.ends clean))

pub loop-lines-preserved : goal.loop-lines-preserved
loop-lines-preserved g c = record {
  clean = λ clean. c.loop-lines.invariant.clean (c.in_ok-answer_line.ensures.clean clean);
  progress = λ clean text had input output.
      let line = c.in_ok-advance.was ∙ ap Ok c.if-branch.true in
      let read = takes text had c.loop-lines.lines c.advance.new.self (g.R.Read.remaining c.loop-lines.input)
      (g.R.Read.remaining c.advance.new.reader) (g.O.Write.contents c.loop-lines.output)
      (c.loop-lines.invariant.progress (c.in_ok-answer_line.ensures.clean clean) text had input output)
      (c.advance.ensures.line line) (c.advance.ensures.no_feed line) (c.advance.ensures.number line)
      (c.advance.ensures.most_bytes line) (c.advance.ensures.most_lines line) in
      let given = c.in_ok-answer_line.ensures.ends clean in
      answered text had c.advance.new.self (g.R.Read.remaining c.advance.new.reader)
      (g.O.Write.contents c.loop-lines.output) (g.O.Write.contents c.answer_line.new.output) given.0 read
      (AnswersEach-more g.A.Answerer.Answers c.args.answerer.now c.loop-lines.answerer c.answer_line.new.answerer
      read.lines read.written c.advance.new.self.line given.0 read.holds given.1) given.2;
}

pub returns-clause-ends : goal.returns-clause-ends
returns-clause-ends g c clean text had input output =
    let so_far = c.loop-lines.invariant.progress clean text had input output in
    whole (AnswersFrom g.A.Answerer.Answers c.args.answerer.now) text had c.loop-lines.lines _ _ so_far
    (c.loop-lines.answerer, so_far.holds) (c.advance.ensures.end (c.in_ok-advance.was ∙ ap Ok c.if-branch.false))

pub returns-in_err-lines-clause-leads : goal.returns-in_err-lines-clause-leads
returns-in_err-lines-clause-leads g c clean between =
    let p = err_from_is_err_and c.from_residual.result c.from_residual.ensures.1 in
    absurd (subst IsBetweenLines (p.1 ∙ ap Err p.2) between)

pub returns-in_err-advance-clause-leads : goal.returns-in_err-advance-clause-leads
returns-in_err-advance-clause-leads g c clean between text had input output =
    let p = err_from_is_err_and c.from_residual-in_err-advance.result c.from_residual-in_err-advance.ensures.1 in
    let so_far = c.loop-lines.invariant.progress clean text had input output in
    let Says = AnswersTo g.A.Answerer.Answers c.args.answerer.now c.loop-lines.answerer in
    exits Says g.A.Answerer.IsNoLine c.from_residual-in_err-advance.result text had _ _ (p.1 ∙ ap Err p.2)
    (ends_between Says g.A.Answerer.IsNoLine text had c.loop-lines.lines _ _ _ so_far so_far.holds
    c.in_err-advance.ensures.faults (λ e. c.in_err-advance.ensures.too_long (ap Err e)))

pub returns-in_err-answer_line-clause-leads : goal.returns-in_err-answer_line-clause-leads
returns-in_err-answer_line-clause-leads g c clean between text had input output =
    let p = err_from_is_err_and c.from_residual-in_err-answer_line.result c.from_residual-in_err-answer_line.ensures.1
    in
    let line = c.in_ok-advance.was ∙ ap Ok c.if-branch.true in
    let read = takes text had c.loop-lines.lines c.advance.new.self (g.R.Read.remaining c.loop-lines.input)
    (g.R.Read.remaining c.advance.new.reader) (g.O.Write.contents c.loop-lines.output)
    (c.loop-lines.invariant.progress (c.in_err-answer_line.ensures.clean clean) text had input output)
    (c.advance.ensures.line line) (c.advance.ensures.no_feed line) (c.advance.ensures.number line)
    (c.advance.ensures.most_bytes line) (c.advance.ensures.most_lines line) in
    let Says = AnswersTo g.A.Answerer.Answers c.args.answerer.now c.answer_line.new.answerer in
    exits Says g.A.Answerer.IsNoLine c.from_residual-in_err-answer_line.result text had _ _ (p.1 ∙ ap Err p.2)
    (ends_between_lines Says g.A.Answerer.IsNoLine
    (Gives g.A.Answerer.Answers c.loop-lines.answerer c.advance.new.self.line c.answer_line.new.answerer) text had
    c.advance.new.self (g.R.Read.remaining c.advance.new.reader) (g.O.Write.contents c.loop-lines.output)
    (g.O.Write.contents c.answer_line.new.output) _ read
    (λ number is. subst (AnswersEach g.A.Answerer.Answers c.args.answerer.now read.lines read.written)
    (sym (c.in_err-answer_line.ensures.bad number (ap Err is))) read.holds)
    (subst IsBetweenLines (p.1 ∙ ap Err p.2) between) (c.in_err-answer_line.ensures.ends clean))

pub returns-clause-leads : goal.returns-clause-leads
returns-clause-leads g c clean between text had input output =
    let so_far = c.loop-lines.invariant.progress clean text had input output in
    whole (AnswersTo g.A.Answerer.Answers c.args.answerer.now c.loop-lines.answerer) text had c.loop-lines.lines _ _
    so_far so_far.holds (c.advance.ensures.end (c.in_ok-advance.was ∙ ap Ok c.if-branch.false))
