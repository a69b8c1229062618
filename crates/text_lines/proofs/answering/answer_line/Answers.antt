use Rattle.std.proofs.Common.{subst, refl}
use Rattle.text_lines.specs.Answers.{Gives}
use Rattle.text_lines.specs.Streams.{with_feed}
use Rattle.text_lines.proofs.EndLaws.{written_line}
use Rattle.text_lines.proofs.answering.answer_line.Goals as goal

pub returns-clause-ends : goal.returns-clause-ends
returns-clause-ends g c clean =
    let (text, is, answers) = c.in-Ok.ensures.answers clean in
    written_line (Gives g.A.Answerer.Answers c.args.answerer.now c.args.lines.now.line c.answer.new.self)
    g.A.Answerer.IsNoLine c.args.lines.now _ _ (with_feed text) c.write_line.result (
      text,
      subst (λ line. g.A.Answerer.Answers c.args.answerer.now line text c.answer.new.self) c.line.ensures answers,
      refl,
    )
    (rw is at c.write_line.ensures.written) (rw is at c.write_line.ensures.failed) c.write_line.ensures.lacked
    c.write_line.ensures.faults
