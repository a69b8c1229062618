use Rattle.text_lines.proofs.output.write_line.Goals as goal
use Rattle.text_lines.proofs.StreamLaws.{AppendsFront-unwritten}

pub returns-in_err-line-clause-failed : goal.returns-in_err-line-clause-failed
returns-in_err-line-clause-failed g c = AppendsFront-unwritten c.from_residual.result
    (g.T.Display.output c.args.text.now) (g.O.Write.contents c.args.output.now)
