use Rattle.text_lines.proofs.StreamLaws.{AppendsFront-any}
use Rattle.tool_commands.specs.Signs.{signed_line}
use Rattle.tool_commands.proofs.sign_command.write_header.Goals as goal

pub returns-in_err-header-clause-failed : goal.returns-in_err-header-clause-failed
returns-in_err-header-clause-failed g c = AppendsFront-any c.from_residual.result (g.O.Write.contents c.args.output.now)
    (signed_line c.args.asked.now c.args.body.now)
