use Rattle.script_lines.proofs.CallLaws.{some_text}
use Rattle.script_lines.proofs.script.read_alone.Goals as goal

pub returns-else-is_empty-clause-bad : goal.returns-else-is_empty-clause-bad
returns-else-is_empty-clause-bad c = λ e. some_text c.args.arguments.now c.is_empty.result c.is_empty.ensures
    c.if-is_empty.false
