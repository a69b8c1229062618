use Rattle.script_lines.proofs.OneCall as laws
use Rattle.script_lines.proofs.script.one_line_at_most.Goals as goal

pub returns : goal.returns
returns c = laws.one_line_at_most
