use Rattle.std.proofs.Common.{rules}
use Rattle.script_lines.proofs.script.read_submit.Goals as goal

pub returns-in_err-now-clause-bad : goal.returns-in_err-now-clause-bad
returns-in_err-now-clause-bad c = λ e now name id body h. c.in_err-now.ensures.bad (search rules) now name id body h
