use Rattle.std.proofs.Common.{[]}
use Rattle.drill.proofs.runs.RunMemory.of.Goals as goal

pub returns-clause-tickets : goal.returns-clause-tickets
returns-clause-tickets g c = c.in_ok-reserve.ensures.same [] c.new-tickets.ensures
