use Rattle.desk.proofs.Words.{length, all_records, settled_records}
use Rattle.desk.proofs.DeskLaws.{seen}
use Rattle.desk.proofs.desk.Desk.check_submit.Goals as goal

pub returns-clause-faults : goal.returns-clause-faults
returns-clause-faults g c = λ w h.
    let here = seen c.self.view_is h in
    let halted = here.halted in
    let known = c.contains.ensures.stands (all_records w) (length (settled_records w)) here.books.of_endpoints in
    cc (c.check.ensures, halted, known, c.is_conflict.ensures.stands w h)
