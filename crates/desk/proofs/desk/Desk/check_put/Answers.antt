use Rattle.desk.proofs.Words.{length, nat_le, ap, MAX_ENDPOINTS, all_records, settled_records}
use Rattle.desk.proofs.DeskLaws.{is_full, seen}
use Rattle.desk.proofs.desk.Desk.check_put.Goals as goal

pub returns-clause-faults : goal.returns-clause-faults
returns-clause-faults g c = λ w h.
    let here = seen c.self.view_is h in
    let known = c.contains.ensures.stands (all_records w) (length (settled_records w)) here.books.of_endpoints in
    let many = ap (nat_le MAX_ENDPOINTS)
    (c.len.ensures.stands (all_records w) (length (settled_records w)) here.books.of_endpoints) in
    let full = is_full c.free_requests.result here c.free_requests.ensures.free in
    let spent = c.are_seqs_spent.ensures.stands w h in
    let halted = here.halted in cc (c.check.ensures, halted, known, many, full, spent)
