use Rattle.desk.proofs.Words.{◌∙◌, length, nat_le, ap, all_records, settled_records}
use Rattle.desk.specs.declared.limits.TheConstants.{MAX_PENDING, MAX_PENDING_ALL}
use Rattle.desk.proofs.DeskLaws.{is_full, pending_is, pending_all_is, seen}
use Rattle.desk.proofs.desk.Desk.check_new_submit.Goals as goal

pub returns-clause-faults : goal.returns-clause-faults
returns-clause-faults g c = λ w h.
    let here = seen c.self.view_is h in
    let own = ap (nat_le MAX_PENDING)
    (c.pending.ensures.stands (all_records w) (length (settled_records w)) here.books.of_deliveries
    ∙ pending_is (all_records w) c.args.name) in
    let all = ap (nat_le MAX_PENDING_ALL)
    (c.pending_all.ensures (all_records w) (length (settled_records w)) here.books.of_deliveries
    ∙ pending_all_is (all_records w)) in
    let full = is_full c.free_requests.result here c.free_requests.ensures.free in
    let spent = c.are_seqs_spent.ensures.stands w h in
    cc (c.check.ensures, own, all, full, spent)
