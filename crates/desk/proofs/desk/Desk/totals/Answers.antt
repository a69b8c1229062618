use Rattle.desk.proofs.Words.{length, all_records, settled_records}
use Rattle.desk.proofs.DeskLaws.{stands_as, totals_are}
use Rattle.desk.proofs.desk.Desk.totals.Goals as goal

pub returns-clause-stands : goal.returns-clause-stands
returns-clause-stands g c = λ w h.
    let stands = (stands_as c.self.view_is h).books in
    let settled = length (settled_records w) in
    totals_are w _ _ _ (c.settled_counts_all-counts.ensures.stands (all_records w) settled stands.of_deliveries)
    (c.settled_len.ensures.stands (all_records w) settled stands.of_endpoints)
    (c.settled_records.ensures.stands w h)
