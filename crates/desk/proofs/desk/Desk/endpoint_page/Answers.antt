use Rattle.desk.proofs.Words.{length, all_records, settled_records}
use Rattle.desk.proofs.DeskLaws.{stands_as, page_is}
use Rattle.desk.proofs.desk.Desk.endpoint_page.Goals as goal

pub returns-in-Some-clause-stands : goal.returns-in-Some-clause-stands
returns-in-Some-clause-stands g c = λ w h.
    let stands = (stands_as c.self.view_is h).books in
    let settled = length (settled_records w) in
    page_is w c.args.name _ c.settled_counts-counts.result
    (c.in-Some.ensures.stands (all_records w) settled stands.of_endpoints)
    (c.settled_counts-counts.ensures.stands (all_records w) settled stands.of_deliveries)

pub returns-in-None-clause-stands : goal.returns-in-None-clause-stands
returns-in-None-clause-stands g c = λ w h.
    let stands = (stands_as c.self.view_is h).books in
    let settled = length (settled_records w) in
    page_is w c.args.name _ c.settled_counts-counts.result
    (c.in-None.ensures.stands (all_records w) settled stands.of_endpoints)
    (c.settled_counts-counts.ensures.stands (all_records w) settled stands.of_deliveries)
