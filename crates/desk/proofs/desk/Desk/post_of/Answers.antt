use Rattle.desk.proofs.Words.{◌∙◌, Some, length, ap, all_records, settled_records, arith}
use Rattle.desk.proofs.DeskLaws.{seen}
use Rattle.desk.proofs.ClaimLaws.{post_is, endpoint_known, no_latest_row, starts_at, starts_from}
use Rattle.desk.proofs.desk.Desk.post_of.Goals as goal

pub unreachable-requires : goal.unreachable-requires
unreachable-requires g c =
    no_latest_row c.args.delivery c.self.view_is c.requires c.in_default.ensures.in_step c.in_default.ensures.value

pub unreachable-requires-in_default-target : goal.unreachable-requires-in_default-target
unreachable-requires-in_default-target g c =
    let row = c.in-Some.row in
    let from = starts_from row.endpoint c.args.delivery c.self.view_is
    (starts_at c.args.delivery row c.self.view_is c.requires c.in-Some.ensures.in_step c.in-Some.ensures.value) in
    let known = endpoint_known row.endpoint c.args.delivery c.self.invariant.tied.limited from in
    let none = c.in_default-target.ensures.value in grind (arith, known, none)

pub returns-clause-endpoint : goal.returns-clause-endpoint
returns-clause-endpoint g c = starts_at c.args.delivery c.in-Some.row c.self.view_is c.requires
    c.in-Some.ensures.in_step c.in-Some.ensures.value

pub returns-clause-post : goal.returns-clause-post
returns-clause-post g c = λ w h.
    let here = seen c.self.view_is h in
    let settled = length (settled_records w) in
    let target = c.in_ok-share.ensures in
    let body = c.in_ok-share-2.ensures in
    post_is w c.args.at c.args.delivery c.in-Some.row _ _ c.in-Some-secrets.secrets
    (c.in-Some.ensures.stands (all_records w) settled here.books.of_deliveries)
    (ap Some body ∙ c.in-Some-body.ensures.stands (all_records w) settled here.books.of_deliveries)
    (ap Some target ∙ c.in-Some-target.ensures.stands (all_records w) settled here.books.of_endpoints)
    (c.in-Some-secrets.ensures.stands (all_records w) settled here.books.of_endpoints)
