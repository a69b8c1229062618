use Rattle.desk.proofs.Words.{◌∙◌, sym, ap, DeskValue, next_row, with_live}
use Rattle.desk.proofs.ClaimLaws.{job_starts}
use Rattle.desk.specs.Claims.{PostValue}
use Rattle.desk.proofs.desk.Desk.start.Goals as goal

pub returns-clause-starts : goal.returns-clause-starts
returns-clause-starts g c =
    let made = c.permit_for-permit.ensures in
    let old = c.args.self.now in
    job_starts old _ c.args.at c.args.delivery c.permit_for-permit.result c.in_ok-post.post c.in_ok-post.ensures.post
    (made.permit ∙ ap (λ (post : PostValue). next_row post.endpoint c.args.delivery old.live) c.post.view_is)
    (ap (λ (v : DeskValue). record v { clock = c.args.at }) (c.self.view_is ∙ made.live ∙ ap (with_live old)
    (sym made.permit)))
