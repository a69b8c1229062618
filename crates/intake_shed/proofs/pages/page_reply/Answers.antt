use Rattle.std.proofs.Common.{sym, subst}
use Rattle.desk.specs.World.{settled_records}
use Rattle.status.specs.Pages.{totals_text}
use Rattle.intake_shed.specs.Pages.{GivesPage, IsDeskPageReply, IsPageReply}
use Rattle.intake_shed.proofs.pages.page_reply.Goals as goal

pub returns-in-Totals-clause-value : goal.returns-in-Totals-clause-value
returns-in-Totals-clause-value g c =
    subst (λ asked. IsDeskPageReply c.args.desk.now asked c.done.result) (sym c.in-Totals.is)
    (subst (λ page. GivesPage (totals_text page) c.done.result) c.totals.ensures.value
    (c.done.ensures (totals_text c.totals.result) c.totals_text.ensures))

pub returns-in-Totals-clause-stands : goal.returns-in-Totals-clause-stands
returns-in-Totals-clause-stands g c = λ w stands.
    subst (λ asked. IsPageReply (settled_records w) asked c.done.result) (sym c.in-Totals.is)
    (subst (λ page. GivesPage (totals_text page) c.done.result) (c.totals.ensures.stands w stands)
    (c.done.ensures (totals_text c.totals.result) c.totals_text.ensures))
