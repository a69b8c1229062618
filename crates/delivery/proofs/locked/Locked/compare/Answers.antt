use Rattle.delivery.proofs.SettledLaws.{change_settled}
use Rattle.delivery.proofs.locked.Locked.compare.Goals as goal

pub returns-clause-logged : goal.returns-clause-logged
returns-clause-logged g c =
    let self = c.self.inside in
    rw (← c.self.view_is) (λ below.
    change_settled g.I.LogId.is_base g.I.LogId.start self.desk self.prefix self.staged c.args.change.now
    c.self.invariant c.compare.ensures.has below)
