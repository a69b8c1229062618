use Rattle.delivery.proofs.SettledLaws.{claimed}
use Rattle.delivery.proofs.locked.Locked.claim.Goals as goal

pub invariant_of-self : goal.invariant_of-self
invariant_of-self g c =
    let self = c.self.inside in
    claimed g.I.LogId.is_base g.I.LogId.start self.desk c.claim.new.self self.prefix self.staged c.self.invariant
    c.args.now c.claim.result c.claim.ensures.moves
