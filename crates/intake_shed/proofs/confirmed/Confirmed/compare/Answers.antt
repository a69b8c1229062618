use Rattle.intake_shed.specs.Acks.{confirmed_of}
use Rattle.intake_shed.proofs.AckLaws.{change_on}
use Rattle.intake_shed.proofs.confirmed.Confirmed.compare.Goals as goal

pub returns-clause-logged : goal.returns-clause-logged
returns-clause-logged g c =
    let self = c.self.inside in
    rw (← c.self.view_is) (change_on g.I.LogId.is_base (confirmed_of self.change self.prefix) c.args.logged.now.writer
    c.compare.ensures.begins c.self.invariant)
