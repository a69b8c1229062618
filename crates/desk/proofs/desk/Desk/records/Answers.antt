use Rattle.desk.proofs.Words.{◌∙◌}
use Rattle.desk.proofs.DeskLaws.{is_core, stands_as, records_counted}
use Rattle.desk.proofs.desk.Desk.records.Goals as goal

pub returns-clause-stands : goal.returns-clause-stands
returns-clause-stands g c = λ w h. c.records.ensures.count ∙ records_counted (stands_as c.self.view_is h)

pub returns-clause-core : goal.returns-clause-core
returns-clause-core g c = is_core c.self.view_is c.self.invariant
