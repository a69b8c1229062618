use Rattle.desk.proofs.Words.{◌∙◌, ap, not}
use Rattle.desk.proofs.DeskLaws.{seen}
use Rattle.desk.proofs.PublishLaws.{conflicts_are, none_subscribed}
use Rattle.desk.proofs.desk.Desk.check_publish.Goals as goal

pub returns-clause-faults : goal.returns-clause-faults
returns-clause-faults g c = λ w h.
    let a = c.args in
    let halted = (seen c.self.view_is h).halted in
    let none = ap not c.has_subscriber.ensures ∙ none_subscribed a.topic h in
    let conflict = conflicts_are a.topic a.id.now a.body.now h in
    cc (c.check.ensures, halted, none, c.has_conflict.ensures, conflict)
