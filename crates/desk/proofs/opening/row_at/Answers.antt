use Rattle.desk.proofs.Words.{◌∙◌}
use Rattle.desk.proofs.OpeningLaws.{row_there}
use Rattle.desk.proofs.opening.row_at.Goals as goal

pub returns : goal.returns
returns c = c.settled.ensures.value ∙ row_there c.args.deliveries.now c.args.place c.in_ok-delivery.field-0
    c.in_ok-delivery.ensures.once c.in_ok-delivery.ensures.value
