use Rattle.desk.proofs.TieLaws.{next_is, none_is}
use Rattle.desk.proofs.claims.next_attempt.Goals as goal

pub returns-in-Some : goal.returns-in-Some
returns-in-Some c = next_is c.args.deliveries.now c.args.delivery c.in-Some.row c.in-Some.ensures.in_step
    c.requires.free c.in-Some.ensures.value

pub returns-in-None : goal.returns-in-None
returns-in-None c = absurd (none_is c.args.deliveries.now c.args.delivery c.in-None.ensures.in_step c.requires.free
    c.in-None.ensures.value)
