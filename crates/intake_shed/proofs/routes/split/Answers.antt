use Rattle.intake_shed.proofs.PathLaws.{before-clean, from-starts}
use Rattle.intake_shed.proofs.routes.split.Goals as goal

pub returns-clause-clean : goal.returns-clause-clean
returns-clause-clean c = rw (c.split_at.ensures.front, c.place_of.ensures.place)
    (before-clean c.args.byte c.args.text.now)

pub returns-clause-rest : goal.returns-clause-rest
returns-clause-rest c = rw (c.split_at.ensures.back, c.place_of.ensures.place) (from-starts c.args.byte c.args.text.now)
