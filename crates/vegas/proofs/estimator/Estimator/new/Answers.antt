use Rattle.vegas.proofs.LastLaws.{first-holds, first-stands, first-explains}
use Rattle.vegas.proofs.estimator.Estimator.new.Goals as goal

pub invariant_of-result : goal.invariant_of-result
invariant_of-result c =
    rw (c.in_ok-last.ensures, c.min.ensures, c.get.ensures.number)
    (first-holds c.args.maximum c.get.ensures.least c.get.ensures.most)

pub returns-clause-empty : goal.returns-clause-empty
returns-clause-empty c = rw (c.min.ensures, c.get.ensures.number) (first-stands c.args.maximum)

pub returns-clause-explains : goal.returns-clause-explains
returns-clause-explains c = rw (c.in_ok-last.ensures, c.min.ensures, c.get.ensures.number)
    (first-explains c.args.maximum)
