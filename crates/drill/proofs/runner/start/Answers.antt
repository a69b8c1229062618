use Rattle.std.proofs.Common.{◌∙◌, [], refl, sym}
use Rattle.desk.specs.Moves.{opened}
use Rattle.drill.proofs.runner.start.Goals as goal

pub invariant_of-result : goal.invariant_of-result
invariant_of-result g c = record { stands = c.of.ensures.core }

pub returns-in-Ok-clause-stands : goal.returns-in-Ok-clause-stands
returns-in-Ok-clause-stands g c clean none =
    record {
      stands = c.of.ensures.stands (opened [] 0) c.in-Ok.ensures.desk refl refl;
      holds =
          c.in-Ok.ensures.vault clean none;
      mark = c.of.ensures.mark ∙ c.in-Ok.ensures.mark.0
          ∙ sym c.in-Ok.ensures.mark.1;
    }
