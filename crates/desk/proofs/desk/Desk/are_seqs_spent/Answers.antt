use Rattle.desk.proofs.Words.{arith}
use Rattle.desk.proofs.DeskLaws.{is_spent, seen}
use Rattle.desk.proofs.desk.Desk.are_seqs_spent.Goals as goal

pub returns-clause-stands : goal.returns-clause-stands
returns-clause-stands g c = λ w h. is_spent _ (seen c.self.view_is h)
    (omega (arith, c.records.ensures.count, c.live.ensures.count))
