use Rattle.desk.proofs.Words.{doubt_of}
use Rattle.desk.proofs.TurnLaws.{unseal_turns}
use Rattle.desk.proofs.desk.Desk.unseal.Goals as goal

pub returns-clause-moves : goal.returns-clause-moves
returns-clause-moves g c =
    unseal_turns c.self.view_is c.unseal.new.self (doubt_of c.args.batch) c.unseal.result c.unseal.ensures.turn
    c.unseal.ensures.waits c.unseal.ensures.err
