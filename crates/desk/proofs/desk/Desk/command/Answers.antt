use Rattle.desk.proofs.Words.{sym, subst, change, IsMove}
use Rattle.desk.specs.declared.command.Command.{Command}
use Rattle.desk.proofs.desk.Desk.command.Goals as goal

pub returns-in-PutEndpoint-clause-moves : goal.returns-in-PutEndpoint-clause-moves
returns-in-PutEndpoint-clause-moves g c =
    subst (λ (command : Command). IsMove c.args.self.now (λ w. change w command) c.put_endpoint.result
    c.put_endpoint.new.self) (sym c.in-PutEndpoint.is) c.put_endpoint.ensures.moves
