use Rattle.delivery.proofs.KeeperLaws.{vault_leaves}
use Rattle.delivery.proofs.keeper.VaultKeeper.commit.Goals as goal

pub returns-clause-history : goal.returns-clause-history
returns-clause-history g c = λ clean. vault_leaves g.S.Store c.args.self.now c.commit.new.self c.args.batch
    c.commit.result (c.commit.ensures.history clean)
