use Rattle.delivery.proofs.SettledLaws.{sealed}
use Rattle.delivery.proofs.locked.Locked.next_batch.Goals as goal

pub returns-clause-moves : goal.returns-clause-moves
returns-clause-moves g c = rw (← c.self.view_is) (c.seal.result, c.next_after_seal.ensures.value, c.seal.ensures.moves)

pub invariant_of-self : goal.invariant_of-self
invariant_of-self g c =
    let self = c.self.inside in
    sealed g.I.LogId.is_base g.I.LogId.start self.desk c.seal.new.self self.prefix self.staged c.self.invariant
    _ c.seal.result c.seal.ensures.moves
