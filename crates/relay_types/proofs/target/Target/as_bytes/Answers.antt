use Rattle.relay_types.proofs.VisibleLaws.{visible_target}
use Rattle.relay_types.proofs.target.Target.as_bytes.Goals as goal

pub returns-clause-visible : goal.returns-clause-visible
returns-clause-visible c = rw (← c.self.view_is) (visible_target c.self.inside.text c.self.invariant)
