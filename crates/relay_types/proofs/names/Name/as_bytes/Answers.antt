use Rattle.relay_types.proofs.VisibleLaws.{visible_name}
use Rattle.relay_types.proofs.names.Name.as_bytes.Goals as goal

pub returns-clause-visible : goal.returns-clause-visible
returns-clause-visible c = rw (← c.self.view_is) (visible_name c.self.inside.text c.self.invariant)
