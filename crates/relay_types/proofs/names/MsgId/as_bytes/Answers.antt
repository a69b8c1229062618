use Rattle.relay_types.proofs.VisibleLaws.{visible_id}
use Rattle.relay_types.proofs.names.MsgId.as_bytes.Goals as goal

pub returns-clause-visible : goal.returns-clause-visible
returns-clause-visible c = rw (← c.self.view_is) (visible_id c.self.inside.text c.self.invariant)
