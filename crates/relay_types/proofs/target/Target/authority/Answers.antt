use Rattle.relay_types.proofs.VisibleLaws.{visible_authority}
use Rattle.relay_types.proofs.target.Target.authority.Goals as goal

pub returns-clause-visible : goal.returns-clause-visible
returns-clause-visible c =
    rw (c.authority.ensures, c.as_bytes.ensures.text) (visible_authority c.args.self.now c.as_bytes.ensures.valid)
