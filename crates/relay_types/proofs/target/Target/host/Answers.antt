use Rattle.relay_types.proofs.UrlLaws.{target_host}
use Rattle.relay_types.proofs.target.Target.host.Goals as goal

pub returns-clause-valid : goal.returns-clause-valid
returns-clause-valid c =
    rw (c.host.ensures, c.as_bytes.ensures.text) (target_host c.args.self.now c.as_bytes.ensures.valid)
