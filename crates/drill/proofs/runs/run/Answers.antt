use Rattle.std.proofs.Common.{subst}
use Rattle.drill.specs.Worlds.{IsRunFrom, session_of}
use Rattle.drill.proofs.runs.run.Goals as goal

pub returns-in-Ok-clause-runs : goal.returns-in-Ok-clause-runs
returns-in-Ok-clause-runs g c = λ clean w opening on vault.
    subst (λ events. IsRunFrom g.S.Store (session_of w) events c.run_in.result) c.in-Ok.ensures.events
    (c.run_in.ensures.runs clean w opening on vault)
