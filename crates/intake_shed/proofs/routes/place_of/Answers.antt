use Rattle.std.proofs.Common.{◌==◌}
use Rattle.relay_types.proofs.TargetLemmas.{position-or_end}
use Rattle.intake_shed.proofs.routes.place_of.Goals as goal

pub returns-clause-place : goal.returns-clause-place
returns-clause-place c =
    let e = position-or_end (λ x. x == c.args.byte) c.args.text.now in
    cc
