use Rattle.drill.proofs.BatchLaws.{all_held, all_given}
use Rattle.drill.proofs.calls.Core.close.Goals as goal

pub close-requires-clause-permits : goal.close-requires-clause-permits
close-requires-clause-permits g c = all_given c.args.self c.requires

pub close-requires-clause-out : goal.close-requires-clause-out
close-requires-clause-out g c = rw (c.parts-receipt.ensures.receipt, c.parts-receipt.ensures.given)
    (all_held c.args.self c.requires)
