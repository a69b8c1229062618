use Rattle.std.proofs.Common.{◌≡◌, ◌++◌, map, codes}
use Rattle.hyper_intake.specs.Shown.{values_shown}
use Rattle.hyper_intake.proofs.asking.ids_of.Given as goal

abbrev pub invariant-loop-id : goal.invariant-loop-id
invariant-loop-id l =
    map (λ id. id.now) l.ids.items ++ map (λ value. value.bytes) l.id-iterator ≡ values_shown l.headers
    (codes "webhook-id")
