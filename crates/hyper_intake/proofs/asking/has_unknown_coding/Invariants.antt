use Rattle.std.proofs.Common.{◌≡◌, not, map}
use Rattle.std.specs.List.{list_any}
use Rattle.hyper_intake.specs.Shown.{is_chunked, has_unknown_coding}
use Rattle.hyper_intake.proofs.asking.has_unknown_coding.Given as goal

abbrev pub invariant-loop-coding : goal.invariant-loop-coding
invariant-loop-coding l =
    list_any (λ coding. not (is_chunked coding)) (map (λ value. value.bytes) l.coding-iterator)
    ≡ has_unknown_coding l.headers
