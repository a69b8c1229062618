use Rattle.std.proofs.Common.{◌≡◌, take}
use Rattle.hyper_poster.specs.Sent.{fields}
use Rattle.hyper_poster.proofs.request.fields.Given as goal

abbrev pub invariant-loop-header : goal.invariant-loop-header
invariant-loop-header l = l.map ≡ fields (take l.header-index l.headers)
