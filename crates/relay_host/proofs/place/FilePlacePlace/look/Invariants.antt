use Rattle.std.proofs.Common.{◌≡◌}
use Rattle.relay_host.proofs.place.FilePlacePlace.look.Given as goal

abbrev pub invariant-loop : goal.invariant-loop
invariant-loop g l = l.self ≡ l.initial.self
