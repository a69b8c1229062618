use Rattle.std.proofs.Common.{◌≡◌, ◌^◌, ◌<◌, take}
use Rattle.relay_types.specs.Values.{number_of}
use Rattle.relay_types.proofs.target.number_of.Given as goal

abbrev pub invariant-loop-c : goal.invariant-loop-c
invariant-loop-c l = record {
  value : l.number ≡ number_of (take l.c-index l.digits);
  small : l.number < 10 ^
      l.c-index;
}
