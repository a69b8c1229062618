-- The system's clock.
use Rattle.relay_host.specs.declared.moment.HostClock.{HostClock}

-- the runtime whose clock it is
abbrev pub runtime_of : {R : Type 0} → HostClock R → R
runtime_of clock = clock.rt.now
