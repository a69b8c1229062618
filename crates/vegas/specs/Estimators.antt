-- What an estimator is seen as, the samples that it stands for, and how it explains its limit.
use Rattle.std.specs.Prelude.{◌≡◌, ◌≤◌, ◌<◌, ℕ, ◌-◌, Bool, List, [], ◌++◌, length, take, All}
use Rattle.circular_buffer.specs.Buffer.{keep_last}
use Rattle.relay_types.specs.Values.{Micros}
use Rattle.relay_types.specs.declared.limits.TheConstants.{MAX_LIMIT}
use Rattle.vegas.specs.declared.limits.TheConstants.{LAST_SAMPLES, MAX_ROUND_TRIP}
use Rattle.vegas.specs.declared.state.State.{State}
use Rattle.vegas.specs.declared.sample.Sample.{Sample}
use Rattle.vegas.specs.Vegas.{limit_of, noload_of, probes_of}

-- the maximum, the numbers that the samples move, the numbers before the last samples, and these
pub record EstimatorValue : Type 0 where
  pub maximum : ℕ
  pub state : State
  pub base : State
  pub last : List Sample

-- the numbers are those of the samples
pub record HasNumbers (maximum : ℕ) (state : State) (xs : List Sample) : Type 0 where
  pub limit : state.limit ≡ limit_of maximum xs
  pub noload : state.noload ≡ noload_of maximum xs
  pub probes : state.probes ≡ probes_of maximum xs

-- the estimator has the numbers of the samples
abbrev pub StandsFor : EstimatorValue → List Sample → Type 0
StandsFor e xs = HasNumbers e.maximum e.state xs

-- the samples but for the last ones
abbrev pub before_last : List Sample → List Sample
before_last xs = take (length xs - LAST_SAMPLES) xs

-- the estimator keeps the last of the samples, and the numbers of those before them
pub record Explains (e : EstimatorValue) (xs : List Sample) : Type 0 where
  pub last : e.last ≡ keep_last LAST_SAMPLES xs
  pub base : HasNumbers e.maximum e.base (before_last xs)

-- The base has the numbers of some earlier samples, and the estimator those of the earlier and the last ones.
-- There are earlier ones only where it keeps as many as it can.
pub record IsExplained (e : EstimatorValue) : Type 0 where
  pub earlier : List Sample
  pub base : HasNumbers e.maximum e.base earlier
  pub now : StandsFor e (earlier ++ e.last)
  pub few : length e.last < LAST_SAMPLES → earlier ≡ []

-- the bounds within which the numbers stay
pub record AreBounded (maximum : ℕ) (state : State) : Type 0 where
  pub at_most_thousand : maximum ≤ MAX_LIMIT
  pub at_least_one : 1 ≤ state.limit
  pub at_most_maximum : state.limit ≤ maximum
  pub at_most_hour : state.noload ≤ MAX_ROUND_TRIP
  pub at_most_thirty_thousand : state.probes ≤ 30000

-- as many posts were in flight at the sample as may be
abbrev pub IsInFlight : Sample → Type 0
IsInFlight x = x.inflight ≤ MAX_LIMIT

-- what holds of each estimator
pub record IsSound (e : EstimatorValue) : Type 0 where
  pub state : AreBounded e.maximum e.state
  pub base : AreBounded e.maximum e.base
  pub in_flight : All IsInFlight e.last
  pub at_most_last : length e.last ≤ LAST_SAMPLES
  pub explained : IsExplained e

-- a sample as it is handed in
abbrev pub sample_of : (rtt : Micros) (inflight : ℕ) (dropped : Bool) → Sample
sample_of rtt inflight dropped = record { rtt = rtt; inflight = inflight; dropped = dropped }
