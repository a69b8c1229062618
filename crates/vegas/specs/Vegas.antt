-- The concurrency limit of a list of samples. Places are counted from 1.
use Rattle.std.specs.Prelude.{ℕ, zero, suc, ◌+◌, ◌-◌, ◌*◌, ◌^◌, min, max, Bool, ◌||◌, nat_le, nat_lt, ◌==◌, List, []}
use Rattle.std.specs.Prelude.{◌∷◌, length, take, drop, if◌then◌else◌, slice_get}
use Rattle.std.specs.Option.{option_map_or}
use Rattle.relay_types.specs.Lists.{least}
use Rattle.vegas.specs.declared.limits.TheConstants.{FIRST_LIMIT, MAX_ROUND_TRIP, SAMPLES_BY_LIMIT}
use Rattle.relay_types.specs.Values.{Micros}
use Rattle.vegas.specs.declared.sample.Sample.{Sample}

-- the limit after some samples, and the place of the last probe among them, 0 if there is none
pub record Place : Type 0 where
  pub limit : ℕ
  pub probe : ℕ

-- the round trip, brought into 1 microsecond to an hour
abbrev pub round_trip : Sample → Micros
round_trip x = max 1 (min x.rtt MAX_ROUND_TRIP)

-- the least of the round trips, 0 if there are none
abbrev pub least_round_trip : List Sample → Micros
least_round_trip [] = 0
least_round_trip (x ∷ []) = round_trip x
least_round_trip (x ∷ y ∷ xs) = min (round_trip x) (least_round_trip (y ∷ xs))

-- the no-load time at place k: the least round trip from the last probe to k, from place 1 if there is none
abbrev pub noload_after : (xs : List Sample) (probe k : ℕ) → Micros
noload_after xs probe k = least_round_trip (drop (probe - 1) (take k xs))

-- the posts that wait in the endpoint's queue: the least whole q with q * r at least limit * (r - noload).
-- The limit itself is such a number, so none above it is looked at.
abbrev pub queue : (limit : ℕ) (r noload : Micros) → ℕ
queue limit r noload = least (λ q. nat_le (limit * (r - noload)) (q * r)) limit

-- by how much the limit moves: the whole part of its decimal logarithm, at least 1
abbrev pub step_size : (limit : ℕ) → ℕ
step_size limit = max 1 (least (λ e. nat_lt limit (10 ^ (e + 1))) limit)

-- the limit that a queue of q asks for, at a sample with this many in flight
abbrev pub moved : (limit q inflight : ℕ) (dropped : Bool) → ℕ
moved limit q inflight dropped =
    let g = step_size limit in
    if dropped then limit - g else (
    if nat_lt (2 * inflight) limit then limit else (
    if nat_le q g then limit + 6 * g else (
    if nat_lt q (3 * g) then limit + g else (
    if nat_lt (6 * g) q then limit - g else limit))))

-- brought into 1 to the maximum
abbrev pub within : (maximum limit : ℕ) → ℕ
within maximum limit = max 1 (min limit maximum)

-- the limit after a sample that is held against a no-load time
abbrev pub limit_at : (maximum limit : ℕ) (noload : Micros) (x : Sample) → ℕ
limit_at maximum limit noload x =
    within maximum (moved limit (queue limit (round_trip x) noload) x.inflight x.dropped)

-- the place after a sample at place k, from the place before it
abbrev pub next_place : (maximum : ℕ) (xs : List Sample) (k : ℕ) (before : Place) (x : Sample) → Place
next_place maximum xs k before x =
    let noload = noload_after xs before.probe (k - 1) in
    if nat_le (SAMPLES_BY_LIMIT * before.limit) (k - before.probe) then record before { probe = k } else (
    if k == 1 || nat_lt (round_trip x) noload then before
    else record before { limit = limit_at maximum before.limit noload x })

-- the place after the first k samples
unfoldable pub place_after : (maximum : ℕ) (xs : List Sample) (k : ℕ) → Place
place_after maximum xs zero = record { limit = min FIRST_LIMIT maximum; probe = 0 }
place_after maximum xs (suc k) =
    let before = place_after maximum xs k in
    option_map_or (next_place maximum xs (suc k) before) (slice_get xs k) before

-- the limit, the no-load time (0 if unknown) and the number of samples since the last probe, after all of the list
unfoldable pub limit_of : (maximum : ℕ) (xs : List Sample) → ℕ
limit_of maximum xs = (place_after maximum xs (length xs)).limit

unfoldable pub noload_of : (maximum : ℕ) (xs : List Sample) → Micros
noload_of maximum xs = noload_after xs (place_after maximum xs (length xs)).probe (length xs)

unfoldable pub probes_of : (maximum : ℕ) (xs : List Sample) → ℕ
probes_of maximum xs = length xs - (place_after maximum xs (length xs)).probe
