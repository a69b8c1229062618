-- What a result of a post counts as.
use Rattle.std.specs.Prelude.{ℕ, true, false, Option, Some, None, if◌then◌else◌}
use Rattle.relay_types.specs.Judging.{is_overload_status}
use Rattle.retry_table.specs.declared.post.Measured.{Measured}
use Rattle.retry_table.specs.declared.post.PostResult.{PostResult}
use Rattle.retry_table.specs.declared.post.PostResult.TheVariants.{Answered, TimedOut, Unreached, Unsent}
use Rattle.retry_table.specs.declared.post.Spend.{Spend}
use Rattle.retry_table.specs.declared.post.Spend.TheVariants.{Success, Dropped, Ignored}

-- an answer is a success, except one that tells of overload
abbrev pub spend_of_status : ℕ → Spend
spend_of_status status = if is_overload_status status then Dropped else Success

-- what the permit is spent as
abbrev pub spend_of : PostResult → Spend
spend_of (Answered status rtt) = spend_of_status status
spend_of (TimedOut rtt) = Dropped
spend_of Unreached = Ignored
spend_of Unsent = Ignored

-- the status of the outcome, where one is recorded
abbrev pub recorded_status : PostResult → Option ℕ
recorded_status (Answered status rtt) = Some status
recorded_status (TimedOut rtt) = Some 0
recorded_status Unreached = Some 0
recorded_status Unsent = None

-- the round trip in microseconds, 0 where nothing was measured
abbrev pub round_trip_of : PostResult → ℕ
round_trip_of (Answered status rtt) = rtt
round_trip_of (TimedOut rtt) = rtt
round_trip_of Unreached = 0
round_trip_of Unsent = 0

-- what a spend tells of the endpoint's speed: the round trip, and whether the post was dropped; nothing if ignored
abbrev pub measure_as : Spend → ℕ → Option Measured
measure_as Success rtt = Some (record { rtt = rtt; dropped = false })
measure_as Dropped rtt = Some (record { rtt = rtt; dropped = true })
measure_as Ignored rtt = None

abbrev pub measure_of : PostResult → Option Measured
measure_of post = measure_as (spend_of post) (round_trip_of post)
