-- What may come of a post.
use Rattle.std.specs.Prelude.{◌≡◌, ◌≤◌, if◌then◌else◌, ℕ, nat_lt}
use Rattle.retry_table.specs.declared.post.PostResult.{PostResult}
use Rattle.retry_table.specs.declared.post.PostResult.TheVariants.{Answered, TimedOut}

-- Where a subscriber has so many microseconds: an answer has a round trip of no more, and a post that timed out has all
-- of them.
abbrev pub MayAnswerWithin : (timeout : ℕ) → PostResult → Type 0
MayAnswerWithin timeout (Answered status rtt) = rtt ≤ timeout
MayAnswerWithin timeout (TimedOut rtt) = rtt ≡ timeout
MayAnswerWithin timeout _ = Unit {0}

-- what a head comes to that was read after so many microseconds
abbrev pub answer_of : (status rtt timeout : ℕ) → PostResult
answer_of status rtt timeout = if nat_lt timeout rtt then TimedOut timeout else Answered status rtt
