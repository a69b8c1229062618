-- What a round of a worker posted.
use Rattle.std.specs.Prelude.{◌≡◌, ◌<◌, ℕ}
use Rattle.retry_table.specs.declared.post.PostResult.{PostResult}
use Rattle.desk.specs.Claims.{PostValue}
use Rattle.delivery.specs.declared.worker.Claimed.{Claimed}
use Rattle.delivery.specs.declared.worker.Claimed.TheVariants as claimed
use Rattle.delivery.specs.declared.worker.Round.{Round}
use Rattle.delivery.specs.declared.worker.Round.TheVariants.{Posted, WentBack}
use Rattle.webhook_request.specs.Requests.{Request}
use Rattle.webhook_request.specs.Requests as webhook

-- the request of an attempt
abbrev pub request_of : PostValue → Request
request_of post = webhook.request_of post.target post.secrets post.id post.at post.body

-- A round that posted sent the request of its post, which only a claim makes. It was answered what the poster may
-- answer to that request, and by that very result the permit of the post's endpoint and event was spent.
abbrev pub IsPostedBy : (may_answer : Request → PostResult → Type 0) → Round → Type 0
IsPostedBy may_answer (Posted post request result spent) =
    (request ≡ request_of post) × may_answer request result × (spent.row.endpoint ≡ post.endpoint)
    × (spent.row.delivery ≡ post.delivery) × (spent.post ≡ result)
IsPostedBy may_answer _ = Unit {0}

-- nothing was posted
abbrev pub HasNotPosted : Round → Type 0
HasNotPosted (Posted post request result spent) = ⊥
HasNotPosted _ = Unit {0}

-- a claim without a job ends the round, in which nothing was posted
abbrev pub EndsUnposted : {g : _} → Claimed g → Type 0
EndsUnposted (claimed.Job job) = Unit {0}
EndsUnposted (claimed.RoundOver round) = HasNotPosted round

-- A round that went back reports what the pass had seen and the lesser count that it found, and the pass stays.
abbrev pub Reports : (old new : ℕ) → Round → Type 0
Reports old new (WentBack told) = (told.seen ≡ old) × (told.found < old) × (new ≡ old)
Reports old new _ = Unit {0}

-- the same of a claim that ends the round
abbrev pub ReportsAtEnd : {g : _} → (old new : ℕ) → Claimed g → Type 0
ReportsAtEnd old new (claimed.Job job) = Unit {0}
ReportsAtEnd old new (claimed.RoundOver round) = Reports old new round
