-- Which delivery is next, what a claim answers, and what the end of an attempt leaves.
use Rattle.std.specs.Prelude.{ℕ, ◌+◌, Bool, false, ◌&&◌, ◌==◌, not, nat_le, nat_lt, List, [], ◌∷◌, ◌++◌, length, map}
use Rattle.std.specs.Prelude.{filter, drop, Option, Some, None, option_map, is_some, bytes_eq, if◌then◌else◌}
use Rattle.std.specs.List.{list_any}
use Rattle.std.specs.Option.{option_map_or}
use Rattle.relay_types.specs.declared.record.Record.TheVariants.{Outcome}
use Rattle.relay_types.specs.declared.state.State.TheVariants.{Exhausted}
use Rattle.relay_types.specs.Values.{Text, Seq, Seconds}
use Rattle.relay_types.specs.Records.{History, Accepted}
use Rattle.relay_types.specs.Deliveries.{accepted, deliveries, attempts_of, state_of, is_in_state, is_pending, due_of}
use Rattle.relay_types.specs.Endpoints.{endpoint_of, has_endpoint, is_enabled, secrets_of}
use Rattle.vegas.specs.declared.sample.Sample.{Sample}
use Rattle.vegas.specs.Vegas.{limit_of, noload_of}
use Rattle.permits.specs.declared.row.Row.{Row}
use Rattle.permits.specs.Rows.{in_flight_of, is_out, next_row, same_row}
use Rattle.retry_table.specs.declared.post.Measured.{Measured}
use Rattle.retry_table.specs.declared.post.PostResult.{PostResult}
use Rattle.retry_table.specs.Judging.{recorded_status, measure_of}
use Rattle.group_commit.specs.declared.limits.TheConstants.{MAX_WAITING_OUTCOMES}
use Rattle.group_commit.specs.Steps.{outcomes_in}
use Rattle.desk.specs.declared.refusal.Fault.TheVariants as fault
use Rattle.desk.specs.declared.spent.Limits.{Limits}
use Rattle.desk.specs.World.{World, EndpointSample, all_records, settled_records, waiting_records}
use Rattle.desk.specs.Moves.{Answer, gives, unless, or_out_of_memory, moment, next_seq, are_seqs_spent}

-- Attempts that are under way, and what waits

-- how many attempts of the endpoint are under way, and whether one of the delivery is
abbrev pub live_of : (w : World) (name : Text) → ℕ
live_of w name = in_flight_of name w.live

abbrev pub is_live : (w : World) (delivery : Seq) → Bool
is_live w d = is_out d w.live

abbrev pub waiting_outcomes : World → ℕ
waiting_outcomes w = outcomes_in (drop w.settled w.history)

-- whether no outcome of the delivery waits
abbrev pub has_no_waiting_outcome : (w : World) (delivery : Seq) → Bool
has_no_waiting_outcome w d = length (attempts_of (waiting_records w) d) == 0

-- Limits

-- the samples of the endpoint since the opening
abbrev pub samples_of : (w : World) (name : Text) → List Sample
samples_of w name = map (λ m. m.sample) (filter (λ m. bytes_eq m.endpoint name) w.measured)

abbrev pub max_of : (w : World) (name : Text) → ℕ
max_of w name = option_map_or (λ e. e.max) (endpoint_of (all_records w) name) 0

-- how many attempts of the endpoint may be under way, and its round trip without load
abbrev pub limit_in : (w : World) (name : Text) → ℕ
limit_in w name = limit_of (max_of w name) (samples_of w name)

abbrev pub noload_in : (w : World) (name : Text) → ℕ
noload_in w name = noload_of (max_of w name) (samples_of w name)

-- what is told of the limit of an endpoint that is there
abbrev pub limits : (w : World) (name : Text) → Option Limits
limits w name = if has_endpoint (all_records w) name then Some (record {
  limit = limit_in w name;
  in_flight = live_of w name;
  noload = noload_in w name;
}) else None

-- Which delivery is next

-- whether the endpoint may be posted to once more: it is enabled, and its limit allows one more attempt
abbrev pub has_room : (w : World) (name : Text) → Bool
has_room w name = is_enabled (all_records w) name && nat_lt (live_of w name) (limit_in w name)

-- whether there is a place for the outcome of one more attempt
abbrev pub has_place : World → Bool
has_place w = nat_lt (waiting_outcomes w + length w.live) MAX_WAITING_OUTCOMES

-- whether the delivery waits for its next attempt: the settled records have it as pending, no outcome of it waits, and
-- no attempt at it is under way
abbrev pub waits : (w : World) (delivery : Seq) → Bool
waits w d = is_pending (settled_records w) d && (has_no_waiting_outcome w d && not (is_live w d))

-- whether an attempt at the delivery may begin at this moment
abbrev pub is_claimable_for : (w : World) (now : Seconds) (delivery : Seq) → Accepted → Bool
is_claimable_for w now d a =
    waits w d && (nat_le (due_of (settled_records w) d) now && (has_room w a.endpoint && has_place w))

abbrev pub is_claimable : (w : World) (now : Seconds) (delivery : Seq) → Bool
is_claimable w now d = option_map_or (is_claimable_for w now d) (accepted (settled_records w) d) false

abbrev pub claimables : (w : World) (now : Seconds) → List Seq
claimables w now = filter (is_claimable w now) (deliveries (settled_records w))

-- the number with the least key, and the first of these
abbrev pub lesser : (key : ℕ → ℕ) (n : ℕ) → Option ℕ → ℕ
lesser key n None = n
lesser key n (Some m) = if nat_le (key n) (key m) then n else m

abbrev pub least_by : (key : ℕ → ℕ) → List ℕ → Option ℕ
least_by key [] = None
least_by key (n ∷ rest) = Some (lesser key n (least_by key rest))

-- the delivery that is due first, and of those due at one moment the one that was accepted first
abbrev pub choice : (w : World) (now : Seconds) → Option Seq
choice w now = least_by (due_of (settled_records w)) (claimables w now)

-- Claims

-- what a job shows: the row of its permit, the event's id, the number of the attempt and its moment, where the endpoint
-- listens, its secrets and the event's body
pub record JobValue : Type 0 where
  pub row : Row
  pub id : Text
  pub attempt : ℕ
  pub at : Seconds
  pub target : Text
  pub secrets : List Text
  pub body : Text

-- what a post shows: the endpoint and the event's number, and of a job's values all that is posted
pub record PostValue : Type 0 where
  pub endpoint : Text
  pub delivery : Seq
  pub id : Text
  pub attempt : ℕ
  pub at : Seconds
  pub target : Text
  pub secrets : List Text
  pub body : Text

-- what is posted at the attempt of a job
abbrev pub post_in : JobValue → PostValue
post_in job = record {
  endpoint = job.row.endpoint;
  delivery = job.row.delivery;
  id = job.id;
  attempt = job.attempt;
  at = job.at;
  target = job.target;
  secrets = job.secrets;
  body = job.body;
}

abbrev pub target_in : (w : World) (name : Text) → Text
target_in w name = option_map_or (λ e. e.target) (endpoint_of (all_records w) name) []

-- the number of the delivery's next attempt
abbrev pub next_attempt : (w : World) (delivery : Seq) → ℕ
next_attempt w d = length (attempts_of (all_records w) d) + 1

-- the job of an attempt at the delivery, by all records
abbrev pub job_of : (w : World) (at : Seconds) (delivery : Seq) → Accepted → JobValue
job_of w at d a = record {
  row = next_row a.endpoint d w.live;
  id = a.id;
  attempt = next_attempt w d;
  at = at;
  target = target_in w a.endpoint;
  secrets = secrets_of (all_records w) a.endpoint;
  body = a.body;
}

-- the attempt is under way
abbrev pub with_attempt : (w : World) (at : Seconds) (row : Row) → World
with_attempt w at row = record w { clock = at; live = w.live ++ row ∷ [] }

abbrev pub starts : (w : World) (at : Seconds) (delivery : Seq) → Accepted → Answer (Option JobValue)
starts w at d a = or_out_of_memory 3 (gives (Some (job_of w at d a)) (with_attempt w at (next_row a.endpoint d w.live)))

-- nothing may be posted at this moment
abbrev pub rests : (w : World) (at : Seconds) → Answer (Option JobValue)
rests w at = gives None (record w { clock = at })

-- A claim, where this is the choice. A delivery that is chosen is one of the records.
abbrev pub claim_chosen : (w : World) (at : Seconds) (chosen : Option Seq) → Answer (Option JobValue)
claim_chosen w at None = rests w at
claim_chosen w at (Some d) =
    unless ((are_seqs_spent w, 2, fault.SeqExhausted) ∷ []) w
    (option_map_or (starts w at d) (accepted (all_records w) d) (rests w at))

-- A claim.
abbrev pub claim : (w : World) (now : Seconds) → Answer (Option JobValue)
claim w now = unless ((w.halted, 1, fault.Halted) ∷ []) w (claim_chosen w (moment w now) (choice w (moment w now)))

-- Spends

-- whether the row is that of an attempt under way
abbrev pub has_row : (w : World) (row : Row) → Bool
has_row w row = list_any (same_row row) w.live

abbrev pub without_row : (w : World) (row : Row) → World
without_row w row = record w { live = filter (λ other. not (same_row row other)) w.live }

-- the sample of a post with this row
abbrev pub sampled : (row : Row) → Measured → EndpointSample
sampled row told = record {
  endpoint = row.endpoint;
  sample = record { rtt = told.rtt; inflight = row.inflight; dropped = told.dropped };
}

-- what the post tells of the endpoint's speed: nothing where its permit is spent as ignored
abbrev pub sample_by : (row : Row) (post : PostResult) → List EndpointSample
sample_by row post = option_map_or (λ told. sampled row told ∷ []) (measure_of post) []

-- the step of the outcome, where a status is recorded
abbrev pub outcome_by : (w : World) (row : Row) (post : PostResult) (at : Seconds) → History
outcome_by w row post at = option_map_or
    (λ status. (Outcome row.delivery (next_attempt w row.delivery) status at ∷ []) ∷ []) (recorded_status post) []

-- The row goes; unless the desk is halted, the sample and the outcome come.
abbrev pub with_attempt_over : (w : World) (row : Row) (post : PostResult) (now : Seconds) → World
with_attempt_over w row post now =
    if w.halted then without_row w row else
    record (without_row w row) {
      history = w.history ++ outcome_by w row post (moment w now);
      measured = w.measured ++ sample_by row post;
      clock = moment w now;
    }

-- the number of the outcome, where one waits
abbrev pub staged_by : (w : World) (post : PostResult) → Option Seq
staged_by w post = if w.halted then None else option_map (λ status. next_seq w) (recorded_status post)

-- whether the delivery is given up, by all records
abbrev pub is_exhausted : (w : World) (delivery : Seq) → Bool
is_exhausted w d = is_some (accepted (all_records w) d) && is_in_state Exhausted (state_of (all_records w) d)

-- what a spend tells: the permit's row, the post, the outcome's number, and, after it, the endpoint's limit and
-- attempts and whether the event is given up
pub record SpentValue : Type 0 where
  pub row : Row
  pub post : PostResult
  pub staged : Option Seq
  pub limit : ℕ
  pub in_flight : ℕ
  pub exhausted : Bool

-- the status that a desk records of a post: none once it is halted
abbrev pub status_of : (halted : Bool) (post : PostResult) → Option ℕ
status_of halted post = if halted then None else recorded_status post

-- the status that a spend tells: that of its post, where an outcome waits
abbrev pub status_in : SpentValue → Option ℕ
status_in spent = if is_some spent.staged then recorded_status spent.post else None

abbrev pub spent_in : (w after : World) (row : Row) (post : PostResult) → SpentValue
spent_in w after row post = record {
  row = row;
  post = post;
  staged = staged_by w post;
  limit = limit_in after row.endpoint;
  in_flight = live_of after row.endpoint;
  exhausted = is_exhausted after row.delivery;
}

abbrev pub spent_by : (w : World) (row : Row) (post : PostResult) (now : Seconds) → SpentValue
spent_by w row post now = spent_in w (with_attempt_over w row post now) row post
