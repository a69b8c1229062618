-- The steps that wait: requests and outcomes.
use Rattle.std.specs.Prelude.{◌≡◌, ℕ, ◌<◌, ◌≤◌, ◌+◌, ◌-◌, ◌⊎◌, Bool, true, false, not, nat_le, List, [], ◌∷◌, length}
use Rattle.std.specs.Prelude.{take, count_by, if◌then◌else◌, IsTrue}
use Rattle.std.specs.List.{list_all, AllByRecursion}
use Rattle.relay_types.specs.declared.limits.TheConstants.{MAX_STEP_RECORDS}
use Rattle.relay_types.specs.declared.record.Record.{Record}
use Rattle.relay_types.specs.declared.record.Record.TheVariants.{Outcome}
use Rattle.relay_types.specs.Records.{History, records_of}
use Rattle.group_commit.specs.declared.limits.TheConstants.{MAX_WAITING_REQUESTS, MAX_WAITING_OUTCOMES}

abbrev pub is_outcome_record : Record → Bool
is_outcome_record (Outcome delivery attempt status at) = true
is_outcome_record entry = false

abbrev pub is_request_record : Record → Bool
is_request_record entry = not (is_outcome_record entry)

-- a step of an Outcome alone
abbrev pub is_outcome : List Record → Bool
is_outcome (entry ∷ []) = is_outcome_record entry
is_outcome step = false

-- a step of other records
abbrev pub is_request : List Record → Bool
is_request [] = false
is_request (entry ∷ rest) = list_all is_request_record (entry ∷ rest)

-- how many records of the steps are those of requests, and how many are outcomes
abbrev pub requests_in : History → ℕ
requests_in steps = count_by is_request_record (records_of steps)

abbrev pub outcomes_in : History → ℕ
outcomes_in steps = count_by is_outcome_record (records_of steps)

-- how many of the first steps have at most so many records together
abbrev pub fitting : (most : ℕ) → History → ℕ
fitting most [] = 0
fitting most (step ∷ steps) = if nat_le (length step) most then fitting (most - length step) steps + 1 else 0

-- this prefix of the steps is the longest with at most so many records
pub record IsLongestPrefix (most : ℕ) (steps prefix : History) : Type 0 where
  pub begins : prefix ≡ take (length prefix) steps
  pub fits : length (records_of prefix) ≤ most
  pub longest : length prefix < length steps → most < length (records_of (take (length prefix + 1) steps))

-- what may wait
abbrev pub IsPlaced : List Record → Type 0
IsPlaced step = (IsTrue (is_request step) ⊎ IsTrue (is_outcome step)) × (length step ≤ MAX_STEP_RECORDS)

-- what holds of a queue's fields: both kinds are counted and have their places
pub record IsQueue (requests outcomes len capacity : ℕ) (steps : History) : Type 0 where
  pub counts_requests : requests ≡ requests_in steps
  pub counts_outcomes : outcomes ≡ outcomes_in steps
  pub placed : AllByRecursion IsPlaced steps
  pub count : len ≡ length steps
  pub all : len ≤ requests + outcomes
  pub most_requests : requests ≤ MAX_WAITING_REQUESTS
  pub most_outcomes : outcomes ≤ MAX_WAITING_OUTCOMES
  pub places : MAX_WAITING_REQUESTS + MAX_WAITING_OUTCOMES ≤ capacity
