-- When there is no permit, and the numbers and names of the refusals, in the order of their checks.
use Rattle.std.specs.Prelude.{◌≡◌, ℕ, ◌<◌, ◌≤◌, List, length, codes, IsTrue}
use Rattle.permits.specs.declared.pool.TheConstants.{MAX_PERMITS}
use Rattle.permits.specs.declared.refusal.Refused.{Refused}
use Rattle.permits.specs.declared.refusal.Refused.TheVariants.{AtLimit, TooManyOut, AlreadyOut}
use Rattle.permits.specs.declared.row.Row.{Row}
use Rattle.permits.specs.Rows.{in_flight_of, is_out}

-- the endpoint has as many rows as its limit allows, or more
abbrev pub IsAtLimit : List ℕ → ℕ → List Row → Type 0
IsAtLimit endpoint limit rows = limit ≤ in_flight_of endpoint rows

-- it has fewer, but all places of the pool are taken
abbrev pub IsFull : List ℕ → ℕ → List Row → Type 0
IsFull endpoint limit rows = (in_flight_of endpoint rows < limit) × (length rows ≡ MAX_PERMITS)

-- it has fewer, and there is a place, but a row is of the delivery
abbrev pub IsAlreadyOut : List ℕ → ℕ → ℕ → List Row → Type 0
IsAlreadyOut endpoint delivery limit rows =
    (in_flight_of endpoint rows < limit) × (length rows < MAX_PERMITS) × IsTrue (is_out delivery rows)

abbrev pub refusal_number : Refused → ℕ
refusal_number AtLimit = 1
refusal_number TooManyOut = 2
refusal_number AlreadyOut = 3

abbrev pub refusal_name : Refused → List ℕ
refusal_name AtLimit = codes "AtLimit"
refusal_name TooManyOut = codes "TooManyOut"
refusal_name AlreadyOut = codes "AlreadyOut"
