-- What the status of an answered post means for the delivery (RFC 9110, section 15; RFC 6585, section 4), and how
-- long to wait after a failure.
use Rattle.relay_types.specs.Values.{Seconds}
use Rattle.std.specs.Prelude.{ℕ, ◌-◌, Bool, ◌&&◌, ◌||◌, not, ◌==◌, nat_le, List, [], ◌∷◌, slice_index}

-- 200 to 299: the event is delivered
abbrev pub is_delivered_status : (status : ℕ) → Bool
is_delivered_status status = nat_le 200 status && nat_le status 299

-- 410 Gone: the endpoint wants no more posts
abbrev pub is_gone_status : (status : ℕ) → Bool
is_gone_status status = status == 410

-- each other status, and 0 where none came: the attempt failed
abbrev pub is_failed_status : (status : ℕ) → Bool
is_failed_status status = not (is_delivered_status status || is_gone_status status)

-- 429 Too Many Requests, 502 Bad Gateway, 503 Service Unavailable, 504 Gateway Timeout: the endpoint is overloaded
abbrev pub is_overload_status : (status : ℕ) → Bool
is_overload_status status = status == 429 || (status == 502 || (status == 503 || status == 504))

-- the seconds to wait after failure number 1, 2, .., 9
abbrev pub delays : List Seconds
delays = 5 ∷ 300 ∷ 1800 ∷ 7200 ∷ 18000 ∷ 36000 ∷ 50400 ∷ 72000 ∷ 86400 ∷ []

abbrev pub delay_after : (failures : ℕ) → Seconds
delay_after failures = slice_index delays (failures - 1)
