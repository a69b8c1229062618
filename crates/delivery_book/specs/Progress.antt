-- How far a delivery has come.
use Rattle.std.specs.Prelude.{ℕ, Bool, Option}
use Rattle.relay_types.specs.Values.{Seconds}

-- the attempts at it, the failed ones among them, and whether one delivered it; when the next attempt is due, while one
-- is to come; and the status and the moment of the last attempt
pub record Progress : Type 0 where
  pub attempts : ℕ
  pub failures : ℕ
  pub is_delivered : Bool
  pub due : Option Seconds
  pub last_status : Option ℕ
  pub last_at : Option Seconds
