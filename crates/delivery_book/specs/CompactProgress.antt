-- What is kept of how far a delivery has come, and what follows from it.
use Rattle.std.specs.Prelude.{◌≡◌, ℕ, ◌≤◌, ◌==◌, Bool, true, false, Some, None, unwrap_or, if◌then◌else◌}
use Rattle.std.proofs.Common.{refl, sym}
use Rattle.relay_types.specs.Values.{Seconds}
use Rattle.relay_types.specs.Judging.{is_gone_status}
use Rattle.relay_types.specs.Deliveries.{due_after}
use Rattle.delivery_book.specs.Progress.{Progress}
use Rattle.delivery_book.specs.Entries.{due_by}

-- after so many attempts, of which the last came to this status at this moment, or before any at an event of this
-- moment
abbrev pub progress_by : (attempts : ℕ) (since : Seconds) (failures last_status : ℕ) (is_delivered : Bool) → Progress
progress_by attempts since failures last_status is_delivered = record {
  attempts = attempts;
  failures = failures;
  is_delivered = is_delivered;
  due = due_by is_delivered failures
      (if attempts == 0 then since
      else due_after (record { number = 0; status = last_status; at = since }) failures);
  last_status = if attempts == 0 then None else Some last_status;
  last_at = if attempts == 0 then None else Some since;
}

-- before any attempt nothing is counted, and a last attempt that neither delivered the event nor was gone is a failure
pub record AreCounts (attempts failures last_status : ℕ) (is_delivered : Bool) : Type 0 where
  pub untried : (attempts == 0) ≡ true → (failures ≡ 0) × (last_status ≡ 0) × (is_delivered ≡ false)
  pub failed : (attempts == 0) ≡ false → is_delivered ≡ false → is_gone_status last_status ≡ false → 1 ≤ failures

-- the moment of the last attempt, or of the event before any
abbrev pub since_in : Progress → Seconds
since_in p = unwrap_or p.last_at (unwrap_or p.due 0)

-- the moment and the status that are kept follow from what they tell
since_if : (is_untried : Bool) (since later failures : ℕ) (is_delivered : Bool)
    → (is_untried ≡ true → (failures ≡ 0) × (is_delivered ≡ false))
    → unwrap_or (if is_untried then None else Some since)
    (unwrap_or (due_by is_delivered failures (if is_untried then since else later)) 0) ≡ since
since_if true since later failures is_delivered h =
    λ i. unwrap_or (due_by ((h refl).1 i) ((h refl).0 i) since) 0
since_if false since later failures is_delivered h = refl

pub since_back : (attempts since failures last_status : ℕ) (is_delivered : Bool)
    → AreCounts attempts failures last_status is_delivered
    → since_in (progress_by attempts since failures last_status is_delivered) ≡ since
since_back attempts since failures last_status is_delivered h =
    since_if (attempts == 0) since (due_after (record { number = 0; status = last_status; at = since }) failures)
    failures is_delivered (λ e. ((h.untried e).0, (h.untried e).2))

status_if : (is_untried : Bool) (status : ℕ) → (is_untried ≡ true → status ≡ 0)
    → unwrap_or (if is_untried then None else Some status) 0 ≡ status
status_if true status h = sym (h refl)
status_if false status h = refl

pub status_back : (attempts since failures last_status : ℕ) (is_delivered : Bool)
    → AreCounts attempts failures last_status is_delivered
    → unwrap_or (progress_by attempts since failures last_status is_delivered).last_status 0 ≡ last_status
status_back attempts since failures last_status is_delivered h =
    status_if (attempts == 0) last_status (λ e. (h.untried e).1)
