-- Attempts whose outcome a crash may lose.
use Rattle.std.specs.Prelude.{◌≡◌, ℕ, ◌+◌, ◌≤◌, ◌==◌, List, length, drop, count_by, IsTrue}
use Rattle.std.specs.List.{AllByRecursion}
use Rattle.relay_types.specs.declared.record.Record.{Record}
use Rattle.relay_types.specs.Values.{Seq}
use Rattle.relay_types.specs.Records.{records_of}
use Rattle.relay_types.specs.Deliveries.{accept_at, accepted, attempts_of, is_pending}
use Rattle.desk.specs.World.{World, all_records}
use Rattle.recovery.specs.Left.{records_of_first}

-- the records of the steps after the first so many
abbrev pub records_after : World → (steps : ℕ) → List Record
records_after w steps = records_of (drop steps w.history)

-- how many attempts at the delivery have no outcome in the first so many steps: those under way,
-- and those whose outcome comes later
abbrev pub unrecorded : World → (steps : ℕ) → (delivery : Seq) → ℕ
unrecorded w steps d = count_by (λ row. row.delivery == d) w.live + length (attempts_of (records_after w steps) d)

-- In these steps the event is pending, with its endpoint, its id and its body, which a later step
-- may have removed. Only one attempt at it has no outcome there.
pub record IsPendingAgain (w : World) (steps : ℕ) (delivery : Seq) : Type 0 where
  pub pending : IsTrue (is_pending (records_of_first w steps) delivery)
  pub same : accepted (records_of_first w steps) delivery ≡ accept_at (all_records w) delivery
  pub once : unrecorded w steps delivery ≡ 1

-- each event with an attempt that has no outcome in these steps is pending there
abbrev pub IsEachPendingAgain : World → (steps : ℕ) → Type 0
IsEachPendingAgain w steps = (delivery : Seq) → 1 ≤ unrecorded w steps delivery → IsPendingAgain w steps delivery

-- This holds for whatever survives a crash.
abbrev pub ArePendingAgain : World → Type 0
ArePendingAgain w = AllByRecursion (IsEachPendingAgain w) w.left
