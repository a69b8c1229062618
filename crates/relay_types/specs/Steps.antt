-- Steps: what is written together or not at all.
use Rattle.std.specs.Prelude.{◌≡◌, ◌<◌, ◌≤◌, ◌⊎◌, List, [], ◌∷◌, length, map}
use Rattle.std.specs.Arc.{arc_value}
use Rattle.relay_types.specs.declared.limits.TheConstants.{MAX_STEP_RECORDS}
use Rattle.relay_types.specs.declared.record.Record.{Record}
use Rattle.relay_types.specs.declared.record.Record.TheVariants.{Accept}
use Rattle.relay_types.specs.declared.step.Held.{Held}
use Rattle.relay_types.specs.declared.step.Held.TheVariants.{One, Many}
use Rattle.relay_types.specs.Values.{Text, Seconds}

-- the Accepts of one event at these endpoints, in their order
abbrev pub accepts : (names : List Text) (id body : Text) (at : Seconds) → List Record
accepts names id body at = map (λ name. Accept name id body at) names

-- the records are the Accepts of one event, at 1 to 256 endpoints
pub record IsEvent (records : List Record) : Type 0 where
  pub names : List Text
  pub id : Text
  pub body : Text
  pub at : Seconds
  pub are : records ≡ accepts names id body at
  pub some : 0 < length names
  pub most : length names ≤ MAX_STEP_RECORDS

-- A step is one record, or the Accepts of one event.
abbrev pub IsStep : List Record → Type 0
IsStep records = (length records ≡ 1) ⊎ IsEvent records

-- the records that are held
abbrev pub held_records : Held → List Record
held_records (One entry) = entry ∷ []
held_records (Many records) = (arc_value records).items
