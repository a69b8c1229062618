-- What lies under the lock.
use Rattle.std.specs.Prelude.{Bool, List}
use Rattle.relay_types.specs.declared.record.Record.{Record}
use Rattle.desk.specs.Desks.{DeskValue}

-- the desk, whether the end was asked for, the prefix of the log that the desk has settled, and the staged records
pub record LockedValue : Type 0 where
  pub desk : DeskValue
  pub closing : Bool
  pub prefix : List Record
  pub staged : List Record
