-- Prefixes of one log.
use Rattle.relay_types.specs.declared.record.Record.{Record}
use Rattle.std.specs.Prelude.{◌⊎◌, List}
use mathlib.Core.List.{IsPrefix}

-- one of them is a prefix of the other
abbrev pub Agree : List Record → List Record → Type 0
Agree xs ys = IsPrefix xs ys ⊎ IsPrefix ys xs
