-- What the seats at the log know, their rule, and what each step does.
use Rattle.relay_types.specs.declared.record.Record.{Record}
use Rattle.std.specs.Prelude.{◌≡◌, ℕ, true, false, List, [], ◌++◌}
use mathlib.Core.Option.{some}
use mathlib.Core.List.{IsPrefix}
use lib.ListN.{get_elem?}
use Rattle.atomic_table.specs.Seated.{TableId}
use Rattle.atomic_table.specs.Table.{State, Step, Me}
use Rattle.run_log.specs.Prefixes.{Agree}
use Rattle.run_log.specs.declared.View.{View}

-- the id of no table
abbrev pub no_table : TableId
no_table = record { words = 0; slots = 0; views_name = 0; atom = 0; block = 0; offset = 0; slot_names = [] }

-- all that the table takes in the program: one word, and no place for a value
abbrev pub IsOneWord : TableId → Type 0
IsOneWord table = (table.words ≡ 1) × (table.slots ≡ 0)

-- the one seat that knows the whole log, and appends to it
abbrev pub writing : List Record → View
writing all = record { writes = true; seen = all; other = [] }

-- a seat that knows a prefix of the log
abbrev pub reading : List Record → View
reading seen = record { writes = false; seen = seen; other = [] }

-- a seat that has a second prefix to compare with its own
abbrev pub with_other : View → View → View
with_other v w = record { writes = v.writes; seen = v.seen; other = w.seen }

-- The seat that writes knows the whole log. What any other seat knows is a prefix of it.
abbrev pub IsView : ℕ → List Record → ℕ → View → Type 0
IsView seat log by v = (v.writes ≡ true → (by ≡ seat) × (v.seen ≡ log)) × IsPrefix v.seen log × IsPrefix v.other log

-- one seat at most writes
abbrev pub HasOneWriter : List View → Type 0
HasOneWriter views = (seat : ℕ) × (log : List Record) × ((by : ℕ) (v : View) → get_elem? views by ≡ some v
    → IsView seat log by v)

abbrev pub KeepsRule : {S : Type 0} → State S View → Type 0
KeepsRule s = HasOneWriter s.views

-- the writer appends these records
abbrev pub Appends : List Record → Step (Unit {0}) → Me (Unit {0}) View → ℕ → Me (Unit {0}) View → Type 0
Appends more s me n after = after ≡ (
  record { writes = me.0.writes; seen = me.0.seen ++ more; other = me.0.other },
  me.1,
)

-- The two prefixes are of one log: one of them is a prefix of the other. Every prefix is one of what the writer knows.
abbrev pub Compares : Step (Unit {0}) → Me (Unit {0}) View → ℕ → Me (Unit {0}) View → Type 0
Compares s me n after = (after ≡ (record { writes = me.0.writes; seen = me.0.seen; other = [] }, me.1))
    × Agree me.0.seen me.0.other × (me.0.writes ≡ true → IsPrefix me.0.other me.0.seen)
