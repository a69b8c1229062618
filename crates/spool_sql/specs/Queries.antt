-- Which texts show nothing of what they write.
use Rattle.std.specs.Prelude.{◌≡◌, ℕ, List, Option, None, Ok, Err}
use Rattle.sqlite_syntax.specs.declared.statement.Parsed.{Parsed}
use Rattle.sqlite_schema.specs.declared.command.Returning.{Returning}
use Rattle.sqlite_resolve.specs.Compile.{first, returning}
use Rattle.sqlite_resolve.specs.Lowering.{Checked}
use Rattle.sqlite.specs.Schema.{Schema}

-- what the statement of a text shows of what it writes
abbrev pub returning_of : Checked Parsed → Schema → ℕ → Checked (Option Returning)
returning_of (Ok p) schema base = returning schema base p.statement
returning_of (Err e) schema base = Ok None

-- it shows nothing of what it writes, whatever the schema is
abbrev pub IsBare : List ℕ → Type 0
IsBare text = (schema : Schema) (base : ℕ) → returning_of (first text) schema base ≡ Ok None
