-- Laws that contracts rest on.
use Rattle.std.specs.Prelude.{◌≡◌, List, ◌++◌}
use Rattle.relay_types.specs.declared.record.Record.{Record}
use Rattle.relay_types.specs.Legal.{IsLegal}
use Rattle.relay_types.specs.Rows.{rows_of, put_rows}

-- the rows of a legal history are those of each front of it, changed by the records behind as the table of changes says
abbrev pub RowsFollow : Type 0
RowsFollow = (records more : List Record) → IsLegal (records ++ more)
    → rows_of (records ++ more) ≡ put_rows (rows_of records) more
