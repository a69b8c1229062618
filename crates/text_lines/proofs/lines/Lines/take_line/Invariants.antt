use Rattle.std.proofs.Common.{◌≡◌, IsTrue}
use Rattle.std.specs.Io.KnownBytes.{Consumes}
use Rattle.text_lines.specs.Streams.{left, has_no_feed}
use Rattle.text_lines.proofs.lines.Lines.take_line.Given as goal

abbrev pub invariant-loop : goal.invariant-loop
invariant-loop g l = record {
  taken : Consumes (left l.fn.self (g.R.Read.remaining l.fn.reader)) (left l.self (g.R.Read.remaining l.reader))
      l.self.line;
  no_feed : IsTrue (has_no_feed l.self.line);
  number : l.self.count ≡ l.fn.self.count;
}
