use Rattle.std.proofs.Common.{◌+◌, sym, refl, ap}
use Rattle.std.specs.Prelude.{slice_range}
use Rattle.text_lines.specs.Streams.{LinesValue}
use Rattle.text_lines.proofs.FeedLaws.{TakesPiece-from_range}
use Rattle.text_lines.proofs.lines.Lines.take_piece.Goals as goal

pub returns-in_ok-extend_within-in-Some-clause-whole : goal.returns-in_ok-extend_within-in-Some-clause-whole
returns-in_ok-extend_within-in-Some-clause-whole c =
    let fields = c.self.inside in
    let is_line = ap (λ (reading : LinesValue). reading.line) c.self.view_is in
    λ _. TakesPiece-from_range c.args.self.now
    (record {
      pending = slice_range fields.chunk.items (fields.at + (c.in-Some.place + 1)) fields.end;
      line =
          c.extend_within.new.bytes.items;
      count = fields.count;
      failed = fields.failed;
    })
    fields.chunk.items fields.at fields.end c.in-Some.place
    (ap (λ (reading : LinesValue). reading.pending) (sym c.self.view_is))
    (rw c.deref.ensures.value at c.in-Some.ensures)
    refl
    (rw (← is_line) (rw c.deref.ensures.value at c.in_ok-extend_within-in-Some.ensures.bytes))
