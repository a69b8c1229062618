use Rattle.std.proofs.Common.{inr, rules}
use Rattle.std.proofs.KnownBytes.{Consumes-kept}
use Rattle.text_lines.proofs.FeedLaws.{BeginsTooLong-from_piece}
use Rattle.text_lines.proofs.lines.Lines.take_line.Goals as goal

pub returns-in_err-take_piece-clause-too_long : goal.returns-in_err-take_piece-clause-too_long
returns-in_err-take_piece-clause-too_long g c = λ e.
    let supplied = c.in_ok-supply.ensures in
    inr (BeginsTooLong-from_piece _ c.supply.new.self (g.R.Read.remaining c.supply.new.reader)
    (rw supplied.line (Consumes-kept _ _ _ _ c.loop.invariant.taken supplied.left))
    (rw supplied.line c.loop.invariant.no_feed)
    (c.in_err-take_piece.ensures.too_long (search rules)))
