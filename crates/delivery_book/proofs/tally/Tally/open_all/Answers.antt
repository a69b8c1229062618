use Rattle.std.proofs.Common.{◌∙◌}
use Rattle.delivery_book.proofs.Updates.{room-more}
use Rattle.delivery_book.proofs.tally.Tally.open_all.Goals as goal

pub loop-entry-preserved : goal.loop-entry-preserved
loop-entry-preserved c = record {
  same = λ those. c.in_ok-open.ensures.same those ∙ c.loop-entry.invariant.same those;
  opened = room-more c.loop-entry.self c.open.new.self c.args.entries.now c.loop-entry.entry-index c.entry-item.result
      c.loop-entry-test.true c.entry-item.is c.loop-entry.invariant.opened
      (λ asked is. c.in_ok-open.ensures.stays asked is)
      c.in_ok-open.ensures.opened;
  stays = λ asked is. c.in_ok-open.ensures.stays asked (c.loop-entry.invariant.stays asked is);
}
