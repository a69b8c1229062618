use Rattle.text_lines.proofs.FeedLaws.{IsFeedAt-from_position}
use Rattle.text_lines.proofs.lines.next_feed.Goals as goal

pub returns : goal.returns
returns c = IsFeedAt-from_position c.args.bytes.now c.place_of_feed.result c.place_of_feed.ensures
