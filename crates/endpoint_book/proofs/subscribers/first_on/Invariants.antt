use Rattle.std.proofs.Common.{◌≡◌, length}
use Rattle.std.specs.Prelude.{filter}
use Rattle.endpoint_book.specs.Topics.{is_on}
use Rattle.endpoint_book.proofs.subscribers.first_on.Given as goal

abbrev pub invariant-loop-name : goal.invariant-loop-name
invariant-loop-name l = filter (is_on l.topics l.topic) l.rest ≡ filter (is_on l.topics l.topic) l.names

abbrev pub decreases-loop-name : goal.decreases-loop-name
decreases-loop-name l = length l.rest
