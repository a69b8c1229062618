-- The subscribers of a topic that are still to come.
use Rattle.std.specs.Prelude.{List, filter}
use Rattle.relay_types.specs.Values.{Text}
use Rattle.endpoint_book.specs.Topics.{is_on}
use Rattle.endpoint_book.specs.declared.subscribers.Subscribers.{Subscribers}

abbrev pub still_subscribed : Subscribers → List Text
still_subscribed s = filter (is_on s.topics.now s.topic) s.names.now
