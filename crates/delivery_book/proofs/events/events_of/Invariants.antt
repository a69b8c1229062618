use Rattle.std.proofs.Common.{◌≡◌, ◌≤◌, length, take, vec_len, vec_capacity}
use Rattle.relay_types.specs.Steps.{accepts}
use Rattle.delivery_book.specs.Entries.{events_from}
use Rattle.delivery_book.proofs.events.events_of.Given as goal

abbrev pub invariant-loop-name : goal.invariant-loop-name
invariant-loop-name l = record {
  items : l.events.items ≡ events_from l.seq (accepts (take l.name-index l.names) l.id l.body l.at);
  len : vec_len l.events ≡ l.name-index;
  room : length l.names ≤ vec_capacity l.events;
}
