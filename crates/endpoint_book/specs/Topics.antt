-- Who is subscribed to what: for each topic and endpoint that records named together, the flag that the last of these
-- records gave.
use Rattle.std.specs.Prelude.{◌≡◌, ◌&&◌, ◌||◌, Bool, false, nat_eq, nat_lt, List, length, Option, is_some, filter_map}
use Rattle.std.specs.Prelude.{unwrap_or}
use Rattle.std.specs.BTreeMap.{insert_entry, is_at}
use Rattle.std.specs.Map.{lookup}
use Rattle.std.specs.Cmp.Lexicographic.{pointwise, slice_cmp}
use Rattle.std.specs.declared.cmp.Ordering.{Ordering}
use Rattle.std.specs.Ordering.{nat_cmp, on, then_cmp}
use Rattle.relay_types.specs.declared.limits.TheConstants.{MAX_SUBSCRIPTIONS}
use Rattle.relay_types.specs.declared.record.Record.{Record}
use Rattle.relay_types.specs.Values.{Text}
use Rattle.relay_types.specs.Lists.{last_of}
use Rattle.relay_types.specs.Subscriptions.{subscribed_by, subscriptions}
use Rattle.endpoint_book.specs.declared.key.PairKey.{PairKey}

-- keys are the same where their characters are, and stand in the order of these, the topic's before the endpoint's
abbrev pub same_pair : PairKey → PairKey → Bool
same_pair a b = pointwise nat_eq a.topic b.topic && pointwise nat_eq a.name b.name

abbrev pub pair_cmp : PairKey → PairKey → Ordering
pair_cmp = then_cmp (on (λ k. k.topic) (slice_cmp nat_cmp)) (on (λ k. k.name) (slice_cmp nat_cmp))

-- each pair once, in the order of the keys
abbrev pub TopicsValue : Type 0
TopicsValue = List (PairKey × Bool)

-- the flag of this topic and endpoint, if a record named them
abbrev pub flag_of : (topics : TopicsValue) (topic name : Text) → Option Bool
flag_of topics topic name = lookup (is_at (pair_cmp (record { topic = topic; name = name }))) topics

-- whether the endpoint is subscribed to the topic
abbrev pub is_on : (topics : TopicsValue) (topic name : Text) → Bool
is_on topics topic name = unwrap_or (flag_of topics topic name) false

-- with this flag of them
abbrev pub with_pair : (topics : TopicsValue) (topic name : Text) (flag : Bool) → TopicsValue
with_pair topics topic name flag = insert_entry pair_cmp topics (record { topic = topic; name = name }) flag

-- they were named, or there is room for another pair
abbrev pub has_place : (topics : TopicsValue) (topic name : Text) → Bool
has_place topics topic name = is_some (flag_of topics topic name) || nat_lt (length topics) MAX_SUBSCRIPTIONS

-- the flag that the last of the records that name them gave
abbrev pub last_flag : (records : List Record) (topic name : Text) → Option Bool
last_flag records topic name = last_of (filter_map (subscribed_by topic name) records)

-- the pairs have just what the records say of them
pub record TellsTopics (topics : TopicsValue) (records : List Record) : Type 0 where
  pub flags : (topic name : Text) → flag_of topics topic name ≡ last_flag records topic name
  pub count : length topics ≡ length (subscriptions records)
