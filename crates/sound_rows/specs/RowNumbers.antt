-- The numbers in rows.
use Rattle.std.specs.Prelude.{◌≡◌, ◌<◌, ◌≤◌, ◌&&◌, ℕ, List, length, map, slice_index_or, IsTrue}
use Rattle.std.specs.List.{list_all}
use Rattle.relay_types.specs.Values.{is_msg_id, is_body, is_moment, is_name}
use Rattle.relay_types.specs.Rows.{Rows, EndpointRow, DeliveryRow, AttemptRow, TopicRow}
use Rattle.relay_types.specs.Sound.{is_endpoint_row}
use Rattle.sound_rows.specs.declared.numbers.Endpoint.{Endpoint}
use Rattle.sound_rows.specs.declared.numbers.Delivery.{Delivery}
use Rattle.sound_rows.specs.declared.numbers.Attempt.{Attempt}
use Rattle.sound_rows.specs.declared.numbers.Topic.{Topic}
use Rattle.sound_rows.specs.declared.numbers.RowNumbers.{RowNumbers}

-- what is kept of a row
abbrev pub of_endpoint : EndpointRow → Endpoint
of_endpoint e = record { put = e.put; enabled = e.enabled; enabled_by = e.enabled_by; secrets_by = e.secrets_by }

abbrev pub of_delivery : DeliveryRow → Delivery
of_delivery d = record { seq = d.seq; endpoint = d.endpoint }

abbrev pub of_attempt : AttemptRow → Attempt
of_attempt t = record { seq = t.seq; delivery = t.delivery; number = t.number; status = t.status }

abbrev pub of_topic : TopicRow → Topic
of_topic t = record { endpoint = t.endpoint; set_by = t.set_by }

-- what is kept of all rows
pub record Kept : Type 0 where
  pub records : ℕ
  pub endpoints : List Endpoint
  pub deliveries : List Delivery
  pub attempts : List Attempt
  pub topics : List Topic

abbrev pub numbers_of : Rows → Kept
numbers_of rows = record {
  records = rows.records;
  endpoints = map of_endpoint rows.endpoints;
  deliveries = map of_delivery rows.deliveries;
  attempts = map of_attempt rows.attempts;
  topics = map of_topic rows.topics;
}

abbrev pub kept : RowNumbers → Kept
kept numbers = record {
  records = numbers.records;
  endpoints = numbers.endpoints.items;
  deliveries = numbers.deliveries.items;
  attempts = numbers.attempts.items;
  topics = numbers.topics.items;
}

-- these are the numbers of the rows
abbrev pub AreNumbersOf : RowNumbers → Rows → Type 0
AreNumbersOf numbers rows = kept numbers ≡ numbers_of rows

-- what the types of the values in rows give: they keep their rules, and an endpoint has its secrets in their places
pub record AreValues (rows : Rows) : Type 0 where
  pub endpoints : IsTrue (list_all (is_endpoint_row rows) rows.endpoints)
  pub deliveries : IsTrue (list_all (λ d. is_msg_id d.id && (is_body d.body && is_moment d.at)) rows.deliveries)
  pub attempts : IsTrue (list_all (λ t. is_moment t.at) rows.attempts)
  pub topics : IsTrue (list_all (λ t. is_name t.topic) rows.topics)

-- the numbers rise
abbrev pub IsAscending : {X : Type 0} → (number : X → ℕ) → List X → Type 0
IsAscending number xs =
    (i j : ℕ) (d : _) → i < j → j < length xs → number (slice_index_or xs i d) < number (slice_index_or xs j d)

pub record AreAscending (k : Kept) : Type 0 where
  pub deliveries : IsAscending (λ (d : Delivery). d.seq) k.deliveries
  pub attempts : IsAscending (λ (t : Attempt). t.seq) k.attempts
  pub topics : IsAscending (λ (t : Topic). t.set_by) k.topics

-- the first so many have lower numbers, and those behind them don't
abbrev pub FirstBelow : {X : Type 0} → (number : X → ℕ) → (place seq : ℕ) → List X → Type 0
FirstBelow number place seq xs = (k : ℕ) (d : _) → k < place → number (slice_index_or xs k d) < seq

abbrev pub RestFrom : {X : Type 0} → (number : X → ℕ) → (place seq : ℕ) → List X → Type 0
RestFrom number place seq xs = (k : ℕ) (d : _) → place ≤ k → k < length xs → seq ≤ number (slice_index_or xs k d)
