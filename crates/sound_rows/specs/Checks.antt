-- The conditions on rows that speak of numbers alone, asked of the numbers.
use Rattle.std.specs.Prelude.{ℕ, ◌+◌, Bool, false, ◌&&◌, ◌||◌, ◌==◌, not, nat_le, nat_lt, List, length, filter}
use Rattle.std.specs.Prelude.{count_by, if◌then◌else◌}
use Rattle.std.specs.List.{list_any, list_all}
use Rattle.relay_types.specs.declared.limits.TheConstants.{MAX_ENDPOINTS, MAX_FAILURES, MAX_RECORDS, MAX_SUBSCRIPTIONS}
use Rattle.relay_types.specs.Judging.{is_delivered_status, is_gone_status, is_failed_status}
use Rattle.relay_types.specs.Legal.{is_status}
use Rattle.sound_rows.specs.declared.numbers.Endpoint.{Endpoint}
use Rattle.sound_rows.specs.declared.numbers.Attempt.{Attempt}
use Rattle.sound_rows.specs.RowNumbers.{Kept}
use Rattle.sound_rows.specs.declared.turns.Progress.{Progress}

abbrev pub are_below : Kept → Bool
are_below k =
    nat_le k.records MAX_RECORDS
    && (list_all (λ e. nat_lt e.put k.records && (nat_lt e.enabled_by k.records && nat_lt e.secrets_by k.records))
    k.endpoints
    && (list_all (λ d. nat_lt d.seq k.records) k.deliveries
    && (list_all (λ t. nat_lt t.seq k.records) k.attempts && list_all (λ t. nat_lt t.set_by k.records) k.topics)))

-- whether a Put, an Accept, an Outcome, the record of a topic, or one of these four stands at this number
abbrev pub is_put : Kept → ℕ → Bool
is_put k n = list_any (λ e. e.put == n) k.endpoints

abbrev pub is_delivery : Kept → ℕ → Bool
is_delivery k n = list_any (λ d. d.seq == n) k.deliveries

abbrev pub is_attempt : Kept → ℕ → Bool
is_attempt k n = list_any (λ t. t.seq == n) k.attempts

abbrev pub is_topic : Kept → ℕ → Bool
is_topic k n = list_any (λ t. t.set_by == n) k.topics

abbrev pub is_taken : Kept → ℕ → Bool
is_taken k n = is_put k n || (is_delivery k n || (is_attempt k n || is_topic k n))

abbrev pub are_puts_apart : Kept → Bool
are_puts_apart k = list_all (λ e. not (is_delivery k e.put || (is_attempt k e.put || is_topic k e.put))) k.endpoints

abbrev pub are_deliveries_apart : Kept → Bool
are_deliveries_apart k = list_all (λ d. not (is_attempt k d.seq || is_topic k d.seq)) k.deliveries

abbrev pub are_attempts_apart : Kept → Bool
are_attempts_apart k = list_all (λ t. not (is_topic k t.seq)) k.attempts

abbrev pub are_apart : Kept → Bool
are_apart k = are_puts_apart k && (are_deliveries_apart k && are_attempts_apart k)

abbrev pub is_secrets_place : Kept → Endpoint → Bool
is_secrets_place k e =
    e.secrets_by == e.put
    || (nat_lt e.put e.secrets_by && (not (is_taken k e.secrets_by)
    && (not (list_any (λ f. f.secrets_by == e.secrets_by && not (f.put == e.put)) k.endpoints)
    && not (list_any (λ f. f.enabled_by == e.secrets_by) k.endpoints))))

abbrev pub is_gone_attempt : Kept → Endpoint → Attempt → Bool
is_gone_attempt k e t =
    is_gone_status t.status && list_any (λ d. d.seq == t.delivery && d.endpoint == e.put) k.deliveries

-- a later record that isn't in the rows, and gave nothing to another endpoint and no secrets
abbrev pub is_flag_command : Kept → Endpoint → Bool
is_flag_command k e =
    nat_lt e.put e.enabled_by && (not (is_taken k e.enabled_by)
    && (not (list_any (λ f. f.enabled_by == e.enabled_by && not (f.put == e.put)) k.endpoints)
    && not (list_any (λ f. f.secrets_by == e.enabled_by) k.endpoints)))

abbrev pub is_flag_given : Kept → Endpoint → Bool
is_flag_given k e =
    e.enabled_by == e.put && e.enabled
    || (list_any (λ t. t.seq == e.enabled_by && is_gone_attempt k e t) k.attempts && not e.enabled
    || is_flag_command k e)

-- whether the attempt was answered gone behind the record that gave its endpoint its flag
abbrev pub is_overlooked : Kept → Attempt → Bool
is_overlooked k t = list_any (λ e. nat_lt e.enabled_by t.seq && is_gone_attempt k e t) k.endpoints

abbrev pub are_flag_places : Kept → Bool
are_flag_places k = list_all (is_flag_given k) k.endpoints && not (list_any (is_overlooked k) k.attempts)

abbrev pub are_behind : Kept → Bool
are_behind k = list_all (λ d. nat_lt d.endpoint d.seq) k.deliveries

abbrev pub are_topics_placed : Kept → Bool
are_topics_placed k =
    nat_le (length k.topics) MAX_SUBSCRIPTIONS && list_all (λ t. nat_lt t.endpoint t.set_by) k.topics

-- the attempts at the same event before this one
abbrev pub before : List Attempt → Attempt → List Attempt
before ts t = filter (λ s. s.delivery == t.delivery) (filter (λ s. nat_lt s.seq t.seq) ts)

-- what came of an event by these attempts
abbrev pub progress_of : List Attempt → Progress
progress_of ts = record {
  attempts = length ts;
  failures = count_by (λ s. is_failed_status s.status) ts;
  is_delivered = list_any (λ s. is_delivered_status s.status) ts;
}

abbrev pub no_progress : Progress
no_progress = record { attempts = 0; failures = 0; is_delivered = false }

-- whether the attempt may come next
abbrev pub may_come : Progress → Attempt → Bool
may_come p t =
    nat_lt t.delivery t.seq
    && (t.number == p.attempts + 1
    && (is_status t.status && (not p.is_delivered && nat_lt p.failures MAX_FAILURES)))

abbrev pub after_status : Progress → (status : ℕ) → Progress
after_status p status = record {
  attempts = p.attempts + 1;
  failures = p.failures + (if is_failed_status status then 1 else 0);
  is_delivered = p.is_delivered || is_delivered_status status;
}

abbrev pub is_turn : List Attempt → Attempt → Bool
is_turn ts t = may_come (progress_of (before ts t)) t

-- what is asked without going through the attempts of each event
abbrev pub have_places : Kept → Bool
have_places k =
    are_apart k
    && (nat_le (length k.endpoints) MAX_ENDPOINTS
    && (list_all (is_secrets_place k) k.endpoints && (are_flag_places k && (are_behind k && are_topics_placed k))))

-- all that is asked
abbrev pub are_numbers_sound : Kept → Bool
are_numbers_sound k =
    are_below k && (have_places k && list_all (is_turn k.attempts) k.attempts)
