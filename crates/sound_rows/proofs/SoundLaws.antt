-- What is asked of rows, and what of their numbers.
use Rattle.std.proofs.Common.{◌≡◌, ℕ, ◌+◌, ◌==◌, Bool, true, false, Result, Ok, Err, IfOk, ◌&&◌, ◌||◌, List, [], ◌∷◌}
use Rattle.std.proofs.Common.{length, map, refl, sym, ap, ◌∙◌, cond}
use Rattle.std.specs.Prelude.{not, nat_le, nat_lt, filter, count_by}
use Rattle.std.specs.List.{list_any, list_all}
use Rattle.std.proofs.lemmas.List.{length-map}
use Rattle.std.proofs.lemmas.List.Folds.{fold-map, list_all-map}
use Rattle.relay_types.specs.declared.limits.TheConstants.{MAX_ENDPOINTS, MAX_FAILURES, MAX_RECORDS, MAX_SUBSCRIPTIONS}
use Rattle.relay_types.specs.Values.{is_msg_id, is_body, is_moment, is_name}
use Rattle.relay_types.specs.Judging.{is_delivered_status, is_gone_status, is_failed_status}
use Rattle.relay_types.specs.Legal.{is_status}
use Rattle.relay_types.specs.Rows.{Rows, EndpointRow, DeliveryRow, AttemptRow, TopicRow}
use Rattle.relay_types.specs.Sound as rows
use Rattle.relay_types.proofs.KnownLaws.{and_first, and_second}
use Rattle.relay_types.proofs.FilterLaws.{rising_map}
use Rattle.sound_rows.specs.declared.numbers.Endpoint.{Endpoint}
use Rattle.sound_rows.specs.declared.numbers.Delivery.{Delivery}
use Rattle.sound_rows.specs.declared.numbers.Attempt.{Attempt}
use Rattle.sound_rows.specs.declared.numbers.Topic.{Topic}
use Rattle.sound_rows.specs.declared.numbers.RowNumbers.{RowNumbers}
use Rattle.sound_rows.specs.RowNumbers.{Kept, numbers_of, of_endpoint, of_delivery, of_attempt, of_topic, AreAscending}
use Rattle.sound_rows.specs.RowNumbers.{AreNumbersOf, AreValues}
use Rattle.sound_rows.specs.Checks.{are_below, is_put, is_delivery, is_attempt, is_topic, is_taken, are_apart}
use Rattle.sound_rows.specs.Checks.{is_secrets_place, is_gone_attempt, is_flag_given, are_flag_places, are_behind}
use Rattle.sound_rows.specs.Checks.{are_topics_placed, before, is_turn, are_numbers_sound}
use Rattle.sound_rows.proofs.SearchLaws.{rising_ascends}

-- Lists that are mapped

any_map : {X Y : Type 0} (f : X → Y) (test : Y → Bool) (xs : List X)
    → list_any test (map f xs) ≡ list_any (λ x. test (f x)) xs
any_map f test [] = refl
any_map f test (x ∷ xs) = ap (λ b. test (f x) || b) (any_map f test xs)

filter_map : {X Y : Type 0} (f : X → Y) (test : Y → Bool) (xs : List X)
    → filter test (map f xs) ≡ map f (filter (λ x. test (f x)) xs)
filter_map f test [] = refl
filter_map {X} {Y} f test (x ∷ xs) = at (test (f x)) (filter_map f test xs)
  where
    at : (b : Bool) → filter test (map f xs) ≡ map f (filter (λ y. test (f y)) xs)
        → cond b (f x ∷ filter test (map f xs)) (filter test (map f xs)) ≡ map f
        (cond b (x ∷ filter (λ y. test (f y)) xs) (filter (λ y. test (f y)) xs))
    at true rest = ap (λ ys. f x ∷ ys) rest
    at false rest = rest

count_map : {X Y : Type 0} (f : X → Y) (test : Y → Bool) (xs : List X)
    → count_by test (map f xs) ≡ count_by (λ x. test (f x)) xs
count_map f test xs = fold-map (λ n y. n + cond (test y) 1 0) f 0 xs

-- two tests tell the same of a list whose elements pass a third, where these two tell the same of what passes it
all_same : {X : Type 0} (p q r : X → Bool) (xs : List X) → list_all q xs ≡ true → ((x : X) → q x ≡ true → p x ≡ r x)
    → list_all p xs ≡ list_all r xs
all_same p q r [] h same = refl
all_same p q r (x ∷ xs) h same = λ i. same x (and_first (q x) (list_all q xs) h) i
    && all_same p q r xs (and_second (q x) (list_all q xs) h) same i

-- what is asked of each of some, and of no pair of one of them with one of others

any_or : {X : Type 0} (p q : X → Bool) (xs : List X) → (list_any p xs || list_any q xs) ≡ list_any (λ x. p x || q x) xs
any_or p q [] = refl
any_or {X} p q (x ∷ xs) = at (p x) (q x) (list_any p xs) (list_any q xs) ∙ ap (λ b. (p x || q x) || b) (any_or p q xs)
  where
    at : (a b c d : Bool) → (a || c) || (b || d) ≡ (a || b) || (c || d)
    at true b c d = refl
    at false true true d = refl
    at false true false d = refl
    at false false c d = refl

any_swap : {X Y : Type 0} (test : X → Y → Bool) (xs : List X) (ys : List Y)
    → list_any (λ x. list_any (test x) ys) xs ≡ list_any (λ y. list_any (λ x. test x y) xs) ys
any_swap test [] [] = refl
any_swap test [] (y ∷ ys) = any_swap test [] ys
any_swap test (x ∷ xs) ys = ap (λ b. list_any (test x) ys || b) (any_swap test xs ys)
    ∙ any_or (test x) (λ y. list_any (λ x. test x y) xs) ys

all_not : {X : Type 0} (p q : X → Bool) (xs : List X) → list_all p xs && not (list_any q xs) ≡ list_all
    (λ x. p x && not (q x)) xs
all_not p q [] = refl
all_not {X} p q (x ∷ xs) = at (p x) (q x) (list_all p xs) (list_any q xs) ∙ ap (λ b. (p x && not (q x)) && b)
    (all_not p q xs)
  where
    at : (a b c d : Bool) → (a && c) && not (b || d) ≡ (a && not b) && (c && not d)
    at false b c d = refl
    at true true true d = refl
    at true true false d = refl
    at true false c d = refl

-- what is asked of the flag of one endpoint
abbrev is_flag_place : Kept → Endpoint → Bool
is_flag_place k e = is_flag_given k e
    && not (list_any (λ t. nat_lt e.enabled_by t.seq && is_gone_attempt k e t) k.attempts)

flag_places : (k : Kept) → are_flag_places k ≡ list_all (is_flag_place k) k.endpoints
flag_places k = ap (λ b. list_all (is_flag_given k) k.endpoints && not b)
    (sym (any_swap (λ (e : Endpoint) (t : Attempt). nat_lt e.enabled_by t.seq && is_gone_attempt k e t) k.endpoints
    k.attempts))
    ∙ all_not (is_flag_given k) (λ e. list_any (λ t. nat_lt e.enabled_by t.seq && is_gone_attempt k e t) k.attempts)
    k.endpoints

-- Each condition

module _ (all : Rows) where
  put_same : (n : ℕ) → is_put (numbers_of all) n ≡ rows.is_put_at all n
  put_same n = any_map of_endpoint (λ e. e.put == n) all.endpoints

  delivery_same : (n : ℕ) → is_delivery (numbers_of all) n ≡ rows.is_delivery_at all n
  delivery_same n = any_map of_delivery (λ d. d.seq == n) all.deliveries

  attempt_same : (n : ℕ) → is_attempt (numbers_of all) n ≡ rows.is_attempt_at all n
  attempt_same n = any_map of_attempt (λ t. t.seq == n) all.attempts

  topic_same : (n : ℕ) → is_topic (numbers_of all) n ≡ rows.is_topic_at all n
  topic_same n = any_map of_topic (λ t. t.set_by == n) all.topics

  taken_same : (n : ℕ) → is_taken (numbers_of all) n ≡ rows.is_taken all n
  taken_same n = λ i. put_same n i || (delivery_same n i || (attempt_same n i || topic_same n i))

  below_same : are_below (numbers_of all) ≡ rows.are_numbers_below all
  below_same = λ i.
      nat_le all.records MAX_RECORDS
      && (list_all-map (λ (e : Endpoint). nat_lt e.put all.records
      && (nat_lt e.enabled_by all.records && nat_lt e.secrets_by all.records)) of_endpoint all.endpoints i
      && (list_all-map (λ (d : Delivery). nat_lt d.seq all.records) of_delivery all.deliveries i
      && (list_all-map (λ (t : Attempt). nat_lt t.seq all.records) of_attempt all.attempts i
      && list_all-map (λ (t : Topic). nat_lt t.set_by all.records) of_topic all.topics i)))

  apart_same : are_apart (numbers_of all) ≡ rows.are_numbers_apart all
  apart_same = λ i. endpoints i && (deliveries i && attempts i)
    where
      endpoints : list_all (λ (e : Endpoint). not
          (is_delivery (numbers_of all) e.put
          || (is_attempt (numbers_of all) e.put || is_topic (numbers_of all) e.put))) (map of_endpoint all.endpoints)
          ≡ list_all (λ (e : EndpointRow). not
          (rows.is_delivery_at all e.put || (rows.is_attempt_at all e.put || rows.is_topic_at all e.put)))
          all.endpoints
      endpoints = list_all-map
          (λ (e : Endpoint). not
          (is_delivery (numbers_of all) e.put
          || (is_attempt (numbers_of all) e.put || is_topic (numbers_of all) e.put))) of_endpoint all.endpoints
          ∙ ap (λ f. list_all f all.endpoints)
          (λ i e. not (delivery_same e.put i || (attempt_same e.put i || topic_same e.put i)))

      deliveries : list_all
          (λ (d : Delivery). not (is_attempt (numbers_of all) d.seq || is_topic (numbers_of all) d.seq))
          (map of_delivery all.deliveries)
          ≡ list_all (λ (d : DeliveryRow). not (rows.is_attempt_at all d.seq || rows.is_topic_at all d.seq))
          all.deliveries
      deliveries = list_all-map
          (λ (d : Delivery). not (is_attempt (numbers_of all) d.seq || is_topic (numbers_of all) d.seq)) of_delivery
          all.deliveries
          ∙ ap (λ f. list_all f all.deliveries) (λ i d. not (attempt_same d.seq i || topic_same d.seq i))

      attempts : list_all (λ (t : Attempt). not (is_topic (numbers_of all) t.seq)) (map of_attempt all.attempts)
          ≡ list_all (λ (t : AttemptRow). not (rows.is_topic_at all t.seq)) all.attempts
      attempts = list_all-map (λ (t : Attempt). not (is_topic (numbers_of all) t.seq)) of_attempt all.attempts
          ∙ ap (λ f. list_all f all.attempts) (λ i t. not (topic_same t.seq i))

  endpoint_any : (test : Endpoint → Bool) → list_any test (map of_endpoint all.endpoints) ≡ list_any
      (λ e. test (of_endpoint e)) all.endpoints
  endpoint_any test = any_map of_endpoint test all.endpoints

  secrets_same : (e : EndpointRow) → is_secrets_place (numbers_of all) (of_endpoint e) ≡ rows.is_secrets_place all e
  secrets_same e = λ i.
      e.secrets_by == e.put
      || (nat_lt e.put e.secrets_by && (not (taken_same e.secrets_by i)
      && (not (endpoint_any (λ f. f.secrets_by == e.secrets_by && not (f.put == e.put)) i)
      && not (endpoint_any (λ f. f.enabled_by == e.secrets_by) i))))

  gone_same : (e : EndpointRow) (t : AttemptRow) → is_gone_attempt (numbers_of all) (of_endpoint e) (of_attempt t)
      ≡ rows.is_gone_attempt_of all e t
  gone_same e t = λ i. is_gone_status t.status && any_map of_delivery (λ d. d.seq == t.delivery && d.endpoint == e.put)
      all.deliveries i

  gone_any : (e : EndpointRow) (test : ℕ → Bool)
      → list_any (λ (t : Attempt). test t.seq && is_gone_attempt (numbers_of all) (of_endpoint e) t)
      (map of_attempt all.attempts)
      ≡ list_any (λ (t : AttemptRow). test t.seq && rows.is_gone_attempt_of all e t) all.attempts
  gone_any e test = any_map of_attempt (λ (t : Attempt). test t.seq && is_gone_attempt (numbers_of all)
      (of_endpoint e) t) all.attempts
      ∙ ap (λ f. list_any f all.attempts) (λ i t. test t.seq && gone_same e t i)

  flag_same : (e : EndpointRow) → is_flag_place (numbers_of all) (of_endpoint e) ≡ rows.is_flag_place all e
  flag_same e = λ i.
      (e.enabled_by == e.put && e.enabled
      || (gone_any e (λ n. n == e.enabled_by) i && not e.enabled
      || (nat_lt e.put e.enabled_by && (not (taken_same e.enabled_by i)
      && (not (endpoint_any (λ f. f.enabled_by == e.enabled_by && not (f.put == e.put)) i)
      && not (endpoint_any (λ f. f.secrets_by == e.enabled_by) i))))))
      && not (gone_any e (λ n. nat_lt e.enabled_by n) i)

  endpoints_all : (p : Endpoint → Bool) (q : EndpointRow → Bool) → ((e : EndpointRow) → p (of_endpoint e) ≡ q e)
      → list_all p (map of_endpoint all.endpoints) ≡ list_all q all.endpoints
  endpoints_all p q same = list_all-map p of_endpoint all.endpoints ∙ ap (λ f. list_all f all.endpoints)
      (λ i e. same e i)

  few_same : AreValues all → nat_le (length (map of_endpoint all.endpoints)) MAX_ENDPOINTS ≡ rows.are_endpoint_rows all
  few_same values = ap (λ n. nat_le n MAX_ENDPOINTS) (length-map all.endpoints of_endpoint)
      ∙ sym (and_true (nat_le (length all.endpoints) MAX_ENDPOINTS))
      ∙ ap (λ b. nat_le (length all.endpoints) MAX_ENDPOINTS && b) (sym values.endpoints)
    where
      and_true : (b : Bool) → b && true ≡ b
      and_true true = refl
      and_true false = refl

  behind_same : AreValues all → are_behind (numbers_of all) ≡ list_all rows.is_delivery_row all.deliveries
  behind_same values = list_all-map (λ (d : Delivery). nat_lt d.endpoint d.seq) of_delivery all.deliveries
      ∙ all_same (λ (d : DeliveryRow). nat_lt d.endpoint d.seq)
      (λ d. is_msg_id d.id && (is_body d.body && is_moment d.at)) rows.is_delivery_row all.deliveries
      values.deliveries (λ d h. sym (and_true (nat_lt d.endpoint d.seq)) ∙ ap (λ b. nat_lt d.endpoint d.seq && b)
      (sym h))
    where
      and_true : (b : Bool) → b && true ≡ b
      and_true true = refl
      and_true false = refl

  topics_same : AreValues all → are_topics_placed (numbers_of all) ≡ rows.are_topic_rows all
  topics_same values = λ i. nat_le (length-map all.topics of_topic i) MAX_SUBSCRIPTIONS && placed i
    where
      placed : list_all (λ (t : Topic). nat_lt t.endpoint t.set_by) (map of_topic all.topics)
          ≡ list_all rows.is_topic_row all.topics
      placed = list_all-map (λ (t : Topic). nat_lt t.endpoint t.set_by) of_topic all.topics
          ∙ all_same (λ (t : TopicRow). nat_lt t.endpoint t.set_by) (λ t. is_name t.topic) rows.is_topic_row all.topics
          values.topics (λ t h. ap (λ b. b && nat_lt t.endpoint t.set_by) (sym h))

  -- Attempts

  before_same : (t : AttemptRow) → before (map of_attempt all.attempts) (of_attempt t) ≡ map of_attempt
      (rows.attempts_before all t)
  before_same t = ap (filter (λ (s : Attempt). s.delivery == t.delivery))
      (filter_map of_attempt (λ s. nat_lt s.seq t.seq) all.attempts)
      ∙ filter_map of_attempt (λ s. s.delivery == t.delivery)
      (filter (λ (s : AttemptRow). nat_lt s.seq t.seq) all.attempts)

  turn_same : (t : AttemptRow) → is_moment t.at ≡ true → is_turn (map of_attempt all.attempts) (of_attempt t)
      ≡ rows.is_attempt_row all t
  turn_same t moment = λ i.
      nat_lt t.delivery t.seq
      && (t.number == count i + 1
      && (is_status t.status && with_moment (not (delivered i) && nat_lt (failures i) MAX_FAILURES) i))
    where
      count : length (before (map of_attempt all.attempts) (of_attempt t)) ≡ length (rows.attempts_before all t)
      count = ap length (before_same t) ∙ length-map (rows.attempts_before all t) of_attempt

      delivered : list_any (λ (s : Attempt). is_delivered_status s.status)
          (before (map of_attempt all.attempts) (of_attempt t)) ≡ list_any
          (λ (s : AttemptRow). is_delivered_status s.status) (rows.attempts_before all t)
      delivered = ap (list_any (λ (s : Attempt). is_delivered_status s.status)) (before_same t)
          ∙ any_map of_attempt (λ s. is_delivered_status s.status) (rows.attempts_before all t)

      failures : count_by (λ (s : Attempt). is_failed_status s.status)
          (before (map of_attempt all.attempts) (of_attempt t)) ≡ count_by
          (λ (s : AttemptRow). is_failed_status s.status) (rows.attempts_before all t)
      failures = ap (count_by (λ (s : Attempt). is_failed_status s.status)) (before_same t)
          ∙ count_map of_attempt (λ s. is_failed_status s.status) (rows.attempts_before all t)

      with_moment : (b : Bool) → b ≡ is_moment t.at && b
      with_moment b = ap (λ m. m && b) (sym moment)

  turns_same : AreValues all → list_all (is_turn (map of_attempt all.attempts)) (map of_attempt all.attempts) ≡ list_all
      (rows.is_attempt_row all) all.attempts
  turns_same values = list_all-map (is_turn (map of_attempt all.attempts)) of_attempt all.attempts
      ∙ all_same (λ (t : AttemptRow). is_turn (map of_attempt all.attempts) (of_attempt t)) (λ t. is_moment t.at)
      (rows.is_attempt_row all) all.attempts values.attempts turn_same

  -- All of them

  pub sound_same : AreValues all → are_numbers_sound (numbers_of all) ≡ rows.are_sound all
  sound_same values = (λ i.
      below_same i
      && ((apart_same i && (few_same values i
      && (endpoints_all (is_secrets_place (numbers_of all)) (rows.is_secrets_place all) secrets_same i
      && ((flag_places (numbers_of all) ∙ endpoints_all (is_flag_place (numbers_of all)) (rows.is_flag_place all)
      flag_same) i && (behind_same values i && topics_same values i)))))
      && turns_same values i))
      ∙ ap (λ b. rows.are_numbers_below all && b) (regroup (rows.are_numbers_apart all) (rows.are_endpoint_rows all)
      (list_all (rows.is_secrets_place all) all.endpoints) (list_all (rows.is_flag_place all) all.endpoints)
      (list_all rows.is_delivery_row all.deliveries) (rows.are_topic_rows all)
      (list_all (rows.is_attempt_row all) all.attempts))
    where
      regroup : (a b c d e t r : Bool) → (a && (b && (c && (d && (e && t))))) && r ≡ a
          && (b && (c && (d && (e && (r && t)))))
      regroup false b c d e t r = refl
      regroup true false c d e t r = refl
      regroup true true false d e t r = refl
      regroup true true true false e t r = refl
      regroup true true true true false t r = refl
      regroup true true true true true true true = refl
      regroup true true true true true true false = refl
      regroup true true true true true false true = refl
      regroup true true true true true false false = refl

  pub keyed_ascends : rows.AreKeyed all → AreAscending (numbers_of all)
  keyed_ascends keyed = record {
    deliveries = rising_ascends (λ (d : Delivery). d.seq) 0 (map of_delivery all.deliveries)
        (rising_map of_delivery (λ (d : Delivery). d.seq) 0 all.deliveries keyed.deliveries_rise);
    attempts = rising_ascends (λ (t : Attempt). t.seq) 0 (map of_attempt all.attempts)
        (rising_map of_attempt (λ (t : Attempt). t.seq) 0 all.attempts keyed.attempts_rise);
    topics = rising_ascends (λ (t : Topic). t.set_by) 0 (map of_topic all.topics)
        (rising_map of_topic (λ (t : Topic). t.set_by) 0 all.topics keyed.topics_rise);
  }

-- what is answered of the numbers is so of all rows that have them
pub told_of_rows : {E : Type 0} (numbers : RowNumbers) (r : Result Bool E) (x : Bool) → IfOk r (λ answer. answer ≡ x)
    → ((all : Rows) → AreNumbersOf numbers all → rows.AreKeyed all → AreValues all → x ≡ rows.are_sound all)
    → IfOk r (λ answer. (all : Rows) → AreNumbersOf numbers all → rows.AreKeyed all → AreValues all
    → answer ≡ rows.are_sound all)
told_of_rows numbers (Err e) x is told = tt
told_of_rows numbers (Ok answer) x is told = λ all same keyed values. is ∙ told all same keyed values
