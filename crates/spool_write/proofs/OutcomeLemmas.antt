-- What the look-ups of an event tell of the Outcome that may follow.
use Rattle.std.proofs.Common.{◌≡◌, ◌<◌, ◌≤◌, ◌==◌, ℕ, zero, suc, ◌+◌, Bool, true, false, ◌&&◌, ◌||◌, not, nat_lt}
use Rattle.std.proofs.Common.{nat_le, min, cond, List, [], ◌∷◌, map, length, Option, Some, None, refl, sym, ap, subst}
use Rattle.std.proofs.Common.{◌∙◌, arith}
use Rattle.std.specs.Prelude.{slice_get, is_some, filter, filter_map, count_by, option_map, option_and_then}
use Rattle.std.specs.Prelude.{if◌then◌else◌}
use Rattle.std.specs.Option.{option_map_or}
use Rattle.std.specs.List.{enumerate_from, cons_option, list_any}
use Rattle.std.specs.List.Sorted.{IsPermutation}
use Rattle.std.proofs.Math.Nat.{min-eq_left, min-eq_right}
use Rattle.std.proofs.lemmas.List.{length-map}
use Rattle.std.proofs.lemmas.List.Sums.{length-filter}
use Rattle.std.proofs.lemmas.List.Sorted.{length_permutation, sum_by-IsPermutation, list_any-IsPermutation}
use Rattle.std.proofs.lemmas.Bool.{lt-ltb, le-ltb, leb-true, leb-false, ltb-true, ltb-false, ne_eqb, eq-eqb}
use Rattle.relay_types.specs.declared.limits.TheConstants.{MAX_FAILURES}
use Rattle.relay_types.specs.declared.record.Record.{Record}
use Rattle.relay_types.specs.declared.record.Record.TheVariants.{Accept, Outcome}
use Rattle.relay_types.specs.Judging.{is_delivered_status, is_failed_status}
use Rattle.relay_types.specs.Records.{Accepted, Attempt, accepted_by, attempt_by, numbered}
use Rattle.relay_types.specs.Deliveries.{accept_at, accepted, attempts_of, is_purged, failures_of, is_delivered}
use Rattle.relay_types.specs.Deliveries.{state_of, is_in_state, is_pending}
use Rattle.relay_types.specs.declared.state.State.TheVariants.{Pending, Delivered, Exhausted}
use Rattle.relay_types.specs.Legal.{is_status}
use Rattle.relay_types.specs.Rows.{DeliveryRow, AttemptRow, delivery_row, attempt_row, put_of, put_by_delivery, rows_of}
use Rattle.relay_types.proofs.KnownLaws.{and_first, below_if_accepted, there_if}
use Rattle.relay_types.proofs.PurgeLaws.{left_of, unpurged_if}
use Rattle.spool_sql.specs.Stored.{IsEndpointOf, AreStatusesOf}
use Rattle.spool_write.specs.Entering.{are_pending, may_be_next, may_attempt, attempting}
use Rattle.spool_write.proofs.PurgeLemmas.{none_of}
use Rattle.spool_write.proofs.RowLemmas.{answer-none, answer-some, find_is_first, same_if_short}

-- ---- the event with a number

module _ (all : List Record) (seq : ℕ) where
  abbrev rows_from : ℕ → List Record → List DeliveryRow
  rows_from n some = filter (λ (r : DeliveryRow). r.seq == seq) (filter_map (delivery_row all) (enumerate_from n some))

  abbrev endpoint_in : DeliveryRow → ℕ
  endpoint_in r = r.endpoint

  none_behind : (n : ℕ) (some : List Record) → seq < n → rows_from n some ≡ []
  none_behind n [] h = refl
  none_behind n (Accept name id body at ∷ rest) h =
      ap (λ b. cond b (record { seq = n; endpoint = put_of all name; id = id; at = at; body = body } ∷ rows_from
      (n + 1) rest) (rows_from (n + 1) rest)) (ne_eqb n seq (λ same. omega (arith, same, h)))
      ∙ none_behind (n + 1) rest (omega (arith, h))
  none_behind n (entry ∷ rest) h = none_behind (n + 1) rest (omega (arith, h))

  one_at_most : (n d : ℕ) (some : List Record) → seq ≡ n + d → map endpoint_in (rows_from n some)
      ≡ cons_option
      (option_map (λ (a : Accepted). put_of all a.endpoint) (option_and_then accepted_by (slice_get some d))) []
  one_at_most n d [] is = refl
  one_at_most n zero (Accept name id body at ∷ rest) is =
      ap (λ b. map endpoint_in (cond b (record { seq = n; endpoint = put_of all name; id = id; at = at; body = body }
      ∷ rows_from (n + 1) rest) (rows_from (n + 1) rest))) (eq-eqb n seq (omega (arith, is)))
      ∙ ap (λ rows. put_of all name ∷ map endpoint_in rows) (none_behind (n + 1) rest (omega (arith, is)))
  one_at_most n zero (entry ∷ rest) is = ap (map endpoint_in) (none_behind (n + 1) rest (omega (arith, is)))
  one_at_most n (suc d) (Accept name id body at ∷ rest) is =
      ap (λ b. map endpoint_in (cond b (record { seq = n; endpoint = put_of all name; id = id; at = at; body = body }
      ∷ rows_from (n + 1) rest) (rows_from (n + 1) rest))) (ne_eqb n seq (λ same. omega (arith, same, is)))
      ∙ one_at_most (n + 1) d rest (omega (arith, is))
  one_at_most n (suc d) (entry ∷ rest) is = one_at_most (n + 1) d rest (omega (arith, is))

-- the number of the Put of the event's endpoint
abbrev endpoint_put : List Record → ℕ → Option ℕ
endpoint_put records d = option_map (λ (a : Accepted). put_of records a.endpoint) (accepted records d)

endpoints_of_event : (records : List Record) (d : ℕ)
    → map (λ (r : DeliveryRow). r.endpoint) (filter (λ (r : DeliveryRow). r.seq == d) (rows_of records).deliveries)
    ≡ cons_option (endpoint_put records d) []
endpoints_of_event records d = at (is_purged records d) refl
  where
    all : List DeliveryRow
    all = filter_map (delivery_row records) (numbered records)

    put : Option Accepted → Option ℕ
    put o = option_map (λ (a : Accepted). put_of records a.endpoint) o

    at : (b : Bool) → is_purged records d ≡ b
        → map (λ (r : DeliveryRow). r.endpoint) (filter (λ (r : DeliveryRow). r.seq == d)
        (filter (λ (r : DeliveryRow). not (is_purged records r.seq)) all))
        ≡ cons_option (put (if b then None else accept_at records d)) []
    at true gone =
        ap (map (λ (r : DeliveryRow). r.endpoint)) (none_of (λ (r : DeliveryRow). r.seq) (is_purged records) d all gone)
    at false left =
        ap (map (λ (r : DeliveryRow). r.endpoint)) (left_of (λ (r : DeliveryRow). r.seq) (is_purged records) d all left)
        ∙ one_at_most records d 0 d records (omega arith)

short : (o : Option ℕ) → length (cons_option o []) ≤ 1
short None = omega arith
short (Some x) = omega arith

first_is : (o : Option ℕ) → slice_get (cons_option o []) 0 ≡ o
first_is None = refl
first_is (Some x) = refl

found_endpoint : (records : List Record) (d : ℕ) (found : Option ℕ) → IsEndpointOf d (rows_of records) found
    → found ≡ endpoint_put records d
found_endpoint records d found h =
    let all = endpoints_of_event records d in
    h.2
    ∙ ap (λ puts. slice_get puts 0) (same_if_short (cons_option (endpoint_put records d) []) h.0
    (short (endpoint_put records d)) (subst (λ xs. IsPermutation xs h.0) all h.1))
    ∙ first_is (endpoint_put records d)

-- the table of changes finds the same one
put_by_delivery-is : (records : List Record) (d : ℕ) → put_by_delivery (rows_of records) d ≡ option_map_or (λ put. put)
    (endpoint_put records d) 0
put_by_delivery-is records d =
    ap (λ o. option_map_or (λ (r : DeliveryRow). r.endpoint) o 0)
    (find_is_first (λ (r : DeliveryRow). r.seq == d) (rows_of records).deliveries)
    ∙ at (filter (λ (r : DeliveryRow). r.seq == d) (rows_of records).deliveries)
    ∙ ap (λ puts. option_map_or (λ put. put) (slice_get puts 0) 0) (endpoints_of_event records d)
    ∙ ap (λ o. option_map_or (λ put. put) o 0) (first_is (endpoint_put records d))
  where
    at : (rows : List DeliveryRow) → option_map_or (λ (r : DeliveryRow). r.endpoint) (slice_get rows 0) 0
        ≡ option_map_or (λ put. put) (slice_get (map (λ (r : DeliveryRow). r.endpoint) rows) 0) 0
    at [] = refl
    at (r ∷ rows) = refl

-- ---- its attempts

abbrev statuses_of : List Attempt → List ℕ
statuses_of attempts = map (λ (a : Attempt). a.status) attempts

abbrev of_row : AttemptRow → ℕ
of_row r = r.status

statuses_in : (d n : ℕ) (some : List Record)
    → map of_row (filter (λ (r : AttemptRow). r.delivery == d) (filter_map attempt_row (enumerate_from n some)))
    ≡ statuses_of (filter_map (attempt_by d) some)
statuses_in d n [] = refl
statuses_in d n (Outcome delivery attempt status at ∷ rest) = by (delivery == d) (statuses_in d (n + 1) rest)
  where
    rows : List AttemptRow
    rows = filter (λ (r : AttemptRow). r.delivery == d) (filter_map attempt_row (enumerate_from (n + 1) rest))

    by : (b : Bool) → map of_row rows ≡ statuses_of (filter_map (attempt_by d) rest)
        → map of_row (cond b (record { seq = n; delivery = delivery; number = attempt; status = status; at = at }
        ∷ rows) rows)
        ≡ statuses_of (cons_option (if b then Some (record { number = attempt; status = status; at = at }) else None)
        (filter_map (attempt_by d) rest))
    by true same = ap (λ more. status ∷ more) same
    by false same = same
statuses_in d n (entry ∷ rest) = statuses_in d (n + 1) rest

any_status : (test : ℕ → Bool) (attempts : List Attempt) → list_any test (statuses_of attempts) ≡ list_any
    (λ (a : Attempt). test a.status) attempts
any_status test [] = refl
any_status test (a ∷ rest) = ap (λ b. test a.status || b) (any_status test rest)

count_status : (test : ℕ → Bool) (attempts : List Attempt) → count_by test (statuses_of attempts) ≡ count_by
    (λ (a : Attempt). test a.status) attempts
count_status test attempts = sym (length-filter test (statuses_of attempts)) ∙ as_many attempts
    ∙ length-filter (λ (a : Attempt). test a.status) attempts
  where
    as_many : (attempts : List Attempt) → length (filter test (statuses_of attempts)) ≡ length
        (filter (λ (a : Attempt). test a.status) attempts)
    as_many [] = refl
    as_many (a ∷ rest) = at (test a.status) (as_many rest)
      where
        at : (b : Bool) → length (filter test (statuses_of rest)) ≡ length
            (filter (λ (x : Attempt). test x.status) rest)
            → length (cond b (a.status ∷ filter test (statuses_of rest)) (filter test (statuses_of rest)))
            ≡ length (cond b (a ∷ filter (λ (x : Attempt). test x.status) rest)
            (filter (λ (x : Attempt). test x.status) rest))
        at true same = ap suc same
        at false same = same

-- fewer than may fail, or not as many
fewer_is : (n : ℕ) → nat_lt n MAX_FAILURES ≡ not (nat_le MAX_FAILURES n)
fewer_is n = at (nat_le MAX_FAILURES n) refl
  where
    at : (b : Bool) → nat_le MAX_FAILURES n ≡ b → nat_lt n MAX_FAILURES ≡ not b
    at true e = le-ltb n MAX_FAILURES (leb-true MAX_FAILURES n e)
    at false e = lt-ltb n MAX_FAILURES (leb-false MAX_FAILURES n e)

pending_state : (delivered exhausted : Bool)
    → is_in_state Pending (if delivered then Delivered else (if exhausted then Exhausted else Pending)) ≡ not delivered
    && not exhausted
pending_state true exhausted = refl
pending_state false true = refl
pending_state false false = refl

are_pending-is : (records : List Record) (d : ℕ) (statuses : List ℕ)
    → IsPermutation (statuses_of (attempts_of records d)) statuses → are_pending statuses ≡ is_in_state Pending
    (state_of records d)
are_pending-is records d statuses same =
    let attempts = attempts_of records d in
    let delivered : list_any is_delivered_status statuses ≡ is_delivered records d =
    sym (list_any-IsPermutation is_delivered_status (statuses_of attempts) statuses same)
    ∙ any_status is_delivered_status attempts in
    let failed : count_by is_failed_status statuses ≡ failures_of records d =
    sum_by-IsPermutation (λ s. cond (is_failed_status s) 1 0) (statuses_of attempts) statuses same
    ∙ count_status is_failed_status attempts in
    (λ i. not (delivered i) && nat_lt (failed i) MAX_FAILURES)
    ∙ ap (λ b. not (is_delivered records d) && b) (fewer_is (failures_of records d))
    ∙ sym (pending_state (is_delivered records d) (nat_le MAX_FAILURES (failures_of records d)))

may_be_next-is : (records : List Record) (d attempt status : ℕ) (statuses : List ℕ)
    → true ≡ is_some (accepted records d) → AreStatusesOf d (rows_of records) statuses
    → may_be_next statuses attempt status ≡ may_attempt records d attempt status
may_be_next-is records d attempt status statuses taken h =
    let left = left_of (λ (r : AttemptRow). r.delivery) (is_purged records) d
    (filter_map attempt_row (numbered records))
    (unpurged_if records d (sym taken)) in
    let same : IsPermutation (statuses_of (attempts_of records d)) statuses =
    subst (λ xs. IsPermutation xs statuses) (ap (map of_row) left ∙ statuses_in d 0 records) h in
    let long : length statuses ≡ length (attempts_of records d) =
    length_permutation (statuses_of (attempts_of records d)) statuses same
    ∙ length-map (attempts_of records d) (λ (a : Attempt). a.status) in
    λ i. (taken i && are_pending-is records d statuses same i) && (attempt == long i + 1 && is_status status)

-- ---- what they tell of an Outcome

none_if_unknown : (o : Option Accepted) (records : List Record)
    → None ≡ option_map (λ (a : Accepted). put_of records a.endpoint) o → false ≡ is_some o
none_if_unknown None records h = refl
none_if_unknown (Some a) records h = absurd (let e = h in cc)

some_if_known : (o : Option Accepted) (records : List Record) (put : ℕ)
    → Some put ≡ option_map (λ (a : Accepted). put_of records a.endpoint) o → true ≡ is_some o
some_if_known None records put h = absurd (let e = h in cc)
some_if_known (Some a) records put h = refl

abbrev attempted : Bool → List Record → ℕ → Option ℕ
attempted b records d = if b then Some (put_by_delivery (rows_of records) d) else None

pub attempting-unknown : (records : List Record) (d attempt status : ℕ) → IsEndpointOf d (rows_of records) None
    → None ≡ attempting records d attempt status
attempting-unknown records d attempt status h =
    ap (λ b. attempted ((b && is_in_state Pending (state_of records d))
    && (attempt == length (attempts_of records d) + 1 && is_status status)) records d)
    (none_if_unknown (accepted records d) records (found_endpoint records d None h))

pub attempting-found : (records : List Record) (d attempt status put : ℕ) (statuses : List ℕ) (allowed : Bool)
    → IsEndpointOf d (rows_of records) (Some put) → AreStatusesOf d (rows_of records) statuses
    → allowed ≡ may_be_next statuses attempt status → (if allowed then Some put else None) ≡ attempting records d
    attempt status
attempting-found records d attempt status put statuses allowed h of is =
    let known = found_endpoint records d (Some put) h in
    let same : put ≡ put_by_delivery (rows_of records) d = ap (λ o. option_map_or (λ p. p) o 0) known
    ∙ sym (put_by_delivery-is records d) in
    let all = is ∙ may_be_next-is records d attempt status statuses
    (some_if_known (accepted records d) records put known) of in
    λ i. if all i then Some (same i) else None

-- ---- a number from the Outcome's own on names no event

below : (records : List Record) (d : ℕ) → is_some (accepted records d) ≡ true → d < length records
below records d known = below_if_accepted records d (there_if records d known)

unnamed : (records : List Record) (d attempt status : ℕ) → length records ≤ d
    → false ≡ may_attempt records d attempt status
unnamed records d attempt status h =
    ap (λ b. (b && is_in_state Pending (state_of records d))
    && (attempt == length (attempts_of records d) + 1 && is_status status)) (at (is_some (accepted records d)) refl)
  where
    at : (b : Bool) → is_some (accepted records d) ≡ b → false ≡ b
    at true e = absurd (omega (arith, h, below records d e))
    at false e = refl

pub attempted-none : (records : List Record) (next delivery attempt status : ℕ) → next ≡ length records
    → None ≡ attempting records (min delivery next) attempt status → false ≡ may_attempt records delivery attempt status
attempted-none records next delivery attempt status is h = at (nat_lt delivery next) refl
  where
    at : (b : Bool) → nat_lt delivery next ≡ b → false ≡ may_attempt records delivery attempt status
    at true e = subst (λ d. false ≡ may_attempt records d attempt status)
        (min-eq_left (omega (arith, ltb-true delivery next e)))
        (answer-none (may_attempt records (min delivery next) attempt status) _ h)
    at false e = unnamed records delivery attempt status (omega (arith, is, ltb-false delivery next e))

-- it is the number that the Outcome has, and the attempt may be recorded
pub attempted-some : (records : List Record) (next delivery attempt status put : ℕ) → next ≡ length records
    → Some put ≡ attempting records (min delivery next) attempt status
    → (min delivery next ≡ delivery)
    × ((true ≡ may_attempt records delivery attempt status) × (put ≡ put_by_delivery (rows_of records) delivery))
attempted-some records next delivery attempt status put is h =
    let named = answer-some (may_attempt records (min delivery next) attempt status) _ put h in
    let same = at (nat_lt delivery next) refl (is_known (sym named.0)) in (
      same,
      subst (λ d. (true ≡ may_attempt records d attempt status) × (put ≡ put_by_delivery (rows_of records) d)) same
          named,
    )
  where
    is_known : may_attempt records (min delivery next) attempt status ≡ true
        → is_some (accepted records (min delivery next)) ≡ true
    is_known may = and_first _ _ (and_first (is_pending records (min delivery next)) _ may)

    at : (b : Bool) → nat_lt delivery next ≡ b → is_some (accepted records (min delivery next)) ≡ true
        → min delivery next ≡ delivery
    at true e known = min-eq_left (omega (arith, ltb-true delivery next e))
    at false e known = absurd
        (omega (arith, is, below records (min delivery next) known, min-eq_right (ltb-false delivery next e)))
