-- The limits and the worlds once an attempt is over.
use Rattle.desk.proofs.Words.{◌≡◌, ℕ, ◌<◌, Bool, true, false, List, [], ◌∷◌, ◌++◌, length, Option, Some, None, refl}
use Rattle.desk.proofs.Words.{sym, ◌∙◌, ap, subst, arith, slice_index_or, slice_set, append-nil, position, bytes_eq}
use Rattle.desk.proofs.Words.{slice_get, is_some, if◌then◌else◌, position_or_len, option_map_or, map-set_same, find_at}
use Rattle.desk.proofs.Words.{find-set, find_past, position-Some, slice_get-get_or, slice_get_past, bytes_eq-Decides}
use Rattle.desk.proofs.Words.{Sample, EstimatorValue, StandsForSamples, sample_of, Row, Limiter, AreSampled, StandsAt}
use Rattle.desk.proofs.Words.{StandsBy, bound_by, is_limiter_of, limiter_of, nat_tests, ◌+◌, map, not, IsTrue, max}
use Rattle.desk.proofs.Words.{filter, nat_eq, option_map, eq-eqb, MAX_RECORDS, Record, Outcome, is_moment, Exhausted}
use Rattle.desk.proofs.Words.{accepted, attempts_of, is_in_state, is_pending, is_delivery_of, is_gone_status, IsLegal}
use Rattle.desk.proofs.Words.{is_status, and_first, and_both, stands-other, BookRow, WaitingValue, record_count}
use Rattle.desk.proofs.Words.{with_step, in_flight_of, World, all_records, settled_records, moment, next_seq}
use Rattle.desk.proofs.Words.{is_exhausted, limit_in, next_attempt, sample_by, sampled, samples_of, spent_by}
use Rattle.desk.proofs.Words.{with_attempt_over, without_row, AreLimiters, limit_by, samples_at, AreLimits, DeskValue}
use Rattle.desk.proofs.Words.{StandsFor, attempt_in, is_exhausted_in, with_gone, by_option, EndpointSample, map-append}
use Rattle.desk.proofs.Words.{status_of, Accepted, accept_at, is_purged}
use Rattle.retry_table.specs.declared.post.PostResult.{PostResult}
use Rattle.retry_table.specs.Judging.{measure_of, recorded_status}
use Rattle.retry_table.specs.declared.post.Measured.{Measured}
use Rattle.std.proofs.lemmas.List.Elements.{filter-append}
use Rattle.endpoint_book.proofs.Staged.{stands-gone}
use Rattle.delivery_book.proofs.Laws.{free_means, stands_outcome}
use Rattle.delivery_book.proofs.Tellings.{stands_row}
use Rattle.endpoint_book.specs.Entries as endpoint_entries
use Rattle.endpoint_book.specs.Book as endpoint_book
use Rattle.desk.proofs.ClaimLaws.{accept_left, entry_is, limit_is}
use Rattle.desk.proofs.DeskLaws.{count_is, known_is, legal_with, stands_staged}
use Rattle.desk.proofs.RowLaws.{others}
use Rattle.desk.proofs.TieLaws.{UnderWay, takes, tried}

-- the place at which the test passes first
placed : {X : Type 0} (p : X → Bool) (xs : List X) (i : ℕ) → Some i ≡ position p xs → (i ≡ position_or_len p xs)
    × (i < length xs)
placed p xs i at = grind (arith, nat_tests)

abbrev some_limiter : Limiter → Option Limiter
some_limiter l = Some l

-- what a post with this row tells
abbrev tells : Row → Measured → List Sample
tells row m = sample_of m.rtt row.inflight m.dropped ∷ []

abbrev pub with_estimator : Limiter → EstimatorValue → Limiter
with_estimator l estimator = record l { estimator = estimator }

-- the limiter at the endpoint's place has one more sample
pub sampled_at : (ls : List Limiter) (place : ℕ) (l : Limiter) (row : Row) (post : PostResult)
    → (m : Measured) (estimator : EstimatorValue) → Some place ≡ position (is_limiter_of row.endpoint) ls
    → l ≡ slice_index_or ls place l → measure_of post ≡ Some m
    → estimator.maximum ≡ (slice_index_or ls place l).estimator.maximum
    → ((xs : List Sample) → StandsForSamples (slice_index_or ls place l).estimator xs
    → StandsForSamples estimator (xs ++ tells row m))
    → AreSampled ls (slice_set ls place (with_estimator l estimator)) row post
sampled_at ls place l row post m estimator at is told kept follows = record {
  same = map-set_same bound_by ls place (with_estimator l estimator) l (λ i. ((is i).endpoint, kept i));
  follows = λ name samples h. pick name samples (bytes_eq row.endpoint name) refl h;
  others = other;
}
  where
    own : l.endpoint ≡ row.endpoint
    own = (bytes_eq-Decides l.endpoint row.endpoint).0
        (ap (is_limiter_of row.endpoint) is ∙ (position-Some (is_limiter_of row.endpoint) ls place l (sym at)).1)

    before : limiter_of ls row.endpoint ≡ Some l
    before = find_at (is_limiter_of row.endpoint) ls
        ∙ ap (slice_get ls) (sym (placed (is_limiter_of row.endpoint) ls place at).0)
        ∙ slice_get-get_or ls place l (placed (is_limiter_of row.endpoint) ls place at).1 ∙ ap some_limiter (sym is)

    after : limiter_of (slice_set ls place (with_estimator l estimator)) row.endpoint ≡ Some
        (with_estimator l estimator)
    after = find-set (is_limiter_of row.endpoint) ls place (with_estimator l estimator)
        (placed (is_limiter_of row.endpoint) ls place at).0 (placed (is_limiter_of row.endpoint) ls place at).1
        ((bytes_eq-Decides l.endpoint row.endpoint).1 own)

    other : (name : List ℕ) → bytes_eq row.endpoint name ≡ false
        → limiter_of (slice_set ls place (with_estimator l estimator)) name ≡ limiter_of ls name
    other name apart =
        find_past (is_limiter_of name) ls place (with_estimator l estimator) l
        (ap (is_limiter_of name) (sym is) ∙ ap (λ n. bytes_eq n name) own ∙ apart)
        (ap (λ n. bytes_eq n name) own ∙ apart)

    grown : List Sample → List Sample
    grown samples = samples ++ option_map_or (tells row) (measure_of post) []

    grows : (samples : List Sample) → samples ++ tells row m ≡ grown samples
    grows samples = ap (λ o. samples ++ option_map_or (tells row) o []) (sym told)

    pick : (name : List ℕ) (samples : List Sample) (b : Bool) → bytes_eq row.endpoint name ≡ b
        → StandsAt ls name samples
        → StandsAt (slice_set ls place (with_estimator l estimator)) name
        (samples ++ (if b then option_map_or (tells row) (measure_of post) [] else []))
    pick name samples true same h =
        let named : row.endpoint ≡ name = (bytes_eq-Decides row.endpoint name).0 same in
        let stands : StandsForSamples l.estimator samples = subst (λ o. StandsBy o samples)
        (ap (limiter_of ls) (sym named) ∙ before) h in
        subst (λ o. StandsBy o (grown samples))
        (sym after ∙ ap (limiter_of (slice_set ls place (with_estimator l estimator))) named)
        (subst (λ xs. StandsForSamples estimator xs) (grows samples)
        (follows samples (subst (λ (x : Limiter). StandsForSamples x.estimator samples) is stands)))
    pick name samples false apart h =
        subst (λ xs. StandsAt (slice_set ls place (with_estimator l estimator)) name xs) (sym (append-nil samples))
        (subst (λ o. StandsBy o samples) (sym (other name apart)) h)

-- an endpoint that has a limiter has a place
pub has_place : (ls : List Limiter) (name : List ℕ) → is_some (limiter_of ls name) ≡ true
    → None ≡ position (is_limiter_of name) ls → ⊥
has_place ls name some none =
    let found = find_at (is_limiter_of name) ls in
    let past = slice_get_past ls (position_or_len (is_limiter_of name) ls) in
    grind (arith, nat_tests, found, past)

-- The worlds for which a desk stands once an attempt is over

-- What the desk keeps of an attempt that is over, where its outcome has this status or doesn't wait

abbrev pub disabled : endpoint_entries.BookValue → (seq : ℕ) → (name : List ℕ) → Option ℕ → endpoint_entries.BookValue
disabled book seq name None = book
disabled book seq name (Some status) = with_gone book seq name status

abbrev pub recorded : DeskValue → Row → (at : ℕ) → Option ℕ → WaitingValue
recorded d row at None = d.waiting
recorded d row at (Some status) = with_step d.waiting
    (Outcome row.delivery (attempt_in d.deliveries row.delivery) status at ∷ [])

abbrev pub over : DeskValue → Row → (status : Option ℕ) → (at clock : ℕ) → List Limiter → DeskValue
over d row status at clock limiters = record d {
  clock = clock;
  endpoints = disabled d.endpoints (record_count d.waiting) row.endpoint status;
  deliveries = tried d.deliveries (record_count d.waiting) row.delivery status at;
  waiting = recorded d row at status;
  live = others row d.live;
  limiters = limiters;
}

abbrev pub left_over : DeskValue → Row → Option ℕ → (at clock : ℕ) → List Limiter → DeskValue
left_over = over

-- Samples

sample_at : (row : Row) (post : PostResult) (name : List ℕ)
    → map (λ (m : EndpointSample). m.sample) (filter (λ (m : EndpointSample). bytes_eq m.endpoint name)
    (sample_by row post))
    ≡ samples_at name row post
sample_at row post name = grind arith

samples_more : (w : World) (row : Row) (post : PostResult) (name : List ℕ)
    → samples_of (record w { measured = w.measured ++ sample_by row post }) name ≡ samples_of w name ++ samples_at name
    row post
samples_more w row post name =
    ap (map (λ (m : EndpointSample). m.sample))
    (filter-append (λ (m : EndpointSample). bytes_eq m.endpoint name) w.measured
    (sample_by row post))
    ∙ map-append (λ (m : EndpointSample). m.sample) _ _
    ∙ ap (λ more. samples_of w name ++ more) (sample_at row post name)

pub limits_sampled : (d : DeskValue) (w : World) (limiters : List Limiter) (row : Row) (post : PostResult)
    → AreLimits d.limiters w → AreSampled d.limiters limiters row post
    → AreLimits limiters (record w { measured = w.measured ++ sample_by row post })
limits_sampled d w limiters row post h sampled = λ name. subst (λ xs. StandsAt limiters name xs)
    (sym (samples_more w row post name)) (sampled.follows name (samples_of w name) (h name))

-- The delivery of an attempt that is under way, in each world

record IsKnown (w : World) (row : Row) (attempt : ℕ) : Type 0 where
  pending : is_pending (all_records w) row.delivery ≡ true
  own : is_delivery_of (all_records w) row.endpoint row.delivery ≡ true
  numbered : attempt ≡ next_attempt w row.delivery

known_attempt : {d : DeskValue} {w : World} (row : Row) → StandsFor d w → UnderWay d.deliveries row
    → IsKnown w row (attempt_in d.deliveries row.delivery)
known_attempt {d} {w} row h u =
    let entry = entry_is row.delivery h in
    let free =
    free_means d.deliveries (all_records w) (length (settled_records w)) row.delivery h.books.of_deliveries in
    by_option (accept_left w row.delivery)
    (λ none. absurd (grind (arith, entry, u.there, none))) (λ a e. record {
      pending = and_first (is_pending (all_records w) row.delivery) _ (sym free ∙ takes d.deliveries row u);
      own = owned (is_purged (settled_records w) row.delivery) (accept_at (all_records w) row.delivery) a e
          (grind (arith, entry, u.there, e, u.named));
      numbered = grind (arith, entry, e);
    })
  where
    owned : (gone : Bool) (there : Option Accepted) (a : Accepted) → (if gone then None else there) ≡ Some a
        → bytes_eq a.endpoint row.endpoint ≡ true → option_map_or (λ (t : Accepted). bytes_eq t.endpoint row.endpoint)
        there false ≡ true
    owned gone there a is named = grind (arith, is, named)

-- The outcome waits

stands_tried : (d : DeskValue) (w : World) (row : Row) (status at : ℕ) → StandsFor d w → UnderWay d.deliveries row
    → IsTrue (endpoint_entries.is_known d.endpoints row.endpoint) → record_count d.waiting < MAX_RECORDS
    → is_status status ≡ true → is_moment at ≡ true
    → StandsFor (record d {
      endpoints = disabled d.endpoints (record_count d.waiting) row.endpoint (Some status);
      deliveries = tried d.deliveries (record_count d.waiting) row.delivery (Some status) at;
      waiting =
          recorded d row at (Some status);
    })
    (record w { history = w.history ++ (Outcome row.delivery (next_attempt w row.delivery) status at ∷ []) ∷ [] })
stands_tried d w row status at h u known room legal_status moment_is =
    subst (λ attempt. StandsFor (record d {
      endpoints = with_gone d.endpoints (record_count d.waiting) row.endpoint status;
      deliveries = tried d.deliveries (record_count d.waiting) row.delivery (Some status) at;
      waiting = with_step d.waiting (Outcome row.delivery (attempt_in d.deliveries row.delivery) status at ∷ []);
    }) (record w { history = w.history ++ (Outcome row.delivery attempt status at ∷ []) ∷ [] })) is.numbered
    (stands_staged d w entry (with_gone d.endpoints (record_count d.waiting) row.endpoint status)
    (tried d.deliveries (record_count d.waiting) row.delivery (Some status) at) h (record {
      of_endpoints = gone (is_gone_status status) refl;
      of_deliveries = stands_outcome d.deliveries (all_records w) (length (settled_records w))
          (record_count d.waiting) row.delivery (attempt_in d.deliveries row.delivery) status at h.books.of_deliveries
          (count_is h) (takes d.deliveries row u);
      legal = legal;
    }))
  where
    is : IsKnown w row (attempt_in d.deliveries row.delivery)
    is = known_attempt row h u

    entry : Record
    entry = Outcome row.delivery (attempt_in d.deliveries row.delivery) status at

    legal : IsLegal (all_records w ++ entry ∷ [])
    legal = legal_with entry h room
        (and_both (is_pending (all_records w) row.delivery) _ is.pending
        (and_both (nat_eq (attempt_in d.deliveries row.delivery)
        (length (attempts_of (all_records w) row.delivery) + 1)) _
        (eq-eqb (attempt_in d.deliveries row.delivery) (length (attempts_of (all_records w) row.delivery) + 1)
        is.numbered) legal_status))
        moment_is

    gone : (b : Bool) → is_gone_status status ≡ b
        → endpoint_book.StandsFor
        (if b then endpoint_entries.with_flag d.endpoints (record_count d.waiting) row.endpoint false else d.endpoints)
        (all_records w ++ entry ∷ []) (length (settled_records w))
    gone true e = stands-gone d.endpoints (all_records w) (length (settled_records w))
        (record_count d.waiting) row.endpoint row.delivery (attempt_in d.deliveries row.delivery) status at
        h.books.of_endpoints (count_is h) e is.own legal known
    gone false e = stands-other d.endpoints (all_records w) (length (settled_records w)) entry h.books.of_endpoints
        legal (ap not e)

-- The attempt is over

abbrev went : (w : World) (row : Row) (post : PostResult) (at : ℕ) (status : Option ℕ) → World
went w row post at status = record (without_row w row) {
  history = w.history ++ option_map_or (λ s. (Outcome row.delivery (next_attempt w row.delivery) s at ∷ []) ∷ []) status
      [];
  measured = w.measured ++ sample_by row post;
  clock = at;
}

stands_over : (d : DeskValue) (w : World) (row : Row) (post : PostResult) (at : ℕ) (limiters : List Limiter)
    → StandsFor d w → AreLimits limiters (record w { measured = w.measured ++ sample_by row post })
    → StandsFor (record d { clock = at; live = others row d.live; limiters = limiters })
    (record (without_row w row) { measured = w.measured ++ sample_by row post; clock = at })
stands_over d w row post at limiters h limits = assumption (ap (others row) h.live, limits)

-- after a halt only the row goes
pub stands_returned : (d : DeskValue) (w : World) (row : Row) → StandsFor d w
    → StandsFor (record d { live = others row d.live }) (without_row w row)
stands_returned d w row h = assumption (ap (others row) h.live)

stands_went : (d : DeskValue) (w : World) (row : Row) (post : PostResult) (at : ℕ) (status : Option ℕ)
    (limiters : List Limiter) → StandsFor d w → AreSampled d.limiters limiters row post
    → UnderWay d.deliveries row → IsTrue (endpoint_entries.is_known d.endpoints row.endpoint) → record_count d.waiting
    < MAX_RECORDS → ((s : ℕ) → status ≡ Some s → is_status s ≡ true) → is_moment at ≡ true
    → StandsFor (over d row status at at limiters) (went w row post at status)
stands_went d w row post at None limiters h sampled u known room legal_status moment_is =
    subst (λ history. StandsFor (over d row None at at limiters)
    (record (went w row post at None) { history = history })) (sym (append-nil w.history))
    (stands_over d w row post at limiters h (limits_sampled d w limiters row post h.limits sampled))
stands_went d w row post at (Some s) limiters h sampled u known room legal_status moment_is =
    let stands = stands_tried d w row s at h u known room (legal_status s refl) moment_is in
    stands_over _ _ row post at limiters stands (limits_sampled d w limiters row post h.limits sampled)

-- what the limiters are after it
abbrev pub AreTold : (halted : Bool) (old new : List Limiter) (row : Row) (post : PostResult) → Type 0
AreTold true old new row post = new ≡ old
AreTold false old new row post = AreSampled old new row post

pub stands_spent : (d : DeskValue) (w : World) (row : Row) (post : PostResult) (now : ℕ) (limiters : List Limiter)
    → StandsFor d w → AreTold d.halted d.limiters limiters row post
    → UnderWay d.deliveries row → IsTrue (endpoint_entries.is_known d.endpoints row.endpoint) → record_count d.waiting
    < MAX_RECORDS → ((s : ℕ) → recorded_status post ≡ Some s → is_status s ≡ true) → is_moment (max now d.clock) ≡ true
    → StandsFor (over d row (status_of d.halted post) (max now d.clock) (if d.halted then d.clock else max now d.clock)
    limiters) (with_attempt_over w row post now)
stands_spent d w row post now limiters h told u known room legal_status moment_is = by d.halted refl told
  where
    by : (b : Bool) → d.halted ≡ b → AreTold b d.limiters limiters row post
        → StandsFor (over d row (status_of b post) (max now d.clock) (if b then d.clock else max now d.clock) limiters)
        (with_attempt_over w row post now)
    by true e same =
        subst (λ (x : World). StandsFor (over d row None (max now d.clock) d.clock limiters) x)
        (sym (ap (λ b. if b then without_row w row else went w row post (moment w now) (recorded_status post))
        (sym h.halted ∙ e)))
        (subst (λ ls. StandsFor (over d row None (max now d.clock) d.clock ls) (without_row w row)) (sym same)
        (stands_returned d w row h))
    by false e sampled =
        subst (λ (x : World). StandsFor (over d row (recorded_status post) (max now d.clock) (max now d.clock) limiters)
        x)
        (sym (ap (λ b. if b then without_row w row else went w row post (moment w now) (recorded_status post))
        (sym h.halted ∙ e)))
        (subst (λ t. StandsFor (over d row (recorded_status post) (max now d.clock) (max now d.clock) limiters)
        (went w row post t (recorded_status post))) (ap (max now) h.clock)
        (stands_went d w row post (max now d.clock) (recorded_status post) limiters h sampled u known room legal_status
        moment_is))

-- whether a delivery is given up, in each world
exhausted_is : {d : DeskValue} {w : World} (delivery : ℕ) → StandsFor d w
    → is_exhausted_in d.deliveries delivery ≡ is_exhausted w delivery
exhausted_is {d} {w} delivery h =
    ap (λ o. option_map_or (λ (r : BookRow). is_in_state Exhausted r.state) o false)
    (stands_row d.deliveries (all_records w) (length (settled_records w)) delivery h.books.of_deliveries)
    ∙ by_option (accepted (all_records w) delivery) (λ e. rw e) (λ a e. rw e)

-- what a spend known_attempt
pub tells_spent : (d new : DeskValue) (w : World) (row : Row) (post : PostResult) (now : ℕ) (staged : Option ℕ)
    (limit in_flight : ℕ) (exhausted : Bool) → StandsFor d w → StandsFor new (with_attempt_over w row post now)
    → AreLimiters new.limiters new.endpoints → IsTrue (endpoint_entries.is_known new.endpoints row.endpoint)
    → staged ≡ option_map (λ _. record_count d.waiting) (status_of d.halted post)
    → limit ≡ limit_by new.limiters row.endpoint → in_flight ≡ in_flight_of row.endpoint new.live
    → exhausted ≡ is_exhausted_in new.deliveries row.delivery
    → record { row = row; post = post; staged = staged; limit = limit; in_flight = in_flight; exhausted = exhausted }
    ≡ spent_by w row post now
tells_spent d new w row post now staged limit in_flight exhausted h after limited known stages limits flies ends =
    let limit_told : limit ≡ limit_in (with_attempt_over w row post now) row.endpoint = limits
    ∙ limit_is row.endpoint after limited (sym (known_is row.endpoint after) ∙ known) in
    let flying : in_flight ≡ in_flight_of row.endpoint (with_attempt_over w row post now).live = flies
    ∙ ap (in_flight_of row.endpoint) after.live in
    let numbered : staged ≡ (if w.halted then None else option_map (λ _. next_seq w) (recorded_status post)) =
    stages ∙ (λ i. option_map (λ _. count_is h i) (status_of (h.halted i) post)) ∙ grind arith in
    let ended : exhausted ≡ is_exhausted (with_attempt_over w row post now) row.delivery = ends
    ∙ exhausted_is row.delivery after in
    λ i. record {
      row = row;
      post = post;
      staged = numbered i;
      limit = limit_told i;
      in_flight = flying i;
      exhausted =
          ended i;
    }
