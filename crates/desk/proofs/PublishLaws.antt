-- The worlds for which a desk stands once an event for a topic waits, and the move that makes it wait.
use Rattle.desk.proofs.Words.{◌≡◌, ℕ, zero, suc, ◌+◌, ◌<◌, ◌≤◌, Bool, true, false, List, [], ◌∷◌, ◌++◌, Option, Some}
use Rattle.desk.proofs.Words.{None, count_by, drop, drop_all, map-map, take, take_all, length, length-map, leb-true}
use Rattle.desk.proofs.Words.{nat_eq, nat_tests, bytes_eq-Decides, get_or, map, max, refl, sym, ◌∙◌, ap, subst, arith}
use Rattle.desk.proofs.Words.{not, ◌&&◌, nat_le, nat_lt, append-nil, append_assoc, and_first, and_second, and_both}
use Rattle.desk.proofs.Words.{option_map, option_map_or, filter, find, list_all, list_any, is_some, unwrap_or, bytes_eq}
use Rattle.desk.proofs.Words.{find-append, length-append, Result, Ok, Err, OnOk, OnErr, IfOk, IsTrue, MAX_ENDPOINTS}
use Rattle.desk.proofs.Words.{MAX_RECORDS, Record, Accept, accepted, known_as, Endpoint, endpoints, has_endpoint}
use Rattle.desk.proofs.Words.{IsLegal, is_within_limits, legal_more, stands-other, is_known, is_named, EndpointEntry}
use Rattle.desk.proofs.Words.{Entry, BookValue, entry_at, is_entry_as, known_in, new_entry, with_event, record_count}
use Rattle.desk.proofs.Words.{World, all_records, settled_records, DeskValue, StandsFor, IsMove, Checks}
use Rattle.desk.proofs.Words.{Refusal, refusal, out_of_memory_at, Answer, or_out_of_memory, moment, at_moment}
use Rattle.std.proofs.Common.{set}
use Rattle.std.specs.Prelude.{◌≢◌, ◌-◌, ◌^◌, min, All, AllPairs, Vec}
use Rattle.std.specs.Result.{result_map_both}
use Rattle.std.specs.declared.alloc.AllocError.{AllocError}
use Rattle.std.specs.declared.alloc.Global.{Global}
use Rattle.std.proofs.lemmas.List.Elements.{All-filter, All-weaker, filter_passes}
use Rattle.std.proofs.lemmas.List.Kept.{AllPairs-filter}
use Rattle.std.proofs.lemmas.List.Sums.{count_by-le-length, length-filter}
use Rattle.relay_types.proofs.KeyLaws.{legal_sound}
use Rattle.relay_types.specs.Rows.{endpoint_row, rows_of}
use Rattle.relay_types.specs.Sound.{are_endpoint_rows, are_numbers_apart, are_numbers_below}
use Rattle.relay_types.specs.Steps.{accepts as event_accepts}
use Rattle.relay_types.specs.declared.limits.TheConstants.{MAX_STEP_RECORDS}
use Rattle.endpoint_book.specs.Book.{StandsFor as StandsForEndpoints}
use Rattle.endpoint_book.specs.Entries as endpoint_entries
use Rattle.endpoint_book.specs.Topics.{is_on}
use Rattle.endpoint_book.proofs.Filters.{filter_mapped}
use Rattle.desk.proofs.Words.{IfSome, is_kept, is_purged}
use Rattle.desk.proofs.TakenLaws.{known_unpurged}
use Rattle.endpoint_book.proofs.Histories.{known-entry, names-told}
use Rattle.endpoint_book.proofs.Pairs.{subscribed-told}
use Rattle.delivery_book.specs.Book.{StandsFor as StandsForDeliveries}
use Rattle.delivery_book.proofs.Laws.{stands_accept, stands_accepts}
use Rattle.delivery_book.proofs.Tellings.{stands_body, stands_known, stands_pending}
use Rattle.desk.specs.declared.limits.TheConstants.{MAX_PENDING}
use Rattle.desk.specs.declared.refusal.Fault.TheVariants as fault
use Rattle.desk.specs.declared.ticket.Ticket.{Ticket}
use Rattle.desk.specs.Moves.{has_body, has_full_backlog, is_conflict, lacking, new_publish_faults, publish}
use Rattle.desk.specs.Moves.{publish_faults, publish_new, publish_to, subscribed, ticket, ticket_in, tickets_in}
use Rattle.desk.specs.Moves.{with_accepts}
use Rattle.desk.specs.Desks.{has_body_in, has_full_backlog_in, is_against_in, is_conflict_in, is_full_in, is_lacking_in}
use Rattle.desk.specs.Desks.{lacking_in, lacks_in, names_in, subscribed_in, ticket_by, with_publish}
use Rattle.desk.proofs.DeskLaws.{becomes, count_is, lacks, leaves, makes, passes, pending_is, refuses, stands_later}
use Rattle.desk.proofs.DeskLaws.{body_if_kept, stands_step}
use Rattle.desk.proofs.PublishTies.{differ}
use Rattle.desk.proofs.RequestTies.{found_apart}

-- Lists that are chosen from twice

both_filters : (p q : List ℕ → Bool) (xs : List (List ℕ)) → filter q (filter p xs) ≡ filter (λ x. p x && q x) xs
both_filters p q [] = refl
both_filters p q (x ∷ xs) = grind (arith, both_filters p q xs)

any_filtered : (p q : List ℕ → Bool) (xs : List (List ℕ)) → list_any q (filter p xs) ≡ list_any (λ x. p x && q x) xs
any_filtered p q [] = refl
any_filtered p q (x ∷ xs) = grind (arith, any_filtered p q xs)

none_filtered : (p : List ℕ → Bool) (xs : List (List ℕ)) → not (list_any p xs) ≡ nat_eq (length (filter p xs)) 0
none_filtered p [] = refl
none_filtered p (x ∷ xs) = grind (arith, nat_tests, none_filtered p xs)

-- What the books tell of a topic and an id is what the world has

pub subscribed_is : {d : DeskValue} {w : World} (topic : List ℕ) → StandsFor d w
    → subscribed_in d.endpoints topic ≡ subscribed w topic
subscribed_is {d} {w} topic h =
    let on = is_on d.endpoints.topics topic in
    let tells = h.books.of_endpoints.tells in
    ap (filter on) (names-told d.endpoints (all_records w) tells)
    ∙ filter_mapped on (λ (e : Endpoint). e.name) (endpoints (all_records w))
    ∙ (λ i. map (λ (e : Endpoint). e.name)
    (filter (λ e. subscribed-told d.endpoints.topics (all_records w) topic e.name tells.topics i)
    (endpoints (all_records w))))

known_by : {d : DeskValue} {w : World} (name id : List ℕ) → StandsFor d w
    → known_in d.deliveries name id ≡ known_as (all_records w) name id
known_by {d} {w} name id h =
    stands_known d.deliveries (all_records w) (length (settled_records w)) name id h.books.of_deliveries

pub lacking_is : {d : DeskValue} {w : World} (topic id : List ℕ) → StandsFor d w
    → lacking_in d topic id ≡ lacking w topic id
lacking_is {d} {w} topic id h =
    sym (both_filters (is_on d.endpoints.topics topic) (lacks_in d.deliveries id) (names_in d.endpoints))
    ∙ (λ i. filter (λ name. not (is_some (known_by name id h i))) (subscribed_is topic h i))

pub none_subscribed : {d : DeskValue} {w : World} (topic : List ℕ) → StandsFor d w
    → not (list_any (is_on d.endpoints.topics topic) (names_in d.endpoints)) ≡ nat_eq (length (subscribed w topic)) 0
none_subscribed {d} {w} topic h =
    none_filtered (is_on d.endpoints.topics topic) (names_in d.endpoints)
    ∙ ap (λ (names : List (List ℕ)). nat_eq (length names) 0) (subscribed_is topic h)

ticket_is : {d : DeskValue} {w : World} (id name : List ℕ) → StandsFor d w
    → ticket_by d.deliveries id name ≡ ticket_in w id name
ticket_is id name h = λ i. ticket (unwrap_or (known_by name id h i) 0) name id

has_body_is : {d : DeskValue} {w : World} (delivery : ℕ) (body : List ℕ) → StandsFor d w
    → is_purged (all_records w) delivery ≡ false
    → has_body_in d.deliveries delivery body ≡ has_body body (accepted (all_records w) delivery)
has_body_is {d} {w} delivery body h kept =
    by_text (λ e. e.body) (λ a. a.body) (entry_at d.deliveries.entries delivery) (accepted (all_records w) delivery)
    (stands_body d.deliveries (all_records w) (length (settled_records w)) delivery h.books.of_deliveries
    ∙ body_if_kept w delivery kept)
  where
    by_text : {X Y : Type 0} (f : X → List ℕ) (g : Y → List ℕ) (x : Option X) (y : Option Y)
        → option_map f x ≡ option_map g y
        → option_map_or (λ a. bytes_eq (f a) body) x false ≡ option_map_or (λ b. bytes_eq (g b) body) y false
    by_text f g None None same = refl
    by_text f g None (Some b) same = absurd (let wrong = same in cc)
    by_text f g (Some a) None same = absurd (let wrong = same in cc)
    by_text f g (Some a) (Some b) same = let texts : f a ≡ g b = cc in ap (λ text. bytes_eq text body) texts

conflict_is : {d : DeskValue} {w : World} (known : Option ℕ) (body : List ℕ) → StandsFor d w
    → IfSome known (λ delivery. is_purged (all_records w) delivery ≡ false)
    → is_conflict_in d.deliveries known body ≡ is_conflict (all_records w) known body
conflict_is None body h kept = refl
conflict_is (Some delivery) body h kept = ap not (has_body_is delivery body h kept)

-- no Purge took what is known by an id
pub kept_if_known : (w : World) (name id : List ℕ) (known : Option ℕ) → known ≡ known_as (all_records w) name id
    → IfSome known (λ delivery. is_purged (all_records w) delivery ≡ false)
kept_if_known w name id None is = tt
kept_if_known w name id (Some delivery) is = known_unpurged (all_records w) name id delivery (sym is)

pub conflicts_are : {d : DeskValue} {w : World} (topic id body : List ℕ) → StandsFor d w
    → list_any (is_against_in d topic id body) (names_in d.endpoints)
    ≡ list_any (λ name. is_conflict (all_records w) (known_as (all_records w) name id) body) (subscribed w topic)
conflicts_are {d} {w} topic id body h =
    sym (any_filtered (is_on d.endpoints.topics topic)
    (λ name. is_conflict_in d.deliveries (known_in d.deliveries name id) body) (names_in d.endpoints))
    ∙ (λ i. list_any (λ name. conflict_is (known_in d.deliveries name id) body h
    (kept_if_known w name id (known_in d.deliveries name id) (known_by name id h)) i) (subscribed_is topic h i))
    ∙ (λ i. list_any (λ name. is_conflict (all_records w) (known_by name id h i) body) (subscribed w topic))

full_is : {d : DeskValue} {w : World} (name : List ℕ) → StandsFor d w
    → has_full_backlog_in d.deliveries name ≡ has_full_backlog w name
full_is {d} {w} name h =
    ap (nat_le MAX_PENDING)
    (stands_pending d.deliveries (all_records w) (length (settled_records w)) (Some name) h.books.of_deliveries
    ∙ pending_is (all_records w) name)

pub backlog_among : (d : DeskValue) (topic id : List ℕ)
    → list_any (has_full_backlog_in d.deliveries) (lacking_in d topic id)
    ≡ list_any (is_full_in d topic id) (names_in d.endpoints)
backlog_among d topic id = any_filtered (is_lacking_in d topic id) (has_full_backlog_in d.deliveries)
    (names_in d.endpoints)

pub backlogs_are : {d : DeskValue} {w : World} (topic id : List ℕ) → StandsFor d w
    → list_any (is_full_in d topic id) (names_in d.endpoints) ≡ list_any (has_full_backlog w) (lacking w topic id)
backlogs_are {d} {w} topic id h =
    sym (backlog_among d topic id) ∙ λ i. list_any (λ name. full_is name h i) (lacking_is topic id h i)

-- More events at endpoints that are there

-- an event of another endpoint leaves an id unknown
lacks_other : (book : BookValue) (seq : ℕ) (name n id body : List ℕ) (at : ℕ) → bytes_eq name n ≡ false
    → lacks_in (with_event book seq name id body at) id n ≡ lacks_in book id n
lacks_other book seq name n id body at other =
    ap (λ (o : Option Entry). not (is_some (option_map (λ e. e.seq) o)))
    (found_apart (λ e. is_entry_as n id e && is_kept e) book.entries (new_entry seq name id body at)
    (ap (λ b. (b && bytes_eq id id) && true) other))

-- the endpoints of a legal history take an event that none of them knows
more_legal : (e : endpoint_entries.BookValue) (d : BookValue) (records : List Record) (settled seq : ℕ)
    (names : List (List ℕ)) (id body : List ℕ) (at : ℕ) → StandsForEndpoints e records settled
    → StandsForDeliveries d records settled → IsLegal records → seq ≡ length records
    → All (λ n. is_known e n ≡ true) names → All (λ n. lacks_in d id n ≡ true) names → AllPairs (λ a b. a ≢ b) names
    → length records + length names ≤ MAX_RECORDS → list_all is_within_limits (event_accepts names id body at) ≡ true
    → StandsForEndpoints e (records ++ event_accepts names id body at) settled
    × IsLegal (records ++ event_accepts names id body at)
more_legal e d records settled seq [] id body at stands deliveries legal count known new apart room limits =
    subst (λ rs. StandsForEndpoints e rs settled × IsLegal rs) (sym (append-nil records)) (stands, legal)
more_legal e d records settled seq (name ∷ names) id body at stands deliveries legal count known new apart room limits =
    subst (λ rs. StandsForEndpoints e rs settled × IsLegal rs)
    (append_assoc records (a ∷ []) (event_accepts names id body at))
    (more_legal e (with_event d seq name id body at) (records ++ a ∷ []) settled (seq + 1) names id body at
    (stands-other e records settled a stands longer refl)
    (stands_accept d records settled seq name id body at deliveries count) longer
    (omega (arith, count, length-append records (a ∷ [])))
    (λ k x within. known (suc k) x (omega (arith, within)))
    (λ k x within. lacks_other d seq name _ id body at
    (differ name _ (apart 0 (suc k) x (omega arith) (omega (arith, within))))
    ∙ new (suc k) x (omega (arith, within)))
    (λ i j x below within. apart (suc i) (suc j) x (omega (arith, below)) (omega (arith, within)))
    (omega (arith, room, length-append records (a ∷ [])))
    (and_second (is_within_limits a) _ limits))
  where
    a : Record
    a = Accept name id body at

    there : has_endpoint records name ≡ true
    there = sym (known-entry e records name stands.tells) ∙ known 0 name (omega arith)

    unknown : not (is_some (known_as records name id)) ≡ true
    unknown = ap (λ (o : Option ℕ). not (is_some o)) (sym (stands_known d records settled name id deliveries))
        ∙ new 0 name (omega arith)

    longer : IsLegal (records ++ a ∷ [])
    longer =
        legal_more records a legal (and_both (has_endpoint records name) _ there unknown)
        (and_first (is_within_limits a) _ limits) (omega (arith, room))

-- an endpoint has the name of its own entry
known_each : (front entries : List EndpointEntry) → All (λ n. is_some (find (is_named n) (front ++ entries)) ≡ true)
    (map (λ e. e.name) entries)
known_each front [] k x within = absurd (omega (arith, within))
known_each front (e ∷ entries) zero x within =
    let found = find-append (is_named e.name) front (e ∷ entries) in
    let own : bytes_eq e.name e.name ≡ true = (bytes_eq-Decides e.name e.name).1 refl in
    grind (arith, found, own)
known_each front (e ∷ entries) (suc k) x within =
    subst (λ es. is_some (find (is_named (get_or (map (λ (y : EndpointEntry). y.name) entries) k x)) es) ≡ true)
    (append_assoc front (e ∷ []) entries)
    (known_each (front ++ e ∷ []) entries k x (omega (arith, within)))

-- a subscriber that lacks the id is one of the endpoints
pub lacking_known : (d : DeskValue) (topic id : List ℕ)
    → All (λ n. is_known d.endpoints n ≡ true) (lacking_in d topic id)
lacking_known d topic id =
    All-filter (is_lacking_in d topic id) (λ n. is_known d.endpoints n ≡ true) (names_in d.endpoints)
    (known_each [] d.endpoints.entries)

pub lacking_lacks : (d : DeskValue) (topic id : List ℕ)
    → All (λ n. lacks_in d.deliveries id n ≡ true) (lacking_in d topic id)
lacking_lacks d topic id =
    All-weaker (λ n. is_lacking_in d topic id n ≡ true) (λ n. lacks_in d.deliveries id n ≡ true)
    (λ n. and_second (is_on d.endpoints.topics topic n) (lacks_in d.deliveries id n)) (lacking_in d topic id)
    (filter_passes (is_lacking_in d topic id) (names_in d.endpoints))

empty_if : (names : List (List ℕ)) → length names ≡ 0 → names ≡ []
empty_if [] h = refl
empty_if (name ∷ names) h = absurd (omega (arith, h))

-- how many lack the id, by a count and by the list
pub lacking_count : (d : DeskValue) (topic id : List ℕ)
    → count_by (is_lacking_in d topic id) (names_in d.endpoints) ≡ length (lacking_in d topic id)
lacking_count d topic id = sym (length-filter (is_lacking_in d topic id) (names_in d.endpoints))

pub none_lack : (d : DeskValue) (topic id : List ℕ) (n : ℕ)
    → n ≡ count_by (is_lacking_in d topic id) (names_in d.endpoints) → n ≡ 0
    → lacking_in d topic id ≡ []
none_lack d topic id n counted none =
    empty_if (lacking_in d topic id) (omega (arith, counted, none, lacking_count d topic id))

pub some_lack : (d : DeskValue) (topic id : List ℕ) (n : ℕ)
    → n ≡ count_by (is_lacking_in d topic id) (names_in d.endpoints) → n ≢ 0
    → 0 < length (lacking_in d topic id)
some_lack d topic id n counted some = omega (arith, counted, some, lacking_count d topic id)

pub lacking_apart : (d : DeskValue) (topic id : List ℕ) → AllPairs (λ a b. a ≢ b) (names_in d.endpoints)
    → AllPairs (λ a b. a ≢ b) (lacking_in d topic id)
lacking_apart d topic id apart = AllPairs-filter (λ a b. a ≢ b) (is_lacking_in d topic id) (names_in d.endpoints) apart

stands_with_publish : (d : DeskValue) (w : World) (names : List (List ℕ)) (id body : List ℕ) (at : ℕ) → StandsFor d w
    → record_count d.waiting + length names ≤ MAX_RECORDS → All (λ n. is_known d.endpoints n ≡ true) names
    → All (λ n. lacks_in d.deliveries id n ≡ true) names → AllPairs (λ a b. a ≢ b) names
    → list_all is_within_limits (event_accepts names id body at) ≡ true
    → StandsFor (with_publish d names id body at) (with_accepts (record w { clock = at }) names id body at)
stands_with_publish d w names id body at h room known new apart limits =
    let records = all_records w in
    let settled = length (settled_records w) in
    let more =
    more_legal d.endpoints d.deliveries records settled (record_count d.waiting) names id body at h.books.of_endpoints
    h.books.of_deliveries h.books.legal (count_is h) known new apart (omega (arith, room, count_is h)) limits in
    stands_later (record (with_publish d names id body at) { clock = d.clock }) (with_accepts w names id body at) at
    (stands_step d w (event_accepts names id body at) d.endpoints _ h (record {
      of_endpoints = more.0;
      of_deliveries = stands_accepts d.deliveries records settled
          (record_count d.waiting) names id body at h.books.of_deliveries (count_is h);
      legal = more.1;
    }))

-- The move

abbrev pub items_of : Result (Vec Ticket Global) Refusal → Result (List Ticket) Refusal
items_of reply = result_map_both (λ tickets. tickets.items) (λ why. why) reply

-- the call is refused for the first fault that is there
pub publish_refused : (d : DeskValue) (now : ℕ) (topic id body : List ℕ) (r : Refusal)
    → Checks d (λ w. publish_faults w topic id body) (Err r)
    → IsMove d (λ w. publish w now topic id body) (Err r) d
publish_refused d now topic id body r checks =
    refuses d (λ w. publish_faults w topic id body) (λ w. publish_to (lacking w topic id) w now topic id body) r checks

-- a publish after its first faults
publish_passes : (d new : DeskValue) (now : ℕ) (topic id body : List ℕ) (u : Unit {0})
    (reply : Result (List Ticket) Refusal)
    → Checks d (λ w. publish_faults w topic id body) (Ok u)
    → IsMove d (λ w. publish_to (lacking w topic id) w now topic id body) reply new
    → IsMove d (λ w. publish w now topic id body) reply new
publish_passes d new now topic id body u reply checks move =
    passes d new (λ w. publish_faults w topic id body) (λ w. publish_to (lacking w topic id) w now topic id body) u
    reply checks move

-- one that each subscriber knows
publish_known : (d new : DeskValue) (now : ℕ) (topic id body : List ℕ) (u : Unit {0})
    (reply : Result (List Ticket) Refusal)
    → Checks d (λ w. publish_faults w topic id body) (Ok u) → lacking_in d topic id ≡ []
    → IsMove d (λ w. publish_to [] w now topic id body) reply new
    → IsMove d (λ w. publish w now topic id body) reply new
publish_known d new now topic id body u reply checks none move =
    publish_passes d new now topic id body u reply checks
    (becomes d new (λ w. publish_to [] w now topic id body) (λ w. publish_to (lacking w topic id) w now topic id body)
    reply
    (λ w h. ap (λ names. publish_to names w now topic id body) (sym none ∙ lacking_is topic id h)) move)

pub publish_repeated : (d new : DeskValue) (now : ℕ) (topic id body : List ℕ) (at : ℕ) (u : Unit {0})
    (tickets : List Ticket)
    → Checks d (λ w. publish_faults w topic id body) (Ok u) → lacking_in d topic id ≡ [] → at ≡ max now d.clock
    → tickets ≡ map (ticket_by d.deliveries id) (subscribed_in d.endpoints topic) → new ≡ record d { clock = at }
    → IsMove d (λ w. publish w now topic id body) (Ok tickets) new
publish_repeated d new now topic id body at u tickets checks none later are is =
    publish_known d new now topic id body u (Ok tickets) checks none
    (makes d new (λ w. publish_to [] w now topic id body) tickets (λ w h. (
      ap Ok (sym (are ∙ (λ i. map (λ name. ticket_is id name h i) (subscribed_is topic h i)))),
      subst (λ (v : DeskValue). StandsFor v (at_moment w now)) (sym is)
          (subst (λ t. StandsFor (record d { clock = at }) (record w { clock = t })) (later ∙ ap (max now) h.clock)
          (stands_later d w at h)),
    )))

pub publish_unrepeated : (d : DeskValue) (now : ℕ) (topic id body : List ℕ) (u : Unit {0})
    → Checks d (λ w. publish_faults w topic id body) (Ok u) → lacking_in d topic id ≡ []
    → IsMove d (λ w. publish w now topic id body) (Err (refusal 8 fault.OutOfMemory)) d
publish_unrepeated d now topic id body u checks none =
    publish_known d d now topic id body u (Err (refusal 8 fault.OutOfMemory)) checks none
    (lacks d (λ w. publish_to [] w now topic id body) 8 (λ w h. refl))

-- one that a subscriber lacks
to_some : (names : List (List ℕ)) (w : World) (now : ℕ) (topic id body : List ℕ) → 0 < length names
    → publish_new w now topic id body names ≡ publish_to names w now topic id body
to_some [] w now topic id body some = absurd (omega (arith, some))
to_some (name ∷ names) w now topic id body some = refl

publish_lacked : (d new : DeskValue) (now : ℕ) (topic id body : List ℕ) (u : Unit {0})
    (reply : Result (List Ticket) Refusal)
    → Checks d (λ w. publish_faults w topic id body) (Ok u) → 0 < length (lacking_in d topic id)
    → IsMove d (λ w. publish_new w now topic id body (lacking w topic id)) reply new
    → IsMove d (λ w. publish w now topic id body) reply new
publish_lacked d new now topic id body u reply checks some move =
    publish_passes d new now topic id body u reply checks
    (becomes d new (λ w. publish_new w now topic id body (lacking w topic id))
    (λ w. publish_to (lacking w topic id) w now topic id body) reply
    (λ w h. to_some (lacking w topic id) w now topic id body
    (subst (λ (names : List (List ℕ)). 0 < length names) (lacking_is topic id h) some)) move)

abbrev waits_then : (w : World) (now : ℕ) (topic id body : List ℕ) → Answer (List Ticket)
waits_then w now topic id body =
    tickets_in w topic id (with_accepts (at_moment w now) (lacking w topic id) id body (moment w now))

pub new_publish_refused : (d : DeskValue) (now : ℕ) (topic id body : List ℕ) (u : Unit {0}) (r : Refusal)
    → Checks d (λ w. publish_faults w topic id body) (Ok u) → 0 < length (lacking_in d topic id)
    → Checks d (λ w. new_publish_faults w (lacking w topic id)) (Err r)
    → IsMove d (λ w. publish w now topic id body) (Err r) d
new_publish_refused d now topic id body u r checks some faults =
    publish_lacked d d now topic id body u (Err r) checks some
    (refuses d (λ w. new_publish_faults w (lacking w topic id))
    (λ w. or_out_of_memory 8 (waits_then w now topic id body)) r faults)

publish_taken : (d new : DeskValue) (now : ℕ) (topic id body : List ℕ) (u v : Unit {0})
    (reply : Result (List Ticket) Refusal)
    → Checks d (λ w. publish_faults w topic id body) (Ok u) → 0 < length (lacking_in d topic id)
    → Checks d (λ w. new_publish_faults w (lacking w topic id)) (Ok v)
    → IsMove d (λ w. or_out_of_memory 8 (waits_then w now topic id body)) reply new
    → IsMove d (λ w. publish w now topic id body) reply new
publish_taken d new now topic id body u v reply checks some faults move =
    publish_lacked d new now topic id body u reply checks some
    (passes d new (λ w. new_publish_faults w (lacking w topic id))
    (λ w. or_out_of_memory 8 (waits_then w now topic id body)) v reply faults move)

publish_makes : (d new : DeskValue) (now : ℕ) (topic id body : List ℕ) (at : ℕ) (tickets : List Ticket)
    → record_count d.waiting + length (lacking_in d topic id) ≤ MAX_RECORDS
    → AllPairs (λ a b. a ≢ b) (lacking_in d topic id)
    → at ≡ max now d.clock → tickets ≡ map (ticket_by new.deliveries id) (subscribed_in d.endpoints topic)
    → new ≡ with_publish d (lacking_in d topic id) id body at
    → IsTrue (list_all is_within_limits (event_accepts (lacking_in d topic id) id body at))
    → (w : World) → StandsFor d w
    → ((waits_then w now topic id body).reply ≡ Ok tickets) × StandsFor new (waits_then w now topic id body).next
publish_makes d new now topic id body at tickets room apart later are is limits w h = (
  ap Ok (sym (are ∙ (λ i. map (λ name. ticket_is id name stands i) (subscribed_is topic h i)))),
  stands,
)
  where
    names : List (List ℕ)
    names = lacking_in d topic id

    made : StandsFor (with_publish d names id body at) (with_accepts (record w { clock = at }) names id body at)
    made = stands_with_publish d w names id body at h room (lacking_known d topic id)
        (lacking_lacks d topic id) apart limits

    stands : StandsFor new (with_accepts (at_moment w now) (lacking w topic id) id body (moment w now))
    stands =
        subst (λ (v : DeskValue). StandsFor v (with_accepts (at_moment w now) (lacking w topic id) id body
        (moment w now))) (sym is)
        (subst (λ those. StandsFor (with_publish d names id body at)
        (with_accepts (at_moment w now) those id body (moment w now))) (lacking_is topic id h)
        (subst (λ t. StandsFor (with_publish d names id body at)
        (with_accepts (record w { clock = t }) names id body t)) (later ∙ ap (max now) h.clock) made))

-- the event is staged, or the call lacks memory
pub publish_moves : (d new : DeskValue) (now : ℕ) (topic id body : List ℕ) (at : ℕ) (u v : Unit {0})
    (made : Result (Vec Ticket Global) AllocError)
    → Checks d (λ w. publish_faults w topic id body) (Ok u) → 0 < length (lacking_in d topic id)
    → Checks d (λ w. new_publish_faults w (lacking w topic id)) (Ok v)
    → record_count d.waiting + length (lacking_in d topic id) ≤ MAX_RECORDS → at ≡ max now d.clock
    → OnOk made (AllPairs (λ a b. a ≢ b) (lacking_in d topic id))
    → IfOk made (λ tickets. tickets.items ≡ map (ticket_by new.deliveries id) (subscribed_in d.endpoints topic))
    → OnOk made (new ≡ with_publish d (lacking_in d topic id) id body at)
    → OnOk made (IsTrue (list_all is_within_limits (event_accepts (lacking_in d topic id) id body at)))
    → OnErr made (new ≡ d)
    → IsMove d (λ w. publish w now topic id body) (items_of (out_of_memory_at 8 made)) new
publish_moves d new now topic id body at u v (Ok tickets) checks some faults room later apart are is limits err =
    publish_taken d new now topic id body u v (Ok tickets.items) checks some faults
    (makes d new (λ w. or_out_of_memory 8 (waits_then w now topic id body)) tickets.items
    (publish_makes d new now topic id body at tickets.items room apart later are is limits))
publish_moves d new now topic id body at u v (Err e) checks some faults room later apart are is limits err =
    publish_taken d new now topic id body u v (Err (refusal 8 fault.OutOfMemory)) checks some faults
    (leaves d new d (λ w. or_out_of_memory 8 (waits_then w now topic id body)) (Err (refusal 8 fault.OutOfMemory))
    (lacks d (λ w. or_out_of_memory 8 (waits_then w now topic id body)) 8 (λ w h. refl)) err)

-- what a refusal as out of memory says
pub lacked_memory : {A E : Type 0} (number : ℕ) (made : Result A E) (r : Refusal) → out_of_memory_at number made ≡ Err r
    → r ≡ refusal number fault.OutOfMemory
lacked_memory number (Ok a) r same = absurd (let wrong = same in cc)
lacked_memory number (Err e) r same = cc

-- What the desk looks for before a call is what the model does

-- a sum that is kept below 2^64 passes a limit where the sum does
pub passes_limit : (limit sum : ℕ) → limit < 2 ^ 64 - 1 → nat_lt limit (min sum (2 ^ 64 - 1)) ≡ nat_lt limit sum
passes_limit limit sum small = grind (arith, nat_tests, small)

fewer : (test : List ℕ → Bool) (names : List (List ℕ)) → length (filter test names) ≤ length names
fewer test names = omega (arith, length-filter test names, count_by-le-length test names)

-- no history has subscribers for more than one step
pub few_lack : {d : DeskValue} {w : World} (topic id : List ℕ) → StandsFor d w → length (lacking_in d topic id)
    ≤ MAX_STEP_RECORDS
few_lack {d} {w} topic id h =
    let records = all_records w in
    let rows = rows_of records in
    let sound = (legal_sound records h.books.legal).0 in
    let fits =
    and_first (nat_le (length rows.endpoints) MAX_ENDPOINTS) _ (and_first (are_endpoint_rows rows) _
    (and_second (are_numbers_apart rows) _ (and_second (are_numbers_below rows) _ sound))) in
    let few = leb-true (length rows.endpoints) MAX_ENDPOINTS fits in
    let told = ap length (names-told d.endpoints records h.books.of_endpoints.tells) in
    omega (
      arith,
      fewer (is_lacking_in d topic id) (names_in d.endpoints),
      told,
      length-map (endpoints records) (λ (e : Endpoint). e.name),
      length-map (endpoints records) (endpoint_row records),
      few,
    )

-- Tickets that are numbered again, one after another

-- the first so many are made anew, and the others are as they were
abbrev pub half : {X : Type 0} (f : X → X) (count : ℕ) (xs : List X) → List X
half f count xs = map f (take count xs) ++ drop count xs

half_then : {X : Type 0} (f : X → X) (xs : List X) (i : ℕ) (d : X) → i < length xs
    → set (half f i xs) i (f (get_or (half f i xs) i d)) ≡ half f (suc i) xs
half_then f [] i d within = absurd (omega (arith, within))
half_then f (x ∷ xs) zero d within = refl
half_then f (x ∷ xs) (suc i) d within = ap (λ rest. f x ∷ rest) (half_then f xs i d (omega (arith, within)))

pub half_more : {X : Type 0} (f : X → X) (xs ys : List X) (i : ℕ) (d : X) → i < length xs → ys ≡ half f i xs
    → set ys i (f (get_or ys i d)) ≡ half f (i + 1) xs
half_more f xs ys i d within is =
    let next : suc i ≡ i + 1 = omega arith in
    ap (λ zs. set zs i (f (get_or zs i d))) is ∙ half_then f xs i d within ∙ ap (λ n. half f n xs) next

pub half_all : {X : Type 0} (f : X → X) (xs : List X) (i : ℕ) → length xs ≤ i → half f i xs ≡ map f xs
half_all f xs i past = (λ k. map f (take_all i xs past k) ++ drop_all i xs past k) ∙ append-nil (map f xs)

-- a ticket for each subscriber by the first book, numbered by the later one
pub numbered_again : (first later : BookValue) (id : List ℕ) (names : List (List ℕ)) (tickets : List Ticket)
    → tickets ≡ map (λ (t : Ticket). ticket_by later t.id t.name) (map (ticket_by first id) names)
    → tickets ≡ map (ticket_by later id) names
numbered_again first later id names tickets is = is
    ∙ map-map (λ (t : Ticket). ticket_by later t.id t.name) (ticket_by first id) names
