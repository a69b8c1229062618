-- What the queue holds and has next, what may start, and that a claim is the model's.
use Rattle.desk.proofs.Words.{◌≡◌, ◌<◌, ◌+◌, ℕ, Bool, true, false, List, [], ◌∷◌, Option, Some, None, length, refl, sym}
use Rattle.desk.proofs.Words.{◌∙◌, ap, arith, ◌&&◌, subst, find, is_some, option_map, nat_eq, nat_lt, bytes_eq}
use Rattle.desk.proofs.Words.{option_map_or, lt-ltb, ltb-true, same_Some, bytes_eq-Decides, and_first, and_second}
use Rattle.desk.proofs.Words.{find_map, Entry, entry_at, is_open, latest_row, row_in, in_flight_of, is_out, QueueValue}
use Rattle.desk.proofs.Words.{IsNext, has_room_in, is_held, pair_of, MAX_WAITING_OUTCOMES, outcomes_in, Limiter}
use Rattle.desk.proofs.Words.{AreHeld, AreLimiters, AreTied, bound_by, bound_of, is_idle, is_pair_of, limit_by}
use Rattle.desk.proofs.Words.{limiter_of, pair_in, DeskValue, has_place, may_start, may_start_at, nat_tests, by_option}
use Rattle.desk.proofs.Words.{BookRow, ◌≤◌, ◌||◌, cond, count_by, option_and_then, unwrap_or, if◌then◌else◌}
use Rattle.desk.proofs.Words.{sum_by-cons, BookValue, HasOneEach, takes_outcome, Pair, IsNew, free_places, same_pair}
use Rattle.desk.proofs.Words.{HasPlaces, HoldsPair, LetsPairGo, is_unheld, own_pair, by_bool, zero, suc, ◌++◌, eqb}
use Rattle.desk.proofs.Words.{append-nil, length-append, eqb-true, Record, Accept, Pending, Accepted, Attempt, accepted}
use Rattle.desk.proofs.Words.{attempts_of, deliveries, due_after, due_of, failures_of, is_accept, is_in_state, Endpoint}
use Rattle.desk.proofs.Words.{endpoint_of, has_endpoint, AllKnown, below_if_accepted, legal_known, entry_for, state_by}
use Rattle.desk.proofs.Words.{is_delivered_among, failed_among, NothingIsReady, is_ready, World, all_records}
use Rattle.desk.proofs.Words.{settled_records, waiting_records, choice, claimables, has_place_in, has_room}
use Rattle.desk.proofs.Words.{is_claimable, is_live, least_by, limit_in, samples_of, waits, KnowsRooms, StandsBy}
use Rattle.desk.proofs.Words.{waits_as, StandsFor, max, inl, Result, Ok, Err, IfOk, OnErr, Refusal, Faults, refusal}
use Rattle.desk.proofs.Words.{first_fault, out_of_memory_at, Answer, are_seqs_spent, moment, JobValue, claim}
use Rattle.desk.proofs.Words.{claim_chosen, rests, starts, Checks, IsMove, OverWorlds, Starts, due_if_pending, state_of}
use Rattle.desk.proofs.Words.{secrets_of, secrets_if_known, body_of, row_of, Row, next_row, job_of, target_in, IsPostOf}
use Rattle.desk.proofs.Words.{with_live, limits, limits_by, IsInStep, not, is_pending, accept_at, accepted-before}
use Rattle.desk.proofs.Words.{accepted_is}
use Rattle.desk.proofs.Words.{body_left, is_purged, purged_by, there_if_kept, unpurged_if}
use Rattle.desk.specs.Claims.{has_no_waiting_outcome}
use Rattle.desk.proofs.TakenLaws.{latest_open, unpurged_while_pending}
use Rattle.relay_types.specs.Lists.{last_of}
use Rattle.endpoint_book.proofs.Histories.{field-told}
use Rattle.delivery_book.proofs.Histories.{entry_at-entries}
use Rattle.delivery_book.proofs.Progresses.{attempts_of-append, empty_if}
use Rattle.desk.specs.Claims.{with_attempt}
use Rattle.endpoint_book.proofs.Filters.{some_told}
use Rattle.desk.specs.Claims.{PostValue}
use Rattle.endpoint_book.specs.Entries as endpoint_entries
use Rattle.desk.proofs.LeastLaws as least
use Rattle.desk.specs.declared.refusal.Fault.TheVariants as fault
use Rattle.desk.proofs.DeskLaws.{known_is, settled_first, settled_front, becomes, lacks, leaves, makes, passes, seen}
use Rattle.desk.proofs.DeskLaws.{body_if_kept, stands_later, stands_as}
use Rattle.desk.proofs.LeastLaws.{Among, IsFirstBy, among_filter, accepted_among, least_is, none_pass, places_from}
use Rattle.desk.proofs.LeastLaws.{places_rise}
use Rattle.desk.proofs.LeastLaws.{rises_filter}

pub found_seq : (entries : List Entry) (s : ℕ) (e : Entry) → entry_at entries s ≡ Some e → e.seq ≡ s
found_seq [] s e h = cc
found_seq (x ∷ rest) s e h = grind (arith, nat_tests, found_seq rest s e)

pub may_start_next : {d e : DeskValue} {queue : QueueValue} (now : ℕ) (name : List ℕ) (s : ℕ) → d ≡ e
    → AreTied d.endpoints d.deliveries d.waiting d.live d.limiters queue → has_place d ≡ true → IsNext queue now name s
    → may_start e s ≡ true
may_start_next {d} {queue = queue} now name s same tied place next =
    let held = tied.queued.held (pair_of name next.due s) in
    let room = tied.lanes.rooms name in
    let ready = next.ready in
    ap (λ (x : DeskValue). may_start x s) (sym same) ∙ by_option (entry_at d.deliveries.entries s)
    (λ e. absurd (grind (arith, held, ready, e)))
    (λ x e. grind (arith, held, room, place, ready, e, bytes_eq-Decides x.name name))

-- The entry of a delivery that may start

pub record StartsFrom (d : DeskValue) (name : List ℕ) (s : ℕ) : Type 0 where
  pub entry : Entry
  pub there : entry_at d.deliveries.entries s ≡ Some entry
  pub numbered : entry.seq ≡ s
  pub named : entry.name ≡ name
  pub settled : s < d.deliveries.settled_seq
  pub is_open_now : is_open entry ≡ true
  pub idle : is_idle d.deliveries.settled_seq d.live entry ≡ true
  pub free : is_out s d.live ≡ false
  pub timed : is_some entry.settled.due ≡ true
  pub room : in_flight_of name d.live < limit_by d.limiters name
  pub place : outcomes_in d.waiting.waiting + length d.live < MAX_WAITING_OUTCOMES

pub starts_from : {d v : DeskValue} (name : List ℕ) (s : ℕ) → d ≡ v → may_start_at v name s ≡ true → StartsFrom d name s
starts_from {d} name s same may_v =
    let may : may_start_at d name s ≡ true = ap (λ (x : DeskValue). may_start_at x name s) same ∙ may_v in
    by_option (entry_at d.deliveries.entries s) (λ none. absurd (grind (arith, may, none))) (λ e there.
    let numbered = found_seq d.deliveries.entries s e there in
    let named : e.name ≡ name = (bytes_eq-Decides e.name name).0 (grind (arith, may, there)) in
    record {
      entry = e;
      there = there;
      numbered = numbered;
      named = named;
      settled = grind (arith, nat_tests, may, there, numbered);
      is_open_now = grind (arith, may, there);
      idle = grind (arith, may, there);
      free = grind (arith, may, there, numbered);
      timed = grind (arith, may, there);
      room = grind (arith, nat_tests, may, there, named);
      place = grind (arith, nat_tests, may);
    })

-- a delivery that may start is one of its own endpoint
pub starts_at : {d v : DeskValue} (s : ℕ) (row : BookRow) → d ≡ v → may_start v s ≡ true → IsInStep d.deliveries
    → Some row ≡ latest_row d.deliveries s → may_start_at v row.endpoint s ≡ true
starts_at {d} s row same may_v step rows =
    let may : may_start d s ≡ true = ap (λ (x : DeskValue). may_start x s) same ∙ may_v in
    ap (λ (x : DeskValue). may_start_at x row.endpoint s) (sym same) ∙ by_option (entry_at d.deliveries.entries s)
    (λ e. absurd (grind (arith, may, e)))
    (λ x e.
    let takes : is_open x ≡ true = grind (arith, may, e) in
    let latest = latest_open d.deliveries s x step.ended e takes in
    let named : x.name ≡ row.endpoint = grind (arith, rows, latest) in
    let own = (bytes_eq-Decides x.name row.endpoint).1 named in
    grind (arith, may, e, own))

-- one that may start has a row
pub no_latest_row : {d v : DeskValue} (s : ℕ) → d ≡ v → may_start v s ≡ true → IsInStep d.deliveries
    → None ≡ latest_row d.deliveries s → ⊥
no_latest_row {d} s same may_v step none =
    let may : may_start d s ≡ true = ap (λ (x : DeskValue). may_start x s) same ∙ may_v in
    by_option (entry_at d.deliveries.entries s)
    (λ e. absurd (grind (arith, may, e)))
    (λ x e.
    let takes : is_open x ≡ true = grind (arith, may, e) in
    let latest = latest_open d.deliveries s x step.ended e takes in
    absurd (grind (arith, none, latest)))

-- the limiter of an endpoint has the maximum of its entry
pub limiter_entry : (limiters : List Limiter) (book : endpoint_entries.BookValue) (name : List ℕ)
    → AreLimiters limiters book
    → option_map bound_by (limiter_of limiters name) ≡ option_map bound_of (endpoint_entries.entry_of book name)
limiter_entry limiters book name are =
    sym (find_map bound_by (λ (p : List ℕ × ℕ). bytes_eq p.0 name) limiters)
    ∙ ap (find (λ (p : List ℕ × ℕ). bytes_eq p.0 name)) are
    ∙ find_map bound_of (λ (p : List ℕ × ℕ). bytes_eq p.0 name) book.entries

-- an endpoint with a limit is in the book
known_by_limit : (limiters : List Limiter) (book : endpoint_entries.BookValue) (name : List ℕ)
    → AreLimiters limiters book → 0 < limit_by limiters name → endpoint_entries.is_known book name ≡ true
known_by_limit limiters book name are some = let entry = limiter_entry limiters book name are in grind (arith, entry)

pub endpoint_known : {d : DeskValue} (name : List ℕ) (s : ℕ) → AreLimiters d.limiters d.endpoints → StartsFrom d name s
    → endpoint_entries.is_known d.endpoints name ≡ true
endpoint_known {d} name s are from = known_by_limit d.limiters d.endpoints name are (omega (arith, from.room))

-- its pair is held
pub pair_held : {d : DeskValue} (queue : QueueValue) (name : List ℕ) (s : ℕ) → AreHeld queue d.deliveries d.live
    → StartsFrom d name s
    → (due : ℕ) × (pair_in d.deliveries s ≡ Some (pair_of name due s)) × (is_held queue (pair_of name due s) ≡ true)
pair_held {d} queue name s held from = by_option from.entry.settled.due
    (λ e. absurd (grind (arith, e, from.timed))) (λ due e. (
      due,
      (let settled = lt-ltb s _ from.settled in grind (arith, settled, from.there, e, from.named)),
      (let same = (bytes_eq-Decides from.entry.name name).1 from.named in
          grind (arith, nat_tests, held (pair_of name due s), from.there, from.idle, same, e)),
    ))

-- The queue's free places, as deliveries are held and let go

-- Counts

pub count_below : {X : Type 0} (p q : X → Bool) (xs : List X) → ((x : X) → p x ≡ true → q x ≡ true)
    → count_by p xs ≤ count_by q xs
count_below p q [] h = omega arith
count_below p q (x ∷ xs) h =
    let ps = sum_by-cons (λ y. cond (p y) 1 0) x xs in
    grind (arith, ps, sum_by-cons (λ y. cond (q y) 1 0) x xs, h x, count_below p q xs h)

-- what passes one test passes one of two others
pub count_within : {X : Type 0} (p q r : X → Bool) (xs : List X) → ((x : X) → p x ≡ true → (q x || r x) ≡ true)
    → count_by p xs ≤ count_by q xs + count_by r xs
count_within p q r [] h = omega arith
count_within p q r (x ∷ xs) h =
    let ps = sum_by-cons (λ y. cond (p y) 1 0) x xs in
    let qs = sum_by-cons (λ y. cond (q y) 1 0) x xs in
    let rs = sum_by-cons (λ y. cond (r y) 1 0) x xs in
    grind (arith, ps, qs, rs, h x, count_within p q r xs h)

-- an entry that is found passes the one test alone
pub count_less : (p q : Entry → Bool) (entries : List Entry) (s : ℕ) (e : Entry) → entry_at entries s ≡ Some e
    → q e ≡ true → p e ≡ false → ((x : Entry) → p x ≡ true → q x ≡ true)
    → count_by p entries + 1 ≤ count_by q entries
count_less p q [] s e there passes fails h = cc
count_less p q (x ∷ xs) s e there passes fails h =
    let ps = sum_by-cons (λ y. cond (p y) 1 0) x xs in
    let qs = sum_by-cons (λ y. cond (q y) 1 0) x xs in
    let later = λ (t : entry_at xs s ≡ Some e). count_less p q xs s e t passes fails h in
    grind (arith, ps, qs, h x, later, count_below p q xs h)

-- Places

-- a delivery that is opened and isn't held has a place
pub has_free_place : (queue : QueueValue) (book : BookValue) (s : ℕ) (e : Entry) → HasPlaces queue book → IsNew queue s
    → entry_at book.entries s ≡ Some e → e.seq ≡ s → is_open e ≡ true → 0 < free_places queue e.name
has_free_place queue book s e places new there numbered opened =
    let same = (bytes_eq-Decides e.name e.name).1 refl in
    let none = ap (λ n. is_held queue (pair_of e.name (unwrap_or e.settled.due 0) n)) numbered ∙ new e.name _ in
    let unheld : is_unheld queue e.name e ≡ true = grind (arith, same, none) in
    let one =
    count_less (λ _. false) (is_unheld queue e.name) book.entries s e there unheld refl (λ x h. grind arith) in
    omega (arith, one, places e.name)

same_pair_self : (p : Pair) → same_pair p p ≡ true
same_pair_self p = grind (arith, nat_tests, bytes_eq-Decides p.endpoint p.endpoint)

-- the delivery of an entry is held from now on
pub places_held : (queue new : QueueValue) (book : BookValue) (s due : ℕ) (e : Entry) → HasPlaces queue book
    → IsNew queue s → entry_at book.entries s ≡ Some e → e.seq ≡ s → is_open e ≡ true → e.settled.due ≡ Some due
    → HoldsPair queue new (pair_of e.name due s) → HasPlaces new book
places_held queue new book s due e places unheld there numbered opened timed holds = λ n.
    let own : own_pair e ≡ pair_of e.name due s = λ i. pair_of e.name (unwrap_or (timed i) 0) (numbered i) in
    let was = ap (is_held queue) own ∙ unheld e.name due in
    let held = ap (is_held new) own ∙ holds.pairs (pair_of e.name due s) in
    let itself = same_pair_self (pair_of e.name due s) in
    let fewer : (x : Entry) → is_unheld new n x ≡ true → is_unheld queue n x ≡ true =
    λ x h. grind (arith, h, holds.pairs (own_pair x)) in
    let mark = holds.state n in
    by_bool (bytes_eq e.name n)
    (λ same.
    let before : is_unheld queue n e ≡ true = grind (arith, was, same, opened) in
    let after : is_unheld new n e ≡ false = grind (arith, held, itself) in
    let less = count_less (is_unheld new n) (is_unheld queue n) book.entries s e there before after fewer in
    grind (arith, less, places n, mark, same))
    (λ other.
    let less = count_below (is_unheld new n) (is_unheld queue n) book.entries fewer in
    grind (arith, less, places n, mark, other))

-- The pair of a delivery that is pending and without an outcome that waits

pub record IsIdlePair (book : BookValue) (s : ℕ) (pair : Pair) : Type 0 where
  pub entry : Entry
  pub there : entry_at book.entries s ≡ Some entry
  pub is_open_now : is_open entry ≡ true
  pub settled : nat_lt s book.settled_seq ≡ true
  pub timed : entry.settled.due ≡ Some pair.due
  pub is : pair ≡ pair_of entry.name pair.due s

pub idle_from : (book : BookValue) (s : ℕ) (pair : Pair) → takes_outcome book s ≡ true → Some pair ≡ pair_in book s
    → IsIdlePair book s pair
idle_from book s pair takes h =
    by_option (entry_at book.entries s) (λ there. absurd (grind (arith, there))) (λ e there.
    let settled : nat_lt s book.settled_seq ≡ true =
    by_bool (nat_lt s book.settled_seq) (λ t. t) (λ t. grind (arith, t)) in
    let opened : is_open e ≡ true = ap (λ o. option_map_or is_open o false) (sym there) ∙ takes in
    let same : Some pair ≡ option_map (λ due. pair_of e.name due s) e.settled.due =
    h ∙ (λ i. option_and_then (λ row. option_map (λ due. pair_of row.endpoint due s) row.due)
    (if settled i then option_map (λ x. row_in x.settled x) (there i) else None)) in
    by_option e.settled.due (λ timed. absurd (grind (arith, timed))) (λ due timed.
    let is : pair ≡ pair_of e.name due s = grind (arith, timed) in
    record {
      entry = e;
      there = there;
      is_open_now = opened;
      settled = settled;
      timed = timed ∙ ap (λ (p : Pair). Some p.due) (sym is);
      is = is ∙ ap (λ (p : Pair). pair_of e.name p.due s) (sym is);
    }))

-- there is a place for it, and it has one from then on
pub idle_place : (queue : QueueValue) (book : BookValue) (s : ℕ) (pair : Pair) → HasPlaces queue book → IsNew queue s
    → IsIdlePair book s pair → 0 < free_places queue pair.endpoint
idle_place queue book s pair places unheld idle =
    subst (λ (p : Pair). 0 < free_places queue p.endpoint) (sym idle.is)
    (has_free_place queue book s idle.entry places unheld idle.there (found_seq book.entries s idle.entry idle.there)
    idle.is_open_now)

pub idle_held : (queue new : QueueValue) (book : BookValue) (s : ℕ) (pair : Pair) → HasPlaces queue book → IsNew queue s
    → IsIdlePair book s pair → HoldsPair queue new pair → HasPlaces new book
idle_held queue new book s pair places unheld idle holds =
    places_held queue new book s pair.due idle.entry places unheld idle.there
    (found_seq book.entries s idle.entry idle.there) idle.is_open_now idle.timed
    (subst (λ (p : Pair). HoldsPair queue new p) idle.is holds)

-- the pair of a delivery is let go
pub places_let_go : (queue new : QueueValue) (book : BookValue) (pair : Pair) → HasPlaces queue book → HasOneEach book
    → LetsPairGo queue new pair → HasPlaces new book
places_let_go queue new book pair places once lets = λ n.
    -- an entry that isn't held now wasn't held before, or is that of the pair
    let was : (x : Entry) → is_unheld new n x ≡ true → (is_unheld queue n x || nat_eq x.seq pair.seq) ≡ true =
    λ x h. grind (arith, nat_tests, h, lets.pairs (own_pair x)) in
    let mark = lets.state n in
    by_bool (bytes_eq pair.endpoint n)
    (λ same.
    let more = count_within _ (is_unheld queue n) (λ (x : Entry). nat_eq x.seq pair.seq) book.entries was in
    let is : pair.endpoint ≡ n = (bytes_eq-Decides pair.endpoint n).0 same in
    omega (arith, more, places n, once pair.seq, ap (free_places new) is, lets.place, ap (free_places queue) is))
    (λ apart.
    let fewer : (x : Entry) → is_unheld new n x ≡ true → is_unheld queue n x ≡ true =
    λ x h. grind (arith, h, lets.pairs (own_pair x), bytes_eq-Decides pair.endpoint x.name) in
    let less = count_below (is_unheld new n) (is_unheld queue n) book.entries fewer in
    grind (arith, less, places n, mark, apart))

-- What the queue has next is the definition's choice

due_told : (p : Bool) (x y : ℕ) → x ≡ y → option_map_or (λ due. nat_eq due y) (if p then Some x else None) false ≡ p
due_told p x y e = grind (arith, nat_tests)

-- Deliveries

-- the entry of a delivery, in each world: that of its Accept, unless a settled Purge took it
abbrev pub entry_of_world : World → ℕ → Accepted → Entry
entry_of_world w s =
    entry_for (attempts_of (all_records w)) (attempts_of (settled_records w)) (purged_by (all_records w)) s

abbrev pub accept_left : World → ℕ → Option Accepted
accept_left w s = if is_purged (settled_records w) s then None else accept_at (all_records w) s

pub entry_is : {d : DeskValue} {w : World} (s : ℕ) → StandsFor d w
    → entry_at d.deliveries.entries s ≡ option_map (entry_of_world w s) (accept_left w s)
entry_is {d} {w} s h =
    ap (λ es. entry_at es s) h.books.of_deliveries.entries
    ∙ entry_at-entries (all_records w) (length (settled_records w)) s
    ∙ ap (λ records. option_map (entry_for (attempts_of (all_records w)) (attempts_of records)
    (purged_by (all_records w)) s)
    (if is_purged records s then None else accept_at (all_records w) s)) (settled_front w)

-- an Accept is at the same number among the settled records
accept_settled : (w : World) (s : ℕ) → s < length (settled_records w)
    → accept_at (all_records w) s ≡ accept_at (settled_records w) s
accept_settled w s below =
    ap (λ records. accept_at records s) (settled_first w) ∙ accepted-before (settled_records w) (waiting_records w) s
    below

-- a settled delivery that no settled Purge took
pub accepted_settled : (w : World) (s : ℕ) (a : Accepted) → accepted (settled_records w) s ≡ Some a
    → (s < length (settled_records w)) × (accept_at (all_records w) s ≡ Some a)
    × (is_purged (settled_records w) s ≡ false)
accepted_settled w s a e =
    let there : is_some (accepted (settled_records w) s) ≡ true = ap is_some e in
    let below = below_if_accepted (settled_records w) s (there_if_kept (settled_records w) s there) in
    let kept = unpurged_if (settled_records w) s there in
    (below, accept_settled w s below ∙ sym (accepted_is (settled_records w) s kept) ∙ e, kept)

-- its entry
pub entry_settled : {d : DeskValue} {w : World} (s : ℕ) (a : Accepted) → StandsFor d w
    → accepted (settled_records w) s ≡ Some a
    → entry_at d.deliveries.entries s ≡ Some (entry_of_world w s a)
entry_settled {d} {w} s a h e =
    let there = accepted_settled w s a e in
    entry_is s h ∙ (λ i. option_map (entry_of_world w s) (if there.2 i then None else there.1 i))

-- the Accept of an entry that is settled
pub settled_left : (w : World) (s : ℕ) (a : Accepted) → s < length (settled_records w) → accept_left w s ≡ Some a
    → accepted (settled_records w) s ≡ Some a
settled_left w s a below e =
    ap (λ o. if is_purged (settled_records w) s then None else o) (sym (accept_settled w s below)) ∙ e

attempts_split : (w : World) (s : ℕ) → attempts_of (all_records w) s ≡ attempts_of (settled_records w) s ++ attempts_of
    (waiting_records w) s
attempts_split w s = ap (λ records. attempts_of records s) (settled_first w) ∙ attempts_of-append (settled_records w)
    (waiting_records w) s

-- whether a delivery is pending after these attempts
abbrev is_pending_after : List Attempt → Bool
is_pending_after attempts = is_in_state Pending (state_by (is_delivered_among attempts) (failed_among attempts))

-- whether the delivery waits for its next attempt is told by its entry
waits_is : {d : DeskValue} {w : World} (s : ℕ) (a : Accepted) → StandsFor d w → accepted (settled_records w) s ≡ Some a
    → waits_as d.deliveries d.live (pair_of a.endpoint (due_of (settled_records w) s) s) ≡ waits w s
waits_is {d} {w} s a h e =
    let there = accepted_settled w s a e in
    let all = attempts_of (all_records w) s in
    let settled = attempts_of (settled_records w) s in
    let waiting = attempts_of (waiting_records w) s in
    let split = attempts_split w s in
    let counts = ap length split ∙ length-append settled waiting in
    let pair = pair_of a.endpoint (due_of (settled_records w) s) s in
    let entry = entry_settled s a h e in
    let first : nat_lt s d.deliveries.settled_seq ≡ true = lt-ltb s d.deliveries.settled_seq
    (omega (arith, there.0, h.books.of_deliveries.settled_seq)) in
    let named : bytes_eq a.endpoint a.endpoint ≡ true = (bytes_eq-Decides a.endpoint a.endpoint).1 refl in
    let due = due_is w s a e in
    let none : eqb (length waiting) 0 ≡ eqb (length all) (length settled) = grind (arith, nat_tests, counts) in
    let out : is_out s d.live ≡ is_live w s = ap (is_out s) h.live in
    let same : eqb (length all) (length settled) ≡ true → is_pending_after all ≡ is_pending_after settled = λ t.
    let nothing : waiting ≡ [] = empty_if waiting (omega (arith, counts, eqb-true (length all) (length settled) t)) in
    ap is_pending_after (split ∙ ap (λ more. settled ++ more) nothing ∙ append-nil settled) in
    grind (arith, entry, first, named, due, same, none, out, e)
  where
    due_is : (w : World) (s : ℕ) (a : Accepted) → accepted (settled_records w) s ≡ Some a
        → option_map_or (λ due. nat_eq due (due_of (settled_records w) s))
        (entry_of_world w s a).settled.due false
        ≡ is_pending_after (attempts_of (settled_records w) s)
    due_is w s a e = due_told (is_pending_after (attempts_of (settled_records w) s)) _ _
        (ap (λ o. option_map_or (λ last. due_after last (failures_of (settled_records w) s))
        (last_of (attempts_of (settled_records w) s)) (option_map_or (λ (t : Accepted). t.at) o 0)) (sym e))

-- a delivery that is held, by its pair
record IsOwn (w : World) (name : List ℕ) (due s : ℕ) (a : Accepted) : Type 0 where
  there : accepted (settled_records w) s ≡ Some a
  named : name ≡ a.endpoint
  timed : due ≡ due_of (settled_records w) s

-- what the queue holds is a settled delivery, with its endpoint and its due moment
held_is_own : {d : DeskValue} {w : World} (name : List ℕ) (due s : ℕ) → StandsFor d w
    → waits_as d.deliveries d.live (pair_of name due s) ≡ true → (a : Accepted) × IsOwn w name due s a
held_is_own {d} {w} name due s h held =
    let entry = entry_is s h in
    by_option (accept_left w s) (λ none. absurd (grind (arith, entry, none, held))) (λ a e.
    let pair = pair_of name due s in
    let x = entry_of_world w s a in
    let own : (nat_lt s d.deliveries.settled_seq ≡ true) × (is_pair_of pair x ≡ true) = grind (arith, entry, e, held) in
    let below : s < length (settled_records w) =
    omega (arith, ltb-true s d.deliveries.settled_seq own.0, h.books.of_deliveries.settled_seq) in
    let there = settled_left w s a below e in (
      a,
      record {
        there = there;
        named = sym ((bytes_eq-Decides a.endpoint name).0 (and_first (bytes_eq a.endpoint name) _ own.1));
        timed = rw there (sym (told _ _ (and_second (bytes_eq a.endpoint name) _ own.1)));
      },
    ))
  where
    told : (p : Bool) (x : ℕ) → option_map_or (λ t. nat_eq t due) (if p then Some x else None) false ≡ true → x ≡ due
    told p x e = grind (arith, nat_tests, e)

-- Limits

abbrev pub bound_in : Endpoint → List ℕ × ℕ
bound_in e = (e.name, e.max)

-- the limiter of an endpoint has its maximum
pub limiter_is : {d : DeskValue} {w : World} (name : List ℕ) → StandsFor d w → AreLimiters d.limiters d.endpoints
    → option_map bound_by (limiter_of d.limiters name) ≡ option_map bound_in (endpoint_of (all_records w) name)
limiter_is {d} {w} name h are = limiter_entry d.limiters d.endpoints name are
    ∙ field-told d.endpoints (all_records w) name bound_in h.books.of_endpoints.tells

-- the limit of an endpoint that is there
pub limit_is : {d : DeskValue} {w : World} (name : List ℕ) → StandsFor d w → AreLimiters d.limiters d.endpoints
    → has_endpoint (all_records w) name ≡ true → limit_by d.limiters name ≡ limit_in w name
limit_is {d} {w} name h are known =
    let same = limiter_is name h are in
    by_option (limiter_of d.limiters name) (λ none. absurd (grind (arith, same, known, none))) (λ l found.
    let stands = subst (λ o. StandsBy o (samples_of w name)) found (h.limits name) in
    grind (arith, same, known, found, stands.limit))

accepted_known : (records some : List Record) (d : ℕ) (a : Accepted) → AllKnown records some → accept_at some d ≡ Some a
    → has_endpoint records a.endpoint ≡ true
accepted_known records [] d a known is = absurd (let e = is in cc)
accepted_known records (Accept name id body at ∷ rest) zero a known is =
    ap (λ (t : Accepted). has_endpoint records t.endpoint) (sym (same_Some _ a is)) ∙ known.0
accepted_known records (r ∷ rest) zero a known is = absurd (let e = is in cc)
accepted_known records (r ∷ rest) (suc d) a known is = accepted_known records rest d a known.1 is

-- the endpoint of a delivery is there
pub endpoint_there : {d : DeskValue} {w : World} (s : ℕ) (a : Accepted) → StandsFor d w
    → accepted (settled_records w) s ≡ Some a → has_endpoint (all_records w) a.endpoint ≡ true
endpoint_there {d} {w} s a h e = accepted_known (all_records w) (all_records w) s a
    (legal_known (all_records w) h.books.legal) (accepted_settled w s a e).1

pub room_is : {d : DeskValue} {w : World} {queue : QueueValue} (name : List ℕ) → StandsFor d w
    → AreLimiters d.limiters d.endpoints → KnowsRooms queue d.endpoints d.limiters d.live
    → has_endpoint (all_records w) name ≡ true → has_room_in queue.states name ≡ has_room w name
room_is {d} {w} {queue} name h are lanes known =
    lanes.rooms name (lanes.known name (known_is name h ∙ known))
    ∙ (λ i. h.books.of_endpoints.tells.enabled name i && nat_lt (in_flight_of name (h.live i))
    (limit_is name h are known i))

-- The choice

pub place_is : {d : DeskValue} {w : World} → StandsFor d w → has_place_in w ≡ has_place d
place_is {d} {w} h = λ i. nat_lt (outcomes_in (sym h.waiting.steps i) + length (sym h.live i)) MAX_WAITING_OUTCOMES

-- whether an attempt at a settled delivery may begin is told by the queue
claimable_is : {d : DeskValue} {w : World} {queue : QueueValue} (now s : ℕ) (a : Accepted) → StandsFor d w
    → AreTied d.endpoints d.deliveries d.waiting d.live d.limiters queue → has_place d ≡ true
    → accepted (settled_records w) s ≡ Some a → is_claimable w now s ≡ is_ready queue now
    (pair_of a.endpoint (due_of (settled_records w) s) s)
claimable_is {d} {w} {queue} now s a h tied place e =
    let pair = pair_of a.endpoint (due_of (settled_records w) s) s in
    let held = sym (waits_is s a h e) ∙ sym (tied.queued.held pair) in
    let room = sym (room_is a.endpoint h tied.limited tied.lanes (endpoint_there s a h e)) in
    let has = place_is h ∙ place in
    grind (arith, e, held, room, has)

-- no Purge took a delivery that waits for its next attempt
unpurged_if_waits : (w : World) (s : ℕ) → waits w s ≡ true → is_purged (all_records w) s ≡ false
unpurged_if_waits w s may =
    let pending = and_first (is_pending (settled_records w) s) _ may in
    let none = and_first (has_no_waiting_outcome w s) _ (and_second (is_pending (settled_records w) s) _ may) in
    let same : attempts_of (all_records w) s ≡ attempts_of (settled_records w) s =
    attempts_split w s
    ∙ ap (λ more. attempts_of (settled_records w) s ++ more)
    (empty_if (attempts_of (waiting_records w) s) (eqb-true (length (attempts_of (waiting_records w) s)) 0 none))
    ∙ append-nil (attempts_of (settled_records w) s) in
    unpurged_while_pending (all_records w) s
    (ap is_pending_after same ∙ and_second (is_some (accepted (settled_records w) s)) _ pending)

-- where the settled records don't have a delivery, it isn't claimable
pub claimable_there : (w : World) (now s : ℕ) → is_claimable w now s ≡ true → (a : Accepted)
    × (accepted (settled_records w) s ≡ Some a)
claimable_there w now s c =
    by_option (accepted (settled_records w) s) (λ e. absurd (grind (arith, e, c))) (λ a e. (a, e))

pub next_is_choice : {d : DeskValue} {w : World} {queue : QueueValue} (now : ℕ) (name : List ℕ) (s : ℕ) → StandsFor d w
    → AreTied d.endpoints d.deliveries d.waiting d.live d.limiters queue
    → has_place d ≡ true → IsNext queue now name s → choice w now ≡ Some s
next_is_choice {d} {w} {queue} now name s h tied place next =
    let held = sym (tied.queued.held (pair_of name next.due s)) ∙ and_first _ _ next.ready in
    let found = held_is_own name next.due s h held in
    let a = found.0 in
    let own = found.1 in
    let ready : is_ready queue now (pair_of a.endpoint (due_of (settled_records w) s) s) ≡ true =
    ap (λ (p : List ℕ × ℕ). is_ready queue now (pair_of p.0 p.1 s)) (λ i. (sym own.named i, sym own.timed i))
    ∙ next.ready in
    let claimable = claimable_is now s a h tied place own.there ∙ ready in
    let first_place : 0 + s ≡ s = omega arith in
    let settled = accepted_settled w s a own.there in
    least_is (due_of (settled_records w)) 0 (claimables w now) s
    (rises_filter (is_claimable w now) 0 (deliveries (settled_records w))
    (rises_filter (λ n. not (is_purged (settled_records w) n)) 0 (places_from is_accept 0 (settled_records w))
    (places_rise is_accept 0 (settled_records w))))
    (among_filter (is_claimable w now) s (deliveries (settled_records w))
    (among_filter (λ n. not (is_purged (settled_records w) n)) s (places_from is_accept 0 (settled_records w))
    (subst (λ k. Among k (places_from is_accept 0 (settled_records w))) first_place
    (accepted_among 0 s (settled_records w) a
    (sym (accept_settled w s settled.0) ∙ settled.1))) (ap not settled.2)) claimable)
    (λ m among. first own.timed m (least.passes (is_claimable w now) m (deliveries (settled_records w)) among))
  where
    first : next.due ≡ due_of (settled_records w) s → (m : ℕ) → is_claimable w now m ≡ true
        → IsFirstBy (due_of (settled_records w)) s m
    first due m c =
        let there = claimable_there w now m c in
        let later = next.first (pair_of there.0.endpoint (due_of (settled_records w) m) m)
        (sym (claimable_is now m there.0 h tied place there.1) ∙ c) in
        (omega (arith, later.due, due), λ same. later.tie (due ∙ same))

pub nothing_is_choice : {d : DeskValue} {w : World} {queue : QueueValue} (now : ℕ) → StandsFor d w
    → AreTied d.endpoints d.deliveries d.waiting d.live d.limiters queue
    → has_place d ≡ true → NothingIsReady queue now → choice w now ≡ None
nothing_is_choice {d} {w} {queue} now h tied place nothing =
    ap (least_by (due_of (settled_records w)))
    (none_pass (is_claimable w now) (deliveries (settled_records w)) (λ s. by_bool (is_claimable w now s) (λ c.
    let there = claimable_there w now s c in
    claimable_is now s there.0 h tied place there.1
    ∙ nothing (pair_of there.0.endpoint (due_of (settled_records w) s) s)) (λ c. c)))

-- without a place nothing is claimable
pub full_is_choice : {d : DeskValue} {w : World} (now : ℕ) → StandsFor d w → has_place d ≡ false → choice w now ≡ None
full_is_choice {d} {w} now h full =
    let none = place_is h ∙ full in
    ap (least_by (due_of (settled_records w)))
    (none_pass (is_claimable w now) (deliveries (settled_records w)) (λ s. grind (arith, none)))

-- A claim is the model's, by what the desk finds

abbrev pub halted_faults : World → Faults
halted_faults w = (w.halted, 1, fault.Halted) ∷ []

abbrev pub spent_faults : World → Faults
spent_faults w = (are_seqs_spent w, 2, fault.SeqExhausted) ∷ []

-- what the desk looks for is what the model does
pub checks_halted : {d v : DeskValue} (result : Result (Unit {0}) Refusal) → d ≡ v
    → result ≡ first_fault ((d.halted, 1, fault.Halted) ∷ []) → Checks v halted_faults result
checks_halted result same e = λ w h. e ∙ ap (λ b. first_fault ((b, 1, fault.Halted) ∷ [])) (seen same h).halted

pub checks_spent : {d : DeskValue} (b : Bool) (result : Result (Unit {0}) Refusal)
    → OverWorlds d (λ w. b ≡ are_seqs_spent w) → result ≡ first_fault ((b, 2, fault.SeqExhausted) ∷ [])
    → Checks d spent_faults result
checks_spent b result spent e = λ w h. e ∙ ap (λ x. first_fault ((x, 2, fault.SeqExhausted) ∷ [])) (spent w h)

-- the delivery that the desk has next is the choice, in each world for which it stands
abbrev pub Chooses : DeskValue → (at : ℕ) → (chosen : Option ℕ) → Type 0
Chooses d at chosen = OverWorlds d (λ w. chosen ≡ choice w at)

-- a claim at a desk that isn't halted, by what is next
claim_by : (d new : DeskValue) (now at : ℕ) (u : Unit {0}) (chosen : Option ℕ)
    (reply : Result (Option JobValue) Refusal) → Checks d halted_faults (Ok u) → at ≡ max now d.clock
    → Chooses d at chosen
    → IsMove d (λ w. claim_chosen w at chosen) reply new → IsMove d (λ w. claim w now) reply new
claim_by d new now at u chosen reply checks later chooses move =
    passes d new halted_faults (λ w. claim_chosen w (moment w now) (choice w (moment w now))) u reply checks
    (becomes d new (λ w. claim_chosen w at chosen) (λ w. claim_chosen w (moment w now) (choice w (moment w now))) reply
    (λ w h. ap (claim_chosen w at) (chooses w h) ∙ ap (λ t. claim_chosen w t (choice w t))
    (later ∙ ap (max now) h.clock)) move)

pub claim_rests : (d new : DeskValue) (now at : ℕ) (u : Unit {0}) → Checks d halted_faults (Ok u) → at ≡ max now d.clock
    → Chooses d at None → new ≡ record d { clock = at }
    → IsMove d (λ w. claim w now) (Ok None) new
claim_rests d new now at u checks later chooses is =
    claim_by d new now at u None (Ok None) checks later chooses
    (makes d new (λ w. rests w at) None
    (λ w h. (
      refl,
      subst (λ (v : DeskValue). StandsFor v (record w { clock = at })) (sym is)
          (stands_later d w at h),
    )))

-- the answer where this delivery is next and a number is left
abbrev started : (at delivery : ℕ) → World → Answer (Option JobValue)
started at d w = option_map_or (starts w at d) (accepted (all_records w) d) (rests w at)

-- what is chosen is a settled delivery
choice_there : (w : World) (at delivery : ℕ) → Some delivery ≡ choice w at → (a : Accepted)
    × (accepted (all_records w) delivery ≡ Some a)
choice_there w at delivery e =
    let among = least.chosen_among (due_of (settled_records w)) (claimables w at) delivery (sym e) in
    let claimable = least.passes (is_claimable w at) delivery (deliveries (settled_records w)) among in
    let there = claimable_there w at delivery claimable in
    let settled = accepted_settled w delivery there.0 there.1 in
    let may : waits w delivery ≡ true = grind (arith, claimable, there.1) in
    let kept = unpurged_if_waits w delivery may in
    (there.0, accepted_is (all_records w) delivery kept ∙ settled.1)

abbrev failing : {A : Type 0} → Refusal → Result A Refusal
failing r = Err r

abbrev making : {A : Type 0} → A → Result A Refusal
making a = Ok a

-- what is said of the attempt that was started, or of the failed allocation
pub was_made : {A E : Type 0} (P : A → Type 0) (a : A) (made : Result A E) → making a ≡ out_of_memory_at 3 made
    → IfOk made P → P a
was_made P a (Ok b) e h = let same : b ≡ a = cc in subst P same h
was_made P a (Err x) e h = cc

pub was_refused : {A E : Type 0} (X : Type 0) (r : Refusal) (made : Result A E)
    → failing {A = A} r ≡ out_of_memory_at 3 made → OnErr made X → (r ≡ refusal 3 fault.OutOfMemory) × X
was_refused X r (Ok a) e h = cc
was_refused {A} X r (Err x) e h = (cc, h)

pub claim_lacks : (d new : DeskValue) (now at : ℕ) (u v : Unit {0}) (delivery : ℕ) (r : Refusal)
    → Checks d halted_faults (Ok u) → at ≡ max now d.clock → Chooses d at (Some delivery) → Checks d spent_faults (Ok v)
    → (r ≡ refusal 3 fault.OutOfMemory) × (new ≡ d) → IsMove d (λ w. claim w now) (Err r) new
claim_lacks d new now at u v delivery r checks later chooses spent is =
    leaves d new d (λ w. claim w now) (Err r)
    (subst (λ (x : Refusal). IsMove d (λ w. claim w now) (Err x) d) (sym is.0)
    (claim_by d d now at u (Some delivery) (Err (refusal 3 fault.OutOfMemory)) checks later chooses
    (passes d d spent_faults (started at delivery) v (Err (refusal 3 fault.OutOfMemory)) spent
    (lacks d (started at delivery) 3 (λ w h. ap (λ o. (option_map_or (starts w at delivery) o (rests w at)).memory)
    (choice_there w at delivery (chooses w h)).1)))))
    is.1

abbrev given : JobValue → Result (Option JobValue) Refusal
given job = Ok (Some job)

pub claim_starts : (d new : DeskValue) (now at : ℕ) (u v : Unit {0}) (delivery : ℕ) (job : JobValue)
    → Checks d halted_faults (Ok u) → at ≡ max now d.clock → Chooses d at (Some delivery) → Checks d spent_faults (Ok v)
    → Starts d at delivery job new → IsMove d (λ w. claim w now) (Ok (Some job)) new
claim_starts d new now at u v delivery job checks later chooses spent starting =
    claim_by d new now at u (Some delivery) (given job) checks later chooses
    (passes d new spent_faults (started at delivery) v (given job) spent (λ w h.
    let s = starting w h in (
      with_attempt w at job.row,
      inl (
        ap given s.2 ∙ sym (ap (λ o. (option_map_or (starts w at delivery) o (rests w at)).reply) s.1),
        ap (λ (j : JobValue). with_attempt w at j.row) s.2
            ∙ sym (ap (λ o. (option_map_or (starts w at delivery) o (rests w at)).next) s.1),
      ),
      s.3,
    )))

-- What a job shows is what the records say of its delivery

-- what has a row was taken by no Purge, so its body is in memory
body_kept : (w : World) (d : ℕ) (row : BookRow) → Some row ≡ row_of (all_records w) d
    → body_left (all_records w) (length (settled_records w)) d ≡ body_of (all_records w) d
body_kept w d row rows =
    let there : is_some (accepted (all_records w) d) ≡ true =
    by_option (accepted (all_records w) d) (λ none. absurd (grind (arith, rows, none))) (λ a e. ap is_some e) in
    body_if_kept w d (unpurged_if (all_records w) d there)

abbrev row_by : (records : List Record) (d : ℕ) → Accepted → BookRow
row_by records d a = record {
  endpoint = a.endpoint;
  id = a.id;
  at = a.at;
  attempts = length (attempts_of records d);
  state = state_of records d;
  due = due_if_pending records d;
  last_status = option_map (λ t. t.status) (last_of (attempts_of records d));
}

secrets_told : (b : Bool) (secrets known : List (List ℕ)) → Some secrets ≡ (if b then Some known else None)
    → secrets ≡ known
secrets_told b secrets known e = grind arith

pub post_is : (w : World) (at d : ℕ) (row : BookRow) (target body : List ℕ) (secrets : List (List ℕ))
    → Some row ≡ row_of (all_records w) d
    → Some body ≡ body_left (all_records w) (length (settled_records w)) d
    → Some target ≡ option_map (λ e. e.target) (endpoint_of (all_records w) row.endpoint)
    → Some secrets ≡ secrets_if_known (all_records w) row.endpoint
    → IsPostOf w at d (record {
      endpoint = row.endpoint;
      delivery = d;
      id = row.id;
      attempt = row.attempts + 1;
      at = at;
      target =
          target;
      secrets = secrets;
      body = body;
    })
post_is w at d row target body secrets rows bodies targets known =
    by (accepted (all_records w) d) refl rows (bodies ∙ body_kept w d row rows)
  where
    by : (o : Option Accepted) → accepted (all_records w) d ≡ o → Some row ≡ option_map (row_by (all_records w) d) o
        → Some body ≡ option_map (λ a. a.body) o
        → IsPostOf w at d (record {
          endpoint = row.endpoint;
          delivery = d;
          id = row.id;
          attempt = row.attempts + 1;
          at = at;
          target =
              target;
          secrets = secrets;
          body = body;
        })
    by None e rows bodies = cc
    by (Some a) e rows bodies =
        let same : row ≡ row_by (all_records w) d a = same_Some row (row_by (all_records w) d a) rows in
        let own : target ≡ target_in w a.endpoint =
        sym (some_told (λ (x : Endpoint). x.target) (endpoint_of (all_records w) row.endpoint) target [] targets)
        ∙ ap (λ (r : BookRow). target_in w r.endpoint) same in
        let given : secrets ≡ secrets_of (all_records w) a.endpoint =
        secrets_told (has_endpoint (all_records w) row.endpoint) secrets (secrets_of (all_records w) row.endpoint) known
        ∙ ap (λ (r : BookRow). secrets_of (all_records w) r.endpoint) same in
        let bytes : body ≡ a.body = cc in (
          a,
          e,
          λ i. record {
            endpoint = (same i).endpoint;
            delivery = d;
            id = (same i).id;
            attempt = (same i).attempts + 1;
            at =
                at;
            target = own i;
            secrets = given i;
            body = bytes i;
          },
        )

-- the desk with one more attempt under way, at this moment
pub stands_started : (d : DeskValue) (w : World) (at : ℕ) (row : Row) → StandsFor d w
    → StandsFor (record (with_live d row) { clock = at }) (with_attempt w at row)
stands_started d w at row h = assumption (ap (λ rows. rows ++ row ∷ []) h.live)

abbrev job_by : Row → PostValue → JobValue
job_by row post = record {
  row = row;
  id = post.id;
  attempt = post.attempt;
  at = post.at;
  target =
      post.target;
  secrets = post.secrets;
  body = post.body;
}

pub job_starts : (d new : DeskValue) (at delivery : ℕ) (row : Row) (post : PostValue)
    → ((w : World) → StandsFor d w → IsPostOf w at delivery post) → row ≡ next_row post.endpoint delivery d.live
    → new ≡ record (with_live d row) { clock = at } → Starts d at delivery (job_by row post) new
job_starts d new at delivery row post posts rows is = λ w h.
    let p = posts w h in
    let same : job_by row post ≡ job_of w at delivery p.0 =
    (λ i. job_by (rows i) post) ∙ (λ i. job_by (next_row (p.2 i).endpoint delivery (h.live i)) (p.2 i)) in (
      p.0,
      p.1,
      same,
      stands_as is (stands_started d w at row h),
    )

-- What a desk tells of an endpoint's limit

pub limits_are : (d : DeskValue) (w : World) (name : List ℕ) → StandsFor d w → AreLimiters d.limiters d.endpoints
    → option_map (limits_by (in_flight_of name d.live)) (limiter_of d.limiters name) ≡ limits w name
limits_are d w name h are =
    let same = limiter_is name h are in
    by_option (limiter_of d.limiters name) (λ none. grind (arith, same, none)) (λ l found.
    let stands = subst (λ o. StandsBy o (samples_of w name)) found (h.limits name) in
    grind (arith, same, found, stands.limit, stands.noload, h.live))
