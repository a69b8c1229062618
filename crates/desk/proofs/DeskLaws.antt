-- The worlds for which a desk stands, what it tells of them, and how its calls move them on.
use Rattle.desk.proofs.Words.{◌≡◌, ℕ, [], ◌∷◌, ◌++◌, take, drop, refl, sym, ◌∙◌, ap, append-nil, append_assoc}
use Rattle.desk.proofs.Words.{take-append-drop}
use Rattle.desk.proofs.Words.{Record, History, records_of, suc, ◌+◌, ◌≤◌, Bool, true, false, List, Option, Some}
use Rattle.desk.proofs.Words.{None, arith, cond, ◌&&◌, map, add-zero, slice_get, filter, count_by, option_map}
use Rattle.desk.proofs.Words.{option_and_then, is_some, enumerate_from, option_map_or, sum_by-cons, Pending, Accepted}
use Rattle.desk.proofs.Words.{accepted_by, accepted, is_accept, is_accept_of, deliveries, deliveries_of}
use Rattle.desk.proofs.Words.{known_as, is_in_state, state_of, row_of, counts_of, counts_of_all, pending_among}
use Rattle.desk.proofs.Words.{length, subst, take-append_seam, endpoints, View, view_of, body_of}
use Rattle.desk.proofs.Words.{record_count, length-records_of-split, World, all_records, settled_records}
use Rattle.desk.proofs.Words.{waiting_records, is_row_of, has_event, QueueValue, DeskValue, IsCore, IsDesk, StandsFor}
use Rattle.desk.proofs.Words.{BookRow, inl, inr, Result, Ok, Err, IfOk, OnErr, IsSomeAnd, Refusal, Faults, refusal}
use Rattle.desk.proofs.Words.{first_fault, out_of_memory_at, Answer, MayGive, or_out_of_memory, refused, unless, IsMove}
use Rattle.desk.proofs.Words.{Checks, by_bool, ◌<◌, length-append, max, bytes_eq, OnOk, not, IsTrue, take-append-le}
use Rattle.desk.proofs.Words.{drop-append-le, lt-ltb, MAX_ENDPOINTS, MAX_RECORDS, Put, Secrets, Enabled, Accept}
use Rattle.desk.proofs.Words.{has_endpoint, IsLegal, may_follow, is_within_limits, legal_more, Change, entry_of}
use Rattle.desk.proofs.Words.{is_flag, is_known, HasChanges, stands-other, is_other, HasWaiting, WaitingValue}
use Rattle.desk.proofs.Words.{with_step, length-records_of, count_by_snoc, stages, moment, at_moment, with_record}
use Rattle.desk.proofs.Words.{next_seq, ticket, accepts, submit, submit_known, submit_new, submit_faults}
use Rattle.desk.proofs.Words.{new_submit_faults, repeats, changes, change, Sample, StandsForSamples, Row, Limiter}
use Rattle.desk.proofs.Words.{samples_of, AreTied, StandsAt, StandsBy, endpoint_at, is_limiter_of, new_limiter}
use Rattle.desk.proofs.Words.{AreLimits, AreBooks, OverWorlds, with_entry, with_put, with_secrets, with_enabled}
use Rattle.desk.proofs.Words.{with_accept, nat_le, nat_eq, MAX_WAITING_REQUESTS, requests_in, is_waiting_full}
use Rattle.desk.proofs.Words.{are_seqs_spent, nat_tests, flags_in, has_place_for, is_pair_named}
use Rattle.desk.proofs.Words.{subscriptions, MAX_SUBSCRIPTIONS, Subscribed, Stages, with_subscribed, ◌||◌, nat_lt}
use Rattle.desk.proofs.Words.{Purge, Takes, accept_at, accepted-before, below_if_accepted, body_left, if◌then◌else◌}
use Rattle.desk.proofs.Words.{is_event_of, is_purged, there_if_kept, unpurged_front, with_purged}
use Rattle.desk.specs.declared.ticket.Ticket.{Ticket}
use Rattle.delivery_book.specs.declared.row.Counts.{Counts}
use Rattle.desk.specs.Queries.{event_page, endpoint_page, totals}
use Rattle.std.specs.Result.{IsErrAnd}
use Rattle.std.proofs.lemmas.Result.{err_from_is_err_and}
use Rattle.std.specs.declared.alloc.AllocError.{AllocError}
use Rattle.endpoint_book.proofs.Filters.{none_if}
use Rattle.endpoint_book.proofs.Histories.{known-entry}
use Rattle.endpoint_book.proofs.Staged.{stands-put, stands-secrets, stands-enabled}
use Rattle.endpoint_book.proofs.Pairs.{named-told}
use Rattle.delivery_book.proofs.Laws.{stands_accept, stands_other}
use Rattle.delivery_book.proofs.Waiting.{waiting_other}
use Rattle.desk.specs.declared.ticket.CommandTicket.{CommandTicket}
use Rattle.desk.specs.declared.refusal.Fault.TheVariants as fault
use Rattle.endpoint_book.specs.Entries as endpoint_entries
use Rattle.delivery_book.specs.Entries as delivery_entries

-- steps, one list after another
pub records_of-append : (xs ys : History) → records_of (xs ++ ys) ≡ records_of xs ++ records_of ys
records_of-append [] ys = refl
records_of-append (x ∷ xs) ys = ap (λ rest. x ++ rest) (records_of-append xs ys)
    ∙ sym (append_assoc x (records_of xs) (records_of ys))

pub records_of-step : (xs : History) (step : List Record) → records_of (xs ++ step ∷ []) ≡ records_of xs ++ step
records_of-step xs step = records_of-append xs (step ∷ []) ∙ ap (λ rs. records_of xs ++ rs) (append-nil step)

pub records_of-snoc : (xs : History) (entry : Record) → records_of (xs ++ (entry ∷ []) ∷ []) ≡ records_of xs ++ entry
    ∷ []
records_of-snoc xs entry = records_of-append xs ((entry ∷ []) ∷ [])

pub records_of-split : (n : ℕ) (xs : History) → records_of xs ≡ records_of (take n xs) ++ records_of (drop n xs)
records_of-split n xs = ap records_of (sym (take-append-drop n xs)) ∙ records_of-append (take n xs) (drop n xs)

-- What the first records of a history say of its events, and which of its deliveries are pending

-- An event's number among the first records

there_if : (o : Option Accepted) (f : Accepted → Bool) → option_map_or f o false ≡ true → is_some o ≡ true
there_if o f e = grind arith

-- Pending deliveries

abbrev places_from : (Record → Bool) → ℕ → List Record → List ℕ
places_from test n records = map (λ (e : ℕ × Record). e.0) (filter (λ e. test e.1) (enumerate_from n records))

pending_from : (records : List Record) (of : ℕ → Bool) (test : Record → Bool)
    → ((r : Record) → test r ≡ true → is_some (accepted_by r) ≡ true) → (n : ℕ) (rest : List Record)
    → ((k : ℕ) → accept_at records (n + k) ≡ option_and_then accepted_by (slice_get rest k))
    → count_by of (places_from test n rest) ≡ count_by (λ d. is_some (accept_at records d) && of d)
    (places_from test n rest)
pending_from records of test accepts n [] at = refl
pending_from records of test accepts n (r ∷ rest) at =
    let later = pending_from records of test accepts (n + 1) rest (λ k.
    let moved : n + 1 + k ≡ n + suc k = omega arith in ap (accept_at records) moved ∙ at (suc k)) in
    let places = places_from test (n + 1) rest in
    let ofs = sum_by-cons (λ d. cond (of d) 1 0) n places in
    let both = sum_by-cons (λ d. cond (is_some (accept_at records d) && of d) 1 0) n places in
    by_bool (test r) (λ q.
    let here : is_some (accept_at records n) ≡ true =
    ap is_some (ap (accept_at records) (sym (add-zero n)) ∙ at 0) ∙ accepts r q in
    rw q (ofs ∙ (λ i. cond (sym here i && of n) 1 0 + later i) ∙ sym both))
    (λ q. rw q later)

starts : (records : List Record) (k : ℕ) → accept_at records (0 + k) ≡ option_and_then accepted_by (slice_get records k)
starts records k = let moved : 0 + k ≡ k = omega arith in ap (accept_at records) moved

-- those that pass another test, counted among those that aren't gone
count_kept : (of gone : ℕ → Bool) (ds : List ℕ) → count_by of (filter (λ d. not (gone d)) ds) ≡ count_by
    (λ d. not (gone d) && of d) ds
count_kept of gone [] = refl
count_kept of gone (d ∷ ds) =
    let both = sum_by-cons (λ n. cond (not (gone n) && of n) 1 0) d ds in
    let alone = sum_by-cons (λ n. cond (of n) 1 0) d (filter (λ n. not (gone n)) ds) in
    grind (arith, both, alone, count_kept of gone ds)

-- a delivery that wasn't taken is one of the records
there_or_gone : (there gone of : Bool) (o : Option Accepted) → is_some o ≡ there
    → (there && (not gone && of)) ≡ (not gone && (is_some (if gone then None else o) && of))
there_or_gone there gone of o is = grind arith

pending_among_kept : (records : List Record) (of : ℕ → Bool) (test : Record → Bool)
    → ((r : Record) → test r ≡ true → is_some (accepted_by r) ≡ true)
    → count_by of (filter (λ d. not (is_purged records d)) (places_from test 0 records))
    ≡ count_by (λ d. is_some (accepted records d) && of d)
    (filter (λ d. not (is_purged records d)) (places_from test 0 records))
pending_among_kept records of test accepts =
    let ds = places_from test 0 records in
    count_kept of (is_purged records) ds
    ∙ pending_from records (λ d. not (is_purged records d) && of d) test accepts 0 records (starts records)
    ∙ ap (λ (test : ℕ → Bool). count_by test ds)
    (λ i d. there_or_gone (is_some (accept_at records d)) (is_purged records d) (of d) (accept_at records d) refl i)
    ∙ sym (count_kept (λ d. is_some (accepted records d) && of d) (is_purged records) ds)

pub pending_is : (records : List Record) (name : List ℕ) → (counts_of records name).pending ≡ pending_among records
    (deliveries_of records name)
pending_is records name =
    pending_among_kept records (λ d. is_in_state Pending (state_of records d)) (is_accept_of name)
    (λ r t. there_if (accepted_by r) _ t)

pub pending_all_is : (records : List Record) → (counts_of_all records).pending ≡ pending_among records
    (deliveries records)
pending_all_is records = pending_among_kept records (λ d. is_in_state Pending (state_of records d)) is_accept (λ r t. t)

-- What a desk tells of each world for which it stands

-- the same desk, in other words
pub stands_as : {d e : DeskValue} {w : World} → d ≡ e → StandsFor e w → StandsFor d w
stands_as {d} {e} {w} same h = subst (λ (x : DeskValue). StandsFor x w) (sym same) h

-- the records in front are the settled ones
pub settled_first : (w : World) → all_records w ≡ settled_records w ++ waiting_records w
settled_first w = records_of-split w.settled w.history

pub settled_front : (w : World) → take (length (settled_records w)) (all_records w) ≡ settled_records w
settled_front w = ap (take (length (settled_records w))) (settled_first w) ∙ take-append_seam (settled_records w)
    (waiting_records w)

pub records_counted : {d : DeskValue} {w : World} → StandsFor d w → record_count d.waiting ≡ length (all_records w)
records_counted {d} {w} h =
    omega (
      arith,
      h.waiting.settled_seq,
      ap (λ steps. length (records_of steps)) h.waiting.steps,
      length-records_of-split w.settled w.history,
    )

-- what ties a desk's fields, but for its queue
pub is_core : {d v : DeskValue} {queue : QueueValue} → d ≡ v
    → IsDesk d.endpoints d.deliveries d.waiting d.live d.limiters queue → IsCore v
is_core {d} same h = subst (λ (x : DeskValue). IsCore x) same (assumption)

-- Tickets

pub row_is_event : (records : List Record) (ticket : Ticket)
    → is_row_of ticket (row_of records ticket.seq) ≡ has_event records ticket
row_is_event records ticket = grind arith

-- the body of a settled event is in memory
pub body_is : (w : World) (ticket : Ticket) → has_event (settled_records w) ticket ≡ true
    → body_left (all_records w) (length (settled_records w)) ticket.seq ≡ body_of (settled_records w) ticket.seq
body_is w ticket e =
    let d = ticket.seq in
    let some : is_some (accepted (settled_records w) d) ≡ true =
    there_if (accepted (settled_records w) d) (is_event_of ticket) e in
    let there : accept_at (all_records w) d ≡ accept_at (settled_records w) d =
    ap (λ records. accept_at records d) (settled_first w)
    ∙ accepted-before (settled_records w) (waiting_records w) d
    (below_if_accepted (settled_records w) d (there_if_kept (settled_records w) d some)) in
    (λ i. option_map (λ (a : Accepted). a.body) (if is_purged (settled_front w i) d then None else there i))

-- the body of what no Purge took is in memory
pub body_if_kept : (w : World) (delivery : ℕ) → is_purged (all_records w) delivery ≡ false
    → body_left (all_records w) (length (settled_records w)) delivery ≡ body_of (all_records w) delivery
body_if_kept w delivery kept =
    let front = unpurged_front (settled_records w) (waiting_records w) delivery
    (ap (λ records. is_purged records delivery) (sym (settled_first w)) ∙ kept) in
    ap (λ records. option_map (λ (a : Accepted). a.body)
    (if is_purged records delivery then None else accept_at (all_records w) delivery))
    (settled_front w)
    ∙ ap (λ b. option_map (λ (a : Accepted). a.body) (if b then None else accept_at (all_records w) delivery))
    (front ∙ sym kept)

-- Pages

pub page_absent : (w : World) (name id : List ℕ)
    → None ≡ known_as (take (length (settled_records w)) (all_records w)) name id
    → None ≡ event_page (settled_records w) name id
page_absent w name id e =
    ap (option_and_then (row_of (settled_records w))) (e ∙ ap (λ records. known_as records name id) (settled_front w))

pub page_found : (w : World) (name id : List ℕ) (delivery : ℕ) {row : Option BookRow}
    → Some delivery ≡ known_as (take (length (settled_records w)) (all_records w)) name id
    → row ≡ row_of (take (length (settled_records w)) (all_records w)) delivery
    → row ≡ event_page (settled_records w) name id
page_found w name id delivery e f =
    f ∙ ap (λ records. row_of records delivery) (settled_front w)
    ∙ ap (option_and_then (row_of (settled_records w))) (e ∙ ap (λ records. known_as records name id) (settled_front w))

pub totals_are : (w : World) (counts : Counts) (put records : ℕ)
    → counts ≡ counts_of_all (take (length (settled_records w)) (all_records w))
    → put ≡ length (endpoints (take (length (settled_records w)) (all_records w)))
    → records ≡ length (settled_records w)
    → record {
      delivered = counts.delivered;
      endpoints = put;
      exhausted = counts.exhausted;
      pending =
          counts.pending;
      records = records;
    } ≡ totals (settled_records w)
totals_are w counts put records e f g =
    let all : counts ≡ counts_of_all (settled_records w) = e ∙ ap counts_of_all (settled_front w) in
    let known : put ≡ length (endpoints (settled_records w)) = f ∙ ap (λ records. length (endpoints records))
    (settled_front w) in
    λ i. record {
      delivered = (all i).delivered;
      endpoints = known i;
      exhausted = (all i).exhausted;
      pending =
          (all i).pending;
      records = g i;
    }

pub page_is : (w : World) (name : List ℕ) (view : Option View) (counts : Counts)
    → view ≡ view_of (take (length (settled_records w)) (all_records w)) name
    → counts ≡ counts_of (take (length (settled_records w)) (all_records w)) name
    → option_map (λ v. record { view = v; counts = counts }) view ≡ endpoint_page (settled_records w) name
page_is w name view counts e f =
    let page : option_map (λ v. record { view = v; counts = counts }) view ≡ endpoint_page
    (take (length (settled_records w)) (all_records w)) name =
    λ i. option_map (λ v. record { view = v; counts = f i }) (e i) in
    page ∙ ap (λ records. endpoint_page records name) (settled_front w)

-- The answer to a call is its move: one law for its refusals, one if an allocation fails, one for what it makes

fault_refuses : {A : Type 0} (faults : Faults) (w : World) (answer : Answer A) (r : Refusal)
    → first_fault faults ≡ Err r → unless faults w answer ≡ refused w r.number r.fault
fault_refuses [] w answer r e = cc
fault_refuses {A} ((there, number, fault) ∷ rest) w answer r e = grind (arith, fault_refuses rest w answer r)

fault_passes : {A : Type 0} (faults : Faults) (w : World) (answer : Answer A) (u : Unit {0}) → first_fault faults ≡ Ok u
    → unless faults w answer ≡ answer
fault_passes [] w answer u e = refl
fault_passes {A} ((there, number, fault) ∷ rest) w answer u e = grind (arith, fault_passes rest w answer u)

-- the call is refused for the first fault that is there
pub refuses : {A : Type 0} (d : DeskValue) (faults : World → Faults) (answer : World → Answer A) (r : Refusal)
    → Checks d faults (Err r) → IsMove d (λ w. unless (faults w) w (answer w)) (Err r) d
refuses {A} d faults answer r checks = λ w h.
    let e : unless (faults w) w (answer w) ≡ refused w r.number r.fault = fault_refuses (faults w) w (answer w) r
    (sym (checks w h)) in
    (w, inl (sym (ap (λ (a : Answer A). a.reply) e), sym (ap (λ (a : Answer A). a.next) e)), h)

-- where no fault is there, the answer is that after the faults
pub passes : {A : Type 0} (d new : DeskValue) (faults : World → Faults) (answer : World → Answer A) (u : Unit {0})
    (reply : Result A Refusal) → Checks d faults (Ok u) → IsMove d answer reply new
    → IsMove d (λ w. unless (faults w) w (answer w)) reply new
passes {A} d new faults answer u reply checks move = λ w h.
    subst (λ (a : Answer A). (next : World) × MayGive w a reply next × StandsFor new next)
    (sym (fault_passes (faults w) w (answer w) u (sym (checks w h)))) (move w h)

-- the call makes this
pub makes : {A : Type 0} (d new : DeskValue) (answer : World → Answer A) (a : A)
    → ((w : World) → StandsFor d w → ((answer w).reply ≡ Ok a) × StandsFor new (answer w).next)
    → IsMove d answer (Ok a) new
makes d new answer a made = λ w h.
    let m = made w h in
    ((answer w).next, inl (sym m.0, refl), m.1)

abbrev refusing_by : {A : Type 0} → ℕ → Result A Refusal
refusing_by number = Err (refusal number fault.OutOfMemory)

-- a call that takes memory may be refused as out of memory
pub lacks : {A : Type 0} (d : DeskValue) (answer : World → Answer A) (number : ℕ)
    → ((w : World) → StandsFor d w → (answer w).memory ≡ Some number)
    → IsMove d answer (Err (refusal number fault.OutOfMemory)) d
lacks {A} d answer number takes = λ w h. (
  w,
  inr (subst (λ (o : Option ℕ). IsSomeAnd o (λ n. (refusing_by {A = A} number ≡ refusing_by n) × (w ≡ w)))
      (sym (takes w h)) (refl, refl)),
  h,
)

-- the same answer in other words
pub becomes : {A : Type 0} (d new : DeskValue) (answer other : World → Answer A) (reply : Result A Refusal)
    → ((w : World) → StandsFor d w → answer w ≡ other w) → IsMove d answer reply new → IsMove d other reply new
becomes {A} d new answer other reply same move = λ w h.
    subst (λ (a : Answer A). (next : World) × MayGive w a reply next × StandsFor new next) (same w h) (move w h)

-- the same move, for an answer that is handed on
pub replies : {A : Type 0} (old new : DeskValue) (move : World → Answer A) (a b : Result A Refusal)
    → IsMove old move b new → a ≡ b → IsMove old move a new
replies old new move a b m e = subst (λ reply. IsMove old move reply new) (sym e) m

pub leaves : {A : Type 0} (old a b : DeskValue) (move : World → Answer A) (reply : Result A Refusal)
    → IsMove old move reply b → a ≡ b → IsMove old move reply a
leaves old a b move reply m e = subst (λ new. IsMove old move reply new) (sym e) m

-- what takes memory is made, or the call is refused as out of memory
pub makes_or_lacks : {A E : Type 0} (d new : DeskValue) (answer : World → Answer A) (number : ℕ) (made : Result A E)
    → IfOk made (λ a. (w : World) → StandsFor d w → ((answer w).reply ≡ Ok a) × StandsFor new (answer w).next)
    → OnErr made (new ≡ d)
    → IsMove d (λ w. or_out_of_memory number (answer w)) (out_of_memory_at number made) new
makes_or_lacks d new answer number (Ok a) stands same = makes d new (λ w. or_out_of_memory number (answer w)) a stands
makes_or_lacks d new answer number (Err e) stands same =
    leaves d new d (λ w. or_out_of_memory number (answer w)) (Err (refusal number fault.OutOfMemory))
    (lacks d (λ w. or_out_of_memory number (answer w)) number (λ w h. refl)) same

pub hands_on : {A : Type 0} (reply : Result A Refusal) (r : Refusal) → IsErrAnd reply (λ y. y ≡ r) → reply ≡ Err r
hands_on {A} reply r h = let p = err_from_is_err_and reply h in cc

-- none of the faults is there
abbrev pub AreAbsent : Faults → Type 0
AreAbsent [] = Unit {0}
AreAbsent ((there, number, fault) ∷ rest) = (there ≡ false) × AreAbsent rest

pub absent : (faults : Faults) (u : Unit {0}) → Ok u ≡ first_fault faults → AreAbsent faults
absent [] u e = tt
absent ((there, number, fault) ∷ rest) u e = by_bool there
    (λ t. absurd (grind (arith, e, t)))
    (λ t. (t, absent rest u (grind (arith, e, t))))

-- The worlds for which a desk stands once one more record waits, and the moves that make it wait

-- What a desk tells of its worlds

pub settled_within : {d : DeskValue} {w : World} → StandsFor d w → w.settled ≤ length w.history
settled_within h = omega (arith, h.waiting.settled_first, h.waiting.sealed_within)

-- how many records there are is the number of the next one
pub count_is : {d : DeskValue} {w : World} → StandsFor d w → record_count d.waiting ≡ next_seq w
count_is {d} {w} h =
    let steps = ap (λ steps. length (records_of steps)) h.waiting.steps in
    let split = ap length (records_of-split w.settled w.history) in
    omega (arith, h.waiting.settled_seq, steps, split, length-append (settled_records w) (waiting_records w))

-- the same desk, seen from inside
pub seen : {d e : DeskValue} {w : World} → d ≡ e → StandsFor e w → StandsFor d w
seen {w = w} same h = subst (λ (x : DeskValue). StandsFor x w) (sym same) h

-- a later moment
pub stands_later : (d : DeskValue) (w : World) (at : ℕ) → StandsFor d w
    → StandsFor (record d { clock = at }) (record w { clock = at })
stands_later d w at h = assumption

-- One more record

pub one_more : (waiting : WaitingValue) (entry : Record) → record_count (with_step waiting (entry ∷ [])) ≡ record_count
    waiting + 1
one_more waiting entry = omega (arith, length-records_of waiting.waiting ((entry ∷ []) ∷ []))

-- the records that wait, and one more after them
pub one_waits : (d : delivery_entries.BookValue) (waiting : WaitingValue) (entry : Record)
    → HasWaiting d (records_of waiting.waiting ++ entry ∷ [])
    → HasWaiting d (records_of (with_step waiting (entry ∷ [])).waiting)
one_waits d waiting entry h = subst (HasWaiting d) (sym (records_of-snoc waiting.waiting entry)) h

pub one_changes : (at : ℕ → Option (List ℕ)) (e : endpoint_entries.BookValue) (waiting : WaitingValue) (entry : Record)
    → HasChanges at e (records_of waiting.waiting ++ entry ∷ [])
    → HasChanges at e (records_of (with_step waiting (entry ∷ [])).waiting)
one_changes at e waiting entry h = subst (HasChanges at e) (sym (records_of-snoc waiting.waiting entry)) h

-- the endpoints and the steps with one more record, which makes one change of an endpoint at most
pub endpoints_more : {e f : endpoint_entries.BookValue} {d : delivery_entries.BookValue} {waiting : WaitingValue}
    {live : List Row} {limiters more : List Limiter} {queue later : QueueValue} (entry : Record)
    → IsDesk e d waiting live limiters queue
    → flags_in f ≤ flags_in e + 1 → f.next_seq ≡ record_count waiting + 1 → f.settled_seq ≡ e.settled_seq
    → is_other entry ≡ true
    → HasChanges (endpoint_at d) f (records_of waiting.waiting ++ entry ∷ [])
    → AreTied f d (with_step waiting (entry ∷ [])) live more later
    → IsDesk f d (with_step waiting (entry ∷ [])) live more later
endpoints_more {e} {f} {d} {waiting} entry h flags next settled other waits tied =
    let others = waiting_other d (records_of waiting.waiting) entry other h.deliveries_wait in
    record {
      endpoints_staged = omega (arith, next, one_more waiting entry);
      endpoints_settled = settled ∙ h.endpoints_settled;
      flags_few = omega (arith, flags, next, settled, h.flags_few, h.endpoints_staged);
      endpoints_wait = one_changes (endpoint_at d) f waiting entry waits;
      deliveries_staged = omega (arith, h.deliveries_staged, one_more waiting entry);
      deliveries_settled = h.deliveries_settled;
      deliveries_wait = one_waits d waiting entry others;
      tied = tied;
    }

pub endpoints_wait : {e f : endpoint_entries.BookValue} {d : delivery_entries.BookValue} {waiting : WaitingValue}
    {live : List Row} {limiters more : List Limiter} {queue later : QueueValue} (change : Change) (entry : Record)
    → IsDesk e d waiting live limiters queue
    → f.changes ≡ e.changes ++ change ∷ [] → f.next_seq ≡ record_count waiting + 1 → f.settled_seq ≡ e.settled_seq
    → is_other entry ≡ true
    → HasChanges (endpoint_at d) f (records_of waiting.waiting ++ entry ∷ [])
    → AreTied f d (with_step waiting (entry ∷ [])) live more later
    → IsDesk f d (with_step waiting (entry ∷ [])) live more later
endpoints_wait {e} {f} {d} {waiting} change entry h changes next settled other waits tied =
    let flags = ap (count_by is_flag) changes ∙ count_by_snoc is_flag e.changes change in
    let one : cond (is_flag change) 1 0 ≤ 1 = grind arith in
    endpoints_more entry h (omega (arith, flags, one)) next settled other waits tied

-- the deliveries and the steps with one more record
pub deliveries_wait : {e : endpoint_entries.BookValue} {d f : delivery_entries.BookValue} {waiting : WaitingValue}
    {live : List Row} {limiters : List Limiter} {queue later : QueueValue} (entry : Record)
    → IsDesk e d waiting live limiters queue
    → f.next_seq ≡ record_count waiting + 1 → f.settled_seq ≡ d.settled_seq
    → HasWaiting f (records_of waiting.waiting ++ entry ∷ [])
    → HasChanges (endpoint_at f) e (records_of waiting.waiting ++ entry ∷ [])
    → AreTied e f (with_step waiting (entry ∷ [])) live limiters later
    → IsDesk e f (with_step waiting (entry ∷ [])) live limiters later
deliveries_wait {e} {d} {f} {waiting} entry h next settled waits changes tied =
    let more = one_more waiting entry in
    let endpoints_staged : e.next_seq ≤ record_count (with_step waiting (entry ∷ [])) =
    omega (arith, h.endpoints_staged, more) in
    let deliveries_staged : f.next_seq ≤ record_count (with_step waiting (entry ∷ [])) = omega (arith, next, more) in
    let changed = one_changes (endpoint_at f) e waiting entry changes in
    let deliveries_settled = settled ∙ h.deliveries_settled in
    assumption (endpoints_staged, deliveries_staged, changed, deliveries_settled, one_waits f waiting entry waits)

-- the longer history is legal
pub legal_with : {d : DeskValue} {w : World} (entry : Record) → StandsFor d w → record_count d.waiting < MAX_RECORDS
    → IsTrue (may_follow (all_records w) entry) → IsTrue (is_within_limits entry)
    → IsLegal (all_records w ++ entry ∷ [])
legal_with {d} {w} entry h room follows limits = legal_more (all_records w) entry h.books.legal follows limits
    (omega (arith, count_is h, room))

-- the desk that stands for the world with one more step
pub stands_step : (d : DeskValue) (w : World) (step : List Record) (endpoints : endpoint_entries.BookValue)
    (deliveries : delivery_entries.BookValue) → StandsFor d w
    → AreBooks endpoints deliveries (all_records w ++ step) (length (settled_records w))
    → StandsFor (record d { endpoints = endpoints; deliveries = deliveries; waiting = with_step d.waiting step })
    (record w { history = w.history ++ step ∷ [] })
stands_step d w step endpoints deliveries h books =
    let later = record w { history = w.history ++ step ∷ [] } in
    let settled : settled_records later ≡ settled_records w =
    ap records_of (take-append-le w.settled w.history (step ∷ []) (settled_within h)) in
    let counted = subst (AreBooks endpoints deliveries (all_records w ++ step)) (ap length (sym settled)) books in
    let now = length (settled_records later) in
    let recorded = subst (λ xs. AreBooks endpoints deliveries xs now) (sym (records_of-step w.history step)) counted in
    let steps =
    ap (λ steps. steps ++ step ∷ []) h.waiting.steps
    ∙ sym (drop-append-le w.settled w.history (step ∷ []) (settled_within h)) in
    let within : w.sealed ≤ length (w.history ++ step ∷ []) =
    omega (arith, h.waiting.sealed_within, length-append w.history (step ∷ [])) in
    assumption (recorded, steps, h.waiting.settled_seq ∙ ap length (sym settled), within)

-- the desk that stands for the world with one more record
pub stands_staged : (d : DeskValue) (w : World) (entry : Record) (endpoints : endpoint_entries.BookValue)
    (deliveries : delivery_entries.BookValue) → StandsFor d w
    → AreBooks endpoints deliveries (all_records w ++ entry ∷ []) (length (settled_records w))
    → StandsFor (record (with_entry d entry) { endpoints = endpoints; deliveries = deliveries }) (with_record w entry)
stands_staged d w entry endpoints deliveries h books =
    let more = (entry ∷ []) ∷ [] in
    let settled : settled_records (with_record w entry) ≡ settled_records w =
    ap records_of (take-append-le w.settled w.history more (settled_within h)) in
    let counted = subst (AreBooks endpoints deliveries (all_records w ++ entry ∷ [])) (ap length (sym settled)) books in
    let now = length (settled_records (with_record w entry)) in
    let recorded = subst (λ xs. AreBooks endpoints deliveries xs now) (sym (records_of-snoc w.history entry)) counted in
    let steps =
    ap (λ steps. steps ++ more) h.waiting.steps ∙ sym (drop-append-le w.settled w.history more (settled_within h)) in
    let within : w.sealed ≤ length (w.history ++ more) =
    omega (arith, h.waiting.sealed_within, length-append w.history more) in
    assumption (recorded, steps, h.waiting.settled_seq ∙ ap length (sym settled), within)

pub known_is : {d : DeskValue} {w : World} (name : List ℕ) → StandsFor d w
    → is_known d.endpoints name ≡ has_endpoint (all_records w) name
known_is {d} {w} name h = known-entry d.endpoints (all_records w) name h.books.of_endpoints.tells

-- Each record, where the desk has room and it may follow

-- the limiters with one more
limiters_more : (ls : List Limiter) (x : Limiter) (name : List ℕ) (samples : List Sample) → StandsAt ls name samples
    → (samples ≡ [] → StandsAt (x ∷ []) name samples) → StandsAt (ls ++ x ∷ []) name samples
limiters_more [] x name samples h new = new h
limiters_more (l ∷ ls) x name samples h new = by_bool (is_limiter_of name l)
    (λ e. rw e (rw e at h)) (λ e. rw e (limiters_more ls x name samples (rw e at h) new))

-- a limiter stands for no samples at first
limiter_new : (name other : List ℕ) (max : ℕ) (samples : List Sample) → samples ≡ []
    → StandsAt (new_limiter name max ∷ []) other samples
limiter_new name other max samples e = step (bytes_eq name other)
  where
    none : StandsForSamples (new_limiter name max).estimator []
    none = record { limit = refl; noload = refl; probes = refl }

    step : (b : Bool) → StandsBy (cond b (Some (new_limiter name max)) None) samples
    step true = subst (λ xs. StandsForSamples (new_limiter name max).estimator xs) (sym e) none
    step false = e

stands_limited : (d : DeskValue) (w : World) (limiters : List Limiter) → StandsFor d w → AreLimits limiters w
    → StandsFor (record d { limiters = limiters }) w
stands_limited d w limiters h limits = assumption

pub stands_with_put : (d : DeskValue) (w : World) (name target : List ℕ) (max : ℕ) (secrets : List (List ℕ))
    → StandsFor d w → record_count d.waiting < MAX_RECORDS → is_known d.endpoints name ≡ false
    → length (endpoints (all_records w)) < MAX_ENDPOINTS → IsTrue (is_within_limits (Put name target max secrets))
    → StandsFor (with_put d name target max secrets) (with_record w (Put name target max secrets))
stands_with_put d w name target max secrets h room unknown few limits =
    let entry = Put name target max secrets in
    let new : has_endpoint (all_records w) name ≡ false = sym (known_is name h) ∙ unknown in
    let legal = legal_with entry h room (λ i. not (new i) && lt-ltb (length (endpoints (all_records w))) MAX_ENDPOINTS
    few i) limits in
    stands_limited _ (with_record w entry) (d.limiters ++ new_limiter name max ∷ [])
    (stands_staged d w entry
    (endpoint_entries.with_put d.endpoints
    (endpoint_entries.new_entry (record_count d.waiting) name target max secrets)) d.deliveries h (record {
      of_endpoints = stands-put d.endpoints (all_records w) (length (settled_records w)) (record_count d.waiting) name
          target max secrets h.books.of_endpoints (count_is h) legal
          (none_if (entry_of d.endpoints name) unknown);
      of_deliveries = stands_other d.deliveries (all_records w) (length (settled_records w)) entry h.books.of_deliveries
          refl;
      legal = legal;
    }))
    (λ other. limiters_more d.limiters (new_limiter name max) other (samples_of w other) (h.limits other)
    (limiter_new name other max (samples_of w other)))

pub stands_with_secrets : (d : DeskValue) (w : World) (name : List ℕ) (secrets : List (List ℕ)) → StandsFor d w
    → record_count d.waiting < MAX_RECORDS → IsTrue (is_known d.endpoints name)
    → IsTrue (is_within_limits (Secrets name secrets))
    → StandsFor (with_secrets d name secrets) (with_record w (Secrets name secrets))
stands_with_secrets d w name secrets h room known limits =
    let entry = Secrets name secrets in
    let legal = legal_with entry h room (sym (known_is name h) ∙ known) limits in
    stands_staged d w entry _ d.deliveries h (record {
      of_endpoints = stands-secrets d.endpoints (all_records w) (length (settled_records w)) (record_count d.waiting)
          name secrets h.books.of_endpoints (count_is h) legal known;
      of_deliveries = stands_other d.deliveries (all_records w) (length (settled_records w)) entry h.books.of_deliveries
          refl;
      legal = legal;
    })

pub stands_with_enabled : (d : DeskValue) (w : World) (name : List ℕ) (flag : Bool) → StandsFor d w
    → record_count d.waiting < MAX_RECORDS → IsTrue (is_known d.endpoints name)
    → IsTrue (is_within_limits (Enabled name flag))
    → StandsFor (with_enabled d name flag) (with_record w (Enabled name flag))
stands_with_enabled d w name flag h room known limits =
    let entry = Enabled name flag in
    let legal = legal_with entry h room (sym (known_is name h) ∙ known) limits in
    stands_staged d w entry _ d.deliveries h (record {
      of_endpoints = stands-enabled d.endpoints (all_records w) (length (settled_records w)) (record_count d.waiting)
          name flag h.books.of_endpoints (count_is h) legal known;
      of_deliveries = stands_other d.deliveries (all_records w) (length (settled_records w)) entry h.books.of_deliveries
          refl;
      legal = legal;
    })

-- whether there is a place for the pair, by the book and by the records
pub place_is : {d : DeskValue} {w : World} (topic name : List ℕ) → StandsFor d w
    → has_place_for d.endpoints.topics topic name ≡ (is_pair_named (all_records w) topic name
    || nat_lt (length (subscriptions (all_records w))) MAX_SUBSCRIPTIONS)
place_is {d} {w} topic name h =
    let told = h.books.of_endpoints.tells.topics in
    λ i. named-told d.endpoints.topics (all_records w) topic name told i || nat_lt (told.count i) MAX_SUBSCRIPTIONS

pub stands_with_subscribed : (d : DeskValue) (w : World) (topic name : List ℕ) (flag : Bool) → StandsFor d w
    → record_count d.waiting < MAX_RECORDS → IsTrue (is_known d.endpoints name)
    → IsTrue (has_place_for d.endpoints.topics topic name) → IsTrue (is_within_limits (Subscribed topic name flag))
    → Stages d.endpoints (with_subscribed d topic name flag).endpoints (record_count d.waiting)
    (Subscribed topic name flag)
    → StandsFor (with_subscribed d topic name flag) (with_record w (Subscribed topic name flag))
stands_with_subscribed d w topic name flag h room known free limits stages =
    let entry = Subscribed topic name flag in
    let legal = legal_with entry h room (λ i. (sym (known_is name h) ∙ known) i
    && (sym (place_is topic name h) ∙ free) i) limits in
    stands_staged d w entry _ d.deliveries h (record {
      of_endpoints = stages (all_records w) (length (settled_records w)) h.books.of_endpoints (count_is h) legal;
      of_deliveries = stands_other d.deliveries (all_records w) (length (settled_records w)) entry h.books.of_deliveries
          refl;
      legal = legal;
    })

pub stands_with_accept : (d : DeskValue) (w : World) (name id body : List ℕ) (at : ℕ) → StandsFor d w
    → record_count d.waiting < MAX_RECORDS → has_endpoint (all_records w) name ≡ true
    → known_as (all_records w) name id ≡ None → IsTrue (is_within_limits (Accept name id body at))
    → StandsFor (with_accept d name id body at) (with_record (record w { clock = at }) (Accept name id body at))
stands_with_accept d w name id body at h room known new limits =
    let entry = Accept name id body at in
    let legal = legal_with entry h room (λ i. known i && not (is_some (new i))) limits in
    stands_later (record (with_accept d name id body at) { clock = d.clock }) (with_record w entry) at
    (stands_staged d w entry d.endpoints _ h (record {
      of_endpoints = stands-other d.endpoints (all_records w) (length (settled_records w)) entry h.books.of_endpoints
          legal refl;
      of_deliveries = stands_accept d.deliveries (all_records w) (length (settled_records w)) (record_count d.waiting)
          name id body at h.books.of_deliveries (count_is h);
      legal = legal;
    }))

-- Commands

-- the record waits at the desk after it
abbrev pub Waits : DeskValue → Record → DeskValue → Type 0
Waits d entry new = OverWorlds d (λ w. IsTrue (is_within_limits entry) → StandsFor new (with_record w entry))

-- the record is staged, or the call lacks memory
pub stages_or_lacks : (d new staged : DeskValue) (entry : Record) (made : Result CommandTicket AllocError)
    → Waits d entry staged
    → IfOk made (λ t. t.seq ≡ record_count d.waiting) → OnOk made (new ≡ staged)
    → OnOk made (IsTrue (is_within_limits entry)) → OnErr made (new ≡ d)
    → IsMove d (λ w. or_out_of_memory 7 (stages w entry)) (out_of_memory_at 7 made) new
stages_or_lacks d new staged entry (Err e) waits same is limits err =
    makes_or_lacks d new (λ w. stages w entry) 7 (Err e) tt err
stages_or_lacks d new staged entry (Ok t) waits same is limits err =
    makes_or_lacks {E = AllocError} d new (λ w. stages w entry) 7 (Ok t) (λ w h. (
      ap Ok (λ i. record { seq = (sym (count_is h) ∙ sym same) i }),
      subst (λ (v : DeskValue). StandsFor v (with_record w entry)) (sym is) (waits w h limits),
    )) err

pub subscribes_or_lacks : (d new : DeskValue) (topic name : List ℕ) (flag : Bool)
    (made : Result CommandTicket AllocError) → record_count d.waiting < MAX_RECORDS → IsTrue (is_known d.endpoints name)
    → IsTrue (has_place_for d.endpoints.topics topic name)
    → IfOk made (λ t. t.seq ≡ record_count d.waiting) → OnOk made (new ≡ with_subscribed d topic name flag)
    → OnOk made (Stages d.endpoints new.endpoints (record_count d.waiting) (Subscribed topic name flag))
    → OnOk made (IsTrue (is_within_limits (Subscribed topic name flag))) → OnErr made (new ≡ d)
    → IsMove d (λ w. or_out_of_memory 7 (stages w (Subscribed topic name flag))) (out_of_memory_at 7 made) new
subscribes_or_lacks d new topic name flag (Err e) room known free same is staged limits err =
    makes_or_lacks d new (λ w. stages w (Subscribed topic name flag)) 7 (Err e) tt err
subscribes_or_lacks d new topic name flag (Ok t) room known free same is staged limits err =
    let entry = Subscribed topic name flag in
    let made = subst (λ (v : DeskValue). Stages d.endpoints v.endpoints (record_count d.waiting) entry) is staged in
    stages_or_lacks d new (with_subscribed d topic name flag) entry (Ok t)
    (λ w h kept. stands_with_subscribed d w topic name flag h room known free kept made) same is limits err

-- a Purge is staged, and takes no memory
pub stands_with_purged : (d new : DeskValue) (w : World) (before : ℕ) → StandsFor d w
    → record_count d.waiting < MAX_RECORDS
    → IsTrue (is_within_limits (Purge before)) → new ≡ with_purged d before
    → Takes d.deliveries (record_count d.waiting) (Purge before) new.deliveries
    → StandsFor new (with_record w (Purge before))
stands_with_purged d new w before h room limits is takes =
    let entry = Purge before in
    let legal = legal_with entry h room refl limits in
    let made = subst (λ (v : DeskValue). Takes d.deliveries (record_count d.waiting) entry v.deliveries) is takes in
    subst (λ (v : DeskValue). StandsFor v (with_record w entry)) (sym is)
    (stands_staged d w entry d.endpoints _ h (record {
      of_endpoints = stands-other d.endpoints (all_records w) (length (settled_records w)) entry h.books.of_endpoints
          legal refl;
      of_deliveries = made (all_records w) (length (settled_records w)) h.books.of_deliveries (count_is h);
      legal = legal;
    }))

-- Submissions

-- what the desk finds of an event, in each world for which it stands
abbrev pub Finds : DeskValue → List ℕ → List ℕ → Option ℕ → Type 0
Finds d name id found = OverWorlds d (λ w. found ≡ known_as (all_records w) name id)

-- a repeated submission sets the clock alone
repeats_makes : (d new : DeskValue) (now : ℕ) (name id : List ℕ) (delivery at : ℕ) → at ≡ max now d.clock
    → new ≡ record d { clock = at } → IsMove d (λ w. repeats w now name id delivery) (Ok (ticket delivery name id)) new
repeats_makes d new now name id delivery at later is =
    makes d new (λ w. repeats w now name id delivery) (ticket delivery name id) (λ w h. (
      refl,
      subst (λ (v : DeskValue). StandsFor v (at_moment w now)) (sym is)
          (subst (λ t. StandsFor (record d { clock = at }) (record w { clock = t })) (later ∙ ap (max now) h.clock)
          (stands_later d w at h)),
    ))

-- a submission, by what the desk finds of its id
submit_by : (d new : DeskValue) (now : ℕ) (name id body : List ℕ) (known : Option ℕ) (reply : Result Ticket Refusal)
    → Finds d name id known
    → IsMove d (λ w. submit_known known w now name id body) reply new
    → IsMove d (λ w. submit w now name id body) reply new
submit_by d new now name id body known reply finds move =
    becomes d new (λ w. submit_known known w now name id body) (λ w. submit w now name id body) reply
    (λ w h. ap (λ o. submit_known o w now name id body) (finds w h)) move

pub submit_refused : (d : DeskValue) (now : ℕ) (name id body : List ℕ) (known : Option ℕ) (r : Refusal)
    → Finds d name id known → Checks d (λ w. submit_faults w name known body) (Err r)
    → IsMove d (λ w. submit w now name id body) (Err r) d
submit_refused d now name id body known r finds checks =
    submit_by d d now name id body known (Err r) finds
    (refuses d (λ w. submit_faults w name known body)
    (λ w. option_map_or (repeats w now name id) known (submit_new w now name id body)) r checks)

pub submit_repeated : (d new : DeskValue) (now : ℕ) (name id body : List ℕ) (delivery at : ℕ) (u : Unit {0})
    → Finds d name id (Some delivery) → Checks d (λ w. submit_faults w name (Some delivery) body) (Ok u)
    → at ≡ max now d.clock → new ≡ record d { clock = at } → IsMove d (λ w. submit w now name id body)
    (Ok (ticket delivery name id)) new
submit_repeated d new now name id body delivery at u finds checks later is =
    submit_by d new now name id body (Some delivery) (Ok (ticket delivery name id)) finds
    (passes d new (λ w. submit_faults w name (Some delivery) body) (λ w. repeats w now name id delivery) u
    (Ok (ticket delivery name id)) checks (repeats_makes d new now name id delivery at later is))

submit_taken : (d new : DeskValue) (now : ℕ) (name id body : List ℕ) (u : Unit {0}) (reply : Result Ticket Refusal)
    → Finds d name id None → Checks d (λ w. submit_faults w name None body) (Ok u)
    → IsMove d (λ w. submit_new w now name id body) reply new → IsMove d (λ w. submit w now name id body) reply new
submit_taken d new now name id body u reply finds checks move =
    submit_by d new now name id body None reply finds
    (passes d new (λ w. submit_faults w name None body) (λ w. submit_new w now name id body) u reply checks move)

pub new_refused : (d : DeskValue) (now : ℕ) (name id body : List ℕ) (u : Unit {0}) (r : Refusal) → Finds d name id None
    → Checks d (λ w. submit_faults w name None body) (Ok u)
    → Checks d (λ w. new_submit_faults w name) (Err r) → IsMove d (λ w. submit w now name id body) (Err r) d
new_refused d now name id body u r finds checks new =
    submit_taken d d now name id body u (Err r) finds checks
    (refuses d (λ w. new_submit_faults w name) (λ w. or_out_of_memory 8 (accepts w now name id body)) r new)

-- the record of a new submission waits
accept_makes : (d new : DeskValue) (now : ℕ) (name id body : List ℕ) (at : ℕ) (v : Unit {0}) (given : Ticket)
    → Checks d (λ w. submit_faults w name None body) (Ok v) → record_count d.waiting < MAX_RECORDS
    → Finds d name id None → at ≡ max now d.clock → given ≡ ticket (record_count d.waiting) name id
    → new ≡ with_accept d name id body at → IsTrue (is_within_limits (Accept name id body at))
    → (w : World) → StandsFor d w → ((accepts w now name id body).reply ≡ Ok given)
    × StandsFor new (accepts w now name id body).next
accept_makes d new now name id body at v given checks room unknown later same is limits w h = (
  ap Ok (ap (λ n. ticket n name id) (sym (count_is h)) ∙ sym same),
  subst (λ (x : DeskValue). StandsFor x (with_record (at_moment w now) (Accept name id body (moment w now)))) (sym is)
      (subst (λ t. StandsFor (with_accept d name id body at)
      (with_record (record w { clock = t }) (Accept name id body t))) (later ∙ ap (max now) h.clock)
      (stands_with_accept d w name id body at h room known (sym (unknown w h)) limits)),
)
  where
    known : has_endpoint (all_records w) name ≡ true
    known = let there = absent (submit_faults w name None body) v (checks w h) in grind (arith, there)

-- a new submission is staged, or refused for memory
pub accept_moves : (d new : DeskValue) (now : ℕ) (name id body : List ℕ) (at : ℕ) (u v : Unit {0})
    (made : Result Ticket AllocError) → Checks d (λ w. new_submit_faults w name) (Ok u)
    → Checks d (λ w. submit_faults w name None body) (Ok v) → record_count d.waiting < MAX_RECORDS
    → Finds d name id None → at ≡ max now d.clock
    → IfOk made (λ given. given ≡ ticket (record_count d.waiting) name id)
    → OnOk made (new ≡ with_accept d name id body at) → OnOk made (IsTrue (is_within_limits (Accept name id body at)))
    → OnErr made (new ≡ d)
    → IsMove d (λ w. submit w now name id body) (out_of_memory_at 8 made) new
accept_moves d new now name id body at u v made checks there room unknown later same is limits err =
    submit_taken d new now name id body v (out_of_memory_at 8 made) unknown there
    (passes d new (λ w. new_submit_faults w name) (λ w. or_out_of_memory 8 (accepts w now name id body)) u
    (out_of_memory_at 8 made) checks
    (makes_or_lacks d new (λ w. accepts w now name id body) 8 made (takes made same is limits) err))
  where
    takes : (made : Result Ticket AllocError) → IfOk made (λ given. given ≡ ticket (record_count d.waiting) name id)
        → OnOk made (new ≡ with_accept d name id body at)
        → OnOk made (IsTrue (is_within_limits (Accept name id body at)))
        → IfOk made (λ given. (w : World) → StandsFor d w → ((accepts w now name id body).reply ≡ Ok given)
        × StandsFor new (accepts w now name id body).next)
    takes (Ok given) same is limits = accept_makes d new now name id body at v given there room unknown later same
        is limits
    takes (Err e) same is limits = tt

-- What the desk looks for before a call is what the model does

full_where : (free n : ℕ) → free + n ≡ MAX_WAITING_REQUESTS → nat_eq free 0 ≡ nat_le MAX_WAITING_REQUESTS n
full_where free n e = grind (arith, nat_tests)

pub is_full : {d : DeskValue} {w : World} (free : ℕ) → StandsFor d w
    → free + requests_in d.waiting.waiting ≡ MAX_WAITING_REQUESTS → nat_eq free 0 ≡ is_waiting_full w
is_full {d} free h e = full_where free (requests_in d.waiting.waiting) e
    ∙ ap (λ steps. nat_le MAX_WAITING_REQUESTS (requests_in steps)) h.waiting.steps

pub is_spent : {d : DeskValue} {w : World} (numbers : ℕ) → StandsFor d w
    → numbers ≡ record_count d.waiting + length d.live → nat_le MAX_RECORDS numbers ≡ are_seqs_spent w
is_spent {d} {w} numbers h e =
    let all : numbers ≡ length (all_records w) + length w.live = omega (arith, e, count_is h, ap length h.live) in
    ap (nat_le MAX_RECORDS) all
