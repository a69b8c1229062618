-- What a desk hands out, and what becomes of it when it comes back.
use Rattle.desk.proofs.Words.{◌≡◌, ℕ, ◌+◌, ◌-◌, ◌≤◌, Bool, true, false, [], ◌∷◌, Option, Some, None, length, take, drop}
use Rattle.desk.proofs.Words.{map, refl, sym, ◌∙◌, ap, arith, subst, eqb, max, List, ◌↔◌, option_map, Result, Ok}
use Rattle.desk.proofs.Words.{Err, OnOk, OnErr, IsOk, IsErr, IfOk, IfSome, IsSome, IsSomeAnd, not, is_some}
use Rattle.desk.proofs.Words.{if◌then◌else◌, list_all, drop-append_seam, take-add, eq-eqb, ne_eqb, drop-take}
use Rattle.desk.proofs.Words.{length-drop, length-take, take-append-drop, map-map, Record, History}
use Rattle.desk.proofs.Words.{records_of, find_map, HasChanges, changes_settled, HasWaiting, BatchValue, DoubtValue}
use Rattle.desk.proofs.Words.{doubt_of, upto_of, outcomes_in, WaitingValue, batch_of, record_count}
use Rattle.desk.proofs.Words.{sealed_count, with_batch_out, with_nothing_out, length-records_of}
use Rattle.desk.proofs.Words.{length-records_of-split, drop_drop, Refusal, refusal, first_fault, World, all_records}
use Rattle.desk.proofs.Words.{settled_records, sealed_records, Answer, is_nothing_out, sealed_batch, seal, seal_faults}
use Rattle.group_commit.specs.Steps.{fitting}
use Rattle.group_commit.proofs.StepLaws.{fitting_within, outcomes_both}
use Rattle.spool.specs.declared.limits.TheConstants.{MAX_BATCH_RECORDS}
use Rattle.desk.proofs.Words.{seal_waiting, with_batch, with_sealed_settled, with_batch_back, with_halt, Row}
use Rattle.desk.proofs.Words.{QueueValue, Limiter, KnowsRooms, AreQueued, KeepsRooms, bound_of, endpoint_at, room_by}
use Rattle.desk.proofs.Words.{DeskValue, IsDesk, StandsFor, IsReceiptOf, ArePlacesOf, IsHeldOf, OverWorlds, Turns}
use Rattle.desk.proofs.Words.{IsMove, by_option, changes_named, HasSameNames}
use Rattle.desk.proofs.SettleLaws.{named_left, none_tried}
use Rattle.group_commit.specs.declared.fault.SealFault.{SealFault}
use Rattle.group_commit.specs.declared.held.Held.{Held}
use Rattle.group_commit.specs.Waits.{with_settled}
use Rattle.endpoint_book.specs.Book as endpoint_book
use Rattle.endpoint_book.specs.Entries as endpoint_entries
use Rattle.delivery_book.specs.Book as delivery_book
use Rattle.delivery_book.specs.Entries as delivery_entries
use Rattle.group_commit.specs.declared.fault.SealFault.TheVariants as sealing
use Rattle.group_commit.specs.declared.held.Held.TheVariants as held
use Rattle.group_commit.specs.Turns as waiting
use Rattle.desk.specs.declared.refusal.Fault.TheVariants as fault
use Rattle.desk.proofs.DeskLaws.{refuses, passes, makes, lacks, becomes, leaves, records_of-split, stands_as}

-- Steps

abbrev out_count : World → ℕ
out_count w = w.sealed - w.settled

out_steps : (h : History) (settled sealed : ℕ) → settled ≤ sealed
    → take (sealed - settled) (drop settled h) ≡ drop settled (take sealed h)
out_steps h settled sealed first =
    let sum : settled + (sealed - settled) ≡ sealed = omega (arith, first) in
    sym (drop-take settled (sealed - settled) h) ∙ ap (λ n. drop settled (take n h)) sum

out_records : (h : History) (settled sealed : ℕ) → settled ≤ sealed
    → length (records_of (take settled h)) + length (records_of (take (sealed - settled) (drop settled h))) ≡ length
    (records_of (take sealed h))
out_records h settled sealed first =
    let sum : settled + (sealed - settled) ≡ sealed = omega (arith, first) in
    sym (length-records_of (take settled h) (take (sealed - settled) (drop settled h)))
    ∙ ap (λ steps. length (records_of steps)) (sym (take-add settled (sealed - settled) h) ∙ ap (λ n. take n h) sum)

rest_steps : (h : History) (settled sealed : ℕ) → settled ≤ sealed
    → drop (sealed - settled) (drop settled h) ≡ drop sealed h
rest_steps h settled sealed first =
    let sum : settled + (sealed - settled) ≡ sealed = omega (arith, first) in
    drop_drop settled (sealed - settled) h ∙ ap (λ n. drop n h) sum

-- What is out

-- the batch that is out has the sealed steps
batch_is : {d : DeskValue} {w : World} → StandsFor d w → batch_of d.waiting (out_count w) ≡ sealed_batch d.waiting.mark
    w
batch_is {d} {w} h =
    let steps : take (out_count w) d.waiting.waiting ≡ drop w.settled (take w.sealed w.history) =
    ap (take (out_count w)) h.waiting.steps ∙ out_steps w.history w.settled w.sealed h.waiting.settled_first in
    λ i. record { mark = d.waiting.mark; from = h.waiting.settled_seq i; steps = steps i }

-- what is so of the batch that is out
pub out_is : {d : DeskValue} {w : World} (P : BatchValue → Type 0) → StandsFor d w
    → IsSomeAnd d.waiting.out (λ count. P (batch_of d.waiting count)) ↔ ((is_nothing_out w.out ≡ false)
    × P (sealed_batch d.waiting.mark w))
out_is {d} {w} P h = at (is_nothing_out w.out) d.waiting.out h.waiting.is_out
  where
    at : (nothing : Bool) (out : Option ℕ) → out ≡ (if nothing then None else Some (out_count w))
        → IsSomeAnd out (λ count. P (batch_of d.waiting count)) ↔
        ((nothing ≡ false) × P (sealed_batch d.waiting.mark w))
    at true out e = (
      λ some. absurd (subst (λ o. IsSomeAnd o (λ count. P (batch_of d.waiting count))) e some),
      λ is. let wrong : true ≡ false = is.0 in cc,
    )
    at false out e = (
      λ some. (refl, subst P (batch_is h) (subst (λ o. IsSomeAnd o (λ count. P (batch_of d.waiting count))) e some)),
      λ is. subst (λ o. IsSomeAnd o (λ count. P (batch_of d.waiting count))) (sym e) (subst P (sym (batch_is h)) is.1),
    )

pub receipt_is : {d : DeskValue} {w : World} (receipt : BatchValue) → StandsFor d w
    → waiting.IsReceiptOf d.waiting receipt ↔ IsReceiptOf d.waiting.mark w receipt
receipt_is receipt h = out_is (λ batch. receipt ≡ batch) h

pub places_are : {d : DeskValue} {w : World} (places : DoubtValue) → StandsFor d w
    → waiting.ArePlacesOf d.waiting places ↔ ArePlacesOf d.waiting.mark w places
places_are places h = out_is (λ batch. places ≡ doubt_of batch) h

pub held_is : {d : DeskValue} {w : World} (held : Held) → StandsFor d w
    → waiting.IsHeldOf d.waiting held ↔ IsHeldOf d.waiting.mark w held
held_is {d} {w} held.Nothing h =
    let out = h.waiting.is_out in (λ none. grind (arith, out, none), λ is. grind (arith, out, is))
held_is (held.Batch batch) h = places_are (doubt_of batch) h
held_is (held.Doubt places) h = places_are places h

-- Turns

-- what comes back isn't what is out
pub comes_back : {A E : Type 0} {view d : DeskValue} → view ≡ d
    → (steps : WaitingValue) (Turn : Type 0) (IsOut : DeskValue → World → Type 0) (ended : World → World)
    (result : Result A E) → IsErr result
    → OverWorlds view (λ w. Turn ↔ IsOut view w) → (Turn → ⊥) → steps ≡ view.waiting
    → Turns d (IsOut d) ended result (record view { waiting = steps })
comes_back same steps Turn IsOut ended (Ok a) wrong turn is back = let no : false ≡ true = wrong in cc
comes_back {A} {E} {view} {d} same steps Turn IsOut ended (Err e) wrong turn is back =
    subst (λ (v : DeskValue). Turns {A = A} v (IsOut v) ended (Err e) (record view { waiting = steps })) same (λ w h. (
      λ out. is ((turn w h).1 out),
      subst (λ (x : WaitingValue). StandsFor (record view { waiting = x }) w) (sym back) h,
    ))

-- the batch is taken back
pub stands_back : {d : DeskValue} {w : World} → StandsFor d w
    → StandsFor (record d { waiting = with_nothing_out d.waiting }) (with_batch_back w)
stands_back {d} {w} h =
    let first : w.settled ≤ w.settled = omega arith in
    let within : w.settled ≤ length w.history = omega (arith, h.waiting.settled_first, h.waiting.sealed_within) in
    assumption (first, within)

-- nothing is taken any more
pub stands_halted : {d : DeskValue} {w : World} → StandsFor d w
    → StandsFor (record d { waiting = with_nothing_out d.waiting; halted = true }) (with_halt w)
stands_halted {d} {w} h = assumption

-- Settling

-- how many steps a receipt of what is out has
pub receipt_count : {d : DeskValue} {w : World} (receipt : BatchValue) → StandsFor d w
    → IsReceiptOf d.waiting.mark w receipt → length receipt.steps ≡ out_count w
receipt_count {d} {w} receipt h is =
    omega (
      arith,
      ap (λ (b : BatchValue). length b.steps) is.1,
      length-drop w.settled (take w.sealed w.history),
      length-take w.sealed w.history,
      h.waiting.sealed_within,
    )

-- the number after the records that are out
pub sealed_place : {d : DeskValue} {w : World} (count : ℕ) → StandsFor d w → count ≡ out_count w
    → upto_of d.waiting.settled (take count d.waiting.waiting) ≡ length (sealed_records w)
sealed_place {d} {w} count h same =
    let steps : take count d.waiting.waiting ≡ take (out_count w) (drop w.settled w.history) =
    ap (λ n. take n d.waiting.waiting) same ∙ ap (take (out_count w)) h.waiting.steps in
    omega (
      arith,
      h.waiting.settled_seq,
      ap (λ steps. length (records_of steps)) steps,
      out_records w.history w.settled
          w.sealed h.waiting.settled_first,
    )

pub stands_settled : {d : DeskValue} {w : World} (endpoints : endpoint_entries.BookValue)
    (deliveries : delivery_entries.BookValue) (count place : ℕ) → StandsFor d w → count ≡ out_count w
    → place ≡ upto_of d.waiting.settled (take count d.waiting.waiting)
    → endpoint_book.Settles d.endpoints endpoints place → delivery_book.Settles d.deliveries place deliveries
    → StandsFor (record d { endpoints = endpoints; deliveries = deliveries; waiting = with_settled d.waiting count })
    (with_sealed_settled w)
stands_settled {d} {w} endpoints deliveries count place h same upto by_endpoints by_deliveries =
    let is : place ≡ length (sealed_records w) = upto ∙ sealed_place count h same in
    let within : place ≤ length (all_records w) = omega (arith, is, length-records_of-split w.sealed w.history) in
    let were = length (settled_records w) in
    let endpoints_stand = by_endpoints (all_records w) were h.books.of_endpoints within in
    let deliveries_stand = by_deliveries (all_records w) were h.books.of_deliveries within in
    let of_endpoints = subst (λ n. endpoint_book.StandsFor endpoints (all_records w) n) is endpoints_stand in
    let of_deliveries = subst (λ n. delivery_book.StandsFor deliveries (all_records w) n) is deliveries_stand in
    let left = ap (λ n. drop n d.waiting.waiting) same ∙ ap (drop (out_count w)) h.waiting.steps in
    let steps = left ∙ rest_steps w.history w.settled w.sealed h.waiting.settled_first in
    let first : w.sealed ≤ w.sealed = omega arith in
    assumption (of_endpoints, of_deliveries, steps, sealed_place count h same, first)

-- Settling changes no name, maximum or flag of an endpoint, and lets no endpoint go.
endpoint_settled : (book : endpoint_entries.BookValue) (place : ℕ) (name : List ℕ)
    → endpoint_entries.entry_of (endpoint_entries.with_settled book place) name ≡ option_map
    (λ e. endpoint_entries.settled_at place book.changes e.name e) (endpoint_entries.entry_of book name)
endpoint_settled book place name = find_map (λ e. endpoint_entries.settled_at place book.changes e.name e)
    (endpoint_entries.is_named name) book.entries

known_settled : (book : endpoint_entries.BookValue) (place : ℕ) (name : List ℕ)
    → endpoint_entries.is_known (endpoint_entries.with_settled book place) name ≡ endpoint_entries.is_known book name
known_settled book place name = let settled = endpoint_settled book place name in grind (arith, settled)

room_settled : (book : endpoint_entries.BookValue) (place : ℕ) (limiters : List Limiter) (live : List Row)
    (name : List ℕ) → room_by (endpoint_entries.with_settled book place) limiters live name
    ≡ room_by book limiters live name
room_settled book place limiters live name = let settled = endpoint_settled book place name in grind (arith, settled)

lanes_settled : {queue told : QueueValue} {book : endpoint_entries.BookValue} {limiters : List Limiter}
    {live : List Row} (place : ℕ) → KeepsRooms queue told → KnowsRooms queue book limiters live
    → KnowsRooms told (endpoint_entries.with_settled book place) limiters live
lanes_settled {queue} {told} {book} {limiters} {live} place rooms lanes = record {
  listed = ap (λ test. list_all test live) (λ i row. known_settled book place row.endpoint i) ∙ lanes.listed;
  known = λ name known. rooms.reserved name ∙ lanes.known name (sym (known_settled book place name) ∙ known);
  rooms = λ name there. rooms.rooms name ∙ lanes.rooms name (sym (rooms.reserved name) ∙ there)
      ∙ sym (room_settled book place limiters live name);
}

outcomes_left : (count : ℕ) (steps : History) → outcomes_in (drop count steps) ≤ outcomes_in steps
outcomes_left count steps =
    omega (arith, ap outcomes_in (take-append-drop count steps), outcomes_both (take count steps) (drop count steps))

pub records_settled : (steps : WaitingValue) (count : ℕ) → record_count (with_settled steps count) ≡ record_count steps
records_settled steps count = omega (arith, length-records_of-split count steps.waiting)

-- the records that are left after those of the first steps
records_left : (steps : WaitingValue) (count place settled : ℕ)
    → place ≡ upto_of steps.settled (take count steps.waiting) → settled ≡ steps.settled
    → drop (place - settled) (records_of steps.waiting) ≡ records_of (drop count steps.waiting)
records_left steps count place settled is same =
    let front : place - settled ≡ length (records_of (take count steps.waiting)) = omega (arith, is, same) in
    (λ i. drop (front i) (records_of-split count steps.waiting i))
    ∙ drop-append_seam (records_of (take count steps.waiting)) (records_of (drop count steps.waiting))

-- the books of a desk that settles, and what ties them
pub is_desk_settled : {endpoints later : endpoint_entries.BookValue} {deliveries moved : delivery_entries.BookValue}
    {steps rest : WaitingValue} {live : List Row} {limiters : List Limiter} {queue told : QueueValue} (count place : ℕ)
    → IsDesk endpoints deliveries steps live limiters queue
    → later ≡ endpoint_entries.with_settled endpoints place → moved.settled_seq ≡ place
    → moved.next_seq ≡ max deliveries.next_seq place → rest ≡ with_settled steps count → place ≡ rest.settled
    → ((records : List Record) → HasWaiting deliveries records
    → HasWaiting moved (drop (place - deliveries.settled_seq) records))
    → HasSameNames deliveries moved → endpoint_entries.flags_in later + later.settled_seq
    ≤ later.next_seq → KeepsRooms queue told
    → ((live : List Row) → AreQueued queue deliveries live → AreQueued told moved live)
    → IsDesk later moved rest live limiters told
is_desk_settled {endpoints} {later} {deliveries} {moved} {steps} {rest} {live} {limiters} {queue} {told} count place h e
    settled next g is waits names few rooms queued =
    let same : record_count rest ≡ record_count steps = ap record_count g ∙ records_settled steps count in
    let within : place ≤ record_count rest = omega (arith, is) in
    record {
      endpoints_staged = omega (
        arith,
        ap (λ (b : endpoint_entries.BookValue). b.next_seq) e,
        h.endpoints_staged,
        same,
        within,
      );
      endpoints_settled = ap (λ (b : endpoint_entries.BookValue). b.settled_seq) e ∙ is;
      flags_few = few;
      endpoints_wait = changes_named (endpoint_at deliveries) (endpoint_at moved) later (records_of rest.waiting)
          (named_left deliveries moved (records_of rest.waiting) names
          (none_tried moved (records_of rest.waiting) left_waits))
          (subst (λ (b : endpoint_entries.BookValue). HasChanges (endpoint_at deliveries) b (records_of rest.waiting))
          (sym e)
          (subst (HasChanges (endpoint_at deliveries) (endpoint_entries.with_settled endpoints place))
          (records_left steps count place endpoints.settled_seq (is ∙ ap (λ (w : WaitingValue). w.settled) g)
          h.endpoints_settled ∙ ap (λ (w : WaitingValue). records_of w.waiting) (sym g))
          (changes_settled (endpoint_at deliveries) endpoints (records_of steps.waiting)
          (place - endpoints.settled_seq) place
          (omega (arith, is, ap (λ (w : WaitingValue). w.settled) g, h.endpoints_settled)) h.endpoints_wait)));
      deliveries_staged = omega (arith, next, h.deliveries_staged, same, within);
      deliveries_settled = settled ∙ is;
      deliveries_wait = left_waits;
      tied = record {
        limited = h.tied.limited
            ∙ sym (map-map bound_of (λ e. endpoint_entries.settled_at place endpoints.changes e.name e)
            endpoints.entries)
            ∙ sym (ap (λ (b : endpoint_entries.BookValue). map bound_of b.entries) e);
        room = record {
          places = omega (
            arith,
            ap (λ (w : WaitingValue). outcomes_in w.waiting) g,
            outcomes_left count steps.waiting,
            h.tied.room.places,
          );
          numbers = omega (arith, same, h.tied.room.numbers);
        };
        lanes = subst (λ (b : endpoint_entries.BookValue). KnowsRooms told b limiters live) (sym e)
            (lanes_settled place rooms h.tied.lanes);
        queued = queued live h.tied.queued;
      };
    }
  where
    left_waits : HasWaiting moved (records_of rest.waiting)
    left_waits =
        subst (HasWaiting moved) (records_left steps count place deliveries.settled_seq (is
        ∙ ap (λ (w : WaitingValue). w.settled) g) h.deliveries_settled
        ∙ ap (λ (w : WaitingValue). records_of w.waiting) (sym g))
        (waits (records_of steps.waiting) h.deliveries_wait)

-- Seals

-- whether something is out is told by the desk
nothing_is : {d : DeskValue} {w : World} → StandsFor d w → is_nothing_out w.out ≡ not (is_some d.waiting.out)
nothing_is {d} {w} h = let out = h.waiting.is_out in grind (arith, out)

seal_fault : {d : DeskValue} {w : World} (is_out : Bool) → StandsFor d w → d.halted ≡ false → is_some d.waiting.out
    ≡ is_out → first_fault (seal_faults w) ≡ first_fault ((is_out, 2, fault.BatchOut) ∷ [])
seal_fault {w = w} is_out h halted out =
    let free = sym h.halted ∙ halted in
    let nothing = nothing_is h in
    let turn : not (is_nothing_out w.out) ≡ is_out = grind (arith, nothing, out) in
    λ i. first_fault ((free i, 1, fault.Halted) ∷ (turn i, 2, fault.BatchOut) ∷ [])

abbrev no_steps : History → Bool
no_steps [] = true
no_steps (step ∷ rest) = false

-- how many steps wait
waiting_length : {d : DeskValue} {w : World} → StandsFor d w → length d.waiting.waiting + w.settled ≡ length w.history
waiting_length {d} {w} h = omega (
  arith,
  ap length h.waiting.steps,
  length-drop w.settled w.history,
  h.waiting.settled_first,
  h.waiting.sealed_within,
)

idle_is : {d : DeskValue} {w : World} (steps : History) → StandsFor d w → d.waiting.waiting ≡ steps
    → eqb (length w.history) w.settled ≡ no_steps steps
idle_is {d} {w} [] h e = eq-eqb (length w.history) w.settled (omega (arith, waiting_length h, ap length e))
idle_is {d} {w} (x ∷ xs) h e = ne_eqb (length w.history) w.settled
    (λ same. absurd (omega (arith, waiting_length h, ap length e, same)))

-- the first steps that wait are out
sealed_now : {d : DeskValue} {w : World} → StandsFor d w → out_count (with_batch w) ≡ sealed_count d.waiting
sealed_now {d} {w} h =
    let same : fitting MAX_BATCH_RECORDS (drop w.settled w.history) ≡ sealed_count d.waiting =
    ap (fitting MAX_BATCH_RECORDS) (sym h.waiting.steps) in
    omega (arith, same)

stands_sealed : {d : DeskValue} {w : World} → StandsFor d w
    → StandsFor (record d { waiting = with_batch_out d.waiting }) (with_batch w)
stands_sealed {d} {w} h =
    let out = ap Some (sym (sealed_now h)) in
    let first : w.settled ≤ (with_batch w).sealed = omega arith in
    let within : (with_batch w).sealed ≤ length w.history =
    omega (
      arith,
      fitting_within MAX_BATCH_RECORDS (drop w.settled w.history),
      length-drop w.settled w.history,
      h.waiting.settled_first,
      h.waiting.sealed_within,
    ) in
    assumption (out, first, within)

sealed_is : {d : DeskValue} {w : World} → StandsFor d w
    → sealed_batch d.waiting.mark (with_batch w) ≡ batch_of d.waiting (sealed_count d.waiting)
sealed_is {d} {w} h = sym (batch_is (stands_sealed h)) ∙ ap (batch_of d.waiting) (sealed_now h)

-- Calls

-- the batch comes back, or what was handed in does
pub unseal_turns : {A E : Type 0} {view d : DeskValue} → view ≡ d → (steps : WaitingValue) (places : DoubtValue)
    (result : Result A E) → IsOk result ↔ waiting.ArePlacesOf view.waiting places
    → OnOk result (steps ≡ with_nothing_out view.waiting) → OnErr result (steps ≡ view.waiting)
    → Turns d (λ w. ArePlacesOf d.waiting.mark w places) with_batch_back result (record view { waiting = steps })
unseal_turns {A} {E} {view} {d} same steps places (Ok a) turn waits back = λ w h.
    let here = stands_as same h in (
      subst (λ (v : DeskValue). ArePlacesOf v.waiting.mark w places) same ((places_are places here).0 (turn.0 refl)),
      stands_as (ap (λ (x : WaitingValue). record view { waiting = x }) waits) (stands_back here),
    )
unseal_turns {A} {E} {view} {d} same steps places (Err e) turn waits back =
    let failed : E → Result A E = λ x. Err x in
    comes_back same steps (waiting.ArePlacesOf view.waiting places) (λ v w. ArePlacesOf v.waiting.mark w places)
    with_batch_back (failed e) refl (λ w h. places_are places h)
    (λ is. let wrong : false ≡ true = turn.1 is in cc) back

pub halt_turns : {view d : DeskValue} → view ≡ d → (steps : WaitingValue) (held : Held)
    → waiting.IsHeldOf view.waiting held → steps ≡ with_nothing_out view.waiting
    → OverWorlds d (λ w. IsHeldOf d.waiting.mark w held × StandsFor (record view { waiting = steps; halted = true })
    (with_halt w))
halt_turns {view} {d} same steps held turn waits = λ w h.
    let here = stands_as same h in (
      subst (λ (v : DeskValue). IsHeldOf v.waiting.mark w held) same ((held_is held here).0 turn),
      stands_as (ap (λ (x : WaitingValue). record view { waiting = x; halted = true }) waits) (stands_halted here),
    )

pub settle_counts : {view d : DeskValue} → view ≡ d → (steps : WaitingValue) (receipt : BatchValue) (place : ℕ)
    → waiting.IsReceiptOf view.waiting receipt → steps ≡ with_settled view.waiting (length receipt.steps)
    → place ≡ steps.settled → OverWorlds d (λ w. place ≡ length (sealed_records w))
settle_counts {view} {d} same steps receipt place turn settled is = λ w h.
    let here = stands_as same h in
    is ∙ ap (λ (x : WaitingValue). x.settled) settled ∙ sealed_place (length receipt.steps) here
    (receipt_count receipt here ((receipt_is receipt here).0 turn))

pub settle_turns : {view d : DeskValue} → view ≡ d
    → (endpoints : endpoint_entries.BookValue) (deliveries : delivery_entries.BookValue) (steps : WaitingValue)
    (receipt : BatchValue) (place : ℕ)
    → waiting.IsReceiptOf view.waiting receipt → steps ≡ with_settled view.waiting (length receipt.steps)
    → place ≡ steps.settled
    → endpoint_book.Settles view.endpoints endpoints place → delivery_book.Settles view.deliveries place deliveries
    → OverWorlds d (λ w. IsReceiptOf d.waiting.mark w receipt
    × StandsFor (record view { endpoints = endpoints; deliveries = deliveries; waiting = steps })
    (with_sealed_settled w))
settle_turns {view} {d} same endpoints deliveries steps receipt place turn settled is by_endpoints by_deliveries =
    λ w h.
    let here = stands_as same h in
    let receipted : IsReceiptOf view.waiting.mark w receipt = (receipt_is receipt here).0 turn in (
      subst (λ (v : DeskValue). IsReceiptOf v.waiting.mark w receipt) same receipted,
      stands_as (ap (λ (x : WaitingValue). record view { endpoints = endpoints; deliveries = deliveries; waiting = x })
          settled)
          (stands_settled endpoints deliveries (length receipt.steps) place here (receipt_count receipt here receipted)
          (is ∙ ap (λ (x : WaitingValue). x.settled) settled) by_endpoints by_deliveries),
    )

-- what sealing answers
abbrev pub seal_reply : Result (Option BatchValue) SealFault → Result (Option BatchValue) Refusal
seal_reply (Ok sealed) = Ok sealed
seal_reply (Err sealing.BatchOut) = Err (refusal 2 fault.BatchOut)
seal_reply (Err sealing.OutOfMemory) = Err (refusal 3 fault.OutOfMemory)

-- what is after the faults of a seal is its move
seal_passes : (d new : DeskValue) (reply : Result (Option BatchValue) Refusal) (is_idle : Bool) → d.halted ≡ false
    → d.waiting.out ≡ None → no_steps d.waiting.waiting ≡ is_idle
    → IsMove d (λ w. seal_waiting d.waiting.mark w is_idle) reply new → IsMove d (seal d.waiting.mark) reply new
seal_passes d new reply is_idle halted free idle move =
    passes d new seal_faults (λ w. seal_waiting d.waiting.mark w (eqb (length w.history) w.settled)) tt reply
    (λ w h. sym (seal_fault false h halted (ap is_some free)))
    (becomes d new (λ w. seal_waiting d.waiting.mark w is_idle)
    (λ w. seal_waiting d.waiting.mark w (eqb (length w.history) w.settled)) reply
    (λ w h. ap (seal_waiting d.waiting.mark w) (sym (idle_is d.waiting.waiting h refl ∙ idle))) move)

none_if : (o : Option ℕ) → (IsSome o → ⊥) → o ≡ None
none_if o h = by_option o (λ e. e) (λ n e. absurd (h (ap is_some e)))

some_if : (steps : History) → (steps ≡ [] → ⊥) → no_steps steps ≡ false
some_if [] h = absurd (h refl)
some_if (x ∷ xs) h = refl

-- the same desk, with steps that are the same
same_steps : (d : DeskValue) (steps rest : WaitingValue) (move : World → Answer (Option BatchValue))
    (reply : Result (Option BatchValue) Refusal) → steps ≡ rest → IsMove d move reply (record d { waiting = rest })
    → IsMove d move reply (record d { waiting = steps })
same_steps d steps rest move reply same is = leaves d (record d { waiting = steps }) (record d { waiting = rest }) move
    reply is (ap (λ (x : WaitingValue). record d { waiting = x }) same)

seal_moves : (d : DeskValue) (steps : WaitingValue) (result : Result (Option BatchValue) SealFault) → d.halted ≡ false
    → (result ≡ Err sealing.BatchOut) ↔ IsSome d.waiting.out
    → (result ≡ Ok None) ↔ ((d.waiting.out ≡ None) × (d.waiting.waiting ≡ []))
    → IfOk result (λ sealed. IfSome sealed (λ batch. batch ≡ batch_of d.waiting (sealed_count d.waiting)))
    → IfOk result (λ sealed. IfSome sealed (λ _. steps ≡ with_batch_out d.waiting))
    → (result ≡ Ok None → steps ≡ d.waiting) → OnErr result (steps ≡ d.waiting)
    → IsMove d (seal d.waiting.mark) (seal_reply result) (record d { waiting = steps })
seal_moves d steps (Ok None) halted taken nothing batch out same err =
    let idle = nothing.0 refl in
    same_steps d steps d.waiting (seal d.waiting.mark) (Ok None) (same refl)
    (seal_passes d d (Ok None) true halted idle.0 (ap no_steps idle.1)
    (makes d d (λ w. seal_waiting d.waiting.mark w true) None (λ w h. (refl, h))))
seal_moves d steps (Ok (Some sealed)) halted taken nothing batch out same err =
    let free : d.waiting.out ≡ None = none_if d.waiting.out (λ some. let no = taken.1 some in cc) in
    let later : DeskValue = record d { waiting = with_batch_out d.waiting } in
    let some = some_if d.waiting.waiting (λ none. let no = nothing.1 (free, none) in cc) in
    same_steps d steps (with_batch_out d.waiting) (seal d.waiting.mark) (Ok (Some sealed)) out
    (seal_passes d later (Ok (Some sealed)) false halted free some
    (makes d later (λ w. seal_waiting d.waiting.mark w false) (Some sealed)
    (λ w h. (ap (λ b. Ok (Some b)) (sealed_is h ∙ sym batch), stands_sealed h))))
seal_moves d steps (Err sealing.BatchOut) halted taken nothing batch out same err =
    same_steps d steps d.waiting (seal d.waiting.mark) (Err (refusal 2 fault.BatchOut)) err
    (refuses d seal_faults (λ w. seal_waiting d.waiting.mark w (eqb (length w.history) w.settled))
    (refusal 2 fault.BatchOut) (λ w h. sym (seal_fault true h halted (taken.0 refl))))
seal_moves d steps (Err sealing.OutOfMemory) halted taken nothing batch out same err =
    let free : d.waiting.out ≡ None = none_if d.waiting.out (λ some. let no = taken.1 some in cc) in
    same_steps d steps d.waiting (seal d.waiting.mark) (Err (refusal 3 fault.OutOfMemory)) err
    (seal_passes d d (Err (refusal 3 fault.OutOfMemory)) false halted free
    (some_if d.waiting.waiting (λ none. let no = nothing.1 (free, none) in cc))
    (lacks d (λ w. seal_waiting d.waiting.mark w false) 3 (λ w h. refl)))

not_halted : (halted : Bool) (u : Unit {0}) → Ok u ≡ first_fault ((halted, 1, fault.Halted) ∷ []) → halted ≡ false
not_halted halted u e = grind arith

pub seal_turns : {view d : DeskValue} → view ≡ d
    → (steps : WaitingValue) (result : Result (Option BatchValue) SealFault) (u : Unit {0})
    → Ok u ≡ first_fault ((view.halted, 1, fault.Halted) ∷ [])
    → (result ≡ Err sealing.BatchOut) ↔ IsSome view.waiting.out
    → (result ≡ Ok None) ↔ ((view.waiting.out ≡ None) × (view.waiting.waiting ≡ []))
    → IfOk result (λ sealed. IfSome sealed (λ batch. batch ≡ batch_of view.waiting (sealed_count view.waiting)))
    → IfOk result (λ sealed. IfSome sealed (λ _. steps ≡ with_batch_out view.waiting))
    → (result ≡ Ok None → steps ≡ view.waiting) → OnErr result (steps ≡ view.waiting)
    → IsMove d (seal d.waiting.mark) (seal_reply result) (record view { waiting = steps })
seal_turns {view} {d} same steps result u free taken nothing batch out idle err =
    subst (λ (v : DeskValue). IsMove v (seal v.waiting.mark) (seal_reply result) (record view { waiting = steps })) same
    (seal_moves view steps result (not_halted view.halted u free) taken nothing batch out idle err)
