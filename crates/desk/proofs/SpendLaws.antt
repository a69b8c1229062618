-- What ties the fields of a desk, and its worlds, once an attempt is over.
use Rattle.desk.proofs.Words.{◌≡◌, ℕ, ◌<◌, Bool, true, false, List, [], ◌∷◌, ◌++◌, length, Option, Some, None, refl}
use Rattle.desk.proofs.Words.{sym, ◌∙◌, ap, subst, arith, position, bytes_eq, is_some, if◌then◌else◌, option_map_or}
use Rattle.desk.proofs.Words.{bytes_eq-Decides, Row, Limiter, AreSampled, bound_by, limiter_of, nat_tests, ◌+◌, map}
use Rattle.desk.proofs.Words.{not, IsTrue, max, option_map, MAX_RECORDS, Record, Outcome, is_moment, is_gone_status}
use Rattle.desk.proofs.Words.{is_status, Entry, WaitingValue, record_count, in_flight_of, World, sampled}
use Rattle.desk.proofs.Words.{spent_by, with_attempt_over, AreLimiters, limit_by, DeskValue, StandsFor, attempt_in}
use Rattle.desk.proofs.Words.{is_exhausted_in, by_option, ◌≤◌, take, drop, ◌&&◌, remove, IfNone, IfSome, IsErr, Result}
use Rattle.desk.proofs.Words.{Ok, Err, nat_lt, take-append_seam, ltb-true, length-map, list_any, records_of, enabled_in}
use Rattle.desk.proofs.Words.{Change, HasChanges, changes_gone, changes_other, all_weaker, QueueValue, ChangesState}
use Rattle.desk.proofs.Words.{IsNew, HasSamePairs, is_reserved, with_room, count_by_snoc, is_out, same_row, KnowsRooms}
use Rattle.desk.proofs.Words.{AreQueued, AreTied, HasPlaces, HasRoomForAll, Holds, KeepsRooms, endpoint_at, idle_pair}
use Rattle.desk.proofs.Words.{room_by, has_row, HasOutcome, IsDesk, OverWorlds, Spends, TakesOutcome}
use Rattle.desk.proofs.Words.{MAX_WAITING_OUTCOMES, SpentValue, outcomes_in, status_of}
use Rattle.group_commit.proofs.StepLaws.{outcomes_snoc}
use Rattle.retry_table.specs.declared.post.PostResult.{PostResult}
use Rattle.retry_table.specs.Judging.{recorded_status}
use Rattle.endpoint_book.specs.declared.entry.Kind.TheVariants.{Flag}
use Rattle.delivery_book.proofs.Waiting.{waiting_outcome}
use Rattle.endpoint_book.specs.Entries as endpoint_entries
use Rattle.delivery_book.specs.Entries as delivery_entries
use Rattle.desk.proofs.ClaimLaws.{limiter_entry}
use Rattle.desk.proofs.DeskLaws.{one_changes, one_more, one_waits, stands_as}
use Rattle.desk.proofs.RowLaws.{IsReturned, attempts_at, none_found, returned, same_row_is}
use Rattle.desk.proofs.TieLaws.{UnderWay, takes, tried, lanes_told, apart_tried, held_again, held_tried, new_pair}
use Rattle.desk.proofs.TieLaws.{places_tried, under_way, under_way_less, under_way_tried, holds_rooms}
use Rattle.desk.proofs.SettleLaws.{names_tried}
use Rattle.desk.proofs.RequestTies.{flag_known, flag_limiters, flag_room, queued_told}
use Rattle.desk.proofs.SpendWorlds.{AreTold, disabled, recorded, over, left_over, stands_spent, tells_spent}

-- What ties a desk's fields stays so once an attempt is over

-- an endpoint that is known has a limiter
pub limiter_known : (limiters : List Limiter) (book : endpoint_entries.BookValue) (name : List ℕ)
    → AreLimiters limiters book → IsTrue (endpoint_entries.is_known book name) → is_some (limiter_of limiters name)
    ≡ true
limiter_known limiters book name are known =
    let entry = limiter_entry limiters book name are in grind (arith, entry, known)

-- what the endpoints tell after it
disabled_known : (book : endpoint_entries.BookValue) (seq : ℕ) (name other : List ℕ) (status : Option ℕ)
    → endpoint_entries.is_known (disabled book seq name status) other ≡ endpoint_entries.is_known book other
disabled_known book seq name other None = refl
disabled_known book seq name other (Some status) = grind (arith, flag_known book seq name other false)

disabled_limiters : (book : endpoint_entries.BookValue) (seq : ℕ) (name : List ℕ) (status : Option ℕ)
    (limiters : List Limiter) → AreLimiters limiters book → AreLimiters limiters (disabled book seq name status)
disabled_limiters book seq name None limiters h = h
disabled_limiters book seq name (Some status) limiters h = grind (arith, h, flag_limiters book seq name false limiters)

disabled_room : (book : endpoint_entries.BookValue) (seq : ℕ) (name other : List ℕ) (status : Option ℕ)
    (limiters : List Limiter) (live : List Row) → bytes_eq name other ≡ false
    → room_by (disabled book seq name status) limiters live other ≡ room_by book limiters live other
disabled_room book seq name other None limiters live apart = refl
disabled_room book seq name other (Some status) limiters live apart =
    let same = flag_room book seq name other false limiters live apart in grind (arith, same)

-- Before the attempt is over

-- what a desk has of an attempt that is under way
pub record IsLive (d : DeskValue) (row : Row) (rest : List Row) : Type 0 where
  pub gone : IsReturned row d.live rest
  pub entry : UnderWay d.deliveries row
  pub out : is_out row.delivery d.live ≡ true
  pub known : IsTrue (endpoint_entries.is_known d.endpoints row.endpoint)

out_of : (row : Row) (rows : List Row) → list_any (same_row row) rows ≡ true → is_out row.delivery rows ≡ true
out_of row [] h = h
out_of row (r ∷ rows) h = grind (arith, nat_tests, h, same_row_is row r, out_of row rows)

pub is_live : (d : DeskValue) (queue : QueueValue) (row : Row) (rest : List Row)
    → AreTied d.endpoints d.deliveries d.waiting d.live d.limiters queue → IsReturned row d.live rest
    → IsLive d row rest
is_live d queue row rest tied r = record {
  gone = r;
  entry = under_way d.deliveries row (r.passes _ tied.queued.under_way.each);
  out = out_of row d.live r.there;
  known = r.passes (λ (x : Row). endpoint_entries.is_known d.endpoints x.endpoint) tied.lanes.listed;
}

pub takes_outcome : (d : DeskValue) (queue : QueueValue) (row : Row) (rest : List Row)
    → IsDesk d.endpoints d.deliveries d.waiting d.live d.limiters queue → IsLive d row rest
    → TakesOutcome d.waiting d.endpoints d.deliveries row
takes_outcome d queue row rest h is =
    let place : outcomes_in d.waiting.waiting < MAX_WAITING_OUTCOMES =
    omega (arith, h.tied.room.places, is.gone.fewer) in
    let room : record_count d.waiting < MAX_RECORDS = omega (arith, h.tied.room.numbers, is.gone.fewer) in
    let flags : endpoint_entries.flags_in d.endpoints + d.waiting.settled ≤ d.endpoints.next_seq =
    omega (arith, h.flags_few, h.endpoints_settled) in
    assumption (place, room, flags, takes d.deliveries row is.entry)

-- the number of the outcome is that of no delivery
abbrev pub IsUnused : DeskValue → Option ℕ → Type 0
IsUnused d status = (s : ℕ) → status ≡ Some s → delivery_entries.entry_at d.deliveries.entries (record_count d.waiting)
    ≡ None

pub places_over : (d : DeskValue) (queue : QueueValue) (row : Row) (status : Option ℕ) (at : ℕ)
    → AreTied d.endpoints d.deliveries d.waiting d.live d.limiters queue
    → HasPlaces queue (tried d.deliveries (record_count d.waiting) row.delivery status at)
places_over d queue row None at tied = tied.queued.places
places_over d queue row (Some s) at tied = places_tried queue d.deliveries (record_count d.waiting) row.delivery s
    at tied.queued.places

-- The attempt is over

queued_over : (d : DeskValue) (queue held : QueueValue) (row : Row) (rest : List Row) (status : Option ℕ) (at : ℕ)
    → IsDesk d.endpoints d.deliveries d.waiting d.live d.limiters queue → IsLive d row rest → IsUnused d status
    → Holds queue held (idle_pair (tried d.deliveries (record_count d.waiting) row.delivery status at) row.delivery)
    → HasPlaces held (tried d.deliveries (record_count d.waiting) row.delivery status at)
    → AreQueued held (tried d.deliveries (record_count d.waiting) row.delivery status at) rest
queued_over d queue held row rest None at h is unused holds places =
    let way = under_way_less d.deliveries row d.live rest is.gone h.tied.queued.under_way in
    let again = held_again queue held d.deliveries row d.live rest h.tied.queued.held is.entry is.out is.gone holds in
    assumption (way, again)
queued_over d queue held row rest (Some s) at h is unused holds places = record {
  apart = apart_tried d.deliveries row (record_count d.waiting) s at h.tied.queued.apart is.entry h.deliveries_staged
      (unused s refl);
  under_way = under_way_tried d.deliveries row d.live rest (record_count d.waiting) s at is.gone
      h.tied.queued.under_way;
  held = held_tried queue held d.deliveries row d.live rest (record_count d.waiting) s at h.tied.queued.held is.entry
      is.out is.gone holds;
  places = places;
}

room_over : (d : DeskValue) (row : Row) (rest : List Row) (status : Option ℕ) (at : ℕ) → HasRoomForAll d.waiting d.live
    → length rest + 1 ≡ length d.live → HasRoomForAll (recorded d row at status) rest
room_over d row rest None at h fewer = record {
  places = omega (arith, h.places, fewer);
  numbers = omega
      (arith, h.numbers, fewer);
}
room_over d row rest (Some s) at h fewer = record {
  places = omega (
    arith,
    h.places,
    fewer,
    outcomes_snoc d.waiting.waiting
        (Outcome row.delivery (attempt_in d.deliveries row.delivery) s at),
  );
  numbers = omega (
    arith,
    h.numbers,
    fewer,
    one_more d.waiting
        (Outcome row.delivery (attempt_in d.deliveries row.delivery) s at),
  );
}

-- the limiters of other endpoints are as before
pub record KeepsOthers (old new : List Limiter) (row : Row) : Type 0 where
  pub same : map bound_by new ≡ map bound_by old
  pub others : (name : List ℕ) → bytes_eq row.endpoint name ≡ false → limiter_of new name ≡ limiter_of old name

pub keeps_others : (halted : Bool) (old new : List Limiter) (row : Row) (post : PostResult)
    → AreTold halted old new row post → KeepsOthers old new row
keeps_others true old new row post same = record {
  same = ap (map bound_by) same;
  others = λ name apart. ap
      (λ ls. limiter_of ls name) same;
}
keeps_others false old new row post sampled = record { same = sampled.same; others = sampled.others }

pub limited_over : (d : DeskValue) (row : Row) (status : Option ℕ) (limiters : List Limiter)
    → AreLimiters d.limiters d.endpoints → KeepsOthers d.limiters limiters row
    → AreLimiters limiters (disabled d.endpoints (record_count d.waiting) row.endpoint status)
limited_over d row status limiters h kept = kept.same ∙ disabled_limiters d.endpoints (record_count d.waiting)
    row.endpoint status d.limiters h

lanes_over : (d : DeskValue) (queue held told : QueueValue) (row : Row) (rest : List Row) (status : Option ℕ)
    (limiters : List Limiter) → KnowsRooms queue d.endpoints d.limiters d.live → IsLive d row rest
    → KeepsOthers d.limiters limiters row
    → KeepsRooms queue held
    → ChangesState held told row.endpoint
    (with_room (room_by (disabled d.endpoints (record_count d.waiting) row.endpoint status) limiters rest
    row.endpoint))
    → KnowsRooms told (disabled d.endpoints (record_count d.waiting) row.endpoint status) limiters rest
lanes_over d queue held told row rest status limiters h is kept rooms changes =
    lanes_told held told (disabled d.endpoints (record_count d.waiting) row.endpoint status) limiters rest row.endpoint
    changes
    (λ name known. rooms.reserved name
    ∙ h.known name (sym (disabled_known d.endpoints (record_count d.waiting) row.endpoint name status) ∙ known))
    (λ name apart there. rooms.rooms name ∙ h.rooms name (sym (rooms.reserved name) ∙ there) ∙ sym (same name apart))
    (all_weaker (λ (x : Row). endpoint_entries.is_known d.endpoints x.endpoint)
    (λ (x : Row). endpoint_entries.is_known (disabled d.endpoints (record_count d.waiting) row.endpoint status)
    x.endpoint) rest
    (λ x t. disabled_known d.endpoints (record_count d.waiting) row.endpoint x.endpoint status ∙ t)
    (is.gone.pass (λ (x : Row). endpoint_entries.is_known d.endpoints x.endpoint) h.listed))
  where
    same : (name : List ℕ) → bytes_eq row.endpoint name ≡ false
        → room_by (disabled d.endpoints (record_count d.waiting) row.endpoint status) limiters rest name
        ≡ room_by d.endpoints d.limiters d.live name
    same name apart =
        disabled_room d.endpoints (record_count d.waiting) row.endpoint name status limiters rest apart
        ∙ (λ i. enabled_in d.endpoints name && nat_lt (is.gone.in_flight name apart i)
        (option_map_or (λ (l : Limiter). l.estimator.state.limit) (kept.others name apart i) 0))

pub tied_over : (d : DeskValue) (queue held told : QueueValue) (row : Row) (rest : List Row) (status : Option ℕ)
    (at : ℕ) (limiters : List Limiter) → IsDesk d.endpoints d.deliveries d.waiting d.live d.limiters queue
    → IsLive d row rest → IsUnused d status → KeepsOthers d.limiters limiters row
    → Holds queue held (idle_pair (tried d.deliveries (record_count d.waiting) row.delivery status at) row.delivery)
    → HasPlaces held (tried d.deliveries (record_count d.waiting) row.delivery status at)
    → HasSamePairs held told
    → ChangesState held told row.endpoint
    (with_room (room_by (disabled d.endpoints (record_count d.waiting) row.endpoint status) limiters rest
    row.endpoint))
    → AreTied (disabled d.endpoints (record_count d.waiting) row.endpoint status)
    (tried d.deliveries (record_count d.waiting) row.delivery status at) (recorded d row at status) rest limiters
    told
tied_over d queue held told row rest status at limiters h is unused kept holds places same changes =
    let queued = queued_over d queue held row rest status at h is unused holds places in
    record {
      limited = limited_over d row status limiters h.tied.limited kept;
      room = room_over d row rest status at h.tied.room is.gone.fewer;
      lanes = lanes_over d queue held told row rest status limiters h.tied.lanes is kept
          (holds_rooms queue held _ holds) changes;
      queued = queued_told held told _ rest row.endpoint _ same changes queued;
    }

pub is_desk_over : (d : DeskValue) (queue told : QueueValue) (row : Row) (rest : List Row) (status : Option ℕ) (at : ℕ)
    (limiters : List Limiter) → IsDesk d.endpoints d.deliveries d.waiting d.live d.limiters queue → IsLive d row rest
    → AreTied (disabled d.endpoints (record_count d.waiting) row.endpoint status)
    (tried d.deliveries (record_count d.waiting) row.delivery status at) (recorded d row at status) rest limiters
    told
    → IsDesk (disabled d.endpoints (record_count d.waiting) row.endpoint status)
    (tried d.deliveries (record_count d.waiting) row.delivery status at) (recorded d row at status) rest limiters
    told
is_desk_over d queue told row rest None at limiters h is tied = assumption
is_desk_over d queue told row rest (Some s) at limiters h is tied = record {
  endpoints_staged = (staged (is_gone_status s)).0;
  endpoints_settled = (staged (is_gone_status s)).1 ∙ h.endpoints_settled;
  flags_few = (staged (is_gone_status s)).2;
  endpoints_wait =
      subst (λ name_of. HasChanges name_of (after (is_gone_status s)) (records_of (recorded d row at (Some s)).waiting))
      (λ i n. sym (names_tried d.deliveries (record_count d.waiting) row.delivery s at n) i)
      (one_changes (endpoint_at d.deliveries) (after (is_gone_status s)) d.waiting outcome
      (changed (is_gone_status s) refl));
  deliveries_staged = omega
      (arith, one_more d.waiting (Outcome row.delivery (attempt_in d.deliveries row.delivery) s at));
  deliveries_settled = h.deliveries_settled;
  deliveries_wait = one_waits (tried d.deliveries (record_count d.waiting) row.delivery (Some s) at) d.waiting
      (Outcome row.delivery (attempt_in d.deliveries row.delivery) s at)
      (waiting_outcome d.deliveries (records_of d.waiting.waiting) (record_count d.waiting) row.delivery
      (attempt_in d.deliveries row.delivery) s at is.entry.entry
      (omega (arith, h.deliveries_settled)) is.entry.there is.entry.opened
      (ltb-true row.delivery d.deliveries.settled_seq is.entry.settled)
      (ap (λ o. option_map_or (λ (e : Entry). e.latest.attempts) o 0 + 1) is.entry.there) h.deliveries_wait);
  tied = tied;
}
  where
    disables : Change
    disables = record {
      seq = record_count d.waiting;
      name = row.endpoint;
      kind = Flag;
      shown =
          endpoint_entries.shown_with (λ e. record e { enabled = false })
          (endpoint_entries.entry_of d.endpoints row.endpoint);
    }

    after : Bool → endpoint_entries.BookValue
    after b = if b then endpoint_entries.with_flag d.endpoints (record_count d.waiting) row.endpoint false else
        d.endpoints

    outcome : Record
    outcome = Outcome row.delivery (attempt_in d.deliveries row.delivery) s at

    changed : (b : Bool) → is_gone_status s ≡ b → HasChanges (endpoint_at d.deliveries) (after b)
        (records_of d.waiting.waiting ++ outcome ∷ [])
    changed true gone = changes_gone (endpoint_at d.deliveries) d.endpoints (records_of d.waiting.waiting)
        (record_count d.waiting) row.endpoint row.delivery (attempt_in d.deliveries row.delivery) s at
        (omega (arith, h.endpoints_settled)) is.known gone
        (ap (option_map (λ (e : Entry). e.name)) is.entry.there
        ∙ ap Some ((bytes_eq-Decides is.entry.entry.name row.endpoint).0 is.entry.named)) h.endpoints_wait
    changed false other = changes_other (endpoint_at d.deliveries) d.endpoints (records_of d.waiting.waiting) outcome
        (ap not other) h.endpoints_wait

    staged : (b : Bool) → ((after b).next_seq ≤ record_count (recorded d row at (Some s)))
        × ((after b).settled_seq ≡ d.endpoints.settled_seq)
        × (endpoint_entries.flags_in (after b) + (after b).settled_seq ≤ (after b).next_seq)
    staged true = (
      omega (arith, one_more d.waiting (Outcome row.delivery (attempt_in d.deliveries row.delivery) s at)),
      refl,
      omega (
        arith,
        count_by_snoc endpoint_entries.is_flag d.endpoints.changes disables,
        h.flags_few,
        h.endpoints_staged,
      ),
    )
    staged false = (
      omega (
        arith,
        h.endpoints_staged,
        one_more d.waiting
            (Outcome row.delivery (attempt_in d.deliveries row.delivery) s at),
      ),
      refl,
      h.flags_few,
    )

-- What a spend leaves

-- the permit's row is given back
pub back_from : (row permit : Row) (rows new : List Row) → row ≡ permit → (position (same_row permit) rows ≡ None → ⊥)
    → ((i : ℕ) → position (same_row permit) rows ≡ Some i → new ≡ remove rows i) → ((d : ℕ) → attempts_at d rows ≤ 1)
    → IsReturned row rows new
back_from row permit rows new own there is once = subst (λ (r : Row). IsReturned r rows new) (sym own)
    (returned permit rows new there is once)

-- the desk once an attempt is over, and the number of the outcome that waits
pub record IsOver (d m : DeskValue) (row : Row) (rest : List Row) (post : PostResult) (at : ℕ) (staged : Option ℕ) :
    Type 0 where
  pub clock : m.clock ≡ (if d.halted then d.clock else at)
  pub endpoints : m.endpoints ≡ disabled d.endpoints (record_count d.waiting) row.endpoint (status_of d.halted post)
  pub deliveries : m.deliveries ≡ tried d.deliveries (record_count d.waiting) row.delivery (status_of d.halted post) at
  pub waiting : m.waiting ≡ recorded d row at (status_of d.halted post)
  pub halted : m.halted ≡ d.halted
  pub live : m.live ≡ rest
  pub told : AreTold d.halted d.limiters m.limiters row post
  pub unused : IsUnused d (status_of d.halted post)
  pub numbered : staged ≡ option_map (λ _. record_count d.waiting) (status_of d.halted post)

pub halted_over : (d m : DeskValue) (row : Row) (rest : List Row) (post : PostResult) (at : ℕ) (staged : Option ℕ)
    → d.halted ≡ true → m ≡ record d { live = rest } → staged ≡ None → IsOver d m row rest post at staged
halted_over d m row rest post at staged e is none = record {
  clock = ap (λ (x : DeskValue). x.clock) is ∙ sym (ap (λ b. if b then d.clock else at) e);
  endpoints = ap (λ (x : DeskValue). x.endpoints) is ∙ sym
      (ap (λ b. disabled d.endpoints (record_count d.waiting) row.endpoint (status_of b post)) e);
  deliveries = ap (λ (x : DeskValue). x.deliveries) is ∙ sym
      (ap (λ b. tried d.deliveries (record_count d.waiting) row.delivery (status_of b post) at) e);
  waiting = ap (λ (x : DeskValue). x.waiting) is ∙ sym (ap (λ b. recorded d row at (status_of b post)) e);
  halted = ap (λ (x : DeskValue). x.halted) is;
  live = ap (λ (x : DeskValue). x.live) is;
  told = subst (λ b. AreTold b d.limiters m.limiters row post) (sym e) (ap (λ (x : DeskValue). x.limiters) is);
  unused = λ s t. absurd (let no : None ≡ Some s = sym (ap (λ b. status_of b post) e) ∙ t in cc);
  numbered = none ∙ sym (ap (λ b. option_map (λ _. record_count d.waiting) (status_of b post)) e);
}

pub told_over : (d m : DeskValue) (row : Row) (rest : List Row) (post : PostResult) (at : ℕ) (staged status : Option ℕ)
    (endpoints : endpoint_entries.BookValue) (deliveries : delivery_entries.BookValue) (waiting : WaitingValue)
    (limiters : List Limiter)
    → d.halted ≡ false → m ≡ record d {
      clock = at;
      endpoints = endpoints;
      deliveries = deliveries;
      waiting =
          waiting;
      live = rest;
      limiters = limiters;
    } → AreSampled d.limiters limiters row post
    → status ≡ recorded_status post
    → IfSome status (HasOutcome d.waiting d.endpoints d.deliveries row at waiting endpoints deliveries)
    → IfNone status ((waiting ≡ d.waiting) × (endpoints ≡ d.endpoints) × (deliveries ≡ d.deliveries))
    → staged ≡ option_map (λ _. record_count d.waiting) status → IsOver d m row rest post at staged
told_over d m row rest post at staged status endpoints deliveries waiting limiters e left sampled is some none
    numbered =
    let same : status ≡ status_of d.halted post = is ∙ sym (ap (λ b. status_of b post) e) in
    let parts = made status some none in
    let has = HasOutcome d.waiting d.endpoints d.deliveries row at waiting endpoints deliveries in
    subst (λ (x : DeskValue). IsOver d x row rest post at staged) (sym left) (record {
      clock = sym (ap (λ b. if b then d.clock else at) e);
      endpoints = parts.1 ∙ ap (disabled d.endpoints (record_count d.waiting) row.endpoint) same;
      deliveries = parts.2 ∙ ap (λ o. tried d.deliveries (record_count d.waiting) row.delivery o at) same;
      waiting = parts.0 ∙ ap (recorded d row at) same;
      halted = refl;
      live = refl;
      told = subst (λ b. AreTold b d.limiters limiters row post) (sym e) sampled;
      unused = λ s t. (subst (λ o. IfSome o has) (same ∙ t) some).unused;
      numbered = numbered ∙ ap (option_map (λ _. record_count d.waiting)) same;
    })
  where
    made : (o : Option ℕ) → IfSome o (HasOutcome d.waiting d.endpoints d.deliveries row at waiting endpoints deliveries)
        → IfNone o ((waiting ≡ d.waiting) × (endpoints ≡ d.endpoints) × (deliveries ≡ d.deliveries))
        → (waiting ≡ recorded d row at o) × (endpoints ≡ disabled d.endpoints (record_count d.waiting) row.endpoint o)
        × (deliveries ≡ tried d.deliveries (record_count d.waiting) row.delivery o at)
    made None some none = none
    made (Some s) some none = (some.steps, some.of_endpoints, some.of_deliveries)

-- the desk that is left keeps what ties it
pub is_desk_left : (d m : DeskValue) (queue held told : QueueValue) (row : Row) (rest : List Row) (post : PostResult)
    (at : ℕ) (staged : Option ℕ) → IsDesk d.endpoints d.deliveries d.waiting d.live d.limiters queue
    → IsReturned row d.live rest → IsOver d m row rest post at staged
    → Holds queue held (idle_pair m.deliveries row.delivery) → HasPlaces held m.deliveries
    → HasSamePairs held told
    → ChangesState held told row.endpoint (with_room (room_by m.endpoints m.limiters m.live row.endpoint))
    → IsDesk m.endpoints m.deliveries m.waiting m.live m.limiters told
is_desk_left d m queue held told row rest post at staged h r over holds places same changes =
    let status = status_of d.halted post in
    subst (λ (live : List Row). IsDesk m.endpoints m.deliveries m.waiting live m.limiters told) (sym over.live)
    (subst (λ waiting. IsDesk m.endpoints m.deliveries waiting rest m.limiters told) (sym over.waiting)
    (subst (λ deliveries. IsDesk m.endpoints deliveries (recorded d row at status) rest m.limiters told)
    (sym over.deliveries)
    (subst (λ endpoints. IsDesk endpoints (tried d.deliveries (record_count d.waiting) row.delivery status at)
    (recorded d row at status) rest m.limiters told) (sym over.endpoints)
    (is_desk_over d queue told row rest status at m.limiters h (is_live d queue row rest h.tied r)
    (tied_over d queue held told row rest status at m.limiters h (is_live d queue row rest h.tied r) over.unused
    (keeps_others d.halted d.limiters m.limiters row post over.told)
    (subst (λ deliveries. Holds queue held (idle_pair deliveries row.delivery)) over.deliveries holds)
    (subst (λ deliveries. HasPlaces held deliveries) over.deliveries places)
    same
    (subst (λ endpoints. ChangesState held told row.endpoint
    (with_room (room_by endpoints m.limiters rest row.endpoint))) over.endpoints
    (subst (λ live. ChangesState held told row.endpoint (with_room (room_by m.endpoints m.limiters live row.endpoint)))
    over.live changes)))))))

-- the queue may hold the delivery again
pub places_left : (d m : DeskValue) (queue : QueueValue) (row : Row) (rest : List Row) (post : PostResult) (at : ℕ)
    (staged : Option ℕ) → IsDesk d.endpoints d.deliveries d.waiting d.live d.limiters queue
    → IsOver d m row rest post at staged → HasPlaces queue m.deliveries
places_left d m queue row rest post at staged h over = subst (λ deliveries. HasPlaces queue deliveries)
    (sym over.deliveries) (places_over d queue row (status_of d.halted post) at h.tied)

pub new_left : (d : DeskValue) (queue : QueueValue) (row : Row) (rest : List Row)
    → IsDesk d.endpoints d.deliveries d.waiting d.live d.limiters queue → IsReturned row d.live rest
    → IsNew queue row.delivery
new_left d queue row rest h r = new_pair queue d.deliveries d.live row.delivery h.tied.queued.held
    (is_live d queue row rest h.tied r).out

pub reserved_left : (d m : DeskValue) (queue held : QueueValue) (row : Row) (rest : List Row)
    → IsDesk d.endpoints d.deliveries d.waiting d.live d.limiters queue
    → IsReturned row d.live rest → Holds queue held (idle_pair m.deliveries row.delivery)
    → IsTrue (is_reserved held row.endpoint)
reserved_left d m queue held row rest h r holds = (holds_rooms queue held _ holds).reserved row.endpoint
    ∙ h.tied.lanes.known row.endpoint (is_live d queue row rest h.tied r).known

-- what was written over the limiters is all of them
pub written : (n : ℕ) (old new all : List Limiter) (row : Row) (post : PostResult) → AreSampled old new row post
    → length old ≡ n → take n (new ++ drop (length new) all) ≡ new
written n old new all row post sampled counted =
    let same : n ≡ length new = sym counted ∙ sym (length-map old bound_by) ∙ ap length (sym sampled.same)
    ∙ length-map new bound_by in
    ap (λ k. take k (new ++ drop (length new) all)) same ∙ take-append_seam new (drop (length new) all)

-- Spends

-- the status that is told is the one that was recorded
pub tells_status : {staged : Option ℕ} (halted : Bool) (post : PostResult) (seq : ℕ)
    → staged ≡ option_map (λ _. seq) (status_of halted post)
    → (if is_some staged then recorded_status post else None) ≡ status_of halted post
tells_status true post seq stages = rw stages
tells_status false post seq stages =
    by_option (recorded_status post) (λ none. rw (stages, none)) (λ status some. rw (stages, some))

pub foreign_spends : {E : Type 0} {view d : DeskValue} → view ≡ d → (row : Row) (post : PostResult) (now : ℕ)
    (result : Result SpentValue E) (rows : List Row) → IsErr result → rows ≡ view.live
    → position (same_row row) view.live ≡ None → Spends d row post now result (record view { live = rows })
foreign_spends same row post now (Ok spent) rows wrong back none = let no : false ≡ true = wrong in cc
foreign_spends {E} {view} {d} same row post now (Err e) rows wrong back none =
    subst (λ (v : DeskValue). Spends {E = E} v row post now (Err e) (record view { live = rows })) same (λ w h. (
      ap (list_any (same_row row)) (sym h.live) ∙ none_found (same_row row) view.live none,
      subst (λ (x : List Row). StandsFor (record view { live = x }) w) (sym back) h,
    ))

-- the permit is one of those that were out, and each world goes on as the model does
abbrev pub IsSpent : DeskValue → (permit : Row) → (post : PostResult) → (now : ℕ) → SpentValue → DeskValue → Type 0
IsSpent d permit post now spent m = OverWorlds d (λ w. (has_row w permit ≡ true) × (spent ≡ spent_by w permit post now)
    × StandsFor m (with_attempt_over w permit post now))

pub spends : (view d : DeskValue) → view ≡ d
    → (m : DeskValue) (queue told : QueueValue) (row permit : Row) (rest : List Row) (post : PostResult) (now at : ℕ)
    (staged : Option ℕ) (limit in_flight : ℕ) (exhausted : Bool)
    → IsDesk view.endpoints view.deliveries view.waiting view.live view.limiters queue → IsReturned row view.live rest
    → row ≡ permit → IsOver view m row rest post at staged
    → IsDesk m.endpoints m.deliveries m.waiting m.live m.limiters told → at ≡ max now view.clock → is_moment at ≡ true
    → ((s : ℕ) → recorded_status post ≡ Some s → is_status s ≡ true)
    → limit ≡ limit_by m.limiters row.endpoint → in_flight ≡ in_flight_of row.endpoint m.live
    → exhausted ≡ is_exhausted_in m.deliveries row.delivery
    → IsSpent d permit post now
    (record {
      row = row;
      post = post;
      staged = staged;
      limit = limit;
      in_flight = in_flight;
      exhausted =
          exhausted;
    }) m
spends view d same m queue told row permit rest post now at staged limit in_flight exhausted h r own over after later
    moment_is legal_status limits flies ends =
    subst (λ (v : DeskValue). IsSpent v permit post now spent m) same
    (subst (λ (p : Row). IsSpent view p post now spent m) own (λ w s.
    let stands = stands w s in (
      ap (list_any (same_row row)) (sym s.live) ∙ r.there,
      tells_spent view m w row post now staged limit in_flight exhausted s stands after.tied.limited known over.numbered
          limits flies ends,
      stands,
    )))
  where
    spent : SpentValue
    spent = record {
      row = row;
      post = post;
      staged = staged;
      limit = limit;
      in_flight = in_flight;
      exhausted =
          exhausted;
    }

    live : IsLive view row rest
    live = is_live view queue row rest h.tied r

    known : IsTrue (endpoint_entries.is_known m.endpoints row.endpoint)
    known = ap (λ book. endpoint_entries.is_known book row.endpoint) over.endpoints
        ∙ disabled_known view.endpoints (record_count view.waiting) row.endpoint row.endpoint
        (status_of view.halted post) ∙ live.known

    left : m ≡ left_over view row (status_of view.halted post) at (if view.halted then view.clock else at) m.limiters
    left = λ i. record {
      clock = over.clock i;
      endpoints = over.endpoints i;
      deliveries = over.deliveries i;
      waiting = over.waiting i;
      halted = over.halted i;
      live = (over.live ∙ r.rest) i;
      limiters = m.limiters;
    }

    stands : (w : World) → StandsFor view w → StandsFor m (with_attempt_over w row post now)
    stands w s =
        stands_as (left ∙ ap (λ t. ended t) later)
        (stands_spent view w row post now m.limiters s over.told live.entry live.known
        (takes_outcome view queue row rest h live).room legal_status (ap is_moment (sym later) ∙ moment_is))
      where
        ended : ℕ → DeskValue
        ended t = left_over view row (status_of view.halted post) t (if view.halted then view.clock else t) m.limiters
