-- What ties the queue to a desk's fields stays so as an attempt begins and once it is over.
use Rattle.desk.proofs.Words.{◌≡◌, ◌<◌, ◌≤◌, ◌+◌, ℕ, Bool, true, false, List, [], ◌∷◌, ◌++◌, Option, Some, None, length}
use Rattle.desk.proofs.Words.{refl, sym, ◌∙◌, ap, arith, not, ◌&&◌, ◌||◌, cond, subst, IsTrue, length-append, count_by}
use Rattle.desk.proofs.Words.{is_some, option_map, nat_eq, nat_lt, bytes_eq, if◌then◌else◌, list_all, option_map_or}
use Rattle.desk.proofs.Words.{eqb-true, list_any-append, sum_by_push, bytes_eq-Decides, MAX_RECORDS, Pending}
use Rattle.desk.proofs.Words.{is_in_state, and_first, and_second, and_both, enabled_in, Entry, BookValue, entry_at}
use Rattle.desk.proofs.Words.{is_open, state_in, Row, in_flight_of, is_out, next_row, Pair, QueueValue, ChangesState}
use Rattle.desk.proofs.Words.{HasSamePairs, has_room_in, is_held, is_reserved, pair_of, same_pair, with_room}
use Rattle.desk.proofs.Words.{record_count, Limiter, AreHeld, AreTied, AreUnderWay, HasPlaces, HasRoomForAll}
use Rattle.desk.proofs.Words.{KnowsRooms}
use Rattle.desk.proofs.Words.{LetsGo, LetsPairGo, is_idle, is_pair_of, is_under_way, limit_by, own_pair, pair_in}
use Rattle.desk.proofs.Words.{room_by, waits_as, DeskValue, IsDesk, by_bool, Holds, KeepsRooms, map, find, nat_le}
use Rattle.desk.proofs.Words.{le-leb, leb-true, ne_eqb, list_all-append, sum_by-cons, find_map, Unsettled, at_delivery}
use Rattle.desk.proofs.Words.{progress_after, takes_outcome, with_outcome, all_weaker, IsNew, AreApart, idle_pair}
use Rattle.desk.proofs.Words.{is_own, is_told, is_unheld, rises, nat_tests, by_option, with_attempt, KeepsPlaces}
use Rattle.delivery_book.specs.Progress.{Progress}
use Rattle.endpoint_book.specs.Entries as endpoint_entries
use Rattle.desk.proofs.Words.{BookRow, IsInStep, attempt_in, latest_row, row_in}
use Rattle.desk.proofs.TakenLaws.{latest_open}
use Rattle.desk.proofs.ClaimLaws.{StartsFrom, endpoint_known, found_seq, pair_held}
use Rattle.desk.proofs.RowLaws.{none_counted, IsReturned, all_by}

-- holding a delivery tells of no room
pub holds_rooms : (queue new : QueueValue) (o : Option Pair) → Holds queue new o → KeepsRooms queue new
holds_rooms queue new None same =
    subst (λ q. KeepsRooms queue q) (sym same) (record { reserved = λ n. refl; rooms = λ n. refl })
holds_rooms queue new (Some pair) holds = record {
  reserved = λ n. grind (arith, holds.state n);
  rooms = λ n. grind (arith, holds.state n);
}

-- the room of one endpoint is told, and that of the others was right
pub lanes_told : (queue new : QueueValue) (book : endpoint_entries.BookValue) (limiters : List Limiter)
    (live : List Row) (name : List ℕ)
    → ChangesState queue new name (with_room (room_by book limiters live name))
    → ((n : List ℕ) → IsTrue (endpoint_entries.is_known book n) → IsTrue (is_reserved queue n))
    → ((n : List ℕ) → bytes_eq name n ≡ false → IsTrue (is_reserved queue n)
    → has_room_in queue.states n ≡ room_by book limiters live n)
    → IsTrue (list_all (λ row. endpoint_entries.is_known book row.endpoint) live) → KnowsRooms new book limiters live
lanes_told queue new book limiters live name changes known others rows = record {
  listed = rows;
  known = λ n k. grind (arith, changes n, known n k);
  rooms = λ n there. grind (arith, changes n, others n, bytes_eq-Decides name n);
}

-- Telling a room changes no pair and no place.
pub held_told : (queue new : QueueValue) (book : BookValue) (live : List Row) → HasSamePairs queue new
    → AreHeld queue book live → AreHeld new book live
held_told queue new book live same held = λ pair. same pair ∙ held pair

-- the places that are enough stay so, where the same pairs are held
pub places_kept : (queue new : QueueValue) (book : BookValue) → HasSamePairs queue new → KeepsPlaces queue new
    → HasPlaces queue book → HasPlaces new book
places_kept queue new book same keeps places = λ n.
    let counted : count_by (is_unheld new n) book.entries ≡ count_by (is_unheld queue n) book.entries =
    λ i. count_by (λ (e : Entry). bytes_eq e.name n
    && (is_in_state Pending (state_in e.latest) && not (same (own_pair e) i))) book.entries in
    omega (arith, counted, keeps n, places n)

pub places_told : (queue new : QueueValue) (book : BookValue) (name : List ℕ) (room : Bool) → HasSamePairs queue new
    → ChangesState queue new name (with_room room) → HasPlaces queue book → HasPlaces new book
places_told queue new book name room same changes places =
    places_kept queue new book same (λ n. grind (arith, changes n)) places

-- An attempt begins

out_more : (d : ℕ) (live : List Row) (row : Row)
    → is_out d (live ++ row ∷ []) ≡ (is_out d live || nat_eq row.delivery d)
out_more d live row = grind (arith, list_any-append (λ (r : Row). nat_eq r.delivery d) live (row ∷ []))

all_more : (test : Row → Bool) (live : List Row) (row : Row) → list_all test live ≡ true → test row ≡ true
    → list_all test (live ++ row ∷ []) ≡ true
all_more test [] row h e = and_both (test row) true e refl
all_more test (r ∷ live) row h e = and_both (test r) _ (and_first (test r) _ h)
    (all_more test live row (and_second (test r) _ h) e)

once_more : (live : List Row) (row : Row) → ((d : ℕ) → count_by (λ (r : Row). nat_eq r.delivery d) live ≤ 1)
    → is_out row.delivery live ≡ false → (d : ℕ) → count_by (λ (r : Row). nat_eq r.delivery d) (live ++ row ∷ []) ≤ 1
once_more live row once free d =
    let pushed = sum_by_push (λ (r : Row). cond (nat_eq r.delivery d) 1 0) live row in
    by_bool (nat_eq row.delivery d)
    (λ e.
    let none =
    none_counted (λ (r : Row). nat_eq r.delivery d) live (ap (λ n. is_out n live) (sym (eqb-true _ d e)) ∙ free) in
    omega (arith, pushed, none, ap {B = ℕ} (λ b. cond b 1 0) e))
    (λ e. omega (arith, pushed, once d, ap {B = ℕ} (λ b. cond b 1 0) e))

-- the pairs that are held, once the pair of a delivery is let go and an attempt at it is under way
pub held_started : {d : DeskValue} {queue new : QueueValue} (name : List ℕ) (s due : ℕ) (row : Row)
    → StartsFrom d name s → row.delivery ≡ s → waits_as d.deliveries d.live (pair_of name due s) ≡ true
    → LetsPairGo queue new (pair_of name due s) → AreHeld queue d.deliveries d.live
    → AreHeld new d.deliveries (d.live ++ row ∷ [])
held_started {d} {queue} {new} name s due row from is own lets held = λ pair.
    by_option (entry_at d.deliveries.entries pair.seq)
    (λ e. grind (arith, lets.pairs pair, held pair, e))
    (λ x e.
    let numbered = found_seq d.deliveries.entries pair.seq x e in
    let out = out_more x.seq d.live row in
    let same = bytes_eq-Decides name pair.endpoint in
    by_bool (nat_eq row.delivery x.seq)
    (λ t.
    let seq : s ≡ pair.seq = sym is ∙ eqb-true row.delivery x.seq t ∙ numbered in
    let here : entry_at d.deliveries.entries s ≡ Some x = ap (entry_at d.deliveries.entries) seq ∙ e in
    let own_x : is_pair_of (pair_of name due s) x ≡ true = grind (arith, own, here) in
    let named = bytes_eq-Decides x.name name in
    let asked = bytes_eq-Decides x.name pair.endpoint in
    let alike : is_pair_of pair x ≡ true → same_pair pair (pair_of name due s) ≡ true =
    λ p. grind (arith, nat_tests, p, seq, own_x, named, asked, same) in
    grind (arith, lets.pairs pair, held pair, e, out, t, alike))
    (λ t.
    let other : same_pair pair (pair_of name due s) ≡ false = grind (arith, nat_tests, t, numbered, is) in
    grind (arith, lets.pairs pair, held pair, e, out, t, other)))

-- the attempts that are under way, with one more
pub under_way_started : {d : DeskValue} (name : List ℕ) (s : ℕ) (row : Row) → StartsFrom d name s → row.delivery ≡ s
    → row.endpoint ≡ name → AreUnderWay d.live d.deliveries → AreUnderWay (d.live ++ row ∷ []) d.deliveries
under_way_started {d} name s row from is named h =
    let there : entry_at d.deliveries.entries row.delivery ≡ Some from.entry =
    ap (entry_at d.deliveries.entries) is ∙ from.there in
    let own : is_under_way d.deliveries row ≡ true =
    grind (arith, nat_tests, there, is, from, named, bytes_eq-Decides from.entry.name row.endpoint) in
    record {
      each = all_more (is_under_way d.deliveries) d.live row h.each own;
      once = once_more d.live row h.once (ap (λ n. is_out n d.live) is ∙ from.free);
    }

pub room_started : {d : DeskValue} (name : List ℕ) (s : ℕ) (row : Row) → StartsFrom d name s
    → record_count d.waiting + length d.live < MAX_RECORDS → HasRoomForAll d.waiting (d.live ++ row ∷ [])
room_started {d} name s row from numbers = record {
  places = omega (arith, length-append d.live (row ∷ []), from.place);
  numbers = omega (arith, length-append d.live (row ∷ []), numbers);
}

-- the pair of the delivery is let go
lets_own : {d : DeskValue} (queue gone : QueueValue) (name : List ℕ) (s : ℕ) → AreHeld queue d.deliveries d.live
    → StartsFrom d name s → LetsGo queue gone (pair_in d.deliveries s) → (due : ℕ)
    × LetsPairGo queue gone (pair_of name due s)
    × (waits_as d.deliveries d.live (pair_of name due s) ≡ true)
lets_own {d} queue gone name s held from lets =
    let p = pair_held queue name s held from in
    (p.0, subst (LetsGo queue gone) p.1 lets, sym (held (pair_of name p.0 s)) ∙ p.2)

pub still_reserved : {d : DeskValue} {queue : QueueValue} (gone : QueueValue) (name : List ℕ) (s : ℕ)
    → AreTied d.endpoints d.deliveries d.waiting d.live d.limiters queue → StartsFrom d name s
    → LetsGo queue gone (pair_in d.deliveries s) → is_reserved gone name ≡ true
still_reserved {d} {queue} gone name s tied from lets =
    let own = lets_own queue gone name s tied.queued.held from lets in
    let known = tied.lanes.known name (endpoint_known name s tied.limited from) in
    grind (arith, own.1.state name, known)

-- the desk once an attempt at the delivery is under way
pub desk_started : {d : DeskValue} {queue : QueueValue} (gone new : QueueValue) (name : List ℕ) (s : ℕ)
    (live : List Row) → IsDesk d.endpoints d.deliveries d.waiting d.live d.limiters queue → StartsFrom d name s
    → record_count d.waiting + length d.live < MAX_RECORDS → live ≡ d.live ++ next_row name s d.live ∷ []
    → LetsGo queue gone (pair_in d.deliveries s) → HasPlaces gone d.deliveries
    → HasSamePairs gone new → ChangesState gone new name (with_room (room_by d.endpoints d.limiters live name))
    → IsDesk d.endpoints d.deliveries d.waiting live d.limiters new
desk_started {d} {queue} gone new name s live h from numbers is lets places same told =
    let known = endpoint_known name s tied.limited from in
    let listed =
    all_more (λ (r : Row). endpoint_entries.is_known d.endpoints r.endpoint) d.live row tied.lanes.listed known in
    let told_room =
    subst (λ rows. ChangesState gone new name (with_room (room_by d.endpoints d.limiters rows name))) is told in
    let held = held_started name s own.0 row from refl own.2 own.1 tied.queued.held in
    assumption (subst (λ rows. AreTied d.endpoints d.deliveries d.waiting rows d.limiters new) (sym is) (record {
      limited = tied.limited;
      room = room_started name s row from numbers;
      lanes = lanes_told gone new d.endpoints d.limiters more name told_room
          (λ n k. grind (arith, own.1.state n, tied.lanes.known n k))
          (λ n other there.
          let as_before = same_room n other in
          grind (arith, own.1.state n, tied.lanes.rooms n, there, as_before)) listed;
      queued = record {
        apart = tied.queued.apart;
        under_way = under_way_started name s row from refl refl tied.queued.under_way;
        held = held_told gone new d.deliveries more same held;
        places = places_told gone new d.deliveries name (room_by d.endpoints d.limiters live name) same told places;
      };
    }))
  where
    tied : AreTied d.endpoints d.deliveries d.waiting d.live d.limiters queue
    tied = h.tied

    row : Row
    row = next_row name s d.live

    more : List Row
    more = d.live ++ row ∷ []

    own : (due : ℕ) × LetsPairGo queue gone (pair_of name due s)
        × (waits_as d.deliveries d.live (pair_of name due s) ≡ true)
    own = lets_own queue gone name s tied.queued.held from lets

    same_room : (n : List ℕ) → bytes_eq name n ≡ false → room_by d.endpoints d.limiters d.live n ≡ room_by d.endpoints
        d.limiters more n
    same_room n other =
        let count : in_flight_of n d.live ≡ in_flight_of n more = omega (
          arith,
          sum_by_push (λ (r : Row). cond (bytes_eq r.endpoint n) 1 0) d.live row,
          ap {B = ℕ}
              (λ b. cond b 1 0) other,
        ) in
        ap (λ k. enabled_in d.endpoints n && nat_lt k (limit_by d.limiters n)) count

-- What ties the deliveries to the queue and the permits, once an attempt is over

-- The deliveries after an attempt, whose outcome waits where it has a status

abbrev pub tried : BookValue → (seq d : ℕ) → (status : Option ℕ) → (at : ℕ) → BookValue
tried book seq d None at = book
tried book seq d (Some status) at = with_outcome book seq d status at

-- The entry of an attempt that is under way

pub record UnderWay (book : BookValue) (row : Row) : Type 0 where
  pub entry : Entry
  pub there : entry_at book.entries row.delivery ≡ Some entry
  pub numbered : entry.seq ≡ row.delivery
  pub settled : nat_lt row.delivery book.settled_seq ≡ true
  pub opened : is_open entry ≡ true
  pub timed : is_some entry.settled.due ≡ true
  pub named : bytes_eq entry.name row.endpoint ≡ true

pub under_way : (book : BookValue) (row : Row) → is_under_way book row ≡ true → UnderWay book row
under_way book row h = by_option (entry_at _ row.delivery) (λ e. absurd (grind (arith, h, e))) (λ x e. record {
  entry = x;
  there = e;
  numbered = found_seq book.entries row.delivery x e;
  settled = grind (arith, h);
  opened = grind (arith, h, e);
  timed = grind (arith, h, e);
  named = grind (arith, h, e);
})

pub takes : (book : BookValue) (row : Row) → UnderWay book row → takes_outcome book row.delivery ≡ true
takes book row u = ap (λ o. option_map_or is_open o false) u.there ∙ u.opened

-- The row of a delivery that takes an outcome tells how many attempts it had

takes_as : (book : BookValue) (d : ℕ) → IsInStep book → takes_outcome book d ≡ true
    → (e : Entry) × (entry_at book.entries d ≡ Some e) × (latest_row book d ≡ Some (row_in e.latest e))
takes_as book d step takes = by_option (entry_at book.entries d)
    (λ none. absurd (grind (arith, takes, none)))
    (λ e there. (e, there, latest_open book d e step.ended there (grind (arith, takes, there))))

pub next_is : (book : BookValue) (d : ℕ) (row : BookRow) → IsInStep book → takes_outcome book d ≡ true
    → Some row ≡ latest_row book d
    → row.attempts + 1 ≡ attempt_in book d
next_is book d row step takes rows =
    let own = takes_as book d step takes in
    grind (arith, rows, own.1, own.2)

pub none_is : (book : BookValue) (d : ℕ) → IsInStep book → takes_outcome book d ≡ true → None ≡ latest_row book d → ⊥
none_is book d step takes none =
    let own = takes_as book d step takes in
    absurd (grind (arith, none, own.2))

-- Entries, where that of a delivery has one more attempt

abbrev change : (d status at : ℕ) → Entry → Entry
change d status at = at_delivery d (with_attempt status at)

numbers : (d status at : ℕ) (e : Entry) → (change d status at e).seq ≡ e.seq
numbers d status at e = grind arith

pub entry_tried : (entries : List Entry) (d status at s : ℕ) → entry_at (map (change d status at) entries) s
    ≡ option_map (change d status at) (entry_at entries s)
entry_tried entries d status at s = find_map (change d status at) (λ e. nat_eq e.seq s) entries
    ∙ (λ i. option_map (change d status at) (find (λ (e : Entry). nat_eq (numbers d status at e i) s) entries))

pub entry_other : (entries : List Entry) (d status at s : ℕ) → nat_eq d s ≡ false
    → entry_at (map (change d status at) entries) s ≡ entry_at entries s
entry_other entries d status at s apart =
    let tried = entry_tried entries d status at s in
    grind (arith, tried, apart, found_seq entries s)

pub entry_own : (book : BookValue) (row : Row) (status at : ℕ) (u : UnderWay book row)
    → entry_at (map (change row.delivery status at) book.entries) row.delivery ≡ Some (with_attempt status at u.entry)
entry_own book row status at u =
    let tried = entry_tried book.entries row.delivery status at row.delivery in
    grind (arith, nat_tests, tried, u.there, u.numbered)

-- its own outcome waits, so it takes no other one
more_attempts : (n m : ℕ) → nat_eq n m ≡ true → nat_eq (n + 1) m ≡ false
more_attempts n m e = ne_eqb (n + 1) m (λ same. absurd (omega (arith, same, eqb-true n m e)))

attempts_same : (e : Entry) → is_open e ≡ true → nat_eq e.latest.attempts e.settled.attempts ≡ true
attempts_same e opened = and_second (is_in_state Pending (state_in e.latest))
    (nat_eq e.latest.attempts e.settled.attempts) opened

pub takes_none : (book : BookValue) (row : Row) (seq status at : ℕ) → UnderWay book row
    → takes_outcome (with_outcome book seq row.delivery status at) row.delivery ≡ false
takes_none book row seq status at u =
    let own = entry_own book row status at u in
    grind (arith, nat_tests, own, u.opened)

-- The outcomes that wait

-- an outcome that waits is of another delivery
told_other : (book : BookValue) (row : Row) (o : Unsettled) → UnderWay book row → is_told book o ≡ true
    → nat_eq row.delivery o.delivery ≡ false
told_other book row o u told =
    let same = attempts_same u.entry u.opened in
    grind (arith, nat_tests, told, u.there, same)

rises_more : (from upto n d : ℕ) (os : List Unsettled) → rises from upto os ≡ true → upto ≤ n
    → rises from (n + 1) (os ++ record { seq = n; delivery = d } ∷ []) ≡ true
rises_more from upto n d [] h l = and_both (nat_le from n) _ (le-leb from n (omega (arith, l, leb-true from upto h)))
    (le-leb (n + 1) (n + 1) (omega arith))
rises_more from upto n d (o ∷ os) h l = and_both (nat_le from o.seq) _ (and_first (nat_le from o.seq) _ h)
    (rises_more (o.seq + 1) upto n d os (and_second (nat_le from o.seq) _ h) l)

none_of : (book : BookValue) (row : Row) (os : List Unsettled) → UnderWay book row → list_all (is_told book) os ≡ true
    → count_by (λ (o : Unsettled). nat_eq o.delivery row.delivery) os ≡ 0
none_of book row [] u h = refl
none_of book row (o ∷ os) u h =
    let counted = sum_by-cons (λ (x : Unsettled). cond (nat_eq x.delivery row.delivery) 1 0) o os in
    let apart = told_other book row o u (and_first (is_told book o) _ h) in
    grind (arith, nat_tests, counted, apart, none_of book row os u (and_second (is_told book o) _ h))

pub apart_tried : (book : BookValue) (row : Row) (seq status at : ℕ) → AreApart book → UnderWay book row → book.next_seq
    ≤ seq → entry_at book.entries seq ≡ None → AreApart (with_outcome book seq row.delivery status at)
apart_tried book row seq status at h u next unused = record {
  in_turn = rises_more book.settled_seq book.next_seq seq row.delivery book.unsettled h.in_turn next;
  told = list_all-append (is_told new) book.unsettled (o ∷ []) ∙ and_both (list_all (is_told new) book.unsettled) _
      (all_weaker (is_told book) (is_told new) book.unsettled still h.told) (and_both (is_told new o) _ own_told refl);
  own = list_all-append (is_own new) book.unsettled (o ∷ []) ∙ and_both (list_all (is_own new) book.unsettled) _
      (all_weaker (is_own book) (is_own new) book.unsettled (λ x t. ap not (there x.seq) ∙ t) h.own)
      (and_both (is_own new o) _ (ap not (there seq ∙ ap is_some unused)) refl);
  once = λ d.
      let pushed = sum_by_push (λ (x : Unsettled). cond (nat_eq x.delivery d) 1 0) book.unsettled o in
      grind (arith, pushed, h.once d, none d);
}
  where
    new : BookValue
    new = with_outcome book seq row.delivery status at

    o : Unsettled
    o = record { seq = seq; delivery = row.delivery }

    still : (x : Unsettled) → is_told book x ≡ true → is_told new x ≡ true
    still x t = ap (λ p. option_map_or (λ (e : Entry). not (nat_eq e.latest.attempts e.settled.attempts)) p false)
        (entry_other book.entries row.delivery status at x.delivery (told_other book row x u t)) ∙ t

    own_told : is_told new o ≡ true
    own_told = ap (λ p. option_map_or (λ (e : Entry). not (nat_eq e.latest.attempts e.settled.attempts)) p false)
        (entry_own book row status at u)
        ∙ ap not (more_attempts u.entry.latest.attempts u.entry.settled.attempts (attempts_same u.entry u.opened))

    there : (s : ℕ) → is_some (entry_at new.entries s) ≡ is_some (entry_at book.entries s)
    there s = let tried = entry_tried book.entries row.delivery status at s in grind (arith, tried)

    none : (d : ℕ) → nat_eq row.delivery d ≡ true → count_by (λ (x : Unsettled). nat_eq x.delivery d) book.unsettled ≡ 0
    none d same =
        ap (λ n. count_by (λ (x : Unsettled). nat_eq x.delivery n) book.unsettled) (sym (eqb-true row.delivery d same))
        ∙ none_of book row book.unsettled u h.told

-- The attempts that are under way

pub under_way_less : (book : BookValue) (row : Row) (live new : List Row) → IsReturned row live new
    → AreUnderWay live book → AreUnderWay new book
under_way_less book row live new r h = record { each = r.pass (is_under_way book) h.each; once = r.once }

pub under_way_tried : (book : BookValue) (row : Row) (live new : List Row) (seq status at : ℕ) → IsReturned row live new
    → AreUnderWay live book → AreUnderWay new (with_outcome book seq row.delivery status at)
under_way_tried book row live new seq status at r h = record {
  each = all_by (is_under_way book) (λ (x : Row). nat_eq x.delivery row.delivery)
      (is_under_way (with_outcome book seq row.delivery status at)) new each (r.pass (is_under_way book) h.each) r.free;
  once = r.once;
}
  where
    each : (x : Row) → is_under_way book x ≡ true → nat_eq x.delivery row.delivery ≡ false
        → is_under_way (with_outcome book seq row.delivery status at) x ≡ true
    each x t apart =
        let other = entry_other book.entries row.delivery status at x.delivery (grind (arith, nat_tests, apart)) in
        grind (arith, other, t)

-- Free places

count_map_below : (p q : Entry → Bool) (g : Entry → Entry) (xs : List Entry)
    → ((x : Entry) → p (g x) ≡ true → q x ≡ true) → count_by p (map g xs) ≤ count_by q xs
count_map_below p q g [] h = omega arith
count_map_below p q g (x ∷ xs) h =
    let ps = sum_by-cons (λ y. cond (p y) 1 0) (g x) (map g xs) in
    let qs = sum_by-cons (λ y. cond (q y) 1 0) x xs in
    grind (arith, ps, qs, h x, count_map_below p q g xs h)

-- what is pending after one more attempt was pending before
pending_before : (p : Progress) (status at : ℕ) → is_in_state Pending (state_in (progress_after status at p)) ≡ true
    → is_in_state Pending (state_in p) ≡ true
pending_before p status at h = grind (arith, nat_tests, h)

pub places_tried : (queue : QueueValue) (book : BookValue) (seq d status at : ℕ) → HasPlaces queue book
    → HasPlaces queue (with_outcome book seq d status at)
places_tried queue book seq d status at h = λ name.
    let fewer = count_map_below (is_unheld queue name) (is_unheld queue name) (change d status at) book.entries (λ x t.
    let before = pending_before x.latest status at in grind (arith, t, before)) in
    omega (arith, h name, fewer)

-- What is held

-- an attempt that is under way isn't held
pub new_pair : (queue : QueueValue) (book : BookValue) (live : List Row) (d : ℕ) → AreHeld queue book live
    → is_out d live ≡ true → IsNew queue d
new_pair queue book live d held out = λ name due.
    let is = held (pair_of name due d) in
    grind (arith, is, out, found_seq book.entries d)

abbrev waiting_for : BookValue → List Row → Pair → Option Entry → Bool
waiting_for book live pair o = option_map_or (λ x. is_idle book.settled_seq live x && is_pair_of pair x) o false

-- a pair of another delivery
held_other : (book : BookValue) (row : Row) (live new : List Row) (pair : Pair) (o : Option Entry)
    → IsReturned row live new → nat_eq row.delivery pair.seq ≡ false → entry_at book.entries pair.seq ≡ o
    → waiting_for book live pair o ≡ waiting_for book new pair o
held_other book row live new pair o r apart e = by_option o
    (λ none. grind (arith, none))
    (λ x some. grind (arith, some, r.out x.seq, found_seq book.entries pair.seq x (e ∙ some), apart))

pair_apart : (pair : Pair) (name : List ℕ) (due d : ℕ) → nat_eq d pair.seq ≡ false
    → same_pair pair (pair_of name due d) ≡ false
pair_apart pair name due d apart = ap (λ b. b && (nat_eq due pair.due && bytes_eq name pair.endpoint)) apart

-- the outcome waits: the delivery isn't held
pub held_tried : (queue new : QueueValue) (book : BookValue) (row : Row) (live rest : List Row) (seq status at : ℕ)
    → AreHeld queue book live → UnderWay book row → is_out row.delivery live ≡ true → IsReturned row live rest
    → Holds queue new (idle_pair (with_outcome book seq row.delivery status at) row.delivery)
    → AreHeld new (with_outcome book seq row.delivery status at) rest
held_tried queue new book row live rest seq status at held u out r holds =
    let later = with_outcome book seq row.delivery status at in
    let closed = takes_none book row seq status at u in
    let own = entry_own book row status at u in
    let same : new ≡ queue =
    subst (λ o. Holds queue new o) (ap (λ b. if b then pair_in later row.delivery else None) closed) holds in
    λ pair. ap (λ q. is_held q pair) same ∙ by_bool (nat_eq row.delivery pair.seq)
    (λ e.
    let is : row.delivery ≡ pair.seq = eqb-true row.delivery pair.seq e in
    let new_one = subst (λ n. IsNew queue n) is (new_pair queue book live row.delivery held out) in
    let none = new_one pair.endpoint pair.due in
    let not_open : is_open (with_attempt status at u.entry) ≡ false =
    sym (ap (λ o. option_map_or is_open o false) own) ∙ closed in
    let there : entry_at later.entries pair.seq ≡ Some (with_attempt status at u.entry) =
    ap (entry_at later.entries) (sym is) ∙ own in
    none ∙ sym (ap (waiting_for later rest pair) there ∙ grind (arith, not_open)))
    (λ e.
    held pair ∙ held_other book row live rest pair (entry_at book.entries pair.seq) r e refl
    ∙ ap (waiting_for book rest pair) (sym (entry_other book.entries row.delivery status at pair.seq e)))

-- no outcome waits: the delivery is held again
pub held_again : (queue new : QueueValue) (book : BookValue) (row : Row) (live rest : List Row)
    → AreHeld queue book live → UnderWay book row → is_out row.delivery live ≡ true → IsReturned row live rest
    → Holds queue new (idle_pair book row.delivery) → AreHeld new book rest
held_again queue new book row live rest held u out r holds =
    by_option u.entry.settled.due (λ e. absurd (grind (arith, e, u.timed))) (λ due e pair.
    let own : idle_pair book row.delivery ≡ Some (pair_of u.entry.name due row.delivery) =
    grind (arith, takes book row u, u.settled, u.there, e) in
    let gains : Holds queue new (Some (pair_of u.entry.name due row.delivery)) =
    subst (λ o. Holds queue new o) own holds in
    let gained = gains.pairs pair in
    by_bool (nat_eq row.delivery pair.seq)
    (λ same.
    let is : row.delivery ≡ pair.seq = eqb-true row.delivery pair.seq same in
    let new_one = subst (λ n. IsNew queue n) is (new_pair queue book live row.delivery held out) in
    let none = new_one pair.endpoint pair.due in
    let there : entry_at book.entries pair.seq ≡ Some u.entry = ap (entry_at book.entries) (sym is) ∙ u.there in
    grind (arith, gained, none, there, same, e, is, u.numbered, u.settled, u.opened, r.free))
    (λ apart.
    let other = held_other book row live rest pair (entry_at book.entries pair.seq) r apart refl in
    let not_own = pair_apart pair u.entry.name due row.delivery apart in
    grind (arith, gained, not_own, held pair, other)))
