-- What one more record that is settled, or one more event that waits, makes of the deliveries and the queue.
use Rattle.desk.proofs.Words.{◌≡◌, ◌≤◌, ◌+◌, ◌-◌, ℕ, Bool, true, false, List, [], ◌∷◌, Option, Some, None, drop, map}
use Rattle.desk.proofs.Words.{max, refl, sym, ◌∙◌, ap, arith, not, ◌&&◌, ◌||◌, cond, subst, count_by, find, is_some}
use Rattle.desk.proofs.Words.{option_map, unwrap_or, nat_eq, nat_le, nat_lt, bytes_eq, if◌then◌else◌, list_all}
use Rattle.desk.proofs.Words.{list_any, option_map_or, eq-eqb, eqb-true, le-ltb, le-leb, leb-true, sum_by-cons, Record}
use Rattle.desk.proofs.Words.{Pending, is_in_state, and_first, and_second, and_both, find_map, Entry, Unsettled}
use Rattle.desk.proofs.Words.{Settles, BookValue, entry_at, first_outcome, front_below, is_open, next_settled}
use Rattle.desk.proofs.Words.{rest_from, state_in, takes_outcome, with_latest_settled, with_settled, HasWaiting}
use Rattle.desk.proofs.Words.{count-map, drop_drop, Row, is_out, Pair, QueueValue, IsNew, is_held, pair_of, same_pair}
use Rattle.desk.proofs.Words.{AreApart, AreHeld, AreQueued, AreUnderWay, HasPlaces, Holds, idle_pair, is_own, is_told}
use Rattle.desk.proofs.Words.{is_under_way, is_unheld, rises, waits_as, nat_tests, by_bool, by_option, ◌++◌, option_or}
use Rattle.desk.proofs.Words.{find-append, Accept, Outcome, attempts_of, is_gone_status, AreNamedAlike, at_delivery}
use Rattle.desk.proofs.Words.{at_outcomes, with_outcome, AreTries, endpoint_at, with_attempt, ◌<◌, length, sum_by_push}
use Rattle.desk.proofs.Words.{MAX_RECORDS, records_of, HasChanges, changes_named, changes_other, new_entry, pending_in}
use Rattle.desk.proofs.Words.{with_event, all_weaker, HasSamePairs, SetsState, free_places, reserved_state}
use Rattle.desk.proofs.Words.{WaitingValue}
use Rattle.desk.proofs.Words.{record_count, with_step, Limiter, AreTied, is_entry_of, is_idle, is_pair_of, own_pair}
use Rattle.desk.proofs.Words.{IsDesk, is_pending_of}
use Rattle.desk.proofs.Words.{HasOneEach, HasSameNames, IsInStep, filter}
use Rattle.delivery_book.specs.Entries.{is_left, is_of_left}
use Rattle.delivery_book.specs.Book.{StandsFor}
use Rattle.delivery_book.proofs.Waiting.{waiting_settled, waiting_event}
use Rattle.endpoint_book.specs.Entries as endpoint_entries
use Rattle.desk.proofs.ClaimLaws.{found_seq, idle_from, count_below}
use Rattle.desk.proofs.DeskLaws.{deliveries_wait}
use Rattle.desk.proofs.TakenLaws.{count_left, entry_left, if_passes, left_on, open_left}
use Rattle.desk.proofs.RequestTies.{room_requested, by_name, found_with, lanes_reserved, places_reserved}
use Rattle.desk.proofs.RequestTies.{reserved_free}

-- whether this is the delivery that is named
abbrev pub names : Option ℕ → ℕ → Bool
names o n = option_map_or (λ d. nat_eq d n) o false

-- Outcomes in the order of their numbers

pub rises_within : (from upto : ℕ) (outs : List Unsettled) → rises from upto outs ≡ true → from ≤ upto
rises_within from upto [] h = leb-true from upto h
rises_within from upto (o ∷ rest) h =
    omega (
      arith,
      leb-true from o.seq (and_first (nat_le from o.seq) _ h),
      rises_within (o.seq + 1) upto rest
          (and_second (nat_le from o.seq) _ h),
    )

pub rises_upto : (from upto more : ℕ) (outs : List Unsettled) → upto ≤ more → rises from upto outs ≡ true
    → rises from more outs ≡ true
rises_upto from upto more [] le h = le-leb from more (omega (arith, le, leb-true from upto h))
rises_upto from upto more (o ∷ rest) le h =
    and_both (nat_le from o.seq) _ (and_first (nat_le from o.seq) _ h)
    (rises_upto (o.seq + 1) upto more rest le (and_second (nat_le from o.seq) _ h))

front_none : (s upto : ℕ) (outs : List Unsettled) → rises s upto outs ≡ true → front_below s outs ≡ []
front_none s upto [] h = refl
front_none s upto (o ∷ rest) h = ap (λ b. if b then o ∷ front_below s rest else [])
    (le-ltb o.seq s (leb-true s o.seq (and_first (nat_le s o.seq) _ h)))

rest_all : (s upto : ℕ) (outs : List Unsettled) → rises s upto outs ≡ true → rest_from s outs ≡ outs
rest_all s upto [] h = refl
rest_all s upto (o ∷ rest) h = ap (λ b. if b then rest_from s rest else o ∷ rest)
    (le-ltb o.seq s (leb-true s o.seq (and_first (nat_le s o.seq) _ h)))

-- those after the one of this number, which is the first if it is there
abbrev behind : (s : ℕ) → List Unsettled → List Unsettled
behind s [] = []
behind s (o ∷ rest) = if nat_eq o.seq s then rest else o ∷ rest

-- what is settled with one more record: the first outcome, if it has that record's number
front_one : (s upto : ℕ) (outs : List Unsettled) → rises s upto outs ≡ true → (n : ℕ)
    → list_any (λ o. nat_eq o.delivery n) (front_below (s + 1) outs) ≡ names (first_outcome s outs) n
front_one s upto [] h n = refl
front_one s upto (o ∷ rest) h n = grind (arith, nat_tests, h, front_none (s + 1) upto rest)

rest_one : (s upto : ℕ) (outs : List Unsettled) → rises s upto outs ≡ true → rest_from (s + 1) outs ≡ behind s outs
rest_one s upto [] h = refl
rest_one s upto (o ∷ rest) h = grind (arith, nat_tests, h, rest_all (s + 1) upto rest)

rises_behind : (s upto : ℕ) (outs : List Unsettled) → rises s upto outs ≡ true
    → rises (s + 1) (max upto (s + 1)) (behind s outs) ≡ true
rises_behind s upto [] h = le-leb (s + 1) (max upto (s + 1)) (omega arith)
rises_behind s upto (o ∷ rest) h =
    let more = λ (n : ℕ). rises_upto n upto (max upto (s + 1)) rest (omega arith) in
    grind (arith, nat_tests, h, more (s + 1), more (o.seq + 1))

-- Entries

abbrev moved : Option ℕ → Entry → Entry
moved first x = if names first x.seq then with_latest_settled x else x

moved_seq : (first : Option ℕ) (x : Entry) → (moved first x).seq ≡ x.seq
moved_seq first x = grind arith

abbrev pub later : BookValue → BookValue
later book = with_settled book (book.settled_seq + 1)

abbrev first : BookValue → Option ℕ
first book = first_outcome book.settled_seq book.unsettled

-- what is left once one more record is settled
abbrev is_left_later : BookValue → Entry → Bool
is_left_later book = is_left (book.settled_seq + 1)

entries_moved : (book : BookValue) → AreApart book
    → (later book).entries ≡ filter (is_left_later book) (map (moved (first book)) book.entries)
entries_moved book apart = λ i. filter (is_left_later book)
    (map (λ x. if front_one book.settled_seq book.next_seq book.unsettled apart.in_turn x.seq i then with_latest_settled
    x else x)
    book.entries)

entry_moved : (book : BookValue) (n : ℕ) → HasOneEach book → AreApart book
    → entry_at (later book).entries n
    ≡ if_passes (is_left_later book) (option_map (moved (first book)) (entry_at book.entries n))
entry_moved book n once apart =
    let counted = count-map (λ (e : Entry). nat_eq e.seq n) (moved (first book)) book.entries
    (λ e i. nat_eq (moved_seq (first book) e i) n) in
    ap (λ entries. entry_at entries n) (entries_moved book apart)
    ∙ entry_left (is_left_later book) n (map (moved (first book)) book.entries) (omega (arith, counted, once n))
    ∙ ap (if_passes (is_left_later book)) (find_map (moved (first book)) (λ e. nat_eq e.seq n) book.entries
    ∙ ap (λ test. option_map (moved (first book)) (find test book.entries))
    (λ i e. nat_eq (moved_seq (first book) e i) n))

-- an entry that the outcome isn't of stays, if it is left
entry_still : (book : BookValue) (n : ℕ) → HasOneEach book → AreApart book → names (first book) n ≡ false
    → entry_at (later book).entries n ≡ if_passes (is_left_later book) (entry_at book.entries n)
entry_still book n once apart other =
    let moved = entry_moved book n once apart in
    by_option (entry_at book.entries n)
    (λ none. grind (arith, moved, none))
    (λ e there. grind (arith, moved, there, other, found_seq book.entries n e there))

-- one that takes an outcome is left
entry_open : (book : BookValue) (n : ℕ) (e : Entry) → HasOneEach book → IsInStep book → AreApart book
    → names (first book) n ≡ false
    → entry_at book.entries n ≡ Some e → is_open e ≡ true → entry_at (later book).entries n ≡ Some e
entry_open book n e once step apart other there opened =
    let left = open_left (book.settled_seq + 1) n book.entries e step.ended there opened in
    let still = entry_still book n once apart other in
    grind (arith, still, there, left)

-- The delivery that is concerned

-- the entry's delivery isn't one that waits for an attempt or is under way
abbrev IsBusy : BookValue → ℕ → Type 0
IsBusy book n = (e : Entry) → entry_at book.entries n ≡ Some e → nat_lt n book.settled_seq && is_open e ≡ false

no_other : (book : BookValue) (outs : List Unsettled) → list_all (is_own book) outs ≡ true
    → is_some (entry_at book.entries book.settled_seq) ≡ true → first_outcome book.settled_seq outs ≡ None
no_other book [] own there = refl
no_other book (o ∷ rest) own there = grind (arith, nat_tests)

-- the outcome that is settled is of the delivery that is concerned
concerned_first : (book : BookValue) → AreApart book → (n : ℕ) → names (next_settled book) n ≡ false
    → names (first book) n ≡ false
concerned_first book apart n h = let none = no_other book book.unsettled apart.own in grind (arith, h, none)

-- it was none that waits
first_told : (book : BookValue) (n : ℕ) (e : Entry) → entry_at book.entries n ≡ Some e → (outs : List Unsettled)
    → list_all (is_told book) outs ≡ true → names (first_outcome book.settled_seq outs) n ≡ true → is_open e ≡ false
first_told book n e found [] told k = absurd (let wrong : false ≡ true = k in cc)
first_told book n e found (o ∷ rest) told k = grind (arith, nat_tests, found)

concerned_busy : (book : BookValue) → AreApart book → (n : ℕ) → names (next_settled book) n ≡ true → IsBusy book n
concerned_busy book apart n h e found = by_bool (is_some (entry_at book.entries book.settled_seq))
    (λ there. grind (arith, nat_tests, h, there))
    (λ there.
    let closed = first_told book n e found book.unsettled apart.told (grind (arith, h, there)) in
    grind (arith, closed))

-- an entry that isn't concerned counts as settled just if it did before
settled_same : (book : BookValue) (n : ℕ) → names (next_settled book) n ≡ false
    → is_some (entry_at book.entries n) ≡ true → nat_lt n (book.settled_seq + 1) ≡ nat_lt n book.settled_seq
settled_same book n other there = grind (arith, nat_tests, other, there)

-- The queue

busy_new : (queue : QueueValue) (book : BookValue) (live : List Row) (n : ℕ) → AreHeld queue book live → IsBusy book n
    → IsNew queue n
busy_new queue book live n held busy = λ endpoint due.
    let is = held (pair_of endpoint due n) in
    by_option (entry_at book.entries n)
    (λ e. grind (arith, is, e))
    (λ x e. grind (arith, is, e, busy x e, found_seq book.entries n x e))

busy_not_out : (book : BookValue) (live : List Row) (n : ℕ) → list_all (is_under_way book) live ≡ true → IsBusy book n
    → is_out n live ≡ false
busy_not_out book [] n each busy = refl
busy_not_out book (row ∷ live) n each busy =
    let later = busy_not_out book live n (and_second (is_under_way book row) _ each) busy in
    by_bool (nat_eq row.delivery n)
    (λ e. by_option (entry_at book.entries n)
    (λ none. grind (arith, nat_tests, each, e, none))
    (λ x some. grind (arith, nat_tests, each, e, some, busy x some)))
    (λ e. grind (arith, e, later))

-- the pair of a delivery of which no permit is out is the one that waits
pub idle_waits : (book : BookValue) (live : List Row) (pair : Pair) → is_out pair.seq live ≡ false
    → waits_as book live pair ≡ option_map_or (same_pair pair) (idle_pair book pair.seq) false
idle_waits book live pair free = by_option (entry_at book.entries pair.seq)
    (λ there. grind (arith, there))
    (λ e there.
    let numbered = found_seq book.entries pair.seq e there in
    by_option e.settled.due
    (λ due. grind (arith, nat_tests, there, numbered, free, due))
    (λ t due. grind (arith, nat_tests, there, numbered, free, due)))

-- what the queue holds of a delivery that waits from now on
abbrev pub HoldsNext : (old new : QueueValue) → BookValue → Option ℕ → Type 0
HoldsNext old new book None = new ≡ old
HoldsNext old new book (Some d) = Holds old new (idle_pair book d)

idle_seq : (book : BookValue) (d : ℕ) (pair : Pair) → idle_pair book d ≡ Some pair → pair.seq ≡ d
idle_seq book d pair h = by_bool (takes_outcome book d)
    (λ takes. ap (λ (p : Pair). p.seq) (idle_from book d pair takes (grind (arith, h, takes))).is)
    (λ takes. absurd (grind (arith, h, takes)))

-- of other deliveries the queue holds what it held
pub held_other : (old new : QueueValue) (book : BookValue) (next : Option ℕ) (pair : Pair) → HoldsNext old new book next
    → names next pair.seq ≡ false → is_held new pair ≡ is_held old pair
held_other old new book None pair same other = ap (λ (q : QueueValue). is_held q pair) same
held_other old new book (Some d) pair holds other = by (idle_pair book d) refl holds
  where
    by : (o : Option Pair) → idle_pair book d ≡ o → Holds old new o → is_held new pair ≡ is_held old pair
    by None e same = ap (λ (q : QueueValue). is_held q pair) same
    by (Some p) e held = grind (arith, held.pairs pair, idle_seq book d p e, other)

-- of that one it holds the pair, if it waits
pub held_one : (old new : QueueValue) (book : BookValue) (pair : Pair) → IsNew old pair.seq
    → Holds old new (idle_pair book pair.seq)
    → is_held new pair ≡ option_map_or (same_pair pair) (idle_pair book pair.seq) false
held_one old new book pair unheld holds = by (idle_pair book pair.seq) holds
  where
    by : (o : Option Pair) → Holds old new o → is_held new pair ≡ option_map_or (same_pair pair) o false
    by None same = ap (λ (q : QueueValue). is_held q pair) same ∙ unheld pair.endpoint pair.due
    by (Some p) held = held.pairs pair ∙ ap (λ b. b || same_pair pair p) (unheld pair.endpoint pair.due)

-- A delivery that the queue didn't hold, and of which no permit is out, is held if it waits: so the queue holds what it
-- should, where it did so of all others.
pub held_next : (old new : QueueValue) (book : BookValue) (live : List Row) (next : Option ℕ)
    → HoldsNext old new book next
    → ((n : ℕ) → names next n ≡ true → IsNew old n) → ((n : ℕ) → names next n ≡ true → is_out n live ≡ false)
    → ((pair : Pair) → names next pair.seq ≡ false → is_held old pair ≡ waits_as book live pair) → AreHeld new book live
held_next old new book live next holds unheld free others = λ pair. by_bool (names next pair.seq)
    (λ e.
    let one_held = held_one old new book pair (unheld pair.seq e) (one next pair e holds) in
    one_held ∙ sym (idle_waits book live pair (free pair.seq e)))
    (λ e. held_other old new book next pair holds e ∙ others pair e)
  where
    one : (o : Option ℕ) (pair : Pair) → names o pair.seq ≡ true → HoldsNext old new book o
        → Holds old new (idle_pair book pair.seq)
    one None pair e h = let wrong : false ≡ true = e in cc
    one (Some d) pair e h = subst (λ n. Holds old new (idle_pair book n)) (eqb-true d pair.seq e) h

-- What ties the queue to the book, once one more record is settled

none_among : (d : ℕ) (outs : List Unsettled) → count_by (λ (o : Unsettled). nat_eq o.delivery d) outs ≡ 0
    → list_all (λ (o : Unsettled). not (nat_eq d o.delivery)) outs ≡ true
none_among d [] h = refl
none_among d (o ∷ rest) h =
    let counted = sum_by-cons (λ (p : Unsettled). cond (nat_eq p.delivery d) 1 0) o rest in
    grind (arith, nat_tests, counted, h, none_among d rest)

-- the outcomes that still wait are of other deliveries than the one that is settled
others_wait : (s : ℕ) (outs : List Unsettled) → ((d : ℕ) → count_by (λ (o : Unsettled). nat_eq o.delivery d) outs ≤ 1)
    → list_all (λ (o : Unsettled). not (names (first_outcome s outs) o.delivery)) (behind s outs) ≡ true
others_wait s [] once = refl
others_wait s (o ∷ rest) once = by (nat_eq o.seq s)
  where
    all_not : (outs : List Unsettled) → list_all (λ (p : Unsettled). not (names None p.delivery)) outs ≡ true
    all_not [] = refl
    all_not (p ∷ outs) = all_not outs

    by : (b : Bool) → list_all (λ (p : Unsettled). not (names (if b then Some o.delivery else None) p.delivery))
        (if b then rest else o ∷ rest) ≡ true
    by true =
        let counted = sum_by-cons (λ (p : Unsettled). cond (nat_eq p.delivery o.delivery) 1 0) o rest in
        none_among o.delivery rest (grind (arith, nat_tests, once o.delivery, counted))
    by false = all_not (o ∷ rest)

all_behind : (test : Unsettled → Bool) (s : ℕ) (outs : List Unsettled) → list_all test outs ≡ true
    → list_all test (behind s outs) ≡ true
all_behind test s [] h = refl
all_behind test s (o ∷ rest) h = grind (arith, h)

count_behind : (test : Unsettled → Bool) (s : ℕ) (outs : List Unsettled)
    → count_by test (behind s outs) ≤ count_by test outs
count_behind test s [] = omega arith
count_behind test s (o ∷ rest) = grind (arith, sum_by-cons (λ p. cond (test p) 1 0) o rest)

all_both : {X : Type 0} (p q r : X → Bool) (xs : List X) → ((x : X) → p x ≡ true → q x ≡ true → r x ≡ true)
    → list_all p xs ≡ true → list_all q xs ≡ true → list_all r xs ≡ true
all_both p q r [] h a b = refl
all_both p q r (x ∷ xs) h a b = grind (arith, h x, all_both p q r xs h)

not_named : (b : Bool) → not b ≡ true → b ≡ false
not_named b h = grind arith

both_all : {X : Type 0} (p q : X → Bool) (xs : List X) → list_all p xs ≡ true → list_all q xs ≡ true
    → list_all (λ x. p x && q x) xs ≡ true
both_all p q [] h k = refl
both_all p q (x ∷ xs) h k = grind (arith, h, k, both_all p q xs)

-- the outcomes that wait have these numbers
all_from : (least from upto : ℕ) (outs : List Unsettled) → least ≤ from → rises from upto outs ≡ true
    → list_all (λ o. nat_le least o.seq) outs ≡ true
all_from least from upto [] le h = refl
all_from least from upto (o ∷ rest) le h =
    let first = leb-true from o.seq (and_first (nat_le from o.seq) _ h) in
    and_both (nat_le least o.seq) _ (le-leb least o.seq (omega (arith, le, first)))
    (all_from least (o.seq + 1) upto rest (omega (arith, le, first)) (and_second (nat_le from o.seq) _ h))

-- an outcome that still waits, if the one that is settled isn't of its delivery
still_told : (book : BookValue) (o : Unsettled) → HasOneEach book → AreApart book
    → names (first book) o.delivery ≡ false
    → nat_le (book.settled_seq + 1) o.seq ≡ true → is_of_left book.entries o ≡ true → is_told book o ≡ true
    → is_told (later book) o ≡ true
still_told book o once apart other later_on left told =
    let still = entry_still book o.delivery once apart other in
    by_option (entry_at book.entries o.delivery)
    (λ none. absurd (grind (arith, told, none)))
    (λ e there.
    let passes = left_on (book.settled_seq + 1) book.entries o e later_on left there in
    grind (arith, told, there, still, passes))

apart_settled : (book : BookValue) → HasOneEach book → IsInStep book → AreApart book → AreApart (later book)
apart_settled book once_each step apart = record {
  in_turn = ap (rises (book.settled_seq + 1) (max book.next_seq (book.settled_seq + 1))) rest
      ∙ rises_behind book.settled_seq book.next_seq book.unsettled apart.in_turn;
  told = ap (list_all (is_told (later book))) rest
      ∙ all_both (λ (o : Unsettled). not (names (first book) o.delivery))
      (λ o. nat_le (book.settled_seq + 1) o.seq && (is_of_left book.entries o && is_told book o)) (is_told (later book))
      (behind book.settled_seq book.unsettled)
      (λ o other told. still_told book o once_each apart (not_named (names (first book) o.delivery) other)
      (and_first (nat_le (book.settled_seq + 1) o.seq) _ told)
      (and_first (is_of_left book.entries o) _ (and_second (nat_le (book.settled_seq + 1) o.seq) _ told))
      (and_second (is_of_left book.entries o) _ (and_second (nat_le (book.settled_seq + 1) o.seq) _ told)))
      (others_wait book.settled_seq book.unsettled apart.once)
      (both_all (λ o. nat_le (book.settled_seq + 1) o.seq) (λ o. is_of_left book.entries o && is_told book o)
      (behind book.settled_seq book.unsettled)
      (all_from (book.settled_seq + 1) (book.settled_seq + 1) (max book.next_seq (book.settled_seq + 1))
      (behind book.settled_seq book.unsettled) (omega arith)
      (rises_behind book.settled_seq book.next_seq book.unsettled apart.in_turn))
      (both_all (is_of_left book.entries) (is_told book) (behind book.settled_seq book.unsettled)
      (all_behind (is_of_left book.entries) book.settled_seq book.unsettled step.left)
      (all_behind (is_told book) book.settled_seq book.unsettled apart.told)));
  own = ap (list_all (is_own (later book))) rest
      ∙ all_weaker (is_own book) (is_own (later book)) (behind book.settled_seq book.unsettled) still_own
      (all_behind (is_own book) book.settled_seq book.unsettled apart.own);
  once = λ d. omega (
    arith,
    ap (count_by (λ (o : Unsettled). nat_eq o.delivery d)) rest,
    count_behind (λ (o : Unsettled). nat_eq o.delivery d) book.settled_seq book.unsettled,
    apart.once d,
  );
}
  where
    rest : (later book).unsettled ≡ behind book.settled_seq book.unsettled
    rest = rest_one book.settled_seq book.next_seq book.unsettled apart.in_turn

    still_own : (o : Unsettled) → is_own book o ≡ true → is_own (later book) o ≡ true
    still_own o own =
        let moved = entry_moved book o.seq once_each apart in
        by_option (entry_at book.entries o.seq)
        (λ none. grind (arith, moved, none))
        (λ e there. absurd (grind (arith, own, there)))

under_way_settled : (book : BookValue) (live : List Row) → HasOneEach book → IsInStep book → AreApart book
    → AreUnderWay live book
    → AreUnderWay live (later book)
under_way_settled book live once_each step apart way = record { each = all live way.each; once = way.once }
  where
    still : (row : Row) → is_under_way book row ≡ true → is_under_way (later book) row ≡ true
    still row h = by_bool (names (next_settled book) row.delivery)
        (λ e. by_option (entry_at book.entries row.delivery)
        (λ none. grind (arith, h, none))
        (λ x some. grind (arith, h, some, concerned_busy book apart row.delivery e x some)))
        (λ e. by_option (entry_at book.entries row.delivery)
        (λ none. absurd (grind (arith, h, none)))
        (λ x some.
        let opened : is_open x ≡ true = grind (arith, h, some) in
        let same = entry_open book row.delivery x once_each step apart (concerned_first book apart row.delivery e) some
        opened in
        grind (arith, nat_tests, h, some, same)))

    all : (rows : List Row) → list_all (is_under_way book) rows ≡ true
        → list_all (is_under_way (later book)) rows ≡ true
    all [] h = refl
    all (row ∷ rows) h = grind (arith, h, still row, all rows)

-- another delivery waits as before
waits_still : (book : BookValue) (live : List Row) (pair : Pair) → HasOneEach book → IsInStep book → AreApart book
    → names (next_settled book) pair.seq ≡ false → waits_as book live pair ≡ waits_as (later book) live pair
waits_still book live pair once_each step apart other =
    let first = concerned_first book apart pair.seq other in
    let still = entry_still book pair.seq once_each apart first in
    by_option (entry_at book.entries pair.seq)
    (λ e. grind (arith, e, still))
    (λ x e. let same = settled_same book pair.seq other (ap is_some e) in
    by_bool (is_open x)
    (λ opened.
    let there = entry_open book pair.seq x once_each step apart first e opened in
    grind (arith, e, there, found_seq book.entries pair.seq x e, same))
    (λ closed. by_bool (is_left_later book x)
    (λ left. grind (arith, e, still, left, closed))
    (λ gone. grind (arith, e, still, gone, closed))))

-- the delivery that is concerned isn't held, and each pending one still has a place
new_settled : (queue : QueueValue) (book : BookValue) (live : List Row) (n : ℕ) → AreQueued queue book live
    → names (next_settled book) n ≡ true → IsNew queue n
new_settled queue book live n queued e = busy_new queue book live n queued.held (concerned_busy book queued.apart n e)

places_settled : (queue : QueueValue) (book : BookValue) (live : List Row) → AreQueued queue book live
    → HasPlaces queue (later book)
places_settled queue book live queued = λ name.
    omega (
      arith,
      ap (count_by (is_unheld queue name)) (entries_moved book queued.apart),
      count_left (is_unheld queue name) (is_left_later book) (map (moved (first book)) book.entries),
      count-map (is_unheld queue name) (moved (first book)) book.entries (same name),
      queued.places name,
    )
  where
    same : (name : List ℕ) (x : Entry) → is_unheld queue name (moved (first book) x) ≡ is_unheld queue name x
    same name x = by_bool (names (first book) x.seq)
        (λ e.
        let unheld =
        new_settled queue book live x.seq queued (grind (arith, e, concerned_first book queued.apart x.seq)) in
        grind (arith, e, unheld x.name (unwrap_or x.latest.due 0), unheld x.name (unwrap_or x.settled.due 0)))
        (λ e. grind (arith, e))

queued_settled : (old new : QueueValue) (book : BookValue) (live : List Row) → HasOneEach book → IsInStep book
    → HoldsNext old new (later book) (next_settled book) → HasPlaces new (later book) → AreQueued old book live
    → AreQueued new (later book) live
queued_settled old new book live once_each step holds places queued = record {
  apart = apart_settled book once_each step queued.apart;
  under_way = under_way_settled book live once_each step queued.apart queued.under_way;
  held = held_next old new (later book) live (next_settled book) holds (λ n e. new_settled old book live n queued e)
      (λ n e. busy_not_out book live n queued.under_way.each (concerned_busy book queued.apart n e))
      (λ pair e. queued.held pair ∙ waits_still book live pair once_each step queued.apart e);
  places = places;
}

-- The same, by what the steps of the code give

later_is : (book after : BookValue) (seq : ℕ) → seq ≡ book.settled_seq → after ≡ with_settled book (seq + 1)
    → after ≡ later book
later_is book after seq same is = is ∙ ap (λ n. with_settled book (n + 1)) same

pub new_next : (queue : QueueValue) (book : BookValue) (next : Option ℕ) (d : ℕ) → next ≡ next_settled book
    → next ≡ Some d → (live : List Row) × AreQueued queue book live → IsNew queue d
new_next queue book next d told is queued = new_settled queue book queued.0 d queued.1
    (ap (λ o. names o d) (sym told ∙ is) ∙ eq-eqb d d refl)

pub places_next : (queue : QueueValue) (book after : BookValue) (seq : ℕ) → seq ≡ book.settled_seq
    → after ≡ with_settled book (seq + 1) → (live : List Row) × AreQueued queue book live → HasPlaces queue after
places_next queue book after seq same is queued =
    subst (λ (b : BookValue). HasPlaces queue b) (sym (later_is book after seq same is))
    (places_settled queue book queued.0 queued.1)

pub queued_next : (old new : QueueValue) (book after : BookValue) (seq : ℕ) (next : Option ℕ) → HasOneEach book
    → IsInStep book → seq ≡ book.settled_seq → after ≡ with_settled book (seq + 1) → next ≡ next_settled book
    → HoldsNext old new after next → HasPlaces new after → (live : List Row) → AreQueued old book live
    → AreQueued new after live
queued_next old new book after seq next once_each step same is told holds places live queued =
    let there = later_is book after seq same is in
    subst (λ (b : BookValue). AreQueued new b live) (sym there)
    (queued_settled old new book live once_each step
    (subst (λ o. HoldsNext old new (later book) o) told
    (subst (λ (b : BookValue). HoldsNext old new b next) there holds))
    (subst (λ (b : BookValue). HasPlaces new b) there places) queued)

-- One record after the other

pub settles_none : (book : BookValue) (n : ℕ) → n ≡ book.settled_seq → Settles book n book
settles_none book n is = λ records settled h le. subst (λ m. StandsFor book records m) (sym (is ∙ h.settled_seq)) h

pub settles_more : (book between after : BookValue) (n m : ℕ) → m ≡ n → Settles book n between
    → Settles between (m + 1) after → Settles book (n + 1) after
settles_more book between after n m same before more = λ records settled h le.
    subst (λ k. StandsFor after records (k + 1)) same
    (more records m (subst (λ k. StandsFor between records k) (sym same)
    (before records settled h (omega (arith, le)))) (omega (arith, le, same)))

pub next_within : (queue : QueueValue) (book : BookValue) → (live : List Row) × AreQueued queue book live
    → book.settled_seq ≤ book.next_seq
next_within queue book queued = rises_within book.settled_seq book.next_seq book.unsettled queued.1.apart.in_turn

-- What waits after the records that are settled

pub one_settled : (book new : BookValue) (seq : ℕ) (records : List Record) → IsInStep book → seq ≡ book.settled_seq
    → new ≡ with_settled book (seq + 1) → HasWaiting book records → HasWaiting new (drop 1 records)
one_settled book new seq records step is made waits =
    subst (λ (b : BookValue). HasWaiting b (drop 1 records)) (sym (made ∙ ap (λ n. with_settled book (n + 1)) is))
    (waiting_settled book records step waits)

pub none_left : (book : BookValue) (settled counter : ℕ) (records : List Record) → counter ≡ settled
    → HasWaiting book records → HasWaiting book (drop (counter - settled) records)
none_left book settled counter records is waits =
    let none : 0 ≡ counter - settled = omega (arith, is) in
    subst (λ n. HasWaiting book (drop n records)) none waits

pub one_further : (book : BookValue) (settled counter : ℕ) (records : List Record) → settled ≤ counter
    → HasWaiting book (drop 1 (drop (counter - settled) records))
    → HasWaiting book (drop (counter + 1 - settled) records)
one_further book settled counter records above waits =
    let more : counter - settled + 1 ≡ counter + 1 - settled = omega (arith, above) in
    subst (HasWaiting book) (drop_drop (counter - settled) 1 records ∙ ap (λ n. drop n records) more) waits

-- The endpoints of deliveries stay what they are, and those of which an outcome waits are known

-- entries that are changed keep their endpoints
names_kept : (g : Entry → Entry) (entries : List Entry) (d : ℕ) → ((e : Entry) → (g e).seq ≡ e.seq)
    → ((e : Entry) → (g e).name ≡ e.name)
    → option_map (λ (e : Entry). e.name) (entry_at (map g entries) d) ≡ option_map (λ (e : Entry). e.name)
    (entry_at entries d)
names_kept g entries d numbers names =
    let found : entry_at (map g entries) d ≡ option_map g (entry_at entries d) =
    find_map g (λ e. nat_eq e.seq d) entries
    ∙ (λ i. option_map g (find (λ (e : Entry). nat_eq (numbers e i) d) entries)) in
    grind (arith, found, names)

pub names_tried : (book : BookValue) (seq d status at n : ℕ) → endpoint_at (with_outcome book seq d status at) n
    ≡ endpoint_at book n
names_tried book seq d status at n =
    names_kept (at_delivery d (with_attempt status at)) book.entries n (λ e. grind arith) (λ e. grind arith)

-- the endpoint of a delivery that is left
pub names_settled : (book : BookValue) (place n : ℕ) → HasOneEach book
    → is_some (endpoint_at (with_settled book place) n) ≡ true
    → endpoint_at (with_settled book place) n ≡ endpoint_at book n
names_settled book place n once there =
    let change = at_outcomes (front_below place book.unsettled) with_latest_settled in
    let numbers : (e : Entry) → (change e).seq ≡ e.seq = λ e. grind arith in
    let counted = count-map (λ (e : Entry). nat_eq e.seq n) change book.entries (λ e i. nat_eq (numbers e i) n) in
    let left = entry_left (is_left place) n (map change book.entries) (omega (arith, counted, once n)) in
    named_left (is_left place) (entry_at (map change book.entries) n) (entry_at (with_settled book place).entries n)
    left there
    ∙ names_kept change book.entries n numbers (λ e. grind arith)
  where
    named_left : (p : Entry → Bool) (all some : Option Entry) → some ≡ if_passes p all
        → is_some (option_map (λ (e : Entry). e.name) some) ≡ true
        → option_map (λ (e : Entry). e.name) some ≡ option_map (λ (e : Entry). e.name) all
    named_left p None some is there = absurd (grind (arith, is, there))
    named_left p (Some e) some is there = by_bool (p e)
        (λ passes. grind (arith, is, passes))
        (λ fails. absurd (grind (arith, is, there, fails)))

pub names_next : (book after : BookValue) (seq : ℕ) → HasOneEach book → after ≡ with_settled book (seq + 1)
    → HasSameNames book after
names_next book after seq once is =
    subst (HasSameNames book) (sym is) (λ n there. names_settled book (seq + 1) n once there)

pub names_further : (old between new : BookValue) → HasSameNames old between → HasSameNames between new
    → HasSameNames old new
names_further old between new before more = λ n there.
    let same = more n there in
    same ∙ before n (sym (ap is_some same) ∙ there)

-- the deliveries of which an outcome waits are there, and have the endpoints that they had
pub named_left : (old new : BookValue) (records : List Record) → HasSameNames old new
    → ((d : ℕ) → entry_at new.entries d ≡ None → attempts_of records d ≡ [])
    → AreNamedAlike (endpoint_at old) (endpoint_at new) records
named_left old new [] names tried = tt
named_left old new (Outcome delivery attempt status moment ∷ rest) names tried = (
  ap (λ (o : Option (List ℕ)). if is_gone_status status then o else None) same,
  named_left old new rest names (λ d none. let all = tried d none in grind (arith, all)),
)
  where
    same : endpoint_at old delivery ≡ endpoint_at new delivery
    same = by_option (entry_at new.entries delivery)
        (λ none. absurd (let all = tried delivery none in grind (arith, nat_tests, all)))
        (λ e there. sym (names delivery (ap (λ o. is_some (option_map (λ (x : Entry). x.name) o)) there)))
named_left old new (r ∷ rest) names tried = (refl, named_left old new rest names tried)

-- no outcome waits of a delivery that isn't there
pub none_tried : (book : BookValue) (records : List Record) → HasWaiting book records → (d : ℕ)
    → entry_at book.entries d ≡ None → attempts_of records d ≡ []
none_tried book records h d none = subst (AreTries (attempts_of records d)) none (h.tries d)

-- with one more event, the deliveries of which an outcome waits have the endpoints that they had
pub named_alike : (book : BookValue) (x : Entry) (later : BookValue) (records : List Record) → later.entries
    ≡ book.entries ++ x ∷ [] → ((d : ℕ) → entry_at book.entries d ≡ None → attempts_of records d ≡ [])
    → AreNamedAlike (endpoint_at book) (endpoint_at later) records
named_alike book x later [] more tried = tt
named_alike book x later (Outcome delivery attempt status moment ∷ rest) more tried = (
  ap (λ (o : Option (List ℕ)). if is_gone_status status then o else None) same,
  named_alike book x later rest more (λ d none. let all = tried d none in grind (arith, all)),
)
  where
    same : endpoint_at book delivery ≡ endpoint_at later delivery
    same =
        let found = find-append (λ (y : Entry). nat_eq y.seq delivery) book.entries (x ∷ []) in
        let none = tried delivery in
        grind (arith, nat_tests, more, found, none)
named_alike book x later (r ∷ rest) more tried = (refl, named_alike book x later rest more tried)

-- What ties a desk's fields stays so as a submission waits

-- Entries, with one more

-- the entry of a number that is there stays
there_with : (book : BookValue) (x : Entry) (n : ℕ) (e : Entry) → entry_at book.entries n ≡ Some e
    → entry_at (book.entries ++ x ∷ []) n ≡ Some e
there_with book x n e h = found_with (λ y. nat_eq y.seq n) book.entries x e h

-- a number that was not there is there as the new entry alone
new_alone : (book : BookValue) (x : Entry) (n : ℕ) → entry_at book.entries n ≡ None
    → entry_at (book.entries ++ x ∷ []) n ≡ cond (nat_eq x.seq n) (Some x) None
new_alone book x n h = find-append (λ y. nat_eq y.seq n) book.entries (x ∷ [])
    ∙ ap (λ o. option_or o (cond (nat_eq x.seq n) (Some x) None)) h

-- a test of an entry that is there, where none is there it fails
kept_with : (test : Entry → Bool) (book : BookValue) (x : Entry) (n : ℕ)
    → option_map_or test (entry_at book.entries n) false ≡ true
    → option_map_or test (entry_at (book.entries ++ x ∷ []) n) false ≡ true
kept_with test book x n h = let there = there_with book x n in grind (arith, there, h)

-- a test that fails at the new entry tells the same
same_with : (test : Entry → Bool) (book : BookValue) (x : Entry) (n : ℕ) → test x ≡ false
    → option_map_or test (entry_at book.entries n) false
    ≡ option_map_or test (entry_at (book.entries ++ x ∷ []) n) false
same_with test book x n fails =
    let found = find-append (λ (y : Entry). nat_eq y.seq n) book.entries (x ∷ []) in
    grind (arith, found, fails)

-- Outcomes that wait

outcomes_below : (from upto : ℕ) (outs : List Unsettled) → rises from upto outs ≡ true
    → list_all (λ o. nat_lt o.seq upto) outs ≡ true
outcomes_below from upto [] h = refl
outcomes_below from upto (o ∷ rest) h =
    let later = and_second (nat_le from o.seq) _ h in
    grind (arith, nat_tests, rises_within (o.seq + 1) upto rest later, outcomes_below (o.seq + 1) upto rest later)

own_with : (book : BookValue) (x : Entry) (o : Unsettled) → book.next_seq ≤ x.seq → nat_lt o.seq book.next_seq ≡ true
    → is_own book o ≡ true → not (is_some (entry_at (book.entries ++ x ∷ []) o.seq)) ≡ true
own_with book x o above below own =
    let alone = new_alone book x o.seq in
    grind (arith, nat_tests, own, alone, above, below)

both_pass : (p q r : Unsettled → Bool) (outs : List Unsettled)
    → ((o : Unsettled) → p o ≡ true → q o ≡ true → r o ≡ true) → list_all p outs ≡ true → list_all q outs ≡ true
    → list_all r outs ≡ true
both_pass p q r [] h a b = refl
both_pass p q r (o ∷ rest) h a b = grind (arith, h o, both_pass p q r rest h)

apart_taken : (book : BookValue) (s : ℕ) (name id body : List ℕ) (at : ℕ) → book.next_seq ≤ s → AreApart book
    → AreApart (with_event book s name id body at)
apart_taken book s name id body at above h = record {
  in_turn = rises_upto book.settled_seq book.next_seq (s + 1) book.unsettled (omega (arith, above)) h.in_turn;
  told = all_weaker (is_told book) (is_told (with_event book s name id body at)) book.unsettled
      (λ o. kept_with (λ e. not (nat_eq e.latest.attempts e.settled.attempts)) book
      (new_entry s name id body at) o.delivery) h.told;
  own = both_pass (λ o. nat_lt o.seq book.next_seq) (is_own book) (is_own (with_event book s name id body at))
      book.unsettled (λ o. own_with book (new_entry s name id body at) o above)
      (outcomes_below book.settled_seq book.next_seq book.unsettled h.in_turn) h.own;
  once = h.once;
}

-- Attempts that are under way

under_way_taken : (book : BookValue) (live : List Row) (s : ℕ) (name id body : List ℕ) (at : ℕ) → AreUnderWay live book
    → AreUnderWay live (with_event book s name id body at)
under_way_taken book live s name id body at h = record {
  each = all_weaker (is_under_way book) (is_under_way (with_event book s name id body at)) live (λ row t.
      and_both (nat_lt row.delivery book.settled_seq) _ (and_first (nat_lt row.delivery book.settled_seq) _ t)
      (kept_with (is_entry_of row) book (new_entry s name id body at) row.delivery
      (and_second (nat_lt row.delivery book.settled_seq) _ t))) h.each;
  once = h.once;
}

-- The queue

-- a delivery that isn't settled doesn't wait for an attempt
waits_taken : (book : BookValue) (live : List Row) (s : ℕ) (name id body : List ℕ) (at : ℕ) (pair : Pair)
    → book.settled_seq ≤ s → waits_as book live pair ≡ waits_as (with_event book s name id body at) live pair
waits_taken book live s name id body at pair above =
    let x = new_entry s name id body at in
    same_with (λ e. is_idle book.settled_seq live e && is_pair_of pair e) book (new_entry s name id body at) pair.seq
    (ap (λ b. (b && (is_open x && not (is_out x.seq live))) && is_pair_of pair x) (le-ltb s book.settled_seq above))

places_taken : (queue new : QueueValue) (book : BookValue) (s : ℕ) (name id body : List ℕ) (at : ℕ)
    → HasSamePairs queue new → SetsState queue new (reserved_state queue name (pending_in book name + 1))
    → HasPlaces queue book
    → HasPlaces new (with_event book s name id body at)
places_taken queue new book s name id body at same sets places n = by_name name n own other
  where
    x : Entry
    x = new_entry s name id body at

    counted : count_by (is_unheld new n) book.entries ≡ count_by (is_unheld queue n) book.entries
    counted i = count_by (λ (e : Entry). bytes_eq e.name n
        && (is_in_state Pending (state_in e.latest) && not (same (own_pair e) i))) book.entries

    own : name ≡ n → count_by (is_unheld new n) (book.entries ++ x ∷ []) ≤ free_places new n
    own is =
        let fewer = count_below (is_unheld queue n) (is_pending_of n) book.entries (λ e t. grind (arith, t)) in
        let pushed = sum_by_push (λ e. cond (is_unheld new n e) 1 0) book.entries x in
        let one : cond (is_unheld new n x) 1 0 ≤ 1 = grind arith in
        let enough = reserved_free queue new name (pending_in book name + 1) sets in
        omega (arith, pushed, one, counted, fewer, ap (pending_in book) is, enough, ap (free_places new) is)

    other : bytes_eq name n ≡ false → count_by (is_unheld new n) (book.entries ++ x ∷ []) ≤ free_places new n
    other apart =
        let pushed = sum_by_push (λ e. cond (is_unheld new n e) 1 0) book.entries x in
        let kept = places_reserved queue new name (pending_in book name + 1) sets n in
        grind (arith, pushed, apart, counted, places n, kept)

pub tied_accept : {endpoints : endpoint_entries.BookValue} {deliveries : BookValue} {waiting : WaitingValue}
    {live : List Row} {limiters : List Limiter} {queue new : QueueValue} (s : ℕ) (name id kept body : List ℕ) (at : ℕ)
    → record_count waiting + length live < MAX_RECORDS → deliveries.next_seq ≤ s → deliveries.settled_seq ≤ s
    → HasSamePairs queue new → SetsState queue new (reserved_state queue name (pending_in deliveries name + 1))
    → AreTied endpoints deliveries waiting live limiters queue
    → AreTied endpoints (with_event deliveries s name id kept at) (with_step waiting (Accept name id body at ∷ []))
    live limiters new
tied_accept {endpoints} {deliveries} {waiting} {live} {limiters} {queue} {new} s name id kept body at numbers above
    behind same sets h = record {
      limited = h.limited;
      room = room_requested waiting live (Accept name id body at) refl h.room numbers;
      lanes = lanes_reserved queue new endpoints limiters live name (pending_in deliveries name + 1) h.limited sets
          h.lanes;
      queued = record {
        apart = apart_taken deliveries s name id kept at above h.queued.apart;
        under_way = under_way_taken deliveries live s name id kept at h.queued.under_way;
        held = λ pair. same pair ∙ h.queued.held pair ∙ waits_taken deliveries live s name id kept at pair behind;
        places = places_taken queue new deliveries s name id kept at same sets h.queued.places;
      };
    }

pub desk_accept : {endpoints : endpoint_entries.BookValue} {deliveries taken : BookValue} {waiting later : WaitingValue}
    {live : List Row} {limiters : List Limiter} {queue new : QueueValue} (s : ℕ) (name id kept body : List ℕ)
    (at pending : ℕ)
    → s ≡ record_count waiting → kept ≡ body → taken ≡ with_event deliveries s name id kept at → later
    ≡ with_step waiting (Accept name id body at ∷ []) → pending ≡ pending_in deliveries name
    → record_count waiting + length live < MAX_RECORDS → HasSamePairs queue new
    → SetsState queue new (reserved_state queue name (pending + 1))
    → IsDesk endpoints deliveries waiting live limiters queue → IsDesk endpoints taken later live limiters new
desk_accept {endpoints} {deliveries} {taken} {waiting} {later} {live} {limiters} {queue} {new} s name id kept body
    at pending count shared is step few numbers same sets h =
    subst (λ w. IsDesk endpoints taken w live limiters new) (sym step)
    (deliveries_wait (Accept name id body at) h (ap (λ (b : BookValue). b.next_seq) is ∙ ap (λ n. n + 1) count)
    (ap (λ (b : BookValue). b.settled_seq) is)
    (subst (λ (b : BookValue). HasWaiting b (records_of waiting.waiting ++ Accept name id body at ∷ []))
    (sym (is ∙ ap (λ bytes. with_event deliveries s name id bytes at) shared))
    (waiting_event deliveries (records_of waiting.waiting) s name id body
    at (omega (arith, count, h.deliveries_settled)) h.deliveries_wait))
    (subst (λ (b : BookValue). HasChanges (endpoint_at b) endpoints
    (records_of waiting.waiting ++ Accept name id body at ∷ [])) (sym is)
    (changes_other (endpoint_at (with_event deliveries s name id kept at)) endpoints (records_of waiting.waiting)
    (Accept name id body at) refl
    (changes_named (endpoint_at deliveries) (endpoint_at (with_event deliveries s name id kept at)) endpoints
    (records_of waiting.waiting)
    (named_alike deliveries (new_entry s name id kept at) (with_event deliveries s name id kept at)
    (records_of waiting.waiting) refl (none_tried deliveries (records_of waiting.waiting) h.deliveries_wait))
    h.endpoints_wait)))
    (subst (λ b. AreTied endpoints b (with_step waiting (Accept name id body at ∷ [])) live limiters new) (sym is)
    (tied_accept s name id kept body at numbers (omega (arith, count, h.deliveries_staged))
    (omega (arith, count, h.deliveries_settled)) same
    (subst (λ n. SetsState queue new (reserved_state queue name (n + 1))) few sets) h.tied)))
