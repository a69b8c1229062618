-- What ties the index, the counts and the room to the entries stays so with one more outcome, and with more records
-- settled.
use Rattle.std.proofs.Common.{◌≡◌, ◌&&◌, ℕ, ◌+◌, ◌-◌, ◌<◌, ◌≤◌, Bool, true, false, List, [], ◌∷◌, ◌++◌, Option, Some}
use Rattle.std.proofs.Common.{length, take, drop, set, map, get_or, refl, sym, ◌∙◌, ap, subst, ltb, arith, cond, ⊎_elim}
use Rattle.std.proofs.Common.{append-nil, length-append, true≢false}
use Rattle.std.specs.Prelude.{count_by, filter, max, option_map, option_to_list}
use Rattle.std.specs.Option.{option_map_or}
use Rattle.std.specs.List.{AllByRecursion, list_all}
use Rattle.std.proofs.lemmas.Bool.{cases_lt, lt-ltb, ltb-true}
use Rattle.std.proofs.Math.Seq.{take-set-lt}
use Rattle.std.proofs.lemmas.List.{drop_all, get_or-take, length-take-le, take-map, take_all}
use Rattle.std.proofs.lemmas.List.Folds.{list_all-append, list_all-map}
use Rattle.std.proofs.lemmas.List.Sums.{sum_by-set, list_all-from_AllPass}
use Rattle.relay_types.specs.declared.limits.TheConstants.{MAX_RECORDS}
use Rattle.relay_types.specs.declared.state.State.{State}
use Rattle.relay_types.specs.declared.state.State.TheVariants.{Pending}
use Rattle.relay_types.proofs.KnownLaws.{and_first, and_second, and_both}
use Rattle.delivery_book.specs.declared.entry.Entry.{Entry}
use Rattle.delivery_book.specs.declared.entry.Unsettled.{Unsettled}
use Rattle.delivery_book.specs.declared.index.EventIndex.{EventIndex}
use Rattle.delivery_book.specs.declared.tally.Tally.{Tally}
use Rattle.delivery_book.specs.Entries.{BookValue, IsCaughtUp, with_attempt, with_attempt_restored, with_latest_settled}
use Rattle.delivery_book.specs.Entries.{at_delivery, is_done_before, is_kept, is_left, marked, is_open, entry_at}
use Rattle.delivery_book.specs.Entries.{state_in, may_restore}
use Rattle.delivery_book.specs.Fields.{AreMarked, HasLessKeys, IsAscending, IsBook, IsKeyed, IsQueue, IsTally}
use Rattle.delivery_book.specs.Fields.{is_numbered, is_rightly_taken, is_waiting, is_later, in_state}
use Rattle.delivery_book.specs.Fields.{counts_for, has_room, is_counted, is_in_turn, may_wait, one_of}
use Rattle.delivery_book.proofs.Entries.{count-slice, entry_at-found, get_or-any}
use Rattle.delivery_book.proofs.Marks.{entry_at-mapped, kept_left, kept_right, later-map, later-purge, marked_keeps}
use Rattle.delivery_book.proofs.Marks.{IsEarlier, if_taking, marked_way, marks-later, marks-map, marks-purge}
use Rattle.delivery_book.proofs.Marks.{order_later, order_push, order_rest, pending_kept, taken_later}
use Rattle.delivery_book.proofs.IndexLemmas.{indexed-purge}
use Rattle.delivery_book.proofs.Updates.{KeepsKeys, each_map, all_at, all_set, all_weaker, count-map, either_way}
use Rattle.delivery_book.proofs.Updates.{set_is, indexed-map, keeps_where, keyed-map, all_numbered, tally-set}
use Rattle.delivery_book.proofs.Updates.{opened_still, caught-outcome, caught-restored, caught-settle}
use Rattle.delivery_book.proofs.Turns.{alike_in_turn, open_may, pending_may, places_set, turn_here, turns_outcome}
use Rattle.delivery_book.proofs.Turns.{waiting_may}
use Rattle.delivery_book.proofs.Books.{below, numbered_if}
use Rattle.delivery_book.proofs.Progresses.{empty_if}

-- One more outcome

open_means : (x : Entry) → is_open x ≡ true → (state_in x.latest ≡ Pending) × (x.latest.attempts ≡ x.settled.attempts)
open_means x h = grind arith

-- an open entry has no outcome that waits, and with one more it has
waits_more : (status at : ℕ) (entries : List Entry) (i : ℕ) (x : Entry) → i < length entries → x ≡ get_or entries i x
    → is_open x ≡ true
    → count_by is_waiting (set entries i (with_attempt status at x)) ≡ count_by is_waiting entries + 1
waits_more status at entries i x h is free = grind (arith, sum_by-set, open_means)

-- so there is room for it
pub room_for : (entries : List Entry) (unsettled : List Unsettled) (room i : ℕ) (x : Entry)
    → IsQueue entries unsettled room → i < length entries → x ≡ get_or entries i x → is_open x ≡ true
    → length unsettled < room
room_for entries unsettled room i x h inside is free =
    omega (
      arith,
      h.counted,
      waits_more 0 0 entries i x inside is free,
      waiting_may (set entries i (with_attempt 0 0 x)) (turns_outcome entries i x inside is h.in_turn 0 0 free),
      places_set entries i x inside is h.in_turn (with_attempt 0 0 x) (omega arith),
      h.room,
    )

-- an entry in its place is found by its number
found_here : (entries : List Entry) (delivery i : ℕ) (x : Entry) → IsAscending entries → i < length entries
    → x ≡ get_or entries i x → x.seq ≡ delivery → entry_at entries delivery ≡ Some x
found_here entries delivery i x up inside is same =
    entry_at-found entries delivery i x inside
    (λ k e lt. omega (
      arith,
      up k i e lt inside,
      ap (λ (y : Entry). y.seq) (get_or-any entries i e x inside ∙ sym is),
      same,
    ))
    (ap (λ (y : Entry). y.seq) (sym is) ∙ same)
    ∙ ap Some (sym is)

-- an open entry is kept
open_kept : (entries : List Entry) (purge : Option ℕ) (next i : ℕ) (x : Entry) → AreMarked entries purge next
    → i < length entries → x ≡ get_or entries i x → is_open x ≡ true → is_kept x ≡ true
open_kept entries purge next i x h inside is free =
    pending_kept next x
    (ap (is_rightly_taken next) is ∙ all_at (is_rightly_taken next) entries i x inside h.taken) (open_means x free).0

pub book-outcome : (index : EventIndex) (tally less more settled_tally : Tally) (entries : List Entry)
    (unsettled : List Unsettled) (room next settled n : ℕ) (purge : Option ℕ) (seq delivery status at i : ℕ) (x : Entry)
    → IsBook entries index tally settled_tally unsettled room next settled n purge → next ≤ seq → i < length entries
    → x ≡ get_or entries i x → x.seq ≡ delivery → is_open x ≡ true
    → ((those : Option (List ℕ)) (asked : State) → in_state asked (counts_for less those) + one_of x.name
    (state_in x.latest) those asked ≡ in_state asked (counts_for tally those))
    → ((those : Option (List ℕ)) (asked : State) → in_state asked (counts_for more those) ≡ in_state asked
    (counts_for less those) + one_of x.name (state_in (with_attempt status at x).latest) those asked)
    → IsBook (set entries i (with_attempt status at x)) index more settled_tally
    (unsettled ++ record { seq = seq; delivery = delivery } ∷ []) room (seq + 1) settled n purge
book-outcome index tally less more settled_tally entries unsettled room next settled n purge seq delivery status at i x
    h l inside is same free fewer again = record {
      keyed = subst (λ es. IsKeyed es index (seq + 1) settled n) (sym changed)
          (keyed-map g entries index index next (seq + 1) settled n keeps (omega (arith, h.keyed.settled_next, l))
          (all_numbered g entries next (seq + 1) numbered h.keyed.numbered)
          (indexed-map g index entries keeps stays h.keyed.indexed) h.keyed);
      latest = tally-set tally less more (λ e. e.latest) entries i x (with_attempt status at x) inside is refl h.latest
          fewer again;
      settled = λ those asked. h.settled those asked
          ∙ sym (ap (λ es. count_by (is_counted (λ e. e.settled) those asked) (take n es)) changed
          ∙ ap (count_by (is_counted (λ e. e.settled) those asked)) (take-map g n entries)
          ∙ count-map (is_counted (λ e. e.settled) those asked) g (take n entries)
          (λ e. either_way (λ y. is_counted (λ z. z.settled) those asked y ≡ is_counted (λ z. z.settled) those asked e)
          delivery (with_attempt status at) e refl refl));
      opened = ap (list_all (λ e. has_room settled_tally e.name)) changed
          ∙ opened_still settled_tally g entries keeps h.opened;
      queue = record {
        later = list_all-append (is_later entries') unsettled (record { seq = seq; delivery = delivery } ∷ [])
            ∙ and_both _ _ (all_weaker (is_later entries) (is_later entries') unsettled
            (λ o late. subst (λ es. is_later es o ≡ true) (sym changed) (later-map g entries o keeps
            (λ e left. either_way (λ y. is_left o.seq y ≡ true) delivery (with_attempt status at) e left left) late))
            h.queue.later)
            (and_both (is_later entries' (record { seq = seq; delivery = delivery })) true
            (and_both _ _ there (lt-ltb delivery seq
            (omega (
              arith,
              same,
              ap (λ (e : Entry). e.seq) is,
              (below next (get_or entries i x) (all_at (is_numbered next) entries i x inside h.keyed.numbered)).0,
              l,
            ))))
            refl);
        counted = omega (
          arith,
          h.queue.counted,
          length-append unsettled (record { seq = seq; delivery = delivery } ∷ []),
          waits_more status at entries i x inside is free,
        );
        caught_up = subst (AllByRecursion (IsCaughtUp (unsettled ++ record { seq = seq; delivery = delivery } ∷ [])))
            (sym changed) (caught-outcome unsettled entries seq delivery status at h.queue.caught_up);
        in_turn = turns_outcome entries i x inside is h.queue.in_turn status at free;
        room = omega (
          arith,
          h.queue.room,
          places_set entries i x inside is h.queue.in_turn (with_attempt status at x) (omega arith),
        );
      };
      order = order_push unsettled next (record { seq = seq; delivery = delivery }) l h.order;
      marks = subst (λ es. AreMarked es purge (seq + 1)) (sym changed)
          (marks-map g entries purge next (seq + 1) keeps stays right h.marks);
    }
  where
    g : Entry → Entry
    g = at_delivery delivery (with_attempt status at)

    entries' : List Entry
    entries' = set entries i (with_attempt status at x)

    keeps : KeepsKeys g
    keeps = keeps_where delivery (with_attempt status at) (λ e. (refl, refl, refl))

    changed : entries' ≡ map g entries
    changed = set_is delivery i (with_attempt status at) entries x h.keyed.ascending inside is same

    numbered : (e : Entry) → is_numbered next e ≡ true → is_numbered (seq + 1) (g e) ≡ true
    numbered e was = either_way (λ y. is_numbered (seq + 1) y ≡ true) delivery (with_attempt status at) e
        (numbered_if (seq + 1) (with_attempt status at e) (omega (arith, (below next e was).0, l))
        (omega (arith, (below next e was).1, l)))
        (numbered_if (seq + 1) e (omega (arith, (below next e was).0, l)) (omega (arith, (below next e was).1, l)))

    stays : (e : Entry) → (g e).taken_by ≡ e.taken_by
    stays e = either_way (λ y. y.taken_by ≡ e.taken_by) delivery (with_attempt status at) e refl refl

    kept : is_kept x ≡ true
    kept = open_kept entries purge next i x h.marks inside is free

    right : list_all (is_rightly_taken (seq + 1)) (map g entries) ≡ true
    right = subst (λ es. list_all (is_rightly_taken (seq + 1)) es ≡ true) changed
        (all_set (is_rightly_taken (seq + 1)) entries i (with_attempt status at x)
        (kept_right (seq + 1) (with_attempt status at x) kept)
        (all_weaker (is_rightly_taken next) (is_rightly_taken (seq + 1)) entries
        (λ e was. taken_later next (seq + 1) e (omega (arith, l)) was) h.marks.taken))

    there : option_map_or (is_left seq) (entry_at entries' delivery) false ≡ true
    there =
        ap (λ es. option_map_or (is_left seq) (entry_at es delivery) false) changed
        ∙ ap (λ f. option_map_or (is_left seq) f false)
        (entry_at-mapped g entries delivery keeps
        ∙ ap (option_map g) (found_here entries delivery i x h.keyed.ascending inside is same))
        ∙ either_way (λ y. is_left seq y ≡ true) delivery (with_attempt status at) x (kept_left seq x kept)
        (kept_left seq x kept)

-- One more outcome, settled at once

-- where nothing is settled, no event is
none_settled : (entries : List Entry) (index : EventIndex) (next settled n : ℕ)
    → IsKeyed entries index next settled n → settled ≡ 0 → n ≡ 0
none_settled [] index next settled n h none = omega (arith, h.settled_within)
none_settled (x ∷ xs) index next settled n h none = ⊎_elim (λ lt. absurd (omega (arith, none, h.settled_below 0 x lt)))
    (λ ge. omega (arith, ge)) (cases_lt 0 n)

-- what the test of the condition tells
pub restorable_means : (book : BookValue) (delivery : ℕ) (x : Entry) → may_restore book delivery ≡ true
    → entry_at book.entries delivery ≡ Some x → (book.settled_seq ≡ 0) × (book.unsettled ≡ [])
    × (x.latest.attempts < MAX_RECORDS) × (is_open x ≡ true)
restorable_means book delivery x h there = grind (arith, empty_if)

pub book-restored : (index : EventIndex) (tally less more settled_tally : Tally) (entries : List Entry)
    (unsettled : List Unsettled) (room next settled n : ℕ) (purge : Option ℕ) (delivery status at i : ℕ) (x : Entry)
    → IsBook entries index tally settled_tally unsettled room next settled n purge → unsettled ≡ [] → settled ≡ 0
    → i < length entries → x ≡ get_or entries i x → x.seq ≡ delivery → x.latest.attempts < MAX_RECORDS
    → is_open x ≡ true
    → ((those : Option (List ℕ)) (asked : State) → in_state asked (counts_for less those) + one_of x.name
    (state_in x.latest) those asked ≡ in_state asked (counts_for tally those))
    → ((those : Option (List ℕ)) (asked : State) → in_state asked (counts_for more those) ≡ in_state asked
    (counts_for less those) + one_of x.name (state_in (with_attempt_restored status at x).latest) those asked)
    → IsBook (set entries i (with_attempt_restored status at x)) index more settled_tally unsettled room next settled n
    purge
book-restored index tally less more settled_tally entries unsettled room next settled n purge delivery status at i x h
    waiting first inside is same fits free fewer again = record {
      keyed = subst (λ es. IsKeyed es index next settled n) (sym changed)
          (keyed-map g entries index index next next settled n keeps h.keyed.settled_next
          (subst (λ es. list_all (is_numbered next) es ≡ true) changed numbered)
          (indexed-map g index entries keeps marks h.keyed.indexed) h.keyed);
      latest = tally-set tally less more (λ e. e.latest) entries i x y inside is refl h.latest fewer again;
      settled = λ those asked. h.settled those asked
          ∙ ap (λ m. count_by (is_counted (λ e. e.settled) those asked) (take m entries)) none
          ∙ sym (ap (λ m. count_by (is_counted (λ e. e.settled) those asked) (take m (set entries i y))) none);
      opened = ap (list_all (λ e. has_room settled_tally e.name)) changed
          ∙ opened_still settled_tally g entries keeps h.opened;
      queue = record {
        later = ap (list_all (is_later (set entries i y))) waiting;
        counted = omega (arith, ap length waiting);
        caught_up = subst (AllByRecursion (IsCaughtUp unsettled)) (sym changed)
            (caught-restored unsettled entries delivery status at h.queue.caught_up);
        in_turn = all_set is_in_turn entries i y (alike_in_turn y refl) h.queue.in_turn;
        room = omega (
          arith,
          h.queue.room,
          places_set entries i x inside is h.queue.in_turn y
              (pending_less (may_wait y) (may_wait x)
              (open_may x (turn_here entries i x inside is h.queue.in_turn) free)),
        );
      };
      order = h.order;
      marks = subst (λ es. AreMarked es purge next) (sym changed)
          (marks-map g entries purge next next keeps marks right h.marks);
    }
  where
    y : Entry
    y = with_attempt_restored status at x

    g : Entry → Entry
    g = at_delivery delivery (with_attempt_restored status at)

    keeps : KeepsKeys g
    keeps = keeps_where delivery (with_attempt_restored status at) (λ e. (refl, refl, refl))

    changed : set entries i y ≡ map g entries
    changed = set_is delivery i (with_attempt_restored status at) entries x h.keyed.ascending inside is same

    marks : (e : Entry) → (g e).taken_by ≡ e.taken_by
    marks e = either_way (λ z. z.taken_by ≡ e.taken_by) delivery (with_attempt_restored status at) e refl refl

    right : list_all (is_rightly_taken next) (map g entries) ≡ true
    right = subst (λ es. list_all (is_rightly_taken next) es ≡ true) changed
        (all_set (is_rightly_taken next) entries i y
        (kept_right next y (open_kept entries purge next i x h.marks inside is free)) h.marks.taken)

    pending_less : (after before : Bool) → before ≡ true → cond after 1 0 ≤ cond before 1 0
    pending_less true true e = omega arith
    pending_less false before e = omega arith
    pending_less true false e = absurd (true≢false (sym e))

    none : n ≡ 0
    none = none_settled entries index next settled n h.keyed first

    was : is_numbered next x ≡ true
    was = ap (is_numbered next) is ∙ all_at (is_numbered next) entries i x inside h.keyed.numbered

    numbered : list_all (is_numbered next) (set entries i y) ≡ true
    numbered = all_set (is_numbered next) entries i y (numbered_if next y (below next x was).0 (omega (arith, fits)))
        h.keyed.numbered

-- The events below a number, settled

pub book-events : (index : EventIndex) (tally settled_tally counted : Tally) (entries : List Entry)
    (unsettled : List Unsettled) (room next settled n seq m : ℕ) (purge : Option ℕ)
    → IsBook entries index tally settled_tally unsettled room next settled n purge → n ≤ m → m ≤ length entries
    → ((k : ℕ) (d : Entry) → k < m → (get_or entries k d).seq < seq)
    → ((k : ℕ) (d : Entry) → m ≤ k → k < length entries → seq ≤ (get_or entries k d).seq)
    → ((those : Option (List ℕ)) (asked : State) → in_state asked (counts_for counted those) ≡ in_state asked
    (counts_for settled_tally those) + count_by (is_counted (λ e. e.settled) those asked)
    (take (m - n) (drop n entries)))
    → ((asked : List ℕ) → has_room settled_tally asked ≡ true → has_room counted asked ≡ true)
    → IsBook entries index tally counted unsettled room (max next seq) seq m purge
book-events index tally settled_tally counted entries unsettled room next settled n seq m purge h l within under over
    more stays = record {
      keyed = record {
        ascending = h.keyed.ascending;
        numbered = all_weaker (is_numbered next) (is_numbered (max next seq)) entries
            (λ e was. numbered_if (max next seq) e (omega (arith, (below next e was).0, up))
            (omega (arith, (below next e was).1, up)))
            h.keyed.numbered;
        settled_next = also;
        indexed = h.keyed.indexed;
        settled_within = within;
        settled_below = under;
        settled_above = over;
      };
      latest = h.latest;
      settled = λ those asked. more those asked
          ∙ ap (λ k. k + count_by (is_counted (λ e. e.settled) those asked) (take (m - n) (drop n entries)))
          (h.settled those asked)
          ∙ count-slice (is_counted (λ e. e.settled) those asked) entries n m l;
      opened = all_weaker (λ e. has_room settled_tally e.name) (λ e. has_room counted e.name) entries
          (λ e was. stays e.name was) h.opened;
      queue = h.queue;
      order = order_later unsettled next (max next seq) up h.order;
      marks = marks-later entries purge next (max next seq) h.marks up;
    }
  where
    up : next ≤ max next seq
    up = grind arith

    also : seq ≤ max next seq
    also = grind arith

-- what a search found in the list that was read, said of the entries
pub below_in : (looked entries : List Entry) (seq m : ℕ) → looked ≡ entries → m ≤ length looked
    → ((k : ℕ) (d : Entry) → k < m → (get_or looked k d).seq < seq)
    → ((k : ℕ) (d : Entry) → m ≤ k → k < length looked → seq ≤ (get_or looked k d).seq)
    → (m ≤ length entries) × ((k : ℕ) (d : Entry) → k < m → (get_or entries k d).seq < seq)
    × ((k : ℕ) (d : Entry) → m ≤ k → k < length entries → seq ≤ (get_or entries k d).seq)
below_in looked entries seq m e within under over = grind arith

-- an event that is counted as settled stays so
pub fewer_first : (entries : List Entry) (low high n m : ℕ) → low ≤ high → n ≤ length entries
    → ((k : ℕ) (d : Entry) → k < n → (get_or entries k d).seq < low)
    → ((k : ℕ) (d : Entry) → m ≤ k → k < length entries → high ≤ (get_or entries k d).seq) → n ≤ m
fewer_first [] low high n m h within under over = omega (arith, within)
fewer_first (x ∷ xs) low high n m h within under over = ⊎_elim
    (λ lt. absurd (omega (arith, under m x lt, over m x (omega arith) (omega (arith, lt, within)), h))) (λ ge. ge)
    (cases_lt m n)

-- One outcome, settled

pub book-settle : (index : EventIndex) (tally settled_tally less more : Tally) (entries : List Entry)
    (o : Unsettled) (rest : List Unsettled) (room next settled n i : ℕ) (purge : Option ℕ) (x : Entry)
    → IsBook entries index tally settled_tally (o ∷ rest) room next settled n purge → i < n → x ≡ get_or entries i x
    → x.seq ≡ o.delivery
    → ((those : Option (List ℕ)) (asked : State) → in_state asked (counts_for less those) + one_of x.name
    (state_in x.settled) those asked ≡ in_state asked (counts_for settled_tally those))
    → ((those : Option (List ℕ)) (asked : State) → in_state asked (counts_for more those) ≡ in_state asked
    (counts_for less those) + one_of x.name (state_in x.latest) those asked)
    → ((asked : List ℕ) → has_room settled_tally asked ≡ true → has_room more asked ≡ true)
    → IsBook (set entries i (with_latest_settled x)) index tally more rest room next settled n purge
book-settle index tally settled_tally less more entries o rest room next settled n i purge x h first is same fewer again
    stays = record {
      keyed = subst (λ es. IsKeyed es index next settled n) (sym changed)
          (keyed-map g entries index index next next settled n keeps h.keyed.settled_next
          (all_numbered g entries next next
          (λ e was. either_way (λ y. is_numbered next y ≡ true) o.delivery with_latest_settled e was was)
          h.keyed.numbered) (indexed-map g index entries keeps marks h.keyed.indexed) h.keyed);
      latest = λ those asked. h.latest those asked
          ∙ sym (ap (count_by (is_counted (λ e. e.latest) those asked)) changed
          ∙ count-map (is_counted (λ e. e.latest) those asked) g entries
          (λ e. either_way (λ y. is_counted (λ z. z.latest) those asked y ≡ is_counted (λ z. z.latest) those asked e)
          o.delivery with_latest_settled e refl refl));
      settled = subst (IsTally more (λ e. e.settled)) (sym (take-set-lt n entries i (with_latest_settled x) first))
          (tally-set settled_tally less more (λ e. e.settled) (take n entries) i x (with_latest_settled x)
          (omega (arith, first, length-take-le n entries h.keyed.settled_within))
          (is ∙ sym (get_or-take n entries i x first)) refl h.settled fewer again);
      opened = ap (list_all (λ e. has_room more e.name)) changed
          ∙ opened_still more g entries keeps
          (all_weaker (λ e. has_room settled_tally e.name) (λ e. has_room more e.name)
          entries (λ e was. stays e.name was) h.opened);
      queue = record {
        later = all_weaker (is_later entries) (is_later (set entries i (with_latest_settled x))) rest
            (λ p late. subst (λ es. is_later es p ≡ true) (sym changed) (later-map g entries p keeps
            (λ e left. either_way (λ y. is_left p.seq y ≡ true) o.delivery with_latest_settled e left left) late))
            (and_second (is_later entries o) (list_all (is_later entries) rest) h.queue.later);
        counted = omega (
          arith,
          h.queue.counted,
          sum_by-set (λ e. cond (is_waiting e) 1 0) entries i (with_latest_settled x)
              x inside,
          at_most (is_waiting (get_or entries i x)),
        );
        caught_up = subst (AllByRecursion (IsCaughtUp rest)) (sym changed)
            (caught-settle o rest entries h.queue.caught_up);
        in_turn = all_set is_in_turn entries i (with_latest_settled x) (alike_in_turn (with_latest_settled x) refl)
            h.queue.in_turn;
        room = omega (
          arith,
          h.queue.room,
          places_set entries i x inside is h.queue.in_turn (with_latest_settled x)
              (pending_may x (turn_here entries i x inside is h.queue.in_turn)),
        );
      };
      order = order_rest o rest next h.order;
      marks = subst (λ es. AreMarked es purge next) (sym changed)
          (marks-map g entries purge next next keeps marks right h.marks);
    }
  where
    g : Entry → Entry
    g = at_delivery o.delivery with_latest_settled

    marks : (e : Entry) → (g e).taken_by ≡ e.taken_by
    marks e = either_way (λ y. y.taken_by ≡ e.taken_by) o.delivery with_latest_settled e refl refl

    right : list_all (is_rightly_taken next) (map g entries) ≡ true
    right = list_all-map (is_rightly_taken next) g entries
        ∙ all_weaker (is_rightly_taken next) (λ e. is_rightly_taken next (g e)) entries
        (λ e was. either_way (λ y. is_rightly_taken next y ≡ true) o.delivery with_latest_settled e was was)
        h.marks.taken

    keeps : KeepsKeys g
    keeps = keeps_where o.delivery with_latest_settled (λ e. (refl, refl, refl))

    inside : i < length entries
    inside = omega (arith, first, h.keyed.settled_within)

    changed : set entries i (with_latest_settled x) ≡ map g entries
    changed = set_is o.delivery i with_latest_settled entries x h.keyed.ascending inside is same

    at_most : (b : Bool) → cond b 1 0 ≤ 1
    at_most true = omega arith
    at_most false = omega arith

-- the first of the outcomes that wait, with those after it
pub front_is : (outcomes rest : List Unsettled) (o : Unsettled) (popped : Option Unsettled)
    → outcomes ≡ option_to_list popped ++ rest → popped ≡ Some (get_or outcomes 0 o) → o ≡ get_or outcomes 0 o
    → outcomes ≡ o ∷ rest
front_is outcomes rest o popped e first is = e ∙ ap (λ p. option_to_list p ++ rest) (first ∙ ap Some (sym is))

-- its delivery is one of the settled events
pub first_settled : (entries : List Entry) (index : EventIndex) (o : Unsettled) (rest : List Unsettled)
    (next settled n i : ℕ) (x : Entry) → IsKeyed entries index next settled n
    → list_all (is_later entries) (o ∷ rest) ≡ true
    → o.seq < settled → i < length entries → x ≡ get_or entries i x → x.seq ≡ o.delivery → i < n
first_settled entries index o rest next settled n i x h later before inside is same = grind arith

-- One more Purge

pub book-purge : (index later : EventIndex) (tally settled_tally : Tally) (entries : List Entry)
    (unsettled : List Unsettled) (room next settled n : ℕ) (purge after : Option ℕ) (seq moment : ℕ)
    → IsBook entries index tally settled_tally unsettled room next settled n purge → next ≤ seq
    → HasLessKeys index (filter (λ e. is_kept e && is_done_before moment e.latest) entries) later
    → IsEarlier purge (if_taking seq moment entries) after
    → IsBook (map (marked seq moment) entries) later tally settled_tally unsettled room (seq + 1) settled n after
book-purge index later tally settled_tally entries unsettled room next settled n purge after seq moment h up less is =
    record {
      keyed = keyed-map g entries index later next (seq + 1) settled n keeps (omega (arith, h.keyed.settled_next, up))
          (all_numbered g entries next (seq + 1) numbered h.keyed.numbered)
          (indexed-purge index later entries seq moment h.keyed.indexed h.marks.apart less) h.keyed;
      latest = λ those asked. h.latest those asked
          ∙ sym (count-map (is_counted (λ e. e.latest) those asked) g entries
          (λ e. same (is_counted (λ x. x.latest) those asked) e refl));
      settled = λ those asked. h.settled those asked
          ∙ sym (ap (count_by (is_counted (λ e. e.settled) those asked)) (take-map g n entries)
          ∙ count-map (is_counted (λ e. e.settled) those asked) g (take n entries)
          (λ e. same (is_counted (λ x. x.settled) those asked) e refl));
      opened = opened_still settled_tally g entries keeps h.opened;
      queue = record {
        later = list_all-from_AllPass (is_later (map g entries)) unsettled
            (λ k d l. later-purge entries seq moment (get_or unsettled k d)
            (omega (
              arith,
              up,
              ltb-true (get_or unsettled k d).seq next
                  (all_at (λ o. ltb o.seq next) unsettled k d l h.order.below),
            ))
            (all_at (is_later entries) unsettled k d l h.queue.later));
        counted = omega (arith, h.queue.counted, count-map is_waiting g entries (λ e. same is_waiting e refl));
        caught_up = each_map (IsCaughtUp unsettled) (IsCaughtUp unsettled) g entries
            (λ e p. marked_way (IsCaughtUp unsettled) seq moment e (λ kept done. p) (λ other. p)) h.queue.caught_up;
        in_turn = list_all-map is_in_turn g entries
            ∙ all_weaker is_in_turn (λ e. is_in_turn (g e)) entries (λ e was. same is_in_turn e refl ∙ was)
            h.queue.in_turn;
        room = omega (arith, h.queue.room, count-map may_wait g entries (λ e. same may_wait e refl));
      };
      order = order_later unsettled next (seq + 1) (omega (arith, up)) h.order;
      marks = marks-purge entries purge after seq moment next h.marks up
          (all_weaker (is_numbered next) (λ e. ltb e.seq next) entries (λ e is. and_first (ltb e.seq next) _ is)
          h.keyed.numbered)
          is;
    }
  where
    g : Entry → Entry
    g = marked seq moment

    keeps : KeepsKeys g
    keeps = marked_keeps seq moment

    -- a test that doesn't look at the mark
    same : (p : Entry → Bool) (e : Entry) → p (record e { taken_by = Some seq }) ≡ p e → p (g e) ≡ p e
    same p e alike = marked_way (λ y. p y ≡ p e) seq moment e (λ kept done. alike) (λ other. refl)

    numbered : (e : Entry) → is_numbered next e ≡ true → is_numbered (seq + 1) (g e) ≡ true
    numbered e is =
        same (is_numbered (seq + 1)) e refl
        ∙ numbered_if (seq + 1) e (omega (arith, (below next e is).0, up)) (omega (arith, (below next e is).1, up))

-- a slice that is written whole
pub written : {X : Type 0} (len : ℕ) (xs ys : List X) → length xs ≡ len → length ys ≡ len
    → take len (ys ++ drop (length ys) xs) ≡ ys
written len xs ys old new =
    ap (λ zs. take len (ys ++ zs)) (drop_all (length ys) xs (omega (arith, old, new)))
    ∙ ap (take len) (append-nil ys)
    ∙ take_all len ys (omega (arith, new))
