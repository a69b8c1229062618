-- What ties the index, the counts and the room to the entries stays so with more events.
use Rattle.std.proofs.Common.{◌≡◌, ◌&&◌, ℕ, zero, suc, ◌+◌, ◌-◌, ◌<◌, ◌≤◌, true, List, [], ◌∷◌, ◌++◌}
use Rattle.std.proofs.Common.{Option, Some, None, length, get_or, refl, sym, ◌∙◌, ap, ltb, not, arith, cond, ⊎_elim}
use Rattle.std.proofs.Common.{add-zero, length-append}
use Rattle.std.specs.Prelude.{find, count_by, option_map}
use Rattle.std.specs.List.{AllByRecursion, list_all}
use Rattle.std.proofs.lemmas.Bool.{lt-ltb, le-ltb, cases_lt}
use Rattle.std.proofs.lemmas.List.{take-append-le, get_or_append_left, get_or-append_right}
use Rattle.std.proofs.lemmas.List.Elements.{All-from_recursion}
use Rattle.std.proofs.lemmas.List.Folds.{find-append, list_all-append}
use Rattle.std.proofs.lemmas.List.Sums.{count_by-le-length, list_all-from_AllPass, sum_by-append, sum_by-cons}
use Rattle.relay_types.specs.declared.limits.TheConstants.{MAX_RECORDS}
use Rattle.relay_types.specs.declared.state.State.{State}
use Rattle.relay_types.specs.declared.state.State.TheVariants.{Pending}
use Rattle.relay_types.specs.Deliveries.{is_in_state}
use Rattle.relay_types.proofs.KnownLaws.{and_both}
use Rattle.delivery_book.specs.declared.entry.Entry.{Entry}
use Rattle.delivery_book.specs.declared.entry.Unsettled.{Unsettled}
use Rattle.delivery_book.specs.declared.index.EventIndex.{EventIndex}
use Rattle.delivery_book.specs.declared.tally.Tally.{Tally}
use Rattle.delivery_book.specs.Entries.{new_entry, is_entry_as, is_kept, state_in}
use Rattle.delivery_book.specs.Fields.{AreNew, IsBook, IsKeyed, IsIndex, HasMoreKeys, HasNumber, HasSameKeys}
use Rattle.delivery_book.specs.Fields.{is_known_as}
use Rattle.delivery_book.specs.Fields.{is_taken_below, number_of}
use Rattle.delivery_book.specs.Fields.{HasMore, HasSame, HasRoomForAll, KeepsRoom, in_state, counts_for, has_room}
use Rattle.delivery_book.specs.Fields.{one_of}
use Rattle.delivery_book.specs.Fields.{is_numbered, is_waiting, is_later, is_among, is_counted, settled_among}
use Rattle.delivery_book.specs.Fields.{is_in_turn, may_wait}
use Rattle.delivery_book.proofs.IndexLemmas.{indexed-append, keys-push, none_more}
use Rattle.delivery_book.proofs.Updates.{IsFresh, all_at, all_weaker, caught-append}
use Rattle.delivery_book.proofs.Turns.{fresh_in_turn}
use Rattle.delivery_book.proofs.Marks.{apart-append, marks-append, order_later, unknown_taken}

-- no entry has a number that is mapped away
pub unmapped : (o : Option Entry) → option_map (λ e. e.seq) o ≡ None → o ≡ None
unmapped None e = refl
unmapped (Some x) e = cc

-- More events

-- These events have the numbers from this one on, and no attempt.
pub record AreFrom (seq : ℕ) (events : List Entry) : Type 0 where
  pub numbers : (k : ℕ) (d : Entry) → k < length events → (get_or events k d).seq ≡ seq + k
  pub fresh : AllByRecursion IsFresh events

read-front : (entries events : List Entry) (k : ℕ) (d : Entry) → k < length entries
    → (get_or (entries ++ events) k d).seq ≡ (get_or entries k d).seq
read-front entries events k d h = ap (λ (x : Entry). x.seq) (get_or_append_left entries events d k h)

read-behind : (entries events : List Entry) (seq k : ℕ) (d : Entry) → AreFrom seq events → length entries ≤ k
    → k < length (entries ++ events) → (get_or (entries ++ events) k d).seq ≡ seq + (k - length entries)
read-behind entries events seq k d new h l =
    ap (λ (x : Entry). x.seq) (get_or-append_right entries events (length entries) k d refl h)
    ∙ new.numbers (k - length entries) d (omega (arith, l, h, length-append entries events))

-- what an entry's number and attempts are below
pub below : (next : ℕ) (e : Entry) → is_numbered next e ≡ true → (e.seq < next)
    × (e.latest.attempts ≤ next + MAX_RECORDS)
below next e h = grind arith

pub numbered_if : (next : ℕ) (e : Entry) → e.seq < next → e.latest.attempts ≤ next + MAX_RECORDS
    → is_numbered next e ≡ true
numbered_if next e h l = and_both (ltb e.seq next) _ (lt-ltb e.seq next h)
    (ap not (le-ltb (next + MAX_RECORDS) e.latest.attempts l))

numbered-append : (entries events : List Entry) (next seq : ℕ) → list_all (is_numbered next) entries ≡ true → next ≤ seq
    → AreFrom seq events → list_all (is_numbered (seq + length events)) (entries ++ events) ≡ true
numbered-append entries events next seq h up new =
    list_all-append (is_numbered last) entries events
    ∙ and_both _ _ (all_weaker (is_numbered next) (is_numbered last) entries older h)
    (list_all-from_AllPass (is_numbered last) events newer)
  where
    last : ℕ
    last = seq + length events

    older : (e : Entry) → is_numbered next e ≡ true → is_numbered last e ≡ true
    older e is = numbered_if last e (omega (arith, up, (below next e is).0)) (omega (arith, up, (below next e is).1))

    newer : (k : ℕ) (d : Entry) → k < length events → is_numbered last (get_or events k d) ≡ true
    newer k d l =
        numbered_if last (get_or events k d) (omega (arith, l, new.numbers k d l))
        (omega (arith, (All-from_recursion IsFresh events new.fresh k d l).1))

keyed-append : (index later : EventIndex) (entries events : List Entry) (next seq settled n : ℕ)
    → IsKeyed entries index next settled n → next ≤ seq → AreFrom seq events → IsIndex later (entries ++ events)
    → IsKeyed (entries ++ events) later (seq + length events) settled n
keyed-append index later entries events next seq settled n h up new indexed = record {
  ascending = λ i j d lt l. ⊎_elim
      (λ near. omega (arith, front i d (omega (arith, lt, near)), front j d near, h.ascending i j d lt near))
      (λ far. ⊎_elim
      (λ near. omega (arith, up, front i d near, older i d near, behind j d far l))
      (λ beyond. omega (arith, lt, beyond, behind i d beyond (omega (arith, lt, l)), behind j d far l))
      (cases_lt i (length entries)))
      (cases_lt j (length entries));
  numbered = numbered-append entries events next seq h.numbered up new;
  settled_next = omega (arith, up, h.settled_next);
  indexed = indexed;
  settled_within = omega (arith, h.settled_within, length-append entries events);
  settled_below = λ k d l. omega (arith, front k d (omega (arith, l, h.settled_within)), h.settled_below k d l);
  settled_above = λ k d l m. ⊎_elim
      (λ near. omega (arith, front k d near, h.settled_above k d l near))
      (λ far. omega (arith, up, h.settled_next, behind k d far m))
      (cases_lt k (length entries));
}
  where
    front : (k : ℕ) (d : Entry) → k < length entries → (get_or (entries ++ events) k d).seq ≡ (get_or entries k d).seq
    front k d = read-front entries events k d

    behind : (k : ℕ) (d : Entry) → length entries ≤ k → k < length (entries ++ events)
        → (get_or (entries ++ events) k d).seq ≡ seq + (k - length entries)
    behind k d = read-behind entries events seq k d new

    older : (k : ℕ) (d : Entry) → k < length entries → (get_or entries k d).seq < next
    older k d l = (below next (get_or entries k d) (all_at (is_numbered next) entries k d l h.numbered)).0

counted_alike : (those : Option (List ℕ)) (asked : State) (events : List Entry) → AllByRecursion IsFresh events
    → settled_among events those asked ≡ count_by (is_counted (λ e. e.latest) those asked) events
counted_alike those asked [] fresh = refl
counted_alike those asked (e ∷ events) fresh =
    sum_by-cons (λ x. cond (is_counted (λ e. e.settled) those asked x) 1 0) e events
    ∙ (λ i. cond (is_among those e.name && is_in_state asked (state_in (sym fresh.0.0 i))) 1 0
    + counted_alike those asked events fresh.1 i)
    ∙ sym (sum_by-cons (λ x. cond (is_counted (λ e. e.latest) those asked x) 1 0) e events)

found_still : (entries events : List Entry) (o : Unsettled) → is_later entries o ≡ true
    → is_later (entries ++ events) o ≡ true
found_still entries events o h = grind (arith, find-append)

pub book-append : (index later : EventIndex) (tally counted settled_tally opened_tally : Tally)
    (entries events : List Entry) (unsettled : List Unsettled) (room more_room next settled n seq : ℕ)
    (first : Option ℕ)
    → IsBook entries index tally settled_tally unsettled room next settled n first → next ≤ seq → AreFrom seq events
    → AreNew index events → HasMoreKeys index events later → HasMore tally (settled_among events) counted
    → HasSame settled_tally opened_tally
    → HasRoomForAll opened_tally events → KeepsRoom settled_tally opened_tally
    → count_by may_wait entries + length events ≤ more_room
    → IsBook (entries ++ events) later counted opened_tally unsettled more_room (seq + length events) settled n first
book-append index later tally counted settled_tally opened_tally entries events unsettled room more_room next settled n
    seq first h up new unknown more again same opened stays enough = record {
      keyed = keyed-append index later entries events next seq settled n h.keyed up new
          (indexed-append index later entries events h.keyed.indexed new.fresh more);
      latest = λ those asked. again those asked
          ∙ (λ i. h.latest those asked i + counted_alike those asked events new.fresh i)
          ∙ sym (sum_by-append (λ x. cond (is_counted (λ e. e.latest) those asked x) 1 0) entries events);
      settled = λ those asked. ap (in_state asked) (same those) ∙ h.settled those asked
          ∙ ap (count_by (is_counted (λ e. e.settled) those asked))
          (sym (take-append-le n entries events h.keyed.settled_within));
      opened = list_all-append (λ e. has_room opened_tally e.name) entries events
          ∙ and_both _ _ (all_weaker (λ e. has_room settled_tally e.name) (λ e. has_room opened_tally e.name) entries
          (λ e is. stays e.name is) h.opened) opened;
      queue = record {
        later = all_weaker (is_later entries) (is_later (entries ++ events)) unsettled
            (λ o is. found_still entries events o is) h.queue.later;
        counted = omega (arith, h.queue.counted, sum_by-append (λ e. cond (is_waiting e) 1 0) entries events);
        caught_up = caught-append unsettled entries events h.queue.caught_up new.fresh;
        in_turn = list_all-append is_in_turn entries events
            ∙ and_both _ _ h.queue.in_turn (fresh_in_turn events new.fresh);
        room = omega (
          arith,
          enough,
          sum_by-append (λ e. cond (may_wait e) 1 0) entries events,
          count_by-le-length may_wait events,
        );
      };
      order = order_later unsettled next (seq + length events) (omega (arith, up)) h.order;
      marks = marks-append entries events first next (seq + length events) h.marks (omega (arith, up))
          (kept_all events new.fresh) (apart-append entries events h.marks.apart between unknown.apart);
    }
  where
    kept_all : (some : List Entry) → AllByRecursion IsFresh some → AllByRecursion (λ e. e.taken_by ≡ None) some
    kept_all [] fresh = tt
    kept_all (e ∷ es) fresh = (fresh.0.2, kept_all es fresh.1)

    between : (i j : ℕ) (d : Entry) → i < length entries → j < length events
        → is_entry_as (get_or events j d).name (get_or events j d).id (get_or entries i d) ≡ true
        → is_taken_below (get_or events j d).seq (get_or entries i d) ≡ true
    between i j d l m same =
        let b = get_or events j d in
        unknown_taken b.name b.id entries next b.seq i d
        (unmapped (find (is_known_as b.name b.id) entries)
        (sym (h.keyed.indexed b.name b.id) ∙ unknown.unknown j d m))
        h.marks.taken (omega (arith, up, new.numbers j d m)) l same

-- one more event
pub book-push : (index later : EventIndex) (tally counted settled_tally opened_tally : Tally)
    (entries : List Entry) (unsettled : List Unsettled) (room more_room next settled n : ℕ) (seq : ℕ) (first : Option ℕ)
    (name id body : List ℕ) (at : ℕ)
    → IsBook entries index tally settled_tally unsettled room next settled n first → next ≤ seq
    → find (λ x. is_entry_as name id x && is_kept x) entries ≡ None
    → HasNumber index name id (Some seq) later
    → ((those : Option (List ℕ)) (asked : State) → in_state asked (counts_for counted those) ≡ in_state asked
    (counts_for tally those) + one_of name Pending those asked)
    → ((those : Option (List ℕ)) → counts_for opened_tally those ≡ counts_for settled_tally those)
    → has_room opened_tally name ≡ true
    → ((asked : List ℕ) → has_room settled_tally asked ≡ true → has_room opened_tally asked ≡ true)
    → count_by may_wait entries + 1 ≤ more_room
    → IsBook (entries ++ new_entry seq name id body at ∷ []) later counted opened_tally unsettled more_room
    (seq + 1) settled n first
book-push index later tally counted settled_tally opened_tally entries unsettled room more_room next settled n seq first
    name
    id body at h l unknown updated again same opened stays enough =
    book-append index later tally counted settled_tally opened_tally entries (e ∷ []) unsettled room more_room next
    settled n seq first h l (record { numbers = numbers; fresh = ((refl, refl, refl), tt) })
    (record { unknown = alone; apart = λ i j d lt m. absurd (omega (arith, lt, m)) })
    (keys-push index index later [] e missing refl
    (λ name id. sym (none_more (number_of index name id))) updated)
    (λ those asked. again those asked
    ∙ ap (λ m. in_state asked (counts_for tally those) + m)
    (sym (sum_by-cons (one those asked) e [] ∙ add-zero (one those asked e))))
    same (and_both (has_room opened_tally name) true opened refl) stays enough
  where
    e : Entry
    e = new_entry seq name id body at

    one : Option (List ℕ) → State → Entry → ℕ
    one those asked x = cond (is_counted (λ y. y.settled) those asked x) 1 0

    missing : number_of index name id ≡ None
    missing = h.keyed.indexed name id ∙ ap (option_map (λ x. x.seq)) unknown

    alone : (k : ℕ) (d : Entry) → k < 1
        → number_of index (get_or (e ∷ []) k d).name (get_or (e ∷ []) k d).id ≡ None
    alone zero d lt = missing
    alone (suc k) d lt = absurd (omega (arith, lt))

    numbers : (k : ℕ) (d : Entry) → k < 1 → (get_or (e ∷ []) k d).seq ≡ seq + k
    numbers zero d lt = sym (add-zero seq)
    numbers (suc k) d lt = absurd (omega (arith, lt))

-- the same keys and counts, with room enough
pub book-same : (index kept : EventIndex) (tally counted settled_tally opened_tally : Tally)
    (entries : List Entry) (unsettled : List Unsettled) (room more_room next settled n : ℕ) (first : Option ℕ)
    → IsBook entries index tally settled_tally unsettled room next settled n first
    → HasSameKeys index kept
    → ((those : Option (List ℕ)) → counts_for counted those ≡ counts_for tally those)
    → ((those : Option (List ℕ)) → counts_for opened_tally those ≡ counts_for settled_tally those)
    → ((asked : List ℕ) → has_room settled_tally asked ≡ true → has_room opened_tally asked ≡ true)
    → count_by may_wait entries ≤ more_room
    → IsBook entries kept counted opened_tally unsettled more_room next settled n first
book-same index kept tally counted settled_tally opened_tally entries unsettled room more_room next settled n first h
    keys alike same stays enough = record {
      keyed = record {
        ascending = h.keyed.ascending;
        numbered = h.keyed.numbered;
        settled_next = h.keyed.settled_next;
        indexed = λ name id. keys name id ∙ h.keyed.indexed name id;
        settled_within = h.keyed.settled_within;
        settled_below = h.keyed.settled_below;
        settled_above = h.keyed.settled_above;
      };
      latest = λ those asked. ap (in_state asked) (alike those) ∙ h.latest those asked;
      settled = λ those asked. ap (in_state asked) (same those) ∙ h.settled those asked;
      opened = all_weaker (λ e. has_room settled_tally e.name) (λ e. has_room opened_tally e.name) entries
          (λ e is. stays e.name is) h.opened;
      queue = record {
        later = h.queue.later;
        counted = h.queue.counted;
        caught_up = h.queue.caught_up;
        in_turn = h.queue.in_turn;
        room = enough;
      };
      order = h.order;
      marks = h.marks;
    }
