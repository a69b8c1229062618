-- What ties a desk's fields stays so as a Purge waits: it changes nothing but which Purge took an entry.
use Rattle.desk.proofs.Words.{◌≡◌, ◌≤◌, ◌<◌, ◌+◌, ◌∙◌, ℕ, Bool, false, List, [], ◌∷◌, Option, length}
use Rattle.desk.proofs.Words.{refl, sym, ap, subst, arith, not, nat_eq, nat_lt, ◌&&◌, is_some, option_map}
use Rattle.desk.proofs.Words.{option_map_or}
use Rattle.desk.proofs.Words.{Some, None, if◌then◌else◌}
use Rattle.desk.proofs.Words.{MAX_RECORDS, Purge, records_of, HasChanges, changes_other}
use Rattle.desk.proofs.Words.{BookValue, Entry, entry_at, marked, with_purge}
use Rattle.desk.proofs.Words.{count-map, all_weaker, WaitingValue, record_count, with_step, Row, Limiter, Pair}
use Rattle.desk.proofs.Words.{QueueValue, AreApart, AreTied, AreUnderWay, HasPlaces, endpoint_at}
use Rattle.desk.proofs.Words.{is_entry_of, is_idle, is_own, is_pair_of, is_told, is_under_way, is_unheld, waits_as}
use Rattle.desk.proofs.Words.{IsDesk, by_bool, is_kept}
use Rattle.delivery_book.specs.Entries.{is_done_before}
use Rattle.delivery_book.proofs.Waiting.{waiting_purge}
use Rattle.endpoint_book.specs.Entries as endpoint_entries
use Rattle.desk.proofs.DeskLaws.{deliveries_wait}
use Rattle.desk.proofs.RequestTies.{room_requested}
use Rattle.desk.proofs.SettleLaws.{rises_upto}
use Rattle.desk.proofs.TakenLaws.{marked_at}

-- a test that doesn't ask which Purge took the entry
abbrev AsksNoMark : (Entry → Bool) → Type 0
AsksNoMark test = (seq moment : ℕ) (e : Entry) → test (marked seq moment e) ≡ test e

found_marked : (test : Entry → Bool) → AsksNoMark test → (book : BookValue) (seq moment n : ℕ)
    → option_map_or test (entry_at (with_purge book seq moment).entries n) false
    ≡ option_map_or test (entry_at book.entries n) false
found_marked test asks book seq moment n =
    ap (λ o. option_map_or test o false) (marked_at seq moment n book.entries) ∙ by (entry_at book.entries n)
  where
    by : (o : Option Entry) → option_map_or test (option_map (marked seq moment) o) false ≡ option_map_or test o false
    by None = refl
    by (Some e) = asks seq moment e

-- the same entry, whichever of the two
same_marked : {X : Type 0} (f : Entry → X) → ((e : Entry) (seq : ℕ) → f (record e { taken_by = Some seq }) ≡ f e)
    → (seq moment : ℕ) (e : Entry) → f (marked seq moment e) ≡ f e
same_marked f same seq moment e = by_bool (is_kept e && is_done_before moment e.latest)
    (λ marks. ap (λ b. f (if b then record e { taken_by = Some seq } else e)) marks ∙ same e seq)
    (λ stays. ap (λ b. f (if b then record e { taken_by = Some seq } else e)) stays)

endpoint_marked : (book : BookValue) (seq moment n : ℕ) → endpoint_at (with_purge book seq moment) n ≡ endpoint_at book
    n
endpoint_marked book seq moment n =
    ap (option_map (λ (e : Entry). e.name)) (marked_at seq moment n book.entries) ∙ by (entry_at book.entries n)
  where
    by : (o : Option Entry) → option_map (λ (e : Entry). e.name) (option_map (marked seq moment) o) ≡ option_map
        (λ (e : Entry). e.name) o
    by None = refl
    by (Some e) = ap Some (same_marked (λ x. x.name) (λ x n. refl) seq moment e)

there_marked : (book : BookValue) (seq moment n : ℕ) → is_some (entry_at (with_purge book seq moment).entries n)
    ≡ is_some (entry_at book.entries n)
there_marked book seq moment n = ap is_some (marked_at seq moment n book.entries) ∙ by (entry_at book.entries n)
  where
    by : (o : Option Entry) → is_some (option_map (marked seq moment) o) ≡ is_some o
    by None = refl
    by (Some e) = refl

apart_purged : (book : BookValue) (seq moment : ℕ) → book.next_seq ≤ seq → AreApart book
    → AreApart (with_purge book seq moment)
apart_purged book seq moment above h = record {
  in_turn = rises_upto book.settled_seq book.next_seq (seq + 1) book.unsettled (omega (arith, above)) h.in_turn;
  told = all_weaker (is_told book) (is_told (with_purge book seq moment)) book.unsettled
      (λ o t. found_marked (λ e. not (nat_eq e.latest.attempts e.settled.attempts))
      (λ seq moment e. same_marked (λ x. not (nat_eq x.latest.attempts x.settled.attempts)) (λ x n. refl) seq moment e)
      book seq moment o.delivery ∙ t) h.told;
  own = all_weaker (is_own book) (is_own (with_purge book seq moment)) book.unsettled
      (λ o t. ap not (there_marked book seq moment o.seq) ∙ t) h.own;
  once = h.once;
}

under_way_purged : (book : BookValue) (live : List Row) (seq moment : ℕ) → AreUnderWay live book
    → AreUnderWay live (with_purge book seq moment)
under_way_purged book live seq moment h = record {
  each = all_weaker (is_under_way book) (is_under_way (with_purge book seq moment)) live
      (λ row t. ap (λ b. nat_lt row.delivery book.settled_seq && b)
      (found_marked (is_entry_of row) (λ seq moment e. same_marked (is_entry_of row) (λ x n. refl) seq moment e)
      book seq moment row.delivery) ∙ t) h.each;
  once = h.once;
}

waits_purged : (book : BookValue) (live : List Row) (seq moment : ℕ) (pair : Pair)
    → waits_as book live pair ≡ waits_as (with_purge book seq moment) live pair
waits_purged book live seq moment pair =
    let test = λ (e : Entry). is_idle book.settled_seq live e && is_pair_of pair e in
    sym (found_marked test (λ seq moment e. same_marked test (λ x n. refl) seq moment e) book seq moment pair.seq)

places_purged : (queue : QueueValue) (book : BookValue) (seq moment : ℕ) → HasPlaces queue book
    → HasPlaces queue (with_purge book seq moment)
places_purged queue book seq moment places = λ name.
    let same = count-map (is_unheld queue name) (marked seq moment) book.entries
    (λ e. same_marked (is_unheld queue name) (λ x n. refl) seq moment e) in
    omega (arith, same, places name)

tied_purged : {endpoints : endpoint_entries.BookValue} {deliveries : BookValue} {waiting : WaitingValue}
    {live : List Row} {limiters : List Limiter} {queue : QueueValue} (seq before : ℕ)
    → record_count waiting + length live < MAX_RECORDS → deliveries.next_seq ≤ seq
    → AreTied endpoints deliveries waiting live limiters queue
    → AreTied endpoints (with_purge deliveries seq before) (with_step waiting (Purge before ∷ [])) live limiters queue
tied_purged {endpoints} {deliveries} {waiting} {live} {limiters} {queue} seq before numbers above h = record {
  limited = h.limited;
  room = room_requested waiting live (Purge before) refl h.room numbers;
  lanes = h.lanes;
  queued = record {
    apart = apart_purged deliveries seq before above h.queued.apart;
    under_way = under_way_purged deliveries live seq before h.queued.under_way;
    held = λ pair. h.queued.held pair ∙ waits_purged deliveries live seq before pair;
    places = places_purged queue deliveries seq before h.queued.places;
  };
}

pub desk_purged : {endpoints : endpoint_entries.BookValue} {deliveries taken : BookValue} {waiting later : WaitingValue}
    {live : List Row} {limiters : List Limiter} {queue : QueueValue} (seq before : ℕ)
    → seq ≡ record_count waiting → taken ≡ with_purge deliveries seq before
    → later ≡ with_step waiting (Purge before ∷ [])
    → record_count waiting + length live < MAX_RECORDS → IsDesk endpoints deliveries waiting live limiters queue
    → IsDesk endpoints taken later live limiters queue
desk_purged {endpoints} {deliveries} {taken} {waiting} {later} {live} {limiters} {queue} seq before count is step
    numbers h =
    let entry = Purge before in
    let book = with_purge deliveries seq before in
    subst (λ w. IsDesk endpoints taken w live limiters queue) (sym step)
    (subst (λ (b : BookValue). IsDesk endpoints b (with_step waiting (entry ∷ [])) live limiters queue) (sym is)
    (deliveries_wait entry h (ap (λ n. n + 1) count) refl
    (waiting_purge deliveries (records_of waiting.waiting) seq before h.deliveries_wait)
    (changes_other (endpoint_at book) endpoints (records_of waiting.waiting) entry refl
    (subst (λ at. HasChanges at endpoints (records_of waiting.waiting))
    (λ i n. sym (endpoint_marked deliveries seq before n) i)
    h.endpoints_wait))
    (tied_purged seq before numbers (omega (arith, count, h.deliveries_staged)) h.tied)))
