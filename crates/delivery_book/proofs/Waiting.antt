-- What a book has of the records that wait, as one more waits and as they are settled.
use Rattle.std.proofs.Common.{◌≡◌, ℕ, ◌+◌, ◌<◌, ◌≤◌, Bool, true, false, List, [], ◌∷◌, ◌++◌, Option, Some, None}
use Rattle.std.proofs.Common.{append-nil, length, take, drop, map, refl, sym, ◌∙◌, ap, subst, arith, cond, eqb, leb}
use Rattle.std.proofs.Common.{ltb, ◌&&◌}
use Rattle.std.specs.Prelude.{filter, filter_map, find, option_map, nat_lt, ◌||◌}
use Rattle.std.specs.List.{AllByRecursion, cons_option, enumerate_from, list_all, list_any}
use Rattle.std.specs.Option.{option_map_or, option_or}
use Rattle.std.proofs.lemmas.Bool.{eq-eqb, eqb-true, ne_eqb, le-leb, leb-true, lt-leb, ltb-true}
use Rattle.std.proofs.lemmas.List.Elements.{filter-append, filter_map-append}
use Rattle.std.proofs.lemmas.List.Folds.{find-append, list_all-append, list_any-append}
use Rattle.relay_types.specs.declared.record.Record.{Record}
use Rattle.relay_types.specs.declared.record.Record.TheVariants.{Put, Secrets, Enabled, Accept, Outcome, Subscribed}
use Rattle.relay_types.specs.declared.record.Record.TheVariants.{Purge}
use Rattle.relay_types.specs.Records.{Attempt, attempt_by}
use Rattle.relay_types.specs.Deliveries.{attempts_of}
use Rattle.relay_types.proofs.GrowthLaws.{attempts_of-snoc, enumerate_from-snoc}
use Rattle.relay_types.proofs.KnownLaws.{and_first, and_second}
use Rattle.relay_types.proofs.RowLaws.{find_map}
use Rattle.relay_types.proofs.LookupLaws.{filter_both}
use Rattle.delivery_book.specs.declared.entry.Entry.{Entry}
use Rattle.delivery_book.specs.declared.entry.Unsettled.{Unsettled}
use Rattle.delivery_book.specs.Progress.{Progress}
use Rattle.delivery_book.specs.Book.{is_other, outcome_by, outcomes_from}
use Rattle.delivery_book.specs.Entries.{BookValue, IsCaughtUp, IsInStep, at_delivery, at_outcomes, entry_at, event_by}
use Rattle.delivery_book.specs.Entries.{events_from, front_below, is_done_before, is_kept, is_left, is_of_left, is_open}
use Rattle.delivery_book.specs.Entries.{marked, new_entry, progress_after, rest_from}
use Rattle.delivery_book.specs.Entries.{with_attempt, with_event, with_latest_settled, with_outcome, with_purge}
use Rattle.delivery_book.specs.Entries.{with_settled}
use Rattle.delivery_book.specs.Waiting.{AreTries, HasWaiting, is_from}
use Rattle.delivery_book.proofs.Purges.{filter-changed, filter-weaker, left_earlier}
use Rattle.delivery_book.proofs.Waits.{front-outcomes, named-attempts, outcomes_from-snoc, rest-outcomes}

pub events_from-snoc : (n : ℕ) (records : List Record) (entry : Record)
    → events_from n (records ++ entry ∷ []) ≡ events_from n records ++ cons_option
    (event_by (n + length records, entry)) []
events_from-snoc n records entry = ap (filter_map event_by) (enumerate_from-snoc n records entry)
    ∙ filter_map-append event_by (enumerate_from n records) ((n + length records, entry) ∷ [])

-- A record of which the book has nothing

same_waiting : (book : BookValue) (records : List Record) (entry : Record)
    → event_by (book.settled_seq + length records, entry) ≡ None → outcome_by (book.settled_seq + length records, entry)
    ≡ None
    → ((d : ℕ) → attempt_by d entry ≡ None) → HasWaiting book records → HasWaiting book (records ++ entry ∷ [])
same_waiting book records entry event outcome none h = record {
  events = h.events ∙ sym (events_from-snoc book.settled_seq records entry
      ∙ ap (λ o. events_from book.settled_seq records ++ cons_option o []) event
      ∙ append-nil (events_from book.settled_seq records));
  outcomes = h.outcomes
      ∙ sym (outcomes_from-snoc book.settled_seq records entry
      ∙ ap (λ o. outcomes_from book.settled_seq records ++ cons_option o []) outcome
      ∙ append-nil (outcomes_from book.settled_seq records));
  tries = λ d. subst (λ ts. AreTries ts (entry_at book.entries d))
      (sym (attempts_of-snoc records entry d ∙ ap (λ o. attempts_of records d ++ cons_option o []) (none d)
      ∙ append-nil (attempts_of records d))) (h.tries d);
}

pub waiting_other : (book : BookValue) (records : List Record) (entry : Record) → is_other entry ≡ true
    → HasWaiting book records → HasWaiting book (records ++ entry ∷ [])
waiting_other book records (Put name target max secrets) other h = same_waiting book records
    (Put name target max secrets) refl refl (λ d. refl) h
waiting_other book records (Secrets name secrets) other h = same_waiting book records (Secrets name secrets) refl refl
    (λ d. refl) h
waiting_other book records (Enabled name flag) other h = same_waiting book records (Enabled name flag) refl refl
    (λ d. refl) h
waiting_other book records (Subscribed topic name flag) other h = same_waiting book records (Subscribed topic name flag)
    refl refl (λ d. refl) h
waiting_other book records (Accept name id body at) other h = let wrong : false ≡ true = other in cc
waiting_other book records (Outcome delivery attempt status at) other h = let wrong : false ≡ true = other in cc
waiting_other book records (Purge moment) other h = let wrong : false ≡ true = other in cc

-- An event

pub waiting_event : (book : BookValue) (records : List Record) (seq : ℕ) (name id body : List ℕ) (at : ℕ)
    → seq ≡ book.settled_seq + length records → HasWaiting book records
    → HasWaiting (with_event book seq name id body at) (records ++ Accept name id body at ∷ [])
waiting_event book records seq name id body at number h = record {
  events = filter-append (is_from book.settled_seq) book.entries (entry ∷ [])
      ∙ ap (λ b. filter (is_from book.settled_seq) book.entries ++ cond b (entry ∷ []) [])
      (le-leb book.settled_seq seq (omega (arith, number)))
      ∙ (λ i. h.events i ++ new_entry (number i) name id body at ∷ [])
      ∙ sym (events_from-snoc book.settled_seq records (Accept name id body at));
  outcomes = h.outcomes ∙ sym (outcomes_from-snoc book.settled_seq records (Accept name id body at)
      ∙ append-nil (outcomes_from book.settled_seq records));
  tries = λ d. subst (λ ts. AreTries ts (entry_at (book.entries ++ entry ∷ []) d))
      (sym (attempts_of-snoc records (Accept name id body at) d ∙ append-nil (attempts_of records d)))
      (subst (AreTries (attempts_of records d)) (sym (find-append (λ x. eqb x.seq d) book.entries (entry ∷ [])))
      (by d (entry_at book.entries d) (h.tries d)));
}
  where
    entry : Entry
    entry = new_entry seq name id body at

    fresh : (b : Bool) → AreTries [] (cond b (Some entry) None)
    fresh true = refl
    fresh false = refl

    by : (d : ℕ) (o : Option Entry) → AreTries (attempts_of records d) o
        → AreTries (attempts_of records d) (option_or o (entry_at (entry ∷ []) d))
    by d None none = subst (λ ts. AreTries ts (entry_at (entry ∷ []) d)) (sym none) (fresh (eqb seq d))
    by d (Some e) tries = tries

-- Entries that are changed in place

filter_unchanged : (p : Entry → Bool) (g : Entry → Entry) (entries : List Entry) → ((e : Entry) → p e ≡ true → g e ≡ e)
    → map g (filter p entries) ≡ filter p entries
filter_unchanged p g [] same = refl
filter_unchanged p g (e ∷ es) same = grind (arith, filter_unchanged p g es same)

entry_changed : (g : Entry → Entry) (entries : List Entry) (d : ℕ) → ((e : Entry) → (g e).seq ≡ e.seq)
    → entry_at (map g entries) d ≡ option_map g (entry_at entries d)
entry_changed g entries d same = find_map g (λ e. eqb e.seq d) entries
    ∙ (λ i. option_map g (find (λ (e : Entry). eqb (same e i) d) entries))

own_number : (entries : List Entry) (d : ℕ) (e : Entry) → entry_at entries d ≡ Some e → e.seq ≡ d
own_number [] d e h = let wrong : None ≡ Some e = h in cc
own_number (x ∷ xs) d e h = grind (arith, own_number xs d e)

-- An outcome

-- no outcome of an open delivery waits
no_try : (tries : List Attempt) (e : Entry) → is_open e ≡ true → AreTries tries (Some e) → (tries ≡ [])
    × (e.latest ≡ e.settled)
no_try [] e opened is = (refl, is)
no_try (t ∷ []) e opened is =
    let counted = eqb-true e.latest.attempts e.settled.attempts
    (and_second _ (eqb e.latest.attempts e.settled.attempts) opened) in
    absurd (omega (arith, counted, ap (λ (p : Progress). p.attempts) is.1))
no_try (t ∷ u ∷ more) e opened is = absurd is

pub waiting_outcome : (book : BookValue) (records : List Record) (seq d attempt status at : ℕ) (e : Entry)
    → seq ≡ book.settled_seq + length records → entry_at book.entries d ≡ Some e → is_open e ≡ true
    → d < book.settled_seq
    → attempt ≡ e.latest.attempts + 1 → HasWaiting book records → HasWaiting (with_outcome book seq d status at)
    (records ++ Outcome d attempt status at ∷ [])
waiting_outcome book records seq d attempt status at e number there opened settled counted h = record {
  events = filter-changed (is_from book.settled_seq) g book.entries (λ x. ap (leb book.settled_seq) (keeps x))
      ∙ filter_unchanged (is_from book.settled_seq) g book.entries
      (λ x from. others x (ne_eqb d x.seq
      (λ same. absurd (omega (arith, same, settled, leb-true book.settled_seq x.seq from)))))
      ∙ h.events ∙ sym (events_from-snoc book.settled_seq records (Outcome d attempt status at)
      ∙ append-nil (events_from book.settled_seq records));
  outcomes = (λ i. h.outcomes i ++ record { seq = number i; delivery = d } ∷ [])
      ∙ sym (outcomes_from-snoc book.settled_seq records (Outcome d attempt status at));
  tries = λ n. subst (λ ts. AreTries ts (entry_at (map g book.entries) n))
      (sym (attempts_of-snoc records (Outcome d attempt status at) n))
      (subst (AreTries (attempts_of records n ++ cons_option (cond (eqb d n) (Some t) None) []))
      (sym (entry_changed g book.entries n keeps)) (by n (eqb d n) refl));
}
  where
    g : Entry → Entry
    g = at_delivery d (with_attempt status at)

    t : Attempt
    t = record { number = attempt; status = status; at = at }

    keeps : (x : Entry) → (g x).seq ≡ x.seq
    keeps x = pick (eqb d x.seq)
      where
        pick : (b : Bool) → (cond b (with_attempt status at x) x).seq ≡ x.seq
        pick true = refl
        pick false = refl

    others : (x : Entry) → eqb d x.seq ≡ false → g x ≡ x
    others x apart = ap (λ b. cond b (with_attempt status at x) x) apart

    own : g e ≡ with_attempt status at e
    own = ap (λ b. cond b (with_attempt status at e) e) (eq-eqb d e.seq (sym (own_number book.entries d e there)))

    tried : AreTries (t ∷ []) (Some (with_attempt status at e))
    tried =
        let was = no_try (attempts_of records d) e opened (subst (AreTries (attempts_of records d)) there (h.tries d))
        in
        (counted ∙ ap (λ (p : Progress). p.attempts + 1) was.1, ap (progress_after status at) was.1)

    still : (n : ℕ) (o : Option Entry) → entry_at book.entries n ≡ o → eqb d n ≡ false → option_map g o ≡ o
    still n None e apart = refl
    still n (Some x) e apart = ap Some (others x (ap (eqb d) (own_number book.entries n x e) ∙ apart))

    by : (n : ℕ) (b : Bool) → eqb d n ≡ b → AreTries (attempts_of records n ++ cons_option (cond b (Some t) None) [])
        (option_map g (entry_at book.entries n))
    by n true same =
        let found : entry_at book.entries n ≡ Some e = ap (entry_at book.entries) (sym (eqb-true d n same)) ∙ there in
        subst (λ o. AreTries (attempts_of records n ++ t ∷ []) (option_map g o)) (sym found)
        (subst (λ x. AreTries (attempts_of records n ++ t ∷ []) (Some x)) (sym own)
        (subst (λ ts. AreTries (ts ++ t ∷ []) (Some (with_attempt status at e)))
        (sym (no_try (attempts_of records n) e opened (subst (AreTries (attempts_of records n)) found (h.tries n))).0)
        tried))
    by n false apart =
        subst (AreTries (attempts_of records n ++ [])) (sym (still n (entry_at book.entries n) refl apart))
        (subst (λ ts. AreTries ts (entry_at book.entries n)) (sym (append-nil (attempts_of records n))) (h.tries n))

-- A Purge

-- it takes no event that waits
fresh_marked : (seq moment n : ℕ) (records : List Record) → map (marked seq moment) (events_from n records)
    ≡ events_from n records
fresh_marked seq moment n [] = refl
fresh_marked seq moment n (Accept name id body at ∷ rest) = ap (λ es. new_entry n name id body at ∷ es)
    (fresh_marked seq moment (n + 1) rest)
fresh_marked seq moment n (Put name target max secrets ∷ rest) = fresh_marked seq moment (n + 1) rest
fresh_marked seq moment n (Secrets name secrets ∷ rest) = fresh_marked seq moment (n + 1) rest
fresh_marked seq moment n (Enabled name flag ∷ rest) = fresh_marked seq moment (n + 1) rest
fresh_marked seq moment n (Subscribed topic name flag ∷ rest) = fresh_marked seq moment (n + 1) rest
fresh_marked seq moment n (Outcome delivery attempt status at ∷ rest) = fresh_marked seq moment (n + 1) rest
fresh_marked seq moment n (Purge before ∷ rest) = fresh_marked seq moment (n + 1) rest

pub marked_keeps : (seq moment : ℕ) (e : Entry) → (marked seq moment e).seq ≡ e.seq
marked_keeps seq moment e = by (is_kept e && is_done_before moment e.latest)
  where
    by : (b : Bool) → (cond b (record e { taken_by = Some seq }) e).seq ≡ e.seq
    by true = refl
    by false = refl

marked_tries : (seq moment : ℕ) (tries : List Attempt) (o : Option Entry) → AreTries tries o
    → AreTries tries (option_map (marked seq moment) o)
marked_tries seq moment tries None h = h
marked_tries seq moment tries (Some e) h = by tries (is_kept e && is_done_before moment e.latest) h
  where
    by : (ts : List Attempt) (b : Bool) → AreTries ts (Some e)
        → AreTries ts (Some (cond b (record e { taken_by = Some seq }) e))
    by [] true i = i
    by [] false i = i
    by (t ∷ []) true i = i
    by (t ∷ []) false i = i
    by (t ∷ u ∷ more) b i = absurd i

pub waiting_purge : (book : BookValue) (records : List Record) (seq moment : ℕ) → HasWaiting book records
    → HasWaiting (with_purge book seq moment) (records ++ Purge moment ∷ [])
waiting_purge book records seq moment h = record {
  events = filter-changed (is_from book.settled_seq) (marked seq moment) book.entries
      (λ e. ap (leb book.settled_seq) (marked_keeps seq moment e))
      ∙ ap (map (marked seq moment)) h.events
      ∙ fresh_marked seq moment book.settled_seq records
      ∙ sym (events_from-snoc book.settled_seq records (Purge moment)
      ∙ append-nil (events_from book.settled_seq records));
  outcomes = h.outcomes ∙ sym (outcomes_from-snoc book.settled_seq records (Purge moment)
      ∙ append-nil (outcomes_from book.settled_seq records));
  tries = λ d. subst (λ ts. AreTries ts (entry_at (map (marked seq moment) book.entries) d))
      (sym (attempts_of-snoc records (Purge moment) d ∙ append-nil (attempts_of records d)))
      (subst (AreTries (attempts_of records d))
      (sym (entry_changed (marked seq moment) book.entries d (marked_keeps seq moment)))
      (marked_tries seq moment (attempts_of records d) (entry_at book.entries d) (h.tries d)));
}

-- One more record, settled

-- an event with its number as its place is one of those from there on
kept_event : (n from : ℕ) (o : Option Entry) (few more : List Entry) → ((e : Entry) → o ≡ Some e → e.seq ≡ n) → from ≤ n
    → filter (is_from from) more ≡ few → filter (is_from from) (cons_option o more) ≡ cons_option o few
kept_event n from None few more numbered h later = later
kept_event n from (Some e) few more numbered h later =
    ap (λ b. cond b (e ∷ filter (is_from from) more) (filter (is_from from) more))
    (le-leb from e.seq (omega (arith, h, numbered e refl))) ∙ ap (λ xs. e ∷ xs) later

left_event : (n from : ℕ) (o : Option Entry) (few more : List Entry) → ((e : Entry) → o ≡ Some e → e.seq ≡ n) → n < from
    → filter (is_from from) more ≡ few → filter (is_from from) (cons_option o more) ≡ few
left_event n from None few more numbered h later = later
left_event n from (Some e) few more numbered h later =
    ap (λ b. cond b (e ∷ filter (is_from from) more) (filter (is_from from) more))
    (lt-leb from e.seq (omega (arith, h, numbered e refl))) ∙ later

event_number : (n : ℕ) (r : Record) (e : Entry) → event_by (n, r) ≡ Some e → e.seq ≡ n
event_number n (Accept name id body at) e h = grind arith
event_number n (Put name target max secrets) e h = let wrong : None ≡ Some e = h in cc
event_number n (Secrets name secrets) e h = let wrong : None ≡ Some e = h in cc
event_number n (Enabled name flag) e h = let wrong : None ≡ Some e = h in cc
event_number n (Subscribed topic name flag) e h = let wrong : None ≡ Some e = h in cc
event_number n (Outcome delivery attempt status at) e h = let wrong : None ≡ Some e = h in cc
event_number n (Purge moment) e h = let wrong : None ≡ Some e = h in cc

all_events : (n from : ℕ) (records : List Record) → from ≤ n → filter (is_from from) (events_from n records)
    ≡ events_from n records
all_events n from [] h = refl
all_events n from (r ∷ rest) h = kept_event n from (event_by (n, r)) (events_from (n + 1) rest)
    (events_from (n + 1) rest) (event_number n r) h (all_events (n + 1) from rest (omega (arith, h)))

later_events : (n : ℕ) (records : List Record) → filter (is_from (n + 1)) (events_from n records) ≡ events_from (n + 1)
    (drop 1 records)
later_events n [] = refl
later_events n (r ∷ rest) = left_event n (n + 1) (event_by (n, r)) (events_from (n + 1) rest) (events_from (n + 1) rest)
    (event_number n r) (omega arith) (all_events (n + 1) (n + 1) rest (omega arith))

-- settling leaves an event without an attempt
settles_fresh : (outcomes : List Unsettled) (n : ℕ) (records : List Record)
    → map (at_outcomes outcomes with_latest_settled) (events_from n records) ≡ events_from n records
settles_fresh outcomes n [] = refl
settles_fresh outcomes n (Accept name id body at ∷ rest) = λ i. fresh (at_outcomes outcomes with_latest_settled entry)
    refl i ∷ settles_fresh outcomes (n + 1) rest i
  where
    entry : Entry
    entry = new_entry n name id body at

    pick : (b : Bool) → cond b (with_latest_settled entry) entry ≡ entry
    pick true = refl
    pick false = refl

    fresh : (x : Entry) → at_outcomes outcomes with_latest_settled entry ≡ x
        → at_outcomes outcomes with_latest_settled entry ≡ entry
    fresh x e = pick _
settles_fresh outcomes n (Put name target max secrets ∷ rest) = settles_fresh outcomes (n + 1) rest
settles_fresh outcomes n (Secrets name secrets ∷ rest) = settles_fresh outcomes (n + 1) rest
settles_fresh outcomes n (Enabled name flag ∷ rest) = settles_fresh outcomes (n + 1) rest
settles_fresh outcomes n (Subscribed topic name flag ∷ rest) = settles_fresh outcomes (n + 1) rest
settles_fresh outcomes n (Outcome delivery attempt status at ∷ rest) = settles_fresh outcomes (n + 1) rest
settles_fresh outcomes n (Purge moment ∷ rest) = settles_fresh outcomes (n + 1) rest

settles_keeps : (outcomes : List Unsettled) (e : Entry) → (at_outcomes outcomes with_latest_settled e).seq ≡ e.seq
settles_keeps outcomes e = grind arith

-- the attempts at a delivery, where the first record is settled
settled_tries : (n : ℕ) (records : List Record) (d : ℕ) (o : Option Entry) → ((e : Entry) → o ≡ Some e → e.seq ≡ d)
    → AreTries (attempts_of records d) o
    → AreTries (attempts_of (drop 1 records) d)
    (option_map (at_outcomes (outcomes_from n (take 1 records)) with_latest_settled) o)
settled_tries n [] d None own tries = tries
settled_tries n [] d (Some e) own tries = tries
settled_tries n (Put name target max secrets ∷ rest) d None own tries = tries
settled_tries n (Put name target max secrets ∷ rest) d (Some e) own tries = tries
settled_tries n (Secrets name secrets ∷ rest) d None own tries = tries
settled_tries n (Secrets name secrets ∷ rest) d (Some e) own tries = tries
settled_tries n (Enabled name flag ∷ rest) d None own tries = tries
settled_tries n (Subscribed topic name flag ∷ rest) d None own tries = tries
settled_tries n (Enabled name flag ∷ rest) d (Some e) own tries = tries
settled_tries n (Subscribed topic name flag ∷ rest) d (Some e) own tries = tries
settled_tries n (Purge moment ∷ rest) d None own tries = tries
settled_tries n (Purge moment ∷ rest) d (Some e) own tries = tries
settled_tries n (Accept name id body at ∷ rest) d None own tries = tries
settled_tries n (Accept name id body at ∷ rest) d (Some e) own tries = tries
settled_tries n (Outcome delivery attempt status at ∷ rest) d None own tries = grind arith
settled_tries n (Outcome delivery attempt status at ∷ rest) d (Some e) own tries =
    subst (λ b. AreTries (attempts_of rest d) (Some (cond (b || false) (with_latest_settled e) e)))
    (ap (eqb delivery) (sym (own e refl))) (by (eqb delivery d) (attempts_of rest d) tries)
  where
    t : Attempt
    t = record { number = attempt; status = status; at = at }

    alone : (ts : List Attempt) → AreTries (t ∷ ts) (Some e) → AreTries ts (Some (with_latest_settled e))
    alone [] h = refl
    alone (u ∷ us) h = absurd h

    by : (b : Bool) (ts : List Attempt) → AreTries (cons_option (cond b (Some t) None) ts) (Some e)
        → AreTries ts (Some (cond (b || false) (with_latest_settled e) e))
    by true ts h = alone ts h
    by false ts h = h

settles_left : (outcomes : List Unsettled) (m : ℕ) (e : Entry) → is_left m (at_outcomes outcomes with_latest_settled e)
    ≡ is_left m e
settles_left outcomes m e = by (list_any (λ o. eqb o.delivery e.seq) outcomes)
  where
    by : (b : Bool) → is_left m (cond b (with_latest_settled e) e) ≡ is_left m e
    by true = refl
    by false = refl

-- no Purge took an event that waits
fresh_left : (m n : ℕ) (records : List Record) → filter (is_left m) (events_from n records) ≡ events_from n records
fresh_left m n [] = refl
fresh_left m n (Accept name id body at ∷ rest) = ap (λ es. new_entry n name id body at ∷ es) (fresh_left m (n + 1) rest)
fresh_left m n (Put name target max secrets ∷ rest) = fresh_left m (n + 1) rest
fresh_left m n (Secrets name secrets ∷ rest) = fresh_left m (n + 1) rest
fresh_left m n (Enabled name flag ∷ rest) = fresh_left m (n + 1) rest
fresh_left m n (Subscribed topic name flag ∷ rest) = fresh_left m (n + 1) rest
fresh_left m n (Outcome delivery attempt status at ∷ rest) = fresh_left m (n + 1) rest
fresh_left m n (Purge moment ∷ rest) = fresh_left m (n + 1) rest

-- a delivery with an attempt that waits from a number on is not one that an earlier Purge took
abbrev is_left_at : ℕ → Option Entry → Bool
is_left_at m o = option_map_or (is_left m) o false

left_named : (entries : List Entry) (m n : ℕ) (records : List Record) (d : ℕ) (t : Attempt) (ts : List Attempt) → m ≤ n
    → list_all (is_of_left entries) (outcomes_from n records) ≡ true → attempts_of records d ≡ t ∷ ts
    → is_left_at m (entry_at entries d) ≡ true
left_named entries m n [] d t ts h left named = absurd (let no = named in cc)
left_named entries m n (Put name target max secrets ∷ rest) d t ts h left named = left_named entries m
    (n + 1) rest d t ts (omega (arith, h)) left named
left_named entries m n (Secrets name secrets ∷ rest) d t ts h left named = left_named entries m (n + 1) rest d t ts
    (omega (arith, h)) left named
left_named entries m n (Enabled name flag ∷ rest) d t ts h left named = left_named entries m (n + 1) rest d t ts
    (omega (arith, h)) left named
left_named entries m n (Subscribed topic name flag ∷ rest) d t ts h left named = left_named entries m
    (n + 1) rest d t ts (omega (arith, h)) left named
left_named entries m n (Accept name id body at ∷ rest) d t ts h left named = left_named entries m (n + 1) rest d t ts
    (omega (arith, h)) left named
left_named entries m n (Purge moment ∷ rest) d t ts h left named = left_named entries m (n + 1) rest d t ts
    (omega (arith, h)) left named
left_named entries m n (Outcome delivery attempt status at ∷ rest) d t ts h left named =
    by (left_named entries m (n + 1) rest d t ts (omega (arith, h))
    (and_second (is_of_left entries o) (list_all (is_of_left entries) (outcomes_from (n + 1) rest)) left))
    (eqb delivery d) refl named
  where
    o : Unsettled
    o = record { seq = n; delivery = delivery }

    weaker : (e : Option Entry) → is_left_at n e ≡ true → is_left_at m e ≡ true
    weaker None i = i
    weaker (Some e) i = left_earlier m n e.taken_by h i

    by : (attempts_of rest d ≡ t ∷ ts → is_left_at m (entry_at entries d) ≡ true) → (b : Bool) → eqb delivery d ≡ b
        → cons_option (cond b (Some (record { number = attempt; status = status; at = at })) None) (attempts_of rest d)
        ≡ t ∷ ts → is_left_at m (entry_at entries d) ≡ true
    by later true same i =
        ap (λ n. is_left_at m (entry_at entries n)) (sym (eqb-true delivery d same))
        ∙ weaker (entry_at entries delivery)
        (and_first (is_of_left entries o) (list_all (is_of_left entries) (outcomes_from (n + 1) rest)) left)
    by later false apart i = later i

-- so the entries that are left have it
still_at : (p : Entry → Bool) (entries : List Entry) (d : ℕ) (o : Option Entry) → entry_at entries d ≡ o
    → option_map_or p o false ≡ true → entry_at (filter p entries) d ≡ o
still_at p [] d o is passes = is
still_at p (e ∷ es) d o is passes = by (still_at p es d o) (eqb e.seq d) refl (p e) refl is
  where
    some_is : {x y : Entry} → Some x ≡ Some y → x ≡ y
    some_is i = cc

    by : (entry_at es d ≡ o → option_map_or p o false ≡ true → entry_at (filter p es) d ≡ o) → (b : Bool)
        → eqb e.seq d ≡ b → (c : Bool) → p e ≡ c → cond b (Some e) (entry_at es d) ≡ o
        → entry_at (cond c (e ∷ filter p es) (filter p es)) d ≡ o
    by later true same true pe i = ap (λ b. cond b (Some e) (entry_at (filter p es) d)) same ∙ i
    by later true same false pe i = absurd (
        let there : false ≡ true = sym pe ∙ ap (λ x. option_map_or p x false) i ∙ passes in cc)
    by later false apart true pe i = ap (λ b. cond b (Some e) (entry_at (filter p es) d)) apart ∙ later i passes
    by later false apart false pe i = later i passes

-- an entry without an outcome that still waits has come as far by the settled records as by all
caught_up_at : (p : Entry → Bool) (first rest : List Unsettled) (entries : List Entry) (d : ℕ)
    → AllByRecursion (IsCaughtUp (first ++ rest)) entries → list_any (λ o. eqb o.delivery d) rest ≡ false
    → AreTries [] (entry_at (filter p (map (at_outcomes first with_latest_settled) entries)) d)
caught_up_at p first rest [] d up none = refl
caught_up_at p first rest (e ∷ es) d up none = by (caught_up_at p first rest es d up.1 none) (p (g e))
    (eqb (g e).seq d) refl
  where
    g : Entry → Entry
    g = at_outcomes first with_latest_settled

    own : (b : Bool) → list_any (λ o. eqb o.delivery e.seq) first ≡ b → e.seq ≡ d
        → (cond b (with_latest_settled e) e).latest ≡ (cond b (with_latest_settled e) e).settled
    own true waits same = refl
    own false waits same = up.0 (list_any-append (λ (o : Unsettled). eqb o.delivery e.seq) first rest
        ∙ (λ i. waits i || list_any (λ (o : Unsettled). eqb o.delivery (same i)) rest) ∙ none)

    by : AreTries [] (entry_at (filter p (map g es)) d) → (c b : Bool) → eqb (g e).seq d ≡ b
        → AreTries [] (entry_at (cond c (g e ∷ filter p (map g es)) (filter p (map g es))) d)
    by later false b is = later
    by later true true same =
        subst (λ b. AreTries [] (cond b (Some (g e)) (entry_at (filter p (map g es)) d))) (sym same)
        (own (list_any (λ o. eqb o.delivery e.seq) first) refl
        (sym (settles_keeps first e) ∙ eqb-true (g e).seq d same))
    by later true false apart = subst (λ b. AreTries [] (cond b (Some (g e)) (entry_at (filter p (map g es)) d)))
        (sym apart) later

-- the outcomes among the first record, and those after it
split_outcomes : (s : ℕ) (records : List Record) → outcomes_from s records ≡ outcomes_from s (take 1 records)
    ++ outcomes_from (s + 1) (drop 1 records)
split_outcomes s [] = refl
split_outcomes s (r ∷ rest) = by (outcome_by (s, r))
  where
    by : (o : Option Unsettled) → cons_option o (outcomes_from (s + 1) rest) ≡ cons_option o [] ++ outcomes_from
        (s + 1) rest
    by None = refl
    by (Some o) = refl

pub waiting_settled : (book : BookValue) (records : List Record) → IsInStep book → HasWaiting book records
    → HasWaiting (with_settled book (book.settled_seq + 1)) (drop 1 records)
waiting_settled book records step h = subst (λ (b : BookValue). HasWaiting b (drop 1 records)) (sym is) (record {
  events = filter_both (is_from (s + 1)) (is_left (s + 1)) (map g book.entries)
      ∙ ap (filter (is_left (s + 1)))
      (filter-changed (is_from (s + 1)) g book.entries (λ e. ap (leb (s + 1)) (settles_keeps outcomes e))
      ∙ ap (map g) (sym (filter-weaker (is_from (s + 1)) (is_from s) book.entries
      (λ e from. le-leb s e.seq (omega (arith, leb-true (s + 1) e.seq from))))
      ∙ ap (filter (is_from (s + 1))) h.events ∙ later_events s records)
      ∙ settles_fresh outcomes (s + 1) (drop 1 records))
      ∙ fresh_left (s + 1) (s + 1) (drop 1 records);
  outcomes = rest-outcomes s 1 (s + 1) records refl;
  tries = λ d. by d (attempts_of (drop 1 records) d) refl;
})
  where
    s : ℕ
    s = book.settled_seq

    outcomes : List Unsettled
    outcomes = outcomes_from s (take 1 records)

    later : List Unsettled
    later = outcomes_from (s + 1) (drop 1 records)

    g : Entry → Entry
    g = at_outcomes outcomes with_latest_settled

    moved : List Unsettled → BookValue
    moved front = record (with_settled book (s + 1)) {
      entries = filter (is_left (s + 1)) (map (at_outcomes front with_latest_settled) book.entries);
      unsettled =
          rest_from (s + 1) (outcomes_from s records);
    }

    is : with_settled book (s + 1) ≡ moved outcomes
    is = (λ i. record (with_settled book (s + 1)) {
      entries = filter (is_left (s + 1))
          (map (at_outcomes (front_below (s + 1) (h.outcomes i)) with_latest_settled) book.entries);
      unsettled = rest_from
          (s + 1) (h.outcomes i);
    })
        ∙ ap moved (front-outcomes s 1 (s + 1) records refl)

    waits : book.unsettled ≡ outcomes ++ later
    waits = h.outcomes ∙ split_outcomes s records

    later_left : list_all (is_of_left book.entries) later ≡ true
    later_left = and_second (list_all (is_of_left book.entries) outcomes) (list_all (is_of_left book.entries) later)
        (sym (list_all-append (is_of_left book.entries) outcomes later) ∙ ap (list_all (is_of_left book.entries))
        (sym waits) ∙ step.left)

    was : (d : ℕ) → AreTries (attempts_of (drop 1 records) d) (entry_at (map g book.entries) d)
    was d = subst (AreTries (attempts_of (drop 1 records) d))
        (sym (entry_changed g book.entries d (settles_keeps outcomes)))
        (settled_tries s records d (entry_at book.entries d) (own_number book.entries d) (h.tries d))

    changed : (o : Option Entry) → is_left_at (s + 1) (option_map g o) ≡ is_left_at (s + 1) o
    changed None = refl
    changed (Some e) = settles_left outcomes (s + 1) e

    by : (d : ℕ) (ts : List Attempt) → attempts_of (drop 1 records) d ≡ ts → AreTries (attempts_of (drop 1 records) d)
        (entry_at (filter (is_left (s + 1)) (map g book.entries)) d)
    by d [] none = subst (λ ts. AreTries ts (entry_at (filter (is_left (s + 1)) (map g book.entries)) d)) (sym none)
        (caught_up_at (is_left (s + 1)) outcomes later book.entries d
        (subst (λ os. AllByRecursion (IsCaughtUp os) book.entries) waits step.caught_up)
        (named-attempts (s + 1) (drop 1 records) d ∙ ap (λ ts. ltb 0 (length ts)) none))
    by d (t ∷ ts) some = subst (AreTries (attempts_of (drop 1 records) d))
        (sym (still_at (is_left (s + 1)) (map g book.entries) d (entry_at (map g book.entries) d) refl
        (ap (is_left_at (s + 1)) (entry_changed g book.entries d (settles_keeps outcomes))
        ∙ changed (entry_at book.entries d) ∙ left_named book.entries (s + 1) (s + 1) (drop 1 records) d t ts
        (omega arith) later_left some)))
        (was d)

-- Nothing waits

none_from : (s : ℕ) (entries : List Entry) → list_all (λ e. nat_lt e.seq s) entries ≡ true
    → filter (is_from s) entries ≡ []
none_from s [] below = refl
none_from s (e ∷ es) below =
    ap (λ b. cond b (e ∷ filter (is_from s) es) (filter (is_from s) es))
    (lt-leb s e.seq (ltb-true e.seq s (and_first (nat_lt e.seq s) _ below)))
    ∙ none_from s es (and_second (nat_lt e.seq s) _ below)

no_tries : (entries : List Entry) (d : ℕ) → AllByRecursion (IsCaughtUp []) entries → AreTries [] (entry_at entries d)
no_tries [] d h = refl
no_tries (e ∷ es) d h = grind (arith, no_tries es d h.1)

pub waiting_none : (book : BookValue) → IsInStep book → book.unsettled ≡ [] → book.next_seq ≡ book.settled_seq
    → HasWaiting book []
waiting_none book step none all = record {
  events = none_from book.settled_seq book.entries (ap (λ n. list_all (λ (e : Entry). nat_lt e.seq n) book.entries)
      (sym all) ∙ step.numbered);
  outcomes = none;
  tries = λ d. no_tries book.entries d (subst (λ os. AllByRecursion (IsCaughtUp os) book.entries) none step.caught_up);
}
