-- The histories for which a book stands after a step, and what it then tells of them.
use Rattle.std.proofs.Common.{◌≡◌, ℕ, zero, suc, ◌+◌, ◌-◌, ◌<◌, ◌≤◌, Bool, true, false, List, [], ◌∷◌, ◌++◌, Option}
use Rattle.std.proofs.Common.{Some, None, length, take, drop, map, refl, sym, ◌∙◌, ap, subst, arith, cond, eqb, leb}
use Rattle.std.proofs.Common.{ltb, not, ◌&&◌, ⊎_elim, length-append, append-nil}
use Rattle.std.specs.Prelude.{filter, filter_map, option_map, is_some, IsTrue, max}
use Rattle.std.specs.Option.{option_map_or, option_or}
use Rattle.std.specs.List.{cons_option, list_any}
use Rattle.std.proofs.Math.Seq.{take-add}
use Rattle.std.proofs.lemmas.Bool.{eq-eqb, ne_eqb, eqb-true, le-leb, ltb-true, ltb-false, cases_eq}
use Rattle.std.proofs.lemmas.List.{append_assoc, take-append-le, drop-append-le, length-drop}
use Rattle.std.proofs.lemmas.List.Elements.{filter-append, filter_map-append}
use Rattle.relay_types.specs.declared.record.Record.{Record}
use Rattle.relay_types.specs.declared.record.Record.TheVariants.{Put, Secrets, Enabled, Accept, Outcome, Subscribed}
use Rattle.relay_types.specs.declared.record.Record.TheVariants.{Purge}
use Rattle.relay_types.specs.declared.state.State.TheVariants.{Pending}
use Rattle.relay_types.specs.Records.{Accepted, Attempt, accepted_by, attempt_by, numbered}
use Rattle.relay_types.specs.Deliveries.{accept_at, accepted, attempts_of, is_in_state, is_pending, is_purged}
use Rattle.relay_types.specs.Deliveries.{purged_by, state_of, takes}
use Rattle.relay_types.proofs.GrowthLaws.{numbered-snoc}
use Rattle.relay_types.proofs.KnownLaws.{AllKnown, and_first, and_second, below_if_accepted, legal_known, there_if}
use Rattle.relay_types.specs.Legal.{IsLegal}
use Rattle.relay_types.specs.Steps.{accepts}
use Rattle.delivery_book.specs.declared.entry.Entry.{Entry}
use Rattle.delivery_book.specs.declared.entry.Unsettled.{Unsettled}
use Rattle.delivery_book.specs.Entries.{BookValue, events_from, is_done_before, is_left, is_open, marked}
use Rattle.delivery_book.specs.Entries.{new_entry, with_event, with_events}
use Rattle.delivery_book.specs.Entries.{with_outcome, with_attempt, at_delivery, at_outcomes, with_latest_settled}
use Rattle.delivery_book.specs.Entries.{with_settled, with_purge, front_below, rest_from, takes_outcome, entry_at}
use Rattle.delivery_book.specs.Entries.{progress_of}
use Rattle.delivery_book.specs.Book.{StandsFor, entry_for, entry_by, entries_of, delivery_by, outcome_by, outcomes_from}
use Rattle.delivery_book.specs.Book.{is_other, is_free}
use Rattle.delivery_book.specs.Laws.{IsRestored}
use Rattle.delivery_book.proofs.Progresses.{progress_of-append, attempts_of-append, attempts_of-split, empty_if}
use Rattle.delivery_book.proofs.Progresses.{none_earlier, all_earlier}
use Rattle.delivery_book.proofs.Histories.{all_entries, entries-map, entry_at-entries}
use Rattle.delivery_book.proofs.Purges.{done-past, filter-changed, filter-weaker, left_earlier, purged_by-none}
use Rattle.delivery_book.proofs.Purges.{purged_by-same, purged_by-snoc, taken_ended, taken_first}
use Rattle.delivery_book.proofs.Waits.{outcomes_from-snoc, front-outcomes, rest-outcomes, named-attempts}

-- One more record

attempts_of-more : (records : List Record) (r : Record) (d : ℕ)
    → attempts_of (records ++ r ∷ []) d ≡ attempts_of records d ++ cons_option (attempt_by d r) []
attempts_of-more records r d = attempts_of-append records (r ∷ []) d

take-more : (records : List Record) (r : Record) (s : ℕ) → s ≤ length records
    → take s (records ++ r ∷ []) ≡ take s records
take-more records r s h = take-append-le s records (r ∷ []) h

drop-more : (records : List Record) (r : Record) (s : ℕ) → s ≤ length records
    → drop s (records ++ r ∷ []) ≡ drop s records ++ r ∷ []
drop-more records r s h = drop-append-le s records (r ∷ []) h

entries_of-more : (records : List Record) (r : Record) (s : ℕ) → s ≤ length records → entries_of (records ++ r ∷ []) s
    ≡ filter (is_left s) (filter_map (entry_by (attempts_of (records ++ r ∷ [])) (attempts_of (take s records))
    (purged_by (records ++ r ∷ []))) (numbered records))
    ++ filter (is_left s)
    (cons_option (entry_by (attempts_of (records ++ r ∷ [])) (attempts_of (take s records))
    (purged_by (records ++ r ∷ [])) (length records, r)) [])
entries_of-more records r s h =
    (λ i. filter (is_left s)
    (filter_map (entry_by (attempts_of (records ++ r ∷ [])) (attempts_of (take-more records r s h i))
    (purged_by (records ++ r ∷ []))) (numbered-snoc records r i)))
    ∙ ap (filter (is_left s))
    (filter_map-append (entry_by (attempts_of (records ++ r ∷ [])) (attempts_of (take s records))
    (purged_by (records ++ r ∷ []))) (numbered records) ((length records, r) ∷ []))
    ∙ filter-append (is_left s)
    (filter_map (entry_by (attempts_of (records ++ r ∷ [])) (attempts_of (take s records))
    (purged_by (records ++ r ∷ []))) (numbered records))
    (cons_option (entry_by (attempts_of (records ++ r ∷ [])) (attempts_of (take s records))
    (purged_by (records ++ r ∷ [])) (length records, r)) [])

unsettled-more : (records : List Record) (r : Record) (s : ℕ) → s ≤ length records
    → outcomes_from s (drop s (records ++ r ∷ [])) ≡ outcomes_from s (drop s records) ++ cons_option
    (outcome_by (length records, r)) []
unsettled-more records r s h = grind (arith, drop-more, outcomes_from-snoc, length-drop)

-- a record that is no Outcome adds no attempt
no_attempt : (r : Record) → delivery_by r ≡ None → (d : ℕ) → attempt_by d r ≡ None
no_attempt (Put name target max secrets) h d = refl
no_attempt (Secrets name secrets) h d = refl
no_attempt (Enabled name flag) h d = refl
no_attempt (Subscribed topic name flag) h d = refl
no_attempt (Accept name id body at) h d = refl
no_attempt (Purge moment) h d = refl
no_attempt (Outcome delivery attempt status at) h d = absurd (let e = h in cc)

same_attempts : (records : List Record) (r : Record) → delivery_by r ≡ None → (d : ℕ)
    → attempts_of (records ++ r ∷ []) d ≡ attempts_of records d
same_attempts records r quiet d = attempts_of-more records r d ∙ ap (λ o. attempts_of records d ++ cons_option o [])
    (no_attempt r quiet d) ∙ append-nil (attempts_of records d)

stands_silent : (book later : BookValue) (records : List Record) (settled : ℕ) (r : Record) → delivery_by r ≡ None
    → StandsFor book records settled
    → later.entries ≡ entries_of (records ++ r ∷ []) settled
    → later.unsettled ≡ book.unsettled → later.next_seq ≤ length records + 1 → later.settled_seq ≡ book.settled_seq
    → StandsFor later (records ++ r ∷ []) settled
stands_silent book later records settled r quiet h entries unsettled next settled_seq = record {
  entries = entries;
  unsettled =
      unsettled ∙ h.unsettled
      ∙ sym (unsettled-more records r settled h.within
      ∙ ap (λ o. outcomes_from settled (drop settled records) ++ cons_option
      (option_map (λ d. record { seq = length records; delivery = d }) o) []) quiet
      ∙ append-nil (outcomes_from settled (drop settled records)));
  next_seq = omega (arith, next, length-append records (r ∷ []));
  settled_seq = settled_seq ∙ h.settled_seq;
  within = omega (arith, h.within, length-append records (r ∷ []));
  once = λ d. subst (λ some. length (attempts_of some d) ≤ 1) (sym (drop-more records r settled h.within))
      (subst (λ attempts. length attempts ≤ 1) (sym (same_attempts (drop settled records) r quiet d)) (h.once d));
  in_order = λ d l. same_attempts records r quiet d ∙ h.in_order d (omega (arith, l, length-append records (r ∷ [])));
}

-- no Purge took what comes next
unmarked : (book : BookValue) (records : List Record) (settled : ℕ) (o : Option Accepted)
    → StandsFor book records settled
    → filter (is_left settled)
    (cons_option (option_map (entry_for (attempts_of records) (attempts_of (take settled records))
    (purged_by records) (length records)) o) [])
    ≡ cons_option (option_map (entry_for (attempts_of records) (attempts_of (take settled records)) (purged_by records)
    (length records)) o) []
unmarked book records settled None h = refl
unmarked book records settled (Some a) h =
    ap (λ (p : Option ℕ). cond (option_map_or (leb settled) p true)
    (entry_for (attempts_of records) (attempts_of (take settled records)) (purged_by records) (length records) a
    ∷ []) [])
    (purged_by-none records (length records) (h.in_order (length records) (omega arith)))

-- a record that is no Outcome and takes nothing
stands_quiet : (book later : BookValue) (records : List Record) (settled : ℕ) (r : Record) → delivery_by r ≡ None
    → ((d : ℕ) → takes records d r ≡ false) → StandsFor book records settled
    → later.entries ≡ book.entries ++ cons_option (entry_by (attempts_of records) (attempts_of (take settled records))
    (purged_by records) (length records, r)) []
    → later.unsettled ≡ book.unsettled → later.next_seq ≤ length records + 1 → later.settled_seq ≡ book.settled_seq
    → StandsFor later (records ++ r ∷ []) settled
stands_quiet book later records settled r quiet idle h entries unsettled next settled_seq =
    stands_silent book later records settled r quiet h
    (entries
    ∙ (λ i. h.entries i ++ sym (unmarked book records settled (accepted_by r) h) i)
    ∙ sym (entries_of-more records r settled h.within
    ∙ (λ i. filter (is_left settled)
    (filter_map (entry_by (λ d. same_attempts records r quiet d i) (attempts_of (take settled records))
    (λ d. purged_by-same records r d (idle d) i)) (numbered records))
    ++ filter (is_left settled)
    (cons_option (entry_by (λ d. same_attempts records r quiet d i) (attempts_of (take settled records))
    (λ d. purged_by-same records r d (idle d) i) (length records, r)) []))))
    unsettled next settled_seq

pub stands_accept : (book : BookValue) (records : List Record) (settled seq : ℕ) (name id body : List ℕ) (at : ℕ)
    → StandsFor book records settled → seq ≡ length records
    → StandsFor (with_event book seq name id body at) (records ++ Accept name id body at ∷ []) settled
stands_accept book records settled seq name id body at h e =
    stands_quiet book (with_event book seq name id body at) records settled (Accept name id body at) refl (λ d. refl) h
    (λ i. book.entries ++ record {
      seq = e i;
      name = name;
      id = id;
      body = body;
      at = at;
      latest = progress_of at (sym none i);
      settled = progress_of at (sym (none_earlier records settled (length records) none) i);
      taken_by = sym (purged_by-none records (length records) none) i;
    } ∷ [])
    refl (omega (arith, e)) refl
  where
    none : attempts_of records (length records) ≡ []
    none = h.in_order (length records) (omega arith)

-- one event at several endpoints
pub stands_accepts : (book : BookValue) (records : List Record) (settled seq : ℕ) (names : List (List ℕ))
    (id body : List ℕ) (at : ℕ) → StandsFor book records settled → seq ≡ length records
    → StandsFor (with_events book seq (accepts names id body at)) (records ++ accepts names id body at) settled
stands_accepts book records settled seq [] id body at h e =
    subst (λ some. StandsFor (with_events book seq []) some settled) (sym (append-nil records)) (record {
      entries = append-nil book.entries ∙ h.entries;
      unsettled = h.unsettled;
      next_seq = omega (arith, e);
      settled_seq = h.settled_seq;
      within = h.within;
      once = h.once;
      in_order = h.in_order;
    })
stands_accepts book records settled seq (name ∷ names) id body at h e =
    subst (λ some. StandsFor (with_events book seq (a ∷ rest)) some settled) (append_assoc records (a ∷ []) rest)
    (subst (λ b. StandsFor b ((records ++ a ∷ []) ++ rest) settled) same
    (stands_accepts (with_event book seq name id body at) (records ++ a ∷ []) settled (seq + 1) names id body at
    (stands_accept book records settled seq name id body at h e) (omega (arith, e, length-append records (a ∷ [])))))
  where
    a : Record
    a = Accept name id body at

    rest : List Record
    rest = accepts names id body at

    next : seq + 1 + length rest ≡ seq + length (a ∷ rest)
    next = omega arith

    same : with_events (with_event book seq name id body at) (seq + 1) rest ≡ with_events book seq (a ∷ rest)
    same i = record book {
      entries = append_assoc book.entries (new_entry seq name id body at ∷ []) (events_from (seq + 1) rest) i;
      next_seq = next i;
    }

others_accept : (r : Record) → IsTrue (is_other r) → accepted_by r ≡ None
others_accept (Put name target max secrets) h = refl
others_accept (Secrets name secrets) h = refl
others_accept (Enabled name flag) h = refl
others_accept (Subscribed topic name flag) h = refl
others_accept (Accept name id body at) h = cc
others_accept (Outcome delivery attempt status at) h = cc
others_accept (Purge moment) h = refl

others_end : (r : Record) → IsTrue (is_other r) → delivery_by r ≡ None
others_end (Put name target max secrets) h = refl
others_end (Secrets name secrets) h = refl
others_end (Enabled name flag) h = refl
others_end (Subscribed topic name flag) h = refl
others_end (Accept name id body at) h = refl
others_end (Outcome delivery attempt status at) h = cc
others_end (Purge moment) h = refl

others_take : (r : Record) (records : List Record) (d : ℕ) → IsTrue (is_other r) → takes records d r ≡ false
others_take (Put name target max secrets) records d h = refl
others_take (Secrets name secrets) records d h = refl
others_take (Enabled name flag) records d h = refl
others_take (Subscribed topic name flag) records d h = refl
others_take (Accept name id body at) records d h = refl
others_take (Outcome delivery attempt status at) records d h = refl
others_take (Purge moment) records d h = absurd (let e = h in cc)

-- a record that concerns no delivery leaves the book standing
pub stands_other : (book : BookValue) (records : List Record) (settled : ℕ) (r : Record)
    → StandsFor book records settled → IsTrue (is_other r) → StandsFor book (records ++ r ∷ []) settled
stands_other book records settled r h other =
    stands_quiet book book records settled r (others_end r other) (λ d. others_take r records d other) h
    (sym (ap (λ o. book.entries ++ cons_option
    (option_map (entry_for (attempts_of records) (attempts_of (take settled records)) (purged_by records)
    (length records)) o) []) (others_accept r other) ∙ append-nil book.entries))
    refl (omega (arith, h.next_seq)) refl

-- A Purge

-- the mark leaves an entry that it finds, as what was taken before stays
marked_left : (s seq moment : ℕ) (e : Entry) → s ≤ seq → is_left s (marked seq moment e) ≡ is_left s e
marked_left s seq moment e h = by e.taken_by refl (is_done_before moment e.latest)
  where
    by : (o : Option ℕ) → e.taken_by ≡ o → (b : Bool)
        → is_left s (cond (not (is_some o) && b) (record e { taken_by = Some seq }) e) ≡ is_left s e
    by None is true = le-leb s seq h ∙ sym (ap (λ o. option_map_or (leb s) o true) is)
    by None is false = refl
    by (Some n) is b = refl

pub stands_purge : (book : BookValue) (records : List Record) (settled seq moment : ℕ) → StandsFor book records settled
    → seq ≡ length records
    → StandsFor (with_purge book seq moment) (records ++ Purge moment ∷ []) settled
stands_purge book records settled seq moment h e =
    stands_silent book (with_purge book seq moment) records settled (Purge moment) refl h
    ((λ i. map (marked (e i) moment) (h.entries i))
    ∙ sym (filter-changed (is_left settled) (marked (length records) moment) (all_entries records settled)
    (λ x. marked_left settled (length records) moment x h.within))
    ∙ sym (entries_of-more records (Purge moment) settled h.within ∙ append-nil _
    ∙ ap (filter (is_left settled)) (entries-map (attempts_of records) (attempts_of (take settled records))
    (attempts_of (records ++ Purge moment ∷ [])) (attempts_of (take settled records)) (purged_by records)
    (purged_by (records ++ Purge moment ∷ [])) (marked (length records) moment) each (numbered records))))
    refl (omega (arith, e)) refl
  where
    made : (n : ℕ) → Accepted → Option ℕ → Entry
    made n t o = record (entry_for (attempts_of records) (attempts_of (take settled records)) (purged_by records) n t)
        { taken_by = o }

    by : (n : ℕ) (t : Accepted) (o : Option ℕ) (b : Bool) → made n t (option_or o (cond b (Some (length records)) None))
        ≡ cond (not (is_some o) && b) (made n t (Some (length records))) (made n t o)
    by n t None true = refl
    by n t None false = refl
    by n t (Some p) b = refl

    each : (n : ℕ) (t : Accepted) → entry_for (attempts_of (records ++ Purge moment ∷ []))
        (attempts_of (take settled records)) (purged_by (records ++ Purge moment ∷ [])) n t
        ≡ marked (length records) moment (entry_for (attempts_of records) (attempts_of (take settled records))
        (purged_by records) n t)
    each n t =
        (λ i. record (made n t None) {
          latest = progress_of t.at (same_attempts records (Purge moment) refl n i);
          taken_by = purged_by-snoc records (Purge moment) n i;
        })
        ∙ ap (λ b. made n t (option_or (purged_by records n) (cond b (Some (length records)) None)))
        (sym (done-past moment t.at (attempts_of records n)))
        ∙ by n t (purged_by records n) (is_done_before moment (progress_of t.at (attempts_of records n)))

-- One more outcome

-- a number of attempts is that of the first ones where there are no others
count_same : (a s d : ℕ) → a ≡ s + d → eqb a s ≡ eqb d 0
count_same a s d e = ⊎_elim (λ none. eq-eqb a s (omega (arith, e, none)) ∙ sym (eq-eqb d 0 none))
    (λ more. ne_eqb a s (λ same. more (omega (arith, e, same))) ∙ sym (ne_eqb d 0 more)) (cases_eq d 0)

pub free_means : (book : BookValue) (records : List Record) (settled d : ℕ) → StandsFor book records settled
    → takes_outcome book d ≡ is_free records settled d
free_means book records settled d h =
    ap (λ es. option_map_or is_open (entry_at es d) false) h.entries
    ∙ ap (λ o. option_map_or is_open o false) (entry_at-entries records settled d)
    ∙ by (is_purged (take settled records) d) (is_purged records d) (accept_at records d)
    (taken_first records settled d) (taken_ended records d)
    (count_same (length (attempts_of records d)) (length (attempts_of (take settled records) d))
    (length (attempts_of (drop settled records) d))
    (ap length (attempts_of-split records settled d) ∙ length-append (attempts_of (take settled records) d)
    (attempts_of (drop settled records) d)))
  where
    pending : Bool
    pending = is_in_state Pending (state_of records d)

    caught_up : Bool
    caught_up = eqb (length (attempts_of records d)) (length (attempts_of (take settled records) d))

    none_behind : Bool
    none_behind = eqb (length (attempts_of (drop settled records) d)) 0

    by : (first whole : Bool) (o : Option Accepted) → (first ≡ true → whole ≡ true) → (whole ≡ true → pending ≡ false)
        → caught_up ≡ none_behind
        → option_map_or is_open
        (option_map (entry_for (attempts_of records) (attempts_of (take settled records)) (purged_by records) d)
        (cond first None o)) false
        ≡ (is_some (cond whole None o) && pending) && none_behind
    by true true o sooner ended same = refl
    by true false o sooner ended same = absurd (let no = sooner refl in cc)
    by false true None sooner ended same = refl
    by false true (Some a) sooner ended same = ap (λ b. b && caught_up) (ended refl)
    by false false None sooner ended same = refl
    by false false (Some a) sooner ended same = ap (λ b. pending && b) same

pub stands_outcome : (book : BookValue) (records : List Record) (settled seq delivery attempt status at : ℕ)
    → StandsFor book records settled → seq ≡ length records → takes_outcome book delivery ≡ true
    → StandsFor (with_outcome book seq delivery status at) (records ++ Outcome delivery attempt status at ∷ []) settled
stands_outcome book records settled seq delivery attempt status at h e takes = record {
  entries =
      ap (map g) h.entries
      ∙ sym (filter-changed (is_left settled) g (all_entries records settled) left)
      ∙ sym (entries_of-more records r settled h.within ∙ append-nil _ ∙ ap (filter (is_left settled))
      (entries-map (attempts_of records) (attempts_of (take settled records)) (attempts_of (records ++ r ∷ []))
      (attempts_of (take settled records)) (purged_by records) (purged_by (records ++ r ∷ [])) g each
      (numbered records)));
  unsettled = (λ i. h.unsettled i ++ record { seq = e i; delivery = delivery } ∷ [])
      ∙ sym (unsettled-more records r settled h.within);
  next_seq = omega (arith, e, length-append records (r ∷ []));
  settled_seq = h.settled_seq;
  within = omega (arith, h.within, length-append records (r ∷ []));
  once = λ d. subst (λ some. length (attempts_of some d) ≤ 1) (sym (drop-more records r settled h.within))
      (subst (λ attempts. length attempts ≤ 1) (sym (attempts_of-more (drop settled records) r d))
      (one d (eqb delivery d) refl));
  in_order = λ d l. attempts_of-more records r d
      ∙ ap (λ b. attempts_of records d ++ cons_option (cond b (Some a) None) [])
      (ne_eqb delivery d (λ same. absurd (omega (arith, same, l, length-append records (r ∷ []), there))))
      ∙ append-nil (attempts_of records d) ∙ h.in_order d (omega (arith, l, length-append records (r ∷ [])));
}
  where
    r : Record
    r = Outcome delivery attempt status at

    a : Attempt
    a = record { number = attempt; status = status; at = at }

    free : is_free records settled delivery ≡ true
    free = sym (free_means book records settled delivery h) ∙ takes

    there : delivery < length records
    there = below_if_accepted records delivery
        (there_if records delivery
        (and_first (is_some (accepted records delivery)) (is_in_state Pending (state_of records delivery))
        (and_first (is_pending records delivery) (eqb (length (attempts_of (drop settled records) delivery)) 0) free)))

    none : attempts_of (drop settled records) delivery ≡ []
    none = empty_if (attempts_of (drop settled records) delivery)
        (eqb-true (length (attempts_of (drop settled records) delivery)) 0
        (and_second (is_pending records delivery) (eqb (length (attempts_of (drop settled records) delivery)) 0) free))

    one : (d : ℕ) (b : Bool) → eqb delivery d ≡ b
        → length (attempts_of (drop settled records) d ++ cons_option (cond b (Some a) None) []) ≤ 1
    one d false h2 = omega (arith, h.once d, length-append (attempts_of (drop settled records) d) (cons_option None []))
    one d true h2 = omega (
      arith,
      ap length (ap (attempts_of (drop settled records)) (sym (eqb-true delivery d h2))
          ∙ none),
      length-append (attempts_of (drop settled records) d) (a ∷ []),
    )

    g : Entry → Entry
    g = at_delivery delivery (with_attempt status at)

    left : (x : Entry) → is_left settled (g x) ≡ is_left settled x
    left x = by (eqb delivery x.seq)
      where
        by : (b : Bool) → is_left settled (cond b (with_attempt status at x) x) ≡ is_left settled x
        by true = refl
        by false = refl

    was : (n : ℕ) → Accepted → Entry
    was n t = entry_for (attempts_of records) (attempts_of (take settled records)) (purged_by records) n t

    each : (n : ℕ) (t : Accepted) → entry_for (attempts_of (records ++ r ∷ [])) (attempts_of (take settled records))
        (purged_by (records ++ r ∷ [])) n t ≡ g (was n t)
    each n t = (λ i. record (was n t) {
      latest = progress_of t.at (attempts_of-more records r n i);
      taken_by =
          purged_by-same records r n refl i;
    }) ∙ pick (eqb delivery n)
      where
        pick : (b : Bool) → record
            (was n t) { latest = progress_of t.at (attempts_of records n ++ cons_option (cond b (Some a) None) []) }
            ≡ cond b (with_attempt status at (was n t)) (was n t)
        pick true = λ i. record (was n t) { latest = progress_of-append t.at (attempts_of records n) a i }
        pick false = λ i. record (was n t) { latest = progress_of t.at (append-nil (attempts_of records n) i) }

-- More records settled

drop-none : (X : Type 0) (k : ℕ) → drop {A = X} k [] ≡ []
drop-none X zero = refl
drop-none X (suc k) = refl

drop-after : {X : Type 0} (n k m : ℕ) (xs : List X) → n + k ≡ m → drop k (drop n xs) ≡ drop m xs
drop-after {X} zero k m xs e = grind arith
drop-after {X} (suc n) k zero xs e = absurd (omega (arith, e))
drop-after {X} (suc n) k (suc m) [] e = drop-none X k
drop-after {X} (suc n) k (suc m) (x ∷ xs) e = drop-after n k m xs (omega (arith, e))

pub stands_settled : (book : BookValue) (records : List Record) (settled seq : ℕ) → StandsFor book records settled
    → book.settled_seq ≤ seq → seq ≤ length records → StandsFor (with_settled book seq) records seq
stands_settled book records settled seq h up l = record {
  entries =
      (λ i. filter (is_left seq) (map (at_outcomes (waiting i) with_latest_settled) (h.entries i)))
      ∙ ap (filter (is_left seq))
      (sym (filter-changed (is_left settled) (at_outcomes middle with_latest_settled) (all_entries records settled)
      left))
      ∙ filter-weaker (is_left seq) (is_left settled)
      (map (at_outcomes middle with_latest_settled) (all_entries records settled))
      (λ x. left_earlier settled seq x.taken_by (omega (arith, total)))
      ∙ ap (filter (is_left seq))
      (sym (entries-map (attempts_of records) (attempts_of (take settled records)) (attempts_of records)
      (attempts_of (take seq records)) (purged_by records) (purged_by records)
      (at_outcomes middle with_latest_settled) each (numbered records)));
  unsettled = ap (rest_from seq) h.unsettled ∙ rest-outcomes settled k seq (drop settled records) total
      ∙ ap (outcomes_from seq) behind;
  next_seq = omega (arith, h.next_seq, l);
  settled_seq = refl;
  within = l;
  once = λ d. subst (λ some. length (attempts_of some d) ≤ 1) behind
      (omega (
        arith,
        h.once d,
        ap length (attempts_of-split (drop settled records) k d),
        length-append
            (attempts_of (take k (drop settled records)) d) (attempts_of (drop k (drop settled records)) d),
      ));
  in_order = h.in_order;
}
  where
    k : ℕ
    k = seq - settled

    total : settled + k ≡ seq
    total = omega (arith, up, h.settled_seq)

    middle : List Unsettled
    middle = outcomes_from settled (take k (drop settled records))

    waiting : front_below seq book.unsettled ≡ middle
    waiting = ap (front_below seq) h.unsettled ∙ front-outcomes settled k seq (drop settled records) total

    behind : drop k (drop settled records) ≡ drop seq records
    behind = drop-after settled k seq records total

    first : (n : ℕ) → attempts_of (take seq records) n ≡ attempts_of (take settled records) n ++ attempts_of
        (take k (drop settled records)) n
    first n = ap (λ m. attempts_of (take m records) n) (sym total) ∙ ap (λ some. attempts_of some n)
        (take-add settled k records) ∙ attempts_of-append (take settled records) (take k (drop settled records)) n

    left : (x : Entry) → is_left settled (at_outcomes middle with_latest_settled x) ≡ is_left settled x
    left x = by (list_any (λ o. eqb o.delivery x.seq) middle)
      where
        by : (b : Bool) → is_left settled (cond b (with_latest_settled x) x) ≡ is_left settled x
        by true = refl
        by false = refl

    was : (n : ℕ) → Accepted → Entry
    was n t = entry_for (attempts_of records) (attempts_of (take settled records)) (purged_by records) n t

    each : (n : ℕ) (t : Accepted) → entry_for (attempts_of records) (attempts_of (take seq records)) (purged_by records)
        n t ≡ at_outcomes middle with_latest_settled (was n t)
    each n t = pick (list_any (λ o. eqb o.delivery n) middle) (named-attempts settled (take k (drop settled records)) n)
      where
        pick : (b : Bool) → b ≡ ltb 0 (length (attempts_of (take k (drop settled records)) n))
            → entry_for (attempts_of records) (attempts_of (take seq records)) (purged_by records) n t ≡ cond b
            (with_latest_settled (was n t)) (was n t)
        pick false e = λ i. record (was n t) { settled = progress_of t.at (same i) }
          where
            same : attempts_of (take seq records) n ≡ attempts_of (take settled records) n
            same = first n ∙ ap (λ more. attempts_of (take settled records) n ++ more)
                (empty_if (attempts_of (take k (drop settled records)) n)
                (omega (arith, ltb-false 0 (length (attempts_of (take k (drop settled records)) n)) (sym e))))
                ∙ append-nil (attempts_of (take settled records) n)
        pick true e = λ i. record (was n t) { settled = progress_of t.at (same i) }
          where
            rest : attempts_of (drop k (drop settled records)) n ≡ []
            rest = empty_if (attempts_of (drop k (drop settled records)) n)
                (omega (
                  arith,
                  h.once n,
                  ltb-true 0 (length (attempts_of (take k (drop settled records)) n))
                      (sym e),
                  ap length (attempts_of-split (drop settled records) k n),
                  length-append
                      (attempts_of (take k (drop settled records)) n) (attempts_of (drop k (drop settled records)) n),
                ))

            same : attempts_of (take seq records) n ≡ attempts_of records n
            same = sym (all_earlier records seq n (subst (λ some. attempts_of some n ≡ []) behind rest))

-- A book that was made of a whole history

-- no outcome is of a delivery after the records
none_past : (records some : List Record) (d : ℕ) → AllKnown records some → length records ≤ d → attempts_of some d ≡ []
none_past records [] d known past = refl
none_past records (Put name target max secrets ∷ rest) d known past = none_past records rest d known.1 past
none_past records (Secrets name secrets ∷ rest) d known past = none_past records rest d known.1 past
none_past records (Enabled name flag ∷ rest) d known past = none_past records rest d known.1 past
none_past records (Subscribed topic name flag ∷ rest) d known past = none_past records rest d known.1 past
none_past records (Purge moment ∷ rest) d known past = none_past records rest d known.1 past
none_past records (Accept name id body at ∷ rest) d known past = none_past records rest d known.1 past
none_past records (Outcome delivery attempt status at ∷ rest) d known past =
    rw (ne_eqb delivery d (λ same. absurd (omega (arith, same, past, below_if_accepted records delivery known.0))))
    (none_past records rest d known.1 past)

pub stands_restored : (book : BookValue) (records : List Record) → IsLegal records → IsRestored book records
    → StandsFor book records (length records)
stands_restored book records legal h = record {
  entries = h.entries;
  unsettled = h.unsettled ∙ sym (ap (outcomes_from (length records)) none);
  next_seq = h.next_seq;
  settled_seq = h.settled_seq;
  within = omega arith;
  once = λ d. omega (arith, ap (λ rs. length (attempts_of rs d)) none);
  in_order = λ d past. none_past records records d (legal_known records legal) past;
}
  where
    none : drop (length records) records ≡ []
    none = empty_if (drop (length records) records) (omega (arith, length-drop (length records) records))
