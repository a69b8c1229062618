-- What ties the index, the counts and the room to the entries stays so when the book gives up what Purges took.
use Rattle.std.proofs.Common.{◌≡◌, ◌&&◌, ℕ, zero, suc, ◌+◌, ◌<◌, ◌≤◌, Bool, true, false, not, List, [], ◌∷◌, ◌++◌}
use Rattle.std.proofs.Common.{Option, Some, None}
use Rattle.std.proofs.Common.{length, take, get_or, append-nil, refl, sym, ◌∙◌, ap, ltb, leb, eqb, cond, arith}
use Rattle.std.proofs.Common.{true≢false}
use Rattle.std.specs.Prelude.{count_by, filter, find, option_map}
use Rattle.std.specs.List.{AllByRecursion, list_all, list_any}
use Rattle.std.specs.Option.{option_map_or}
use Rattle.std.proofs.lemmas.Bool.{eq-eqb, eqb-true, false_from_ne_true, lt-ltb, leb-false, ltb-false, not-true}
use Rattle.std.proofs.lemmas.List.Elements.{All-from_recursion, filter_more}
use Rattle.std.proofs.lemmas.List.Filters.{sum_by-filter_both}
use Rattle.std.proofs.lemmas.List.Folds.{list_any_none}
use Rattle.std.proofs.lemmas.List.Kept.{AllPairs-filter}
use Rattle.std.proofs.lemmas.List.Sums.{list_all-from_AllPass, sum_by-cons}
use Rattle.std.proofs.lemmas.List.Sums.{sum_by_push}
use Rattle.relay_types.specs.declared.state.State.{State}
use Rattle.relay_types.specs.Deliveries.{is_in_state}
use Rattle.relay_types.proofs.KnownLaws.{and_first, and_second, and_both}
use Rattle.delivery_book.specs.declared.entry.Entry.{Entry}
use Rattle.delivery_book.specs.declared.entry.Unsettled.{Unsettled}
use Rattle.delivery_book.specs.declared.index.EventIndex.{EventIndex}
use Rattle.delivery_book.specs.declared.tally.Tally.{Tally}
use Rattle.delivery_book.specs.Entries.{IsCaughtUp, entry_at, is_entry_as, is_kept, is_left, rest_from, state_in}
use Rattle.delivery_book.specs.Fields.{AreFirst, AreInOrder, FirstBelow, HasCounted, HasMore, IsBook, IsNamed}
use Rattle.delivery_book.specs.Fields.{KeepsRoom, RestFrom}
use Rattle.delivery_book.specs.Fields.{counts_for, has_room, in_state, is_among, is_counted, is_known_as, is_later}
use Rattle.delivery_book.specs.Fields.{is_in_turn, is_numbered, is_rightly_taken, is_taken_below, is_waiting}
use Rattle.delivery_book.specs.Fields.{may_wait, one_of, settled_among}
use Rattle.delivery_book.proofs.Entries.{entry_at-found, first_below, get_or-any, is_below}
use Rattle.delivery_book.proofs.Marks.{kept_left, left_before, order_from, taken_means}
use Rattle.delivery_book.proofs.Updates.{all_at, all_weaker, counted_once}

-- Lists of which a part is kept

module _ {X : Type 0} where
  pub find-filter : (p b : X → Bool) (xs : List X) → find p (filter b xs) ≡ find (λ x. b x && p x) xs
  find-filter p b [] = refl
  find-filter p b (x ∷ xs) = pick (b x) (find-filter p b xs)
    where
      pick : (a : Bool) → find p (filter b xs) ≡ find (λ y. b y && p y) xs
          → find p (cond a (x ∷ filter b xs) (filter b xs)) ≡ cond (a && p x) (Some x) (find (λ y. b y && p y) xs)
      pick true later = ap (cond (p x) (Some x)) later
      pick false later = later

  -- what is found first and kept is found first in what is kept
  pub find_kept : (p b : X → Bool) (xs : List X) (x : X) → find p xs ≡ Some x → b x ≡ true
      → find p (filter b xs) ≡ Some x
  find_kept p b [] x found kept = absurd (let f = found in cc)
  find_kept p b (y ∷ ys) x found kept = find-filter p b (y ∷ ys) ∙ pick (p y) (b y) refl found (find_kept p b ys x)
    where
      same : (a c : X) → Some a ≡ Some c → a ≡ c
      same a c e = cc

      pick : (a c : Bool) → b y ≡ c → cond a (Some y) (find p ys) ≡ Some x
          → (find p ys ≡ Some x → b x ≡ true → find p (filter b ys) ≡ Some x)
          → cond (c && a) (Some y) (find (λ z. b z && p z) ys) ≡ Some x
      pick true true is e later = e
      pick true false is e later = absurd (true≢false (sym kept ∙ ap b (sym (same y x e)) ∙ is))
      pick false true is e later = sym (find-filter p b ys) ∙ later e kept
      pick false false is e later = sym (find-filter p b ys) ∙ later e kept

  pub all-filter : (p b : X → Bool) (xs : List X) → list_all p xs ≡ true → list_all p (filter b xs) ≡ true
  all-filter p b [] h = refl
  all-filter p b (x ∷ xs) h =
      pick (b x) (and_first (p x) (list_all p xs) h) (all-filter p b xs (and_second (p x) (list_all p xs) h))
    where
      pick : (a : Bool) → p x ≡ true → list_all p (filter b xs) ≡ true
          → list_all p (cond a (x ∷ filter b xs) (filter b xs)) ≡ true
      pick true here later = and_both (p x) _ here later
      pick false here later = later

  -- what holds at each place where the test passes holds of each that is kept
  pub each-filter : (P : X → Type 0) (b : X → Bool) (xs : List X)
      → ((k : ℕ) (d : X) → k < length xs → b (get_or xs k d) ≡ true → P (get_or xs k d))
      → AllByRecursion P (filter b xs)
  each-filter P b [] at = tt
  each-filter P b (x ∷ xs) at =
      pick (b x) refl (each-filter P b xs (λ k d l is. at (suc k) d (omega (arith, l)) is))
    where
      pick : (a : Bool) → b x ≡ a → AllByRecursion P (filter b xs)
          → AllByRecursion P (cond a (x ∷ filter b xs) (filter b xs))
      pick true is later = (at zero x (omega arith) is, later)
      pick false is later = later

  -- a test that passes only where another does
  pub filter_inner : (p q : X → Bool) (xs : List X)
      → ((k : ℕ) (d : X) → k < length xs → p (get_or xs k d) ≡ true → q (get_or xs k d) ≡ true)
      → filter p (filter q xs) ≡ filter p xs
  filter_inner p q [] at = refl
  filter_inner p q (x ∷ xs) at =
      pick (q x) (p x) refl (λ is. at zero x (omega arith) is)
      (filter_inner p q xs (λ k d l is. at (suc k) d (omega (arith, l)) is))
    where
      pick : (a c : Bool) → p x ≡ c → (p x ≡ true → a ≡ true) → filter p (filter q xs) ≡ filter p xs
          → filter p (cond a (x ∷ filter q xs) (filter q xs)) ≡ cond c (x ∷ filter p xs) (filter p xs)
      pick true true is passes later = ap (λ e. cond e (x ∷ filter p (filter q xs)) (filter p (filter q xs))) is ∙ ap
          (λ ys. x ∷ ys) later
      pick true false is passes later = ap (λ e. cond e (x ∷ filter p (filter q xs)) (filter p (filter q xs)))
          is ∙ later
      pick false true is passes later = absurd (true≢false (sym (passes is)))
      pick false false is passes later = later

  pub filter_swap : (p q : X → Bool) (xs : List X) → filter p (filter q xs) ≡ filter q (filter p xs)
  filter_swap p q [] = refl
  filter_swap p q (x ∷ xs) = pick (p x) (q x) refl refl (filter_swap p q xs)
    where
      pick : (a c : Bool) → p x ≡ a → q x ≡ c → filter p (filter q xs) ≡ filter q (filter p xs)
          → filter p (cond c (x ∷ filter q xs) (filter q xs)) ≡ filter q (cond a (x ∷ filter p xs) (filter p xs))
      pick true true i j later =
          (λ t. cond (i t) (x ∷ filter p (filter q xs)) (filter p (filter q xs)))
          ∙ ap (λ ys. x ∷ ys) later
          ∙ sym (λ t. cond (j t) (x ∷ filter q (filter p xs)) (filter q (filter p xs)))
      pick true false i j later = later ∙ sym (λ t. cond (j t) (x ∷ filter q (filter p xs)) (filter q (filter p xs)))
      pick false true i j later = (λ t. cond (i t) (x ∷ filter p (filter q xs)) (filter p (filter q xs))) ∙ later
      pick false false i j later = later

  pub filter_none : (p : X → Bool) (xs : List X) → list_all p xs ≡ true → filter p xs ≡ xs
  filter_none p [] all = refl
  filter_none p (x ∷ xs) all =
      (λ t. cond (and_first (p x) (list_all p xs) all t) (x ∷ filter p xs) (filter p xs))
      ∙ ap (λ ys. x ∷ ys) (filter_none p xs (and_second (p x) (list_all p xs) all))

  -- those that are kept and those that aren't
  pub count_parts : (t b : X → Bool) (xs : List X)
      → count_by t (filter (λ x. not (b x)) xs) + count_by t (filter b xs) ≡ count_by t xs
  count_parts t b xs =
      sum_by-filter_both (λ x. not (b x)) b (λ x. twice (b x)) (λ x. cond (t x) 1 0) xs
    where
      twice : (a : Bool) → a ≡ not (not a)
      twice true = refl
      twice false = refl

  -- at a step of a loop over those that pass
  pub filter_yes : (p : X → Bool) (xs : List X) (i : ℕ) (x : X) → i < length xs → x ≡ get_or xs i x → p x ≡ true
      → filter p (take (i + 1) xs) ≡ filter p (take i xs) ++ x ∷ []
  filter_yes p xs i x h is passed =
      filter_more p xs i x h ∙ (λ t. filter p (take i xs) ++ cond ((ap p (sym is) ∙ passed) t) (sym is t ∷ []) [])

  pub filter_no : (p : X → Bool) (xs : List X) (i : ℕ) (x : X) → i < length xs → x ≡ get_or xs i x → p x ≡ false
      → filter p (take (i + 1) xs) ≡ filter p (take i xs)
  filter_no p xs i x h is failed =
      filter_more p xs i x h
      ∙ (λ t. filter p (take i xs) ++ cond ((ap p (sym is) ∙ failed) t) (get_or xs i x ∷ []) [])
      ∙ append-nil (filter p (take i xs))

  -- in a part of the list no more of them are counted
  count_part : (t p : X → Bool) (xs : List X) (n : ℕ) → count_by t (filter p (take n xs)) ≤ count_by t (filter p xs)
  count_part t p [] zero = omega arith
  count_part t p [] (suc n) = omega arith
  count_part t p (x ∷ xs) zero = omega arith
  count_part t p (x ∷ xs) (suc n) = pick (p x) (count_part t p xs n)
    where
      pick : (a : Bool) → count_by t (filter p (take n xs)) ≤ count_by t (filter p xs)
          → count_by t (cond a (x ∷ filter p (take n xs)) (filter p (take n xs)))
          ≤ count_by t (cond a (x ∷ filter p xs) (filter p xs))
      pick true less =
          omega (
            arith,
            less,
            sum_by-cons (λ y. cond (t y) 1 0) x (filter p (take n xs)),
            sum_by-cons (λ y. cond (t y) 1 0) x (filter p xs),
          )
      pick false less = less

-- Counting out what settled Purges took

module _ (entries : List Entry) (seq i : ℕ) (e : Entry) (h : i < length entries) (is : e ≡ get_or entries i e) where
  one_more : is_taken_below seq e ≡ true → (those : Option (List ℕ)) (asked : State)
      → settled_among (filter (is_taken_below seq) (take (i + 1) entries)) those asked
      ≡ settled_among (filter (is_taken_below seq) (take i entries)) those asked + one_of e.name (state_in e.settled)
      those asked
  one_more passed those asked =
      ap (λ es. settled_among es those asked) (filter_yes (is_taken_below seq) entries i e h is passed)
      ∙ sum_by_push (λ x. cond (is_counted (λ y. y.settled) those asked x) 1 0)
      (filter (is_taken_below seq) (take i entries)) e

  pub gone_more : (old now later : Tally) → is_taken_below seq e ≡ true
      → HasMore now (settled_among (filter (is_taken_below seq) (take i entries))) old
      → HasMore later (one_of e.name (state_in e.settled)) now
      → HasMore later (settled_among (filter (is_taken_below seq) (take (i + 1) entries))) old
  gone_more old now later passed was fewer those asked =
      omega (arith, was those asked, fewer those asked, one_more passed those asked)

  pub gone_same : (old now : Tally) → is_taken_below seq e ≡ false
      → HasMore now (settled_among (filter (is_taken_below seq) (take i entries))) old
      → HasMore now (settled_among (filter (is_taken_below seq) (take (i + 1) entries))) old
  gone_same old now failed was those asked =
      was those asked
      ∙ ap (λ es. in_state asked (counts_for now those) + settled_among es those asked)
      (sym (filter_no (is_taken_below seq) entries i e h is failed))

  -- each of them is still counted
  pub gone_there : (old now : Tally) → is_taken_below seq e ≡ true
      → HasMore now (settled_among (filter (is_taken_below seq) (take i entries))) old
      → HasCounted old (filter (is_taken_below seq) entries)
      → (those : Option (List ℕ)) → is_among those e.name ≡ true
      → 0 < in_state (state_in e.settled) (counts_for now those)
  gone_there old now passed was counted those among =
      omega (
        arith,
        was those (state_in e.settled),
        counted those (state_in e.settled),
        one_more passed those (state_in e.settled),
        counted_once (λ x. x.settled) those e among,
        count_part (is_counted (λ x. x.settled) those (state_in e.settled)) (is_taken_below seq) entries (i + 1),
      )

-- The first outcome that waits

-- where none in front is below a number, the first isn't
first_from : (seq : ℕ) (unsettled : List Unsettled) (d : Unsettled) → rest_from seq unsettled ≡ unsettled
    → 0 < length unsettled → seq ≤ (get_or unsettled 0 d).seq
first_from seq [] d rest h = absurd (omega (arith, h))
first_from seq (o ∷ os) d rest h = pick (ltb o.seq seq) refl rest
  where
    shorter : (some : List Unsettled) → length (rest_from seq some) ≤ length some
    shorter [] = omega arith
    shorter (x ∷ xs) = choose (ltb x.seq seq) (shorter xs)
      where
        choose : (b : Bool) → length (rest_from seq xs) ≤ length xs
            → length (cond b (rest_from seq xs) (x ∷ xs)) ≤ length (x ∷ xs)
        choose true less = omega (arith, less)
        choose false less = omega arith

    pick : (b : Bool) → ltb o.seq seq ≡ b → cond b (rest_from seq os) (o ∷ os) ≡ o ∷ os → seq ≤ o.seq
    pick true is e = absurd (omega (arith, ap length e, shorter os))
    pick false is e = ltb-false o.seq seq is

pub none_below : (seq next : ℕ) (unsettled : List Unsettled) → AreInOrder unsettled next
    → rest_from seq unsettled ≡ unsettled → (k : ℕ) (d : Unsettled) → k < length unsettled
    → seq ≤ (get_or unsettled k d).seq
none_below seq next unsettled order rest k d l =
    order_from unsettled next seq k d order (first_from seq unsettled d rest (omega (arith, l))) l

-- What a settled Purge took

module _ (entries : List Entry) (index : EventIndex) (tally settled_tally : Tally) (unsettled : List Unsettled)
    (room next settled n : ℕ) (first : Option ℕ)
    (h : IsBook entries index tally settled_tally unsettled room next settled n first)
    (waits : (k : ℕ) (d : Unsettled) → k < length unsettled → settled ≤ (get_or unsettled k d).seq) where
  abbrev gone : List Entry
  gone = filter (is_taken_below settled) entries

  abbrev pub left : List Entry
  left = filter (is_left settled) entries

  -- no outcome of it waits
  quiet : (k : ℕ) (d : Entry) → k < length entries → is_taken_below settled (get_or entries k d) ≡ true
      → list_any (λ o. eqb o.delivery (get_or entries k d).seq) unsettled ≡ false
  quiet k d l is =
      list_any_none (λ (o : Unsettled). eqb o.delivery (get_or entries k d).seq) unsettled
      (λ j c m. false_from_ne_true (eqb (get_or unsettled j c).delivery (get_or entries k d).seq)
      (λ same. here j c m (eqb-true (get_or unsettled j c).delivery (get_or entries k d).seq same)))
    where
      here : (j : ℕ) (c : Unsettled) → j < length unsettled
          → (get_or unsettled j c).delivery ≡ (get_or entries k d).seq → ⊥
      here j c m same =
          let o = get_or unsettled j c in
          let e = get_or entries k d in
          let found : entry_at entries o.delivery ≡ Some e =
          entry_at-found entries o.delivery k d l
          (λ i x lt. omega (
            arith,
            h.keyed.ascending i k x lt l,
            ap (λ (y : Entry). y.seq) (get_or-any entries k x d l),
            same,
          ))
          (sym same) in
          let late = all_at (is_later entries) unsettled j c m h.queue.later in
          let kept : is_left o.seq e ≡ true =
          sym (ap (λ f. option_map_or (is_left o.seq) f false) found)
          ∙ and_first (option_map_or (is_left o.seq) (entry_at entries o.delivery) false) (ltb o.delivery o.seq) late in
          true≢false (sym is ∙ ap not (left_before settled o.seq e (waits j c m) kept))

  caught : AllByRecursion (λ e. e.latest ≡ e.settled) gone
  caught =
      each-filter (λ e. e.latest ≡ e.settled) (is_taken_below settled) entries
      (λ k d l is. All-from_recursion (IsCaughtUp unsettled) entries h.queue.caught_up k d l (quiet k d l is))

  alike : (those : Option (List ℕ)) (asked : State) (some : List Entry)
      → AllByRecursion (λ e. e.latest ≡ e.settled) some
      → settled_among some those asked ≡ count_by (is_counted (λ e. e.latest) those asked) some
  alike those asked [] same = refl
  alike those asked (e ∷ es) same =
      sum_by-cons (λ x. cond (is_counted (λ y. y.settled) those asked x) 1 0) e es
      ∙ (λ i. cond (is_among those e.name && is_in_state asked (state_in (sym same.0 i))) 1 0 + alike those asked es
      same.1 i)
      ∙ sym (sum_by-cons (λ x. cond (is_counted (λ y. y.latest) those asked x) 1 0) e es)

  none_waits : (some : List Entry) → AllByRecursion (λ e. e.latest ≡ e.settled) some → count_by is_waiting some ≡ 0
  none_waits [] same = refl
  none_waits (e ∷ es) same =
      sum_by-cons (λ x. cond (is_waiting x) 1 0) e es
      ∙ (λ i. cond (not (eqb e.latest.attempts (sym same.0 i).attempts)) 1 0 + none_waits es same.1 i)
      ∙ ap (λ b. cond (not b) 1 0 + 0) (eq-eqb e.latest.attempts e.latest.attempts refl)

  -- the settled entries are those below the settled number, before and after
  settled_part : take n entries ≡ filter (is_below settled) entries
  settled_part = first_below entries settled n h.keyed.settled_within h.keyed.settled_below h.keyed.settled_above

  -- what a settled Purge took is settled
  gone_below : filter (is_taken_below settled) (take n entries) ≡ gone
  gone_below =
      ap (filter (is_taken_below settled)) settled_part
      ∙ filter_inner (is_taken_below settled) (is_below settled) entries (λ k d l is.
      earlier (get_or entries k d) (all_at (is_rightly_taken next) entries k d l h.marks.taken) is)
    where
      earlier : (e : Entry) → is_rightly_taken next e ≡ true → is_taken_below settled e ≡ true
          → is_below settled e ≡ true
      earlier e right is = pick e.taken_by refl is
        where
          pick : (o : Option ℕ) → e.taken_by ≡ o → not (option_map_or (leb settled) o true) ≡ true
              → is_below settled e ≡ true
          pick None by past = absurd (true≢false (sym past))
          pick (Some p) by past =
              lt-ltb e.seq settled
              (omega (arith, (taken_means next p e right by).0, leb-false settled p (not-true (leb settled p) past)))

  pub taken_counted : HasCounted tally gone
  taken_counted those asked =
      omega (
        arith,
        alike those asked gone caught,
        count_parts (is_counted (λ e. e.latest) those asked) (is_left settled) entries,
        h.latest those asked,
      )

  pub taken_settled : HasCounted settled_tally gone
  taken_settled those asked =
      omega (
        arith,
        ap (λ es. settled_among es those asked) gone_below,
        count_parts (is_counted (λ e. e.settled) those asked) (is_left settled) (take n entries),
        h.settled those asked,
      )

  pub book-swept : (counted settled_counted : Tally) (more_room m : ℕ) (later : Option ℕ)
      → HasMore counted (settled_among gone) tally → HasMore settled_counted (settled_among gone) settled_tally
      → KeepsRoom settled_tally settled_counted → room ≤ more_room → m ≤ length left
      → FirstBelow m settled left → RestFrom m settled left → AreFirst later left → IsNamed later left
      → IsBook left index counted settled_counted unsettled more_room next settled m later
  book-swept counted settled_counted more_room m later fewer settled_fewer stays enough within under over firsts named =
      record {
        keyed = record {
          ascending = AllPairs-filter (λ (a b : Entry). a.seq < b.seq) (is_left settled) entries h.keyed.ascending;
          numbered = all-filter (is_numbered next) (is_left settled) entries h.keyed.numbered;
          settled_next = h.keyed.settled_next;
          indexed = λ name id. h.keyed.indexed name id
              ∙ ap (option_map (λ (e : Entry). e.seq))
              (sym (find-filter (is_known_as name id) (is_left settled) entries
              ∙ ap (λ p. find p entries) (λ t e. known_left name id e t)));
          settled_within = within;
          settled_below = under;
          settled_above = over;
        };
        latest = λ those asked. omega (
          arith,
          fewer those asked,
          alike those asked gone caught,
          count_parts (is_counted (λ e. e.latest) those asked) (is_left settled) entries,
          h.latest those asked,
        );
        settled = λ those asked. omega (
          arith,
          settled_fewer those asked,
          ap (λ es. settled_among es those asked) gone_below,
          ap (λ es. settled_among es those asked) left_below,
          count_parts (is_counted (λ e. e.settled) those asked) (is_left settled) (take n entries),
          h.settled those asked,
        );
        opened = all-filter (λ e. has_room settled_counted e.name) (is_left settled) entries
            (all_weaker (λ e. has_room settled_tally e.name) (λ e. has_room settled_counted e.name) entries
            (λ e is. stays e.name is) h.opened);
        queue = record {
          later = list_all-from_AllPass (is_later left) unsettled
              (λ k d l. still_later (get_or unsettled k d) (waits k d l)
              (all_at (is_later entries) unsettled k d l h.queue.later));
          counted = omega (
            arith,
            h.queue.counted,
            none_waits gone caught,
            count_parts is_waiting (is_left settled) entries,
          );
          caught_up = each-filter (IsCaughtUp unsettled) (is_left settled) entries
              (λ k d l is. All-from_recursion (IsCaughtUp unsettled) entries h.queue.caught_up k d l);
          in_turn = all-filter is_in_turn (is_left settled) entries h.queue.in_turn;
          room = omega (
            arith,
            h.queue.room,
            enough,
            count_parts may_wait (is_left settled) entries,
          );
        };
        order = h.order;
        marks = record {
          apart = AllPairs-filter (λ (a b : Entry). is_entry_as b.name b.id a ≡ true → is_taken_below b.seq a ≡ true)
              (is_left settled) entries h.marks.apart;
          taken = all-filter (is_rightly_taken next) (is_left settled) entries h.marks.taken;
          first = firsts;
          named = named;
        };
      }
    where
      known_left : (name id : List ℕ) (e : Entry)
          → is_left settled e && is_known_as name id e ≡ is_known_as name id e
      known_left name id e = pick (is_left settled e) (is_entry_as name id e) (is_kept e) (kept_left settled e)
        where
          pick : (a b c : Bool) → (c ≡ true → a ≡ true) → a && (b && c) ≡ b && c
          pick true b c kept = refl
          pick false true true kept = absurd (true≢false (sym (kept refl)))
          pick false true false kept = refl
          pick false false c kept = refl

      left_below : filter (is_left settled) (take n entries) ≡ take m left
      left_below =
          ap (filter (is_left settled)) settled_part
          ∙ filter_swap (is_left settled) (is_below settled) entries
          ∙ sym (first_below left settled m within under over)

      still_later : (o : Unsettled) → settled ≤ o.seq → is_later entries o ≡ true → is_later left o ≡ true
      still_later o from late =
          and_both _ _
          (pick (entry_at entries o.delivery) refl
          (and_first (option_map_or (is_left o.seq) (entry_at entries o.delivery) false) (ltb o.delivery o.seq) late))
          (and_second (option_map_or (is_left o.seq) (entry_at entries o.delivery) false) (ltb o.delivery o.seq) late)
        where
          pick : (f : Option Entry) → entry_at entries o.delivery ≡ f → option_map_or (is_left o.seq) f false ≡ true
              → option_map_or (is_left o.seq) (entry_at left o.delivery) false ≡ true
          pick None found is = absurd (true≢false (sym is))
          pick (Some e) found is =
              ap (λ f. option_map_or (is_left o.seq) f false)
              (find_kept (λ (x : Entry). eqb x.seq o.delivery) (is_left settled) entries e found
              (left_before settled o.seq e from is))
              ∙ is
