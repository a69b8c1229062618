-- What stays where one entry is changed in place.
use Rattle.std.proofs.Common.{◌≡◌, ◌≢◌, ℕ, zero, suc, ◌+◌, ◌<◌, ◌≤◌, Bool, true, false, List, [], ◌∷◌, Option, Some}
use Rattle.std.proofs.Common.{None, ◌++◌, length, take, drop, map, set, get_or, refl, sym, ◌∙◌, ap, eqb, arith, cond}
use Rattle.std.proofs.Common.{⊎_elim}
use Rattle.std.specs.Prelude.{count_by, find, option_map, ◌||◌}
use Rattle.std.specs.List.{AllByRecursion, list_all, list_any}
use Rattle.std.proofs.lemmas.Bool.{eq-eqb, ne_eqb, cases_lt}
use Rattle.std.proofs.lemmas.List.{get_or-map, length-map, length-set, take-append-drop}
use Rattle.std.proofs.lemmas.List.Folds.{list_all_at, list_all_more, list_all-append, list_all-map, list_any-append}
use Rattle.std.proofs.lemmas.List.Sums.{sum_by-set, sum_by-cons, get_or-le-sum_by, count_by-le-length}
use Rattle.relay_types.specs.declared.state.State.{State}
use Rattle.relay_types.proofs.KnownLaws.{and_first, and_second, and_both}
use Rattle.relay_types.proofs.RowLaws.{find_map}
use Rattle.delivery_book.specs.declared.entry.Entry.{Entry}
use Rattle.delivery_book.specs.Progress.{Progress}
use Rattle.delivery_book.specs.declared.tally.Tally.{Tally}
use Rattle.delivery_book.specs.declared.entry.Unsettled.{Unsettled}
use Rattle.delivery_book.specs.declared.index.EventIndex.{EventIndex}
use Rattle.delivery_book.specs.Entries.{IsCaughtUp, at_delivery, entry_at, state_in, with_attempt}
use Rattle.delivery_book.specs.Entries.{with_attempt_restored, with_latest_settled}
use Rattle.delivery_book.specs.Fields.{HasRoomForAll, KeepsRoom, IsAscending, IsIndex, IsKeyed, IsTally, is_known_as}
use Rattle.delivery_book.specs.Fields.{is_numbered}
use Rattle.delivery_book.specs.Fields.{in_state, counts_for, has_room, is_among, one_of, is_counted}
use Rattle.delivery_book.proofs.Entries.{get_or-any}

-- Lists

pub all_at : {X : Type 0} (p : X → Bool) (xs : List X) (i : ℕ) (d : X) → i < length xs → list_all p xs ≡ true
    → p (get_or xs i d) ≡ true
all_at p xs i d h all = grind (arith, list_all_at)

pub all_weaker : {X : Type 0} (p q : X → Bool) (xs : List X) → ((x : X) → p x ≡ true → q x ≡ true)
    → list_all p xs ≡ true → list_all q xs ≡ true
all_weaker p q [] weaker h = refl
all_weaker p q (x ∷ xs) weaker h = and_both (q x) (list_all q xs) (weaker x (and_first (p x) (list_all p xs) h))
    (all_weaker p q xs weaker (and_second (p x) (list_all p xs) h))

pub all_set : {X : Type 0} (p : X → Bool) (xs : List X) (i : ℕ) (x : X) → p x ≡ true → list_all p xs ≡ true
    → list_all p (set xs i x) ≡ true
all_set p [] i x here h = refl
all_set p (y ∷ xs) zero x here h = and_both (p x) (list_all p xs) here (and_second (p y) (list_all p xs) h)
all_set p (y ∷ xs) (suc i) x here h = and_both (p y) (list_all p (set xs i x)) (and_first (p y) (list_all p xs) h)
    (all_set p xs i x here (and_second (p y) (list_all p xs) h))

-- the same of a part of the list
pub all_take : {X : Type 0} (p : X → Bool) (n : ℕ) (xs : List X) → list_all p xs ≡ true → list_all p (take n xs) ≡ true
all_take p n xs h = and_first (list_all p (take n xs)) (list_all p (drop n xs))
    (sym (list_all-append p (take n xs) (drop n xs)) ∙ ap (list_all p) (take-append-drop n xs) ∙ h)

pub all_drop : {X : Type 0} (p : X → Bool) (n : ℕ) (xs : List X) → list_all p xs ≡ true → list_all p (drop n xs) ≡ true
all_drop p n xs h = and_second (list_all p (take n xs)) (list_all p (drop n xs))
    (sym (list_all-append p (take n xs) (drop n xs)) ∙ ap (list_all p) (take-append-drop n xs) ∙ h)

pub count-map : {X : Type 0} (p : X → Bool) (g : X → X) (xs : List X) → ((x : X) → p (g x) ≡ p x)
    → count_by p (map g xs) ≡ count_by p xs
count-map p g [] same = refl
count-map p g (x ∷ xs) same =
    sum_by-cons (λ y. cond (p y) 1 0) (g x) (map g xs) ∙ (λ i. cond (same x i) 1 0 + count-map p g xs same i)
    ∙ sym (sum_by-cons (λ y. cond (p y) 1 0) x xs)

-- One entry

-- what holds of an entry, changed or not, holds of it where it is changed if it is that of the delivery
pub either_way : (P : Entry → Type 0) (d : ℕ) (change : Entry → Entry) (e : Entry) → P (change e) → P e
    → P (at_delivery d change e)
either_way P d change e changed same = grind arith

none_changed : (d : ℕ) (change : Entry → Entry) (entries : List Entry)
    → ((k : ℕ) (x : Entry) → k < length entries → (get_or entries k x).seq ≢ d)
    → entries ≡ map (at_delivery d change) entries
none_changed d change [] other = refl
none_changed d change (e ∷ es) other = λ i. ap (λ b. cond b (change e) e)
    (sym (ne_eqb d e.seq (λ same. other 0 e (omega arith) (sym same)))) i ∷ none_changed d change es
    (λ k x h. other (suc k) x (omega (arith, h))) i

set_changed : (d i : ℕ) (change : Entry → Entry) (entries : List Entry) (x : Entry) → i < length entries
    → get_or entries i x ≡ x → x.seq ≡ d
    → ((k : ℕ) (y : Entry) → k < length entries → k ≢ i → (get_or entries k y).seq ≢ d)
    → set entries i (change x) ≡ map (at_delivery d change) entries
set_changed d i change [] x h is same other = absurd (omega (arith, h))
set_changed d zero change (e ∷ es) x h is same other =
    (λ j. change (sym is j) ∷ es)
    ∙ (λ j. ap (λ b. cond b (change e) e) (sym (eq-eqb d e.seq (sym (ap (λ (y : Entry). y.seq) is ∙ same)))) j
    ∷ none_changed d change es (λ k y l. other (suc k) y (omega (arith, l)) (λ z. absurd (omega (arith, z)))) j)
set_changed d (suc i) change (e ∷ es) x h is same other = λ j.
    ap (λ b. cond b (change e) e)
    (sym (ne_eqb d e.seq (λ z. other 0 e (omega arith) (λ n. absurd (omega (arith, n))) (sym z)))) j
    ∷ set_changed d i change es x (omega (arith, h)) is same
    (λ k y l ne. other (suc k) y (omega (arith, l)) (λ z. ne (omega (arith, z)))) j

-- a write at the entry of a delivery changes that of the delivery, and no other
pub set_is : (d i : ℕ) (change : Entry → Entry) (entries : List Entry) (x : Entry) → IsAscending entries
    → i < length entries → x ≡ get_or entries i x → x.seq ≡ d
    → set entries i (change x) ≡ map (at_delivery d change) entries
set_is d i change entries x up h is same =
    set_changed d i change entries x h (sym is) same
    (λ k y l ne z. ⊎_elim
    (λ lt. absurd (omega (arith, up k i y lt h, z, here y)))
    (λ ge. absurd (omega (arith, up i k y (omega (arith, ge, ne)) l, z, here y)))
    (cases_lt k i))
  where
    here : (y : Entry) → (get_or entries i y).seq ≡ d
    here y = ap (λ (e : Entry). e.seq) (get_or-any entries i y x h ∙ sym is) ∙ same

-- Entries that keep their keys

abbrev pub KeepsKeys : (Entry → Entry) → Type 0
KeepsKeys g = (e : Entry) → ((g e).seq ≡ e.seq) × ((g e).name ≡ e.name) × ((g e).id ≡ e.id)

pub keeps_where : (d : ℕ) (change : Entry → Entry) → KeepsKeys change → KeepsKeys (at_delivery d change)
keeps_where d change keeps e = either_way (λ x. (x.seq ≡ e.seq) × (x.name ≡ e.name) × (x.id ≡ e.id)) d change e
    (keeps e) (refl, refl, refl)

read : (g : Entry → Entry) (entries : List Entry) (k : ℕ) (d : Entry) → KeepsKeys g → k < length (map g entries)
    → (get_or (map g entries) k d).seq ≡ (get_or entries k d).seq
read g entries k d keeps h = ap (λ (e : Entry). e.seq)
    (get_or-map g entries k d d (omega (arith, h, length-map entries g))) ∙ (keeps (get_or entries k d)).0

-- where the marks stay too, the index is that of the changed entries
pub indexed-map : (g : Entry → Entry) (index : EventIndex) (entries : List Entry) → KeepsKeys g
    → ((e : Entry) → (g e).taken_by ≡ e.taken_by) → IsIndex index entries → IsIndex index (map g entries)
indexed-map g index entries keeps same h name id =
    h name id
    ∙ sym (ap (option_map (λ (e : Entry). e.seq)) (find_map g (is_known_as name id) entries
    ∙ ap (λ p. option_map g (find p entries)) alike)
    ∙ numbers (find (is_known_as name id) entries))
  where
    alike : (λ e. is_known_as name id (g e)) ≡ is_known_as name id
    alike i e = is_known_as name id (record e { name = (keeps e).1 i; id = (keeps e).2 i; taken_by = same e i })

    numbers : (o : Option Entry) → option_map (λ (e : Entry). e.seq) (option_map g o) ≡ option_map
        (λ (e : Entry). e.seq) o
    numbers None = refl
    numbers (Some e) = ap Some (keeps e).0

pub keyed-map : (g : Entry → Entry) (entries : List Entry) (index kept : EventIndex) (next later settled n : ℕ)
    → KeepsKeys g → settled ≤ later → list_all (is_numbered later) (map g entries) ≡ true → IsIndex kept (map g entries)
    → IsKeyed entries index next settled n → IsKeyed (map g entries) kept later settled n
keyed-map g entries index kept next later settled n keeps l numbered indexed h = record {
  ascending = λ i j d lt m.
      let inside : j < length entries = omega (arith, m, length-map entries g) in
      omega (
        arith,
        read g entries i d keeps (omega (arith, lt, m)),
        read g entries j d keeps m,
        h.ascending i j d lt inside,
      );
  numbered = numbered;
  settled_next = l;
  indexed = indexed;
  settled_within = omega (arith, h.settled_within, length-map entries g);
  settled_below = λ k d m.
      omega (
        arith,
        read g entries k d keeps (omega (arith, m, h.settled_within, length-map entries g)),
        h.settled_below
            k d m,
      );
  settled_above = λ k d m o.
      omega (arith, read g entries k d keeps o, h.settled_above k d m (omega (arith, o, length-map entries g)));
}

pub all_numbered : (g : Entry → Entry) (entries : List Entry) (next later : ℕ)
    → ((e : Entry) → is_numbered next e ≡ true → is_numbered later (g e) ≡ true)
    → list_all (is_numbered next) entries ≡ true → list_all (is_numbered later) (map g entries) ≡ true
all_numbered g entries next later each all = list_all-map (is_numbered later) g entries ∙ all_weaker (is_numbered next)
    (λ e. is_numbered later (g e)) entries each all

-- The counts after one entry of an endpoint was changed, of which it then has one less and one more
pub tally-set : (tally less more : Tally) (picked : Entry → Progress) (entries : List Entry) (i : ℕ) (x y : Entry)
    → i < length entries → x ≡ get_or entries i x → y.name ≡ x.name → IsTally tally picked entries
    → ((those : Option (List ℕ)) (asked : State) → in_state asked (counts_for less those) + one_of x.name
    (state_in (picked x)) those asked ≡ in_state asked (counts_for tally those))
    → ((those : Option (List ℕ)) (asked : State) → in_state asked (counts_for more those) ≡ in_state asked
    (counts_for less those) + one_of x.name (state_in (picked y)) those asked)
    → IsTally more picked (set entries i y)
tally-set tally less more picked entries i x y h is named counts fewer again those asked = grind (arith, sum_by-set)

-- each entry is counted where it is
pub counted_once : (picked : Entry → Progress) (those : Option (List ℕ)) (x : Entry) → is_among those x.name ≡ true
    → ◌≡◌ {A = ℕ} (cond (is_counted picked those (state_in (picked x)) x) 1 0) 1
counted_once picked those x among = grind arith

pub counted_there : (tally : Tally) (picked : Entry → Progress) (entries : List Entry) (i : ℕ) (x : Entry)
    (those : Option (List ℕ)) → i < length entries → x ≡ get_or entries i x → IsTally tally picked entries
    → is_among those x.name ≡ true → 0 < in_state (state_in (picked x)) (counts_for tally those)
counted_there tally picked entries i x those h is counts among = grind (arith, get_or-le-sum_by, counted_once)

-- so there is room to count it where it comes to stand
pub room_after : (tally less : Tally) (picked : Entry → Progress) (entries : List Entry) (i : ℕ) (x y : Entry)
    (those : Option (List ℕ)) → i < length entries → x ≡ get_or entries i x → is_among those y.name ≡ true
    → IsTally tally picked entries
    → in_state (state_in (picked y)) (counts_for less those) + one_of x.name (state_in (picked x)) those
    (state_in (picked y)) ≡ in_state (state_in (picked y)) (counts_for tally those)
    → in_state (state_in (picked y)) (counts_for less those) + 1 ≤ length entries
room_after tally less picked entries i x y those h is among counts fewer =
    grind (
      arith,
      counted_once picked those y among,
      count_by-le-length (is_counted picked those (state_in (picked y))) (set entries i y),
      length-set entries i y,
      sum_by-set,
    )

-- there are no more of them than entries
pub counted_most : (tally : Tally) (picked : Entry → Progress) (entries : List Entry) (those : Option (List ℕ))
    (asked : State) → IsTally tally picked entries → in_state asked (counts_for tally those) ≤ length entries
counted_most tally picked entries those asked counts = omega
    (arith, counts those asked, count_by-le-length (is_counted picked those asked) entries)

-- the room for counts of their endpoints is still there
pub opened_still : (tally : Tally) (g : Entry → Entry) (entries : List Entry) → KeepsKeys g
    → list_all (λ e. has_room tally e.name) entries ≡ true → list_all (λ e. has_room tally e.name) (map g entries)
    ≡ true
opened_still tally g entries keeps h =
    list_all-map (λ e. has_room tally e.name) g entries ∙ all_weaker (λ e. has_room tally e.name)
    (λ e. has_room tally (g e).name) entries (λ e is. ap (has_room tally) (keeps e).1 ∙ is) h

-- the room for one more endpoint
pub room-more : (now later : Tally) (entries : List Entry) (i : ℕ) (e : Entry) → i < length entries
    → e ≡ get_or entries i e → HasRoomForAll now (take i entries) → KeepsRoom now later → has_room later e.name ≡ true
    → HasRoomForAll later (take (i + 1) entries)
room-more now later entries i e h is all stays here =
    list_all_more (λ x. has_room later x.name) entries i e h
    ∙ and_both _ _ (all_weaker (λ x. has_room now x.name) (λ x. has_room later x.name) (take i entries)
    (λ x was. stays x.name was) all)
    (ap (λ (x : Entry). has_room later x.name) (sym is) ∙ here)

-- what a search found in the list that was read, said of the entries
pub found_in : (looked entries : List Entry) (i seq : ℕ) (x : Entry) → looked ≡ entries → i < length looked
    → ((d : Entry) → entry_at looked seq ≡ Some (get_or looked i d)) → ((d : Entry) → (get_or looked i d).seq ≡ seq)
    → x ≡ get_or entries i x → (i < length entries) × (x.seq ≡ seq) × (entry_at entries seq ≡ Some x)
found_in looked entries i seq x e h found number is = grind arith

-- two reads of one entry are the same
pub read_same : (entries : List Entry) (i : ℕ) (x y : Entry) → i < length entries → x ≡ get_or entries i x
    → y ≡ get_or entries i y → x ≡ y
read_same entries i x y h is also = is ∙ get_or-any entries i x y h ∙ sym also

-- Entries that have come as far by the settled records as by all, unless an outcome of theirs waits

pub each_map : {X : Type 0} (P Q : X → Type 0) (g : X → X) (xs : List X) → ((x : X) → P x → Q (g x))
    → AllByRecursion P xs → AllByRecursion Q (map g xs)
each_map P Q g [] step h = tt
each_map P Q g (x ∷ xs) step h = (step x h.0, each_map P Q g xs step h.1)

-- the entry has no attempt, by all records and by the settled ones, and no Purge took it
abbrev pub IsFresh : Entry → Type 0
IsFresh e = (e.latest ≡ e.settled) × (e.latest.attempts ≡ 0) × (e.taken_by ≡ None)

pub caught-append : (unsettled : List Unsettled) (entries events : List Entry)
    → AllByRecursion (IsCaughtUp unsettled) entries → AllByRecursion IsFresh events
    → AllByRecursion (IsCaughtUp unsettled) (entries ++ events)
caught-append unsettled [] [] h fresh = h
caught-append unsettled [] (e ∷ events) h fresh = (λ none. fresh.0.0, caught-append unsettled [] events h fresh.1)
caught-append unsettled (x ∷ xs) events h fresh = (h.0, caught-append unsettled xs events h.1 fresh)

-- what a change at a delivery makes of each entry
caught_at : (P Q : Entry → Type 0) (d : ℕ) (change : Entry → Entry) (entries : List Entry)
    → ((e : Entry) → eqb d e.seq ≡ true → Q (change e)) → ((e : Entry) → eqb d e.seq ≡ false → P e → Q e)
    → AllByRecursion P entries → AllByRecursion Q (map (at_delivery d change) entries)
caught_at P Q d change entries own other h = each_map P Q (at_delivery d change) entries
    (λ e p. pick e p (eqb d e.seq) refl) h
  where
    pick : (e : Entry) → P e → (b : Bool) → eqb d e.seq ≡ b → Q (cond b (change e) e)
    pick e p true same = own e same
    pick e p false apart = other e apart p

pub caught-outcome : (unsettled : List Unsettled) (entries : List Entry) (seq d status at : ℕ)
    → AllByRecursion (IsCaughtUp unsettled) entries
    → AllByRecursion (IsCaughtUp (unsettled ++ record { seq = seq; delivery = d } ∷ []))
    (map (at_delivery d (with_attempt status at)) entries)
caught-outcome unsettled entries seq d status at h =
    caught_at (IsCaughtUp unsettled) (IsCaughtUp (unsettled ++ record { seq = seq; delivery = d } ∷ [])) d
    (with_attempt status at) entries
    (λ e same none. absurd (there (list_any (λ o. eqb o.delivery e.seq) unsettled) (eqb d e.seq) same
    (sym (joined e) ∙ none)))
    (λ e apart was none. was (first (list_any (λ o. eqb o.delivery e.seq) unsettled) (eqb d e.seq || false)
    (sym (joined e) ∙ none)))
    h
  where
    joined : (e : Entry) → list_any (λ o. eqb o.delivery e.seq) (unsettled ++ record { seq = seq; delivery = d } ∷ [])
        ≡ (list_any (λ o. eqb o.delivery e.seq) unsettled || (eqb d e.seq || false))
    joined e = list_any-append (λ o. eqb o.delivery e.seq) unsettled (record { seq = seq; delivery = d } ∷ [])

    there : (a b : Bool) → b ≡ true → (a || (b || false)) ≡ false → ⊥
    there true b same none = let no : true ≡ false = none in cc
    there false true same none = let no : true ≡ false = none in cc
    there false false same none = let no : false ≡ true = same in cc

    first : (a b : Bool) → (a || b) ≡ false → a ≡ false
    first true b none = none
    first false b none = refl

pub caught-restored : (unsettled : List Unsettled) (entries : List Entry) (d status at : ℕ)
    → AllByRecursion (IsCaughtUp unsettled) entries
    → AllByRecursion (IsCaughtUp unsettled) (map (at_delivery d (with_attempt_restored status at)) entries)
caught-restored unsettled entries d status at h =
    caught_at (IsCaughtUp unsettled) (IsCaughtUp unsettled) d (with_attempt_restored status at) entries
    (λ e same none. refl) (λ e apart was. was) h

pub caught-settle : (o : Unsettled) (rest : List Unsettled) (entries : List Entry)
    → AllByRecursion (IsCaughtUp (o ∷ rest)) entries
    → AllByRecursion (IsCaughtUp rest) (map (at_delivery o.delivery with_latest_settled) entries)
caught-settle o rest entries h =
    caught_at (IsCaughtUp (o ∷ rest)) (IsCaughtUp rest) o.delivery with_latest_settled entries (λ e same none. refl)
    (λ e apart was none. was (ap (λ b. b || list_any (λ p. eqb p.delivery e.seq) rest) apart ∙ none)) h
