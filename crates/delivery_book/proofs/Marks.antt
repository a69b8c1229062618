-- What stays of the marks of Purges, and of the order of the outcomes that wait, as the book changes.
use Rattle.std.proofs.Common.{◌≡◌, ◌⊎◌, ℕ, zero, suc, ◌+◌, ◌-◌, ◌<◌, ◌≤◌, ◌&&◌, ◌||◌, Bool, true, false, not}
use Rattle.std.proofs.Common.{List, [], ◌∷◌, ◌++◌}
use Rattle.std.proofs.Common.{Option, Some, None}
use Rattle.std.proofs.Common.{length, map, take, drop, set, get_or, append-nil, refl, sym, ◌∙◌, ap, subst, arith, eqb}
use Rattle.std.proofs.Common.{leb, ltb, cond, true≢false}
use Rattle.std.proofs.Common.{⊎_elim, length-append}
use Rattle.std.specs.Prelude.{find, is_some, option_map, bytes_eq}
use Rattle.std.specs.Bool.{then_some}
use Rattle.std.specs.List.{AllByRecursion, AllPairs, list_all, list_any}
use Rattle.std.specs.Option.{option_map_or}
use Rattle.std.proofs.lemmas.Bool.{eq-eqb, le-leb, lt-leb, leb-true, lt-ltb, ltb-true, cases_lt, or_left, or_right}
use Rattle.std.proofs.lemmas.List.{drop_all, get_or-map, length-map, get_or_append_left, get_or-append_right, take_all}
use Rattle.std.proofs.lemmas.List.Folds.{list_all-append, list_all-map, list_any-append, list_any_kept, list_any_more}
use Rattle.std.proofs.lemmas.List.Quantifiers.{all_pairs_push}
use Rattle.relay_types.specs.declared.state.State.TheVariants.{Pending}
use Rattle.relay_types.specs.Deliveries.{is_in_state}
use Rattle.relay_types.proofs.KnownLaws.{and_first, and_second, and_both}
use Rattle.relay_types.proofs.RowLaws.{find_map}
use Rattle.delivery_book.specs.declared.entry.Entry.{Entry}
use Rattle.delivery_book.specs.declared.entry.Unsettled.{Unsettled}
use Rattle.delivery_book.specs.Entries.{entry_at, is_done_before, is_entry_as, is_kept, is_left, marked, state_in}
use Rattle.delivery_book.specs.Fields.{AreApart, AreInOrder, AreMarked, IsNamed, is_later, is_not_before}
use Rattle.delivery_book.specs.Fields.{is_rightly_taken, is_taken_below, is_taken_by}
use Rattle.delivery_book.proofs.Updates.{KeepsKeys, all_at, all_weaker}

-- where a test passes before a change, another passes after it
any-changed : (p q : Entry → Bool) (g : Entry → Entry) (entries : List Entry)
    → ((e : Entry) → p e ≡ true → q (g e) ≡ true) → list_any p entries ≡ true → list_any q (map g entries) ≡ true
any-changed p q g [] step h = absurd (true≢false (sym h))
any-changed p q g (e ∷ es) step h = pick (p e) refl h (any-changed p q g es step)
  where
    pick : (b : Bool) → p e ≡ b → b || list_any p es ≡ true
        → (list_any p es ≡ true → list_any q (map g es) ≡ true) → q (g e) || list_any q (map g es) ≡ true
    pick true is any others = or_left (q (g e)) _ (step e is)
    pick false is any others = or_right (q (g e)) _ (others any)

-- Tests of one entry

pub left_before : (low high : ℕ) (e : Entry) → low ≤ high → is_left high e ≡ true → is_left low e ≡ true
left_before low high e h is = pick e.taken_by is
  where
    pick : (o : Option ℕ) → option_map_or (leb high) o true ≡ true → option_map_or (leb low) o true ≡ true
    pick None left = refl
    pick (Some p) left = le-leb low p (omega (arith, h, leb-true high p left))

pub kept_left : (seq : ℕ) (e : Entry) → is_kept e ≡ true → is_left seq e ≡ true
kept_left seq e is = pick e.taken_by is
  where
    pick : (o : Option ℕ) → not (is_some o) ≡ true → option_map_or (leb seq) o true ≡ true
    pick None kept = refl
    pick (Some p) kept = absurd (true≢false (sym kept))

kept_not_before : (first : Option ℕ) (e : Entry) → is_kept e ≡ true → is_not_before first e ≡ true
kept_not_before None e is = is
kept_not_before (Some p) e is = kept_left p e is

-- the test, of the parts that it looks at
abbrev is_right : (seq next : ℕ) (is_pending : Bool) → Option ℕ → Bool
is_right seq next is_pending taken = option_map_or (λ p. ltb seq p && (ltb p next && not is_pending)) taken true

-- what it tells of an entry that was taken
pub taken_means : (next p : ℕ) (e : Entry) → is_rightly_taken next e ≡ true → e.taken_by ≡ Some p
    → (e.seq < p) × (p < next) × (not (is_in_state Pending (state_in e.latest)) ≡ true)
taken_means next p e is by =
    let all : ltb e.seq p && (ltb p next && not (is_in_state Pending (state_in e.latest))) ≡ true =
    sym (ap (is_right e.seq next (is_in_state Pending (state_in e.latest))) by) ∙ is in
    let rest = and_second (ltb e.seq p) _ all in (
      ltb-true e.seq p (and_first _ _ all),
      ltb-true p next (and_first (ltb p next) _ rest),
      and_second
          (ltb p next) _ rest,
    )

right_later : (seq next later : ℕ) (is_pending : Bool) (taken : Option ℕ) → next ≤ later
    → is_right seq next is_pending taken ≡ true → is_right seq later is_pending taken ≡ true
right_later seq next later is_pending None h is = refl
right_later seq next later is_pending (Some p) h is =
    let rest = and_second (ltb seq p) (ltb p next && not is_pending) is in
    and_both _ _ (and_first (ltb seq p) (ltb p next && not is_pending) is)
    (and_both _ _ (lt-ltb p later (omega (arith, h, ltb-true p next (and_first (ltb p next) (not is_pending) rest))))
    (and_second (ltb p next) (not is_pending) rest))

pub taken_later : (next later : ℕ) (e : Entry) → next ≤ later → is_rightly_taken next e ≡ true
    → is_rightly_taken later e ≡ true
taken_later next later e h is =
    right_later e.seq next later (is_in_state Pending (state_in e.latest)) e.taken_by h is

pub kept_right : (next : ℕ) (e : Entry) → is_kept e ≡ true → is_rightly_taken next e ≡ true
kept_right next e is = pick e.taken_by is
  where
    pick : (o : Option ℕ) → not (is_some o) ≡ true → is_right e.seq next (is_in_state Pending (state_in e.latest)) o
        ≡ true
    pick None kept = refl
    pick (Some p) kept = absurd (true≢false (sym kept))

-- a delivery that is pending is kept
pub pending_kept : (next : ℕ) (e : Entry) → is_rightly_taken next e ≡ true → state_in e.latest ≡ Pending
    → is_kept e ≡ true
pending_kept next e is pending =
    pick e.taken_by (ap (λ s. is_right e.seq next (is_in_state Pending s) e.taken_by) (sym pending) ∙ is)
  where
    pick : (o : Option ℕ) → is_right e.seq next true o ≡ true → not (is_some o) ≡ true
    pick None right = refl
    pick (Some p) right = absurd (true≢false (sym (and_second (ltb p next) false (and_second (ltb e.seq p) _ right))))

pub fresh_kept : (e : Entry) → e.taken_by ≡ None → is_kept e ≡ true
fresh_kept e none = ap (λ (o : Option ℕ). not (is_some o)) none

gone_below : (next seq : ℕ) (e : Entry) → is_kept e ≡ false → is_rightly_taken next e ≡ true → next ≤ seq
    → is_taken_below seq e ≡ true
gone_below next seq e gone is h = pick e.taken_by gone is
  where
    pick : (o : Option ℕ) → not (is_some o) ≡ false → is_right e.seq next (is_in_state Pending (state_in e.latest)) o
        ≡ true
        → not (option_map_or (leb seq) o true) ≡ true
    pick None none right = absurd (true≢false none)
    pick (Some p) none right =
        let below = and_first (ltb p next) _ (and_second (ltb e.seq p) _ right) in
        ap not (lt-leb seq p (omega (arith, h, ltb-true p next below)))

none_there : (b : Bool) (x : Entry) (o : Option Entry) → cond b (Some x) o ≡ None → (b ≡ false) × (o ≡ None)
none_there true x o e = absurd (let f = e in cc)
none_there false x o e = (refl, e)

-- an event that isn't known has no entry but those that were taken
pub unknown_taken : (name id : List ℕ) (entries : List Entry) (next seq k : ℕ) (d : Entry)
    → find (λ e. is_entry_as name id e && is_kept e) entries ≡ None → list_all (is_rightly_taken next) entries ≡ true
    → next ≤ seq → k < length entries → is_entry_as name id (get_or entries k d) ≡ true
    → is_taken_below seq (get_or entries k d) ≡ true
unknown_taken name id [] next seq k d none right h l same = absurd (omega (arith, l))
unknown_taken name id (x ∷ xs) next seq zero d none right h l same =
    gone_below next seq x
    (not_kept (is_entry_as name id x) (is_kept x) (none_there (is_entry_as name id x && is_kept x) x _ none).0 same)
    (and_first (is_rightly_taken next x) _ right) h
  where
    not_kept : (a b : Bool) → a && b ≡ false → a ≡ true → b ≡ false
    not_kept true b e is = e
    not_kept false b e is = absurd (true≢false (sym is))
unknown_taken name id (x ∷ xs) next seq (suc k) d none right h l same =
    unknown_taken name id xs next seq k d (none_there (is_entry_as name id x && is_kept x) x _ none).1
    (and_second (is_rightly_taken next x) _ right) h (omega (arith, l)) same

-- One entry of an event was taken before the next came.

-- what the change of each entry leaves of it
abbrev pub KeepsTaken : (Entry → Entry) → Type 0
KeepsTaken g = (e : Entry) (seq : ℕ) → is_taken_below seq e ≡ true → is_taken_below seq (g e) ≡ true

pub keeps_taken_if : (g : Entry → Entry) → ((e : Entry) → (g e).taken_by ≡ e.taken_by) → KeepsTaken g
keeps_taken_if g same e seq is = ap (λ o. not (option_map_or (leb seq) o true)) (same e) ∙ is

pub apart-map : (g : Entry → Entry) (entries : List Entry) → KeepsKeys g → KeepsTaken g → AreApart entries
    → AreApart (map g entries)
apart-map g entries keeps taken h i j d lt l same =
    let inside : j < length entries = omega (arith, l, length-map entries g) in
    let first : get_or (map g entries) i d ≡ g (get_or entries i d) =
    get_or-map g entries i d d (omega (arith, inside, lt)) in
    let second : get_or (map g entries) j d ≡ g (get_or entries j d) = get_or-map g entries j d d inside in
    let a = get_or entries i d in
    let b = get_or entries j d in
    let was : is_entry_as b.name b.id a ≡ true =
    sym (λ t. bytes_eq ((ap (λ (x : Entry). x.name) first ∙ (keeps a).1) t)
    ((ap (λ (x : Entry). x.name) second ∙ (keeps b).1) t)
    && bytes_eq ((ap (λ (x : Entry). x.id) first ∙ (keeps a).2) t) ((ap (λ (x : Entry). x.id) second ∙ (keeps b).2) t))
    ∙ same in
    (λ t. is_taken_below ((ap (λ (x : Entry). x.seq) second ∙ (keeps b).0) t) (first t))
    ∙ taken a b.seq (h i j d lt inside was)

pub apart-append : (entries events : List Entry) → AreApart entries
    → ((i j : ℕ) (d : Entry) → i < length entries → j < length events
    → is_entry_as (get_or events j d).name (get_or events j d).id (get_or entries i d) ≡ true
    → is_taken_below (get_or events j d).seq (get_or entries i d) ≡ true)
    → AllPairs (λ a b. is_entry_as b.name b.id a ≡ false) events → AreApart (entries ++ events)
apart-append entries events h between new i j d lt l =
    ⊎_elim
    (λ near.
    let first = get_or_append_left entries events d i (omega (arith, lt, near)) in
    let second = get_or_append_left entries events d j near in
    at (get_or (entries ++ events) i d) (get_or entries i d) (get_or (entries ++ events) j d) (get_or entries j d) first
    second
    (h i j d lt near))
    (λ far. ⊎_elim
    (λ near.
    let first = get_or_append_left entries events d i near in
    let second = get_or-append_right entries events (length entries) j d refl far in
    at (get_or (entries ++ events) i d) (get_or entries i d) (get_or (entries ++ events) j d)
    (get_or events (j - length entries) d)
    first second (between i (j - length entries) d near (omega (arith, far, l, length-append entries events))))
    (λ beyond.
    let first = get_or-append_right entries events (length entries) i d refl beyond in
    let second = get_or-append_right entries events (length entries) j d refl far in
    at (get_or (entries ++ events) i d) (get_or events (i - length entries) d) (get_or (entries ++ events) j d)
    (get_or events (j - length entries) d) first second
    (λ same. absurd (true≢false (sym same ∙ new (i - length entries) (j - length entries) d (omega (arith, lt, beyond))
    (omega (arith, far, l, length-append entries events))))))
    (cases_lt i (length entries)))
    (cases_lt j (length entries))
  where
    at : (a x b y : Entry) → a ≡ x → b ≡ y
        → (is_entry_as y.name y.id x ≡ true → is_taken_below y.seq x ≡ true)
        → is_entry_as b.name b.id a ≡ true → is_taken_below b.seq a ≡ true
    at a x b y first second says same =
        (λ t. is_taken_below (second t).seq (first t))
        ∙ says ((λ t. is_entry_as (sym second t).name (sym second t).id (sym first t)) ∙ same)

-- Outcomes that wait

pub entry_at-mapped : (g : Entry → Entry) (entries : List Entry) (seq : ℕ) → KeepsKeys g
    → entry_at (map g entries) seq ≡ option_map g (entry_at entries seq)
entry_at-mapped g entries seq keeps =
    find_map g (λ e. eqb e.seq seq) entries ∙ ap (λ p. option_map g (find p entries)) (λ i e. eqb ((keeps e).0 i) seq)

pub later-map : (g : Entry → Entry) (entries : List Entry) (o : Unsettled) → KeepsKeys g
    → ((e : Entry) → is_left o.seq e ≡ true → is_left o.seq (g e) ≡ true)
    → is_later entries o ≡ true → is_later (map g entries) o ≡ true
later-map g entries o keeps left h =
    and_both _ _
    (ap (λ f. option_map_or (is_left o.seq) f false) (entry_at-mapped g entries o.delivery keeps)
    ∙ pick (entry_at entries o.delivery) (and_first _ (ltb o.delivery o.seq) h))
    (and_second (option_map_or (is_left o.seq) (entry_at entries o.delivery) false) _ h)
  where
    pick : (f : Option Entry) → option_map_or (is_left o.seq) f false ≡ true
        → option_map_or (is_left o.seq) (option_map g f) false ≡ true
    pick None is = is
    pick (Some e) is = left e is

pub order_later : (unsettled : List Unsettled) (next later : ℕ) → next ≤ later → AreInOrder unsettled next
    → AreInOrder unsettled later
order_later unsettled next later h order = record {
  rising = order.rising;
  below = all_weaker (λ o. ltb o.seq next) (λ o. ltb o.seq later) unsettled
      (λ o is. lt-ltb o.seq later (omega (arith, h, ltb-true o.seq next is))) order.below;
}

pub order_push : (unsettled : List Unsettled) (next : ℕ) (o : Unsettled) → next ≤ o.seq → AreInOrder unsettled next
    → AreInOrder (unsettled ++ o ∷ []) (o.seq + 1)
order_push unsettled next o h order = record {
  rising = all_pairs_push (λ (a b : Unsettled). a.seq < b.seq) unsettled o order.rising
      (λ k d l. omega (
        arith,
        h,
        ltb-true (get_or unsettled k d).seq next
            (all_at (λ (p : Unsettled). ltb p.seq next) unsettled k d l order.below),
      ));
  below = list_all-append (λ (p : Unsettled). ltb p.seq (o.seq + 1)) unsettled (o ∷ [])
      ∙ and_both _ _ (order_later unsettled next (o.seq + 1) (omega (arith, h)) order).below
      (and_both (ltb o.seq (o.seq + 1)) true (lt-ltb o.seq (o.seq + 1) (omega arith)) refl);
}

pub order_rest : (o : Unsettled) (rest : List Unsettled) (next : ℕ) → AreInOrder (o ∷ rest) next → AreInOrder rest next
order_rest o rest next order = record {
  rising = λ i j d lt l. order.rising (suc i) (suc j) d (omega (arith, lt)) (omega (arith, l));
  below = and_second (ltb o.seq next) _ order.below;
}

-- where the first that waits isn't below a number, none is
pub order_from : (unsettled : List Unsettled) (next seq k : ℕ) (d : Unsettled) → AreInOrder unsettled next
    → seq ≤ (get_or unsettled 0 d).seq → k < length unsettled → seq ≤ (get_or unsettled k d).seq
order_from unsettled next seq k d order h l =
    ⊎_elim
    (λ more. omega (arith, h, order.rising 0 k d more l))
    (λ none. subst (λ n. seq ≤ (get_or unsettled n d).seq) (omega (arith, none)) h)
    (cases_lt 0 k)

-- The Purge that is named

-- what a list still has of a Purge that took one of another
named_if : (first : Option ℕ) (entries others : List Entry)
    → ((p : ℕ) → list_any (is_taken_by p) entries ≡ true → list_any (is_taken_by p) others ≡ true)
    → IsNamed first entries → IsNamed first others
named_if None entries others still h = tt
named_if (Some p) entries others still h = still p h

-- at a step of a loop: it took one before, or takes this one
pub named_more : (first : Option ℕ) (entries : List Entry) (i : ℕ) → IsNamed first (take i entries)
    → IsNamed first (take (i + 1) entries)
named_more first entries i =
    named_if first (take i entries) (take (i + 1) entries) (λ p is. list_any_kept (is_taken_by p) entries i is)

pub named_here : (entries : List Entry) (i : ℕ) (e : Entry) → i < length entries → e ≡ get_or entries i e
    → IsNamed e.taken_by (take (i + 1) entries)
named_here entries i e within is = pick e.taken_by refl
  where
    pick : (o : Option ℕ) → e.taken_by ≡ o → IsNamed o (take (i + 1) entries)
    pick None by = tt
    pick (Some p) by =
        list_any_more (is_taken_by p) entries i e within
        ∙ or_right (list_any (is_taken_by p) (take i entries)) _
        (ap (is_taken_by p) (sym is) ∙ ap (λ o. option_map_or (eqb p) o false) by ∙ eq-eqb p p refl)

named-append : (entries events : List Entry) (first : Option ℕ) → IsNamed first entries
    → IsNamed first (entries ++ events)
named-append entries events first =
    named_if first entries (entries ++ events)
    (λ p is. list_any-append (is_taken_by p) entries events ∙ or_left (list_any (is_taken_by p) entries) _ is)

-- where each entry that it took stays so
named-map : (g : Entry → Entry) (entries : List Entry) (first : Option ℕ)
    → ((p : ℕ) (e : Entry) → is_taken_by p e ≡ true → is_taken_by p (g e) ≡ true)
    → IsNamed first entries → IsNamed first (map g entries)
named-map g entries first keeps =
    named_if first entries (map g entries) (λ p is. any-changed (is_taken_by p) (is_taken_by p) g entries (keeps p) is)

-- The marks

pub marks-append : (entries events : List Entry) (first : Option ℕ) (next later : ℕ) → AreMarked entries first next
    → next ≤ later → AllByRecursion (λ e. e.taken_by ≡ None) events → AreApart (entries ++ events)
    → AreMarked (entries ++ events) first later
marks-append entries events first next later h up fresh apart = record {
  apart = apart;
  taken = list_all-append (is_rightly_taken later) entries events
      ∙ and_both _ _ (all_weaker (is_rightly_taken next) (is_rightly_taken later) entries
      (λ e is. taken_later next later e up is) h.taken)
      (each (is_rightly_taken later) events (λ e none. kept_right later e (fresh_kept e none)) fresh);
  first = list_all-append (is_not_before first) entries events
      ∙ and_both _ _ h.first (each (is_not_before first) events (λ e none. kept_not_before first e (fresh_kept e none))
      fresh);
  named = named-append entries events first h.named;
}
  where
    each : (p : Entry → Bool) (some : List Entry) → ((e : Entry) → e.taken_by ≡ None → p e ≡ true)
        → AllByRecursion (λ e. e.taken_by ≡ None) some → list_all p some ≡ true
    each p [] passes none = refl
    each p (e ∷ es) passes none = and_both _ _ (passes e none.0) (each p es passes none.1)

pub marks-later : (entries : List Entry) (first : Option ℕ) (next later : ℕ) → AreMarked entries first next
    → next ≤ later
    → AreMarked entries first later
marks-later entries first next later h up = record {
  apart = h.apart;
  taken = all_weaker (is_rightly_taken next) (is_rightly_taken later) entries (λ e is. taken_later next later e up is)
      h.taken;
  first = h.first;
  named = h.named;
}

-- where the marks themselves stay
pub marks-map : (g : Entry → Entry) (entries : List Entry) (first : Option ℕ) (was next : ℕ) → KeepsKeys g
    → ((e : Entry) → (g e).taken_by ≡ e.taken_by)
    → list_all (is_rightly_taken next) (map g entries) ≡ true → AreMarked entries first was
    → AreMarked (map g entries) first next
marks-map g entries first was next keeps same right h = record {
  apart = apart-map g entries keeps (keeps_taken_if g same) h.apart;
  taken = right;
  first = list_all-map (is_not_before first) g entries
      ∙ all_weaker (is_not_before first) (λ e. is_not_before first (g e)) entries (λ e is. still first e is) h.first;
  named = named-map g entries first (λ p e is. ap (λ o. option_map_or (eqb p) o false) (same e) ∙ is) h.named;
}
  where
    still : (f : Option ℕ) (e : Entry) → is_not_before f e ≡ true → is_not_before f (g e) ≡ true
    still None e is = ap (λ (o : Option ℕ). not (is_some o)) (same e) ∙ is
    still (Some p) e is = ap (λ o. option_map_or (leb p) o true) (same e) ∙ is

-- A Purge

-- what holds of an entry that the Purge takes, and of one that it doesn't, holds of it after the Purge
pub marked_way : (P : Entry → Type 0) (seq moment : ℕ) (e : Entry)
    → (is_kept e ≡ true → is_done_before moment e.latest ≡ true → P (record e { taken_by = Some seq }))
    → ((is_kept e && is_done_before moment e.latest) ≡ false → P e) → P (marked seq moment e)
marked_way P seq moment e taken other = pick (is_kept e && is_done_before moment e.latest) refl
  where
    pick : (b : Bool) → is_kept e && is_done_before moment e.latest ≡ b
        → P (cond b (record e { taken_by = Some seq }) e)
    pick true is = taken (and_first (is_kept e) _ is) (and_second (is_kept e) _ is)
    pick false is = other is

pub marked_keeps : (seq moment : ℕ) → KeepsKeys (marked seq moment)
marked_keeps seq moment e =
    marked_way (λ x. (x.seq ≡ e.seq) × (x.name ≡ e.name) × (x.id ≡ e.id)) seq moment e
    (λ kept is. (refl, refl, refl)) (λ is. (refl, refl, refl))

marked_taken : (seq moment : ℕ) → KeepsTaken (marked seq moment)
marked_taken seq moment e s is =
    marked_way (λ x. is_taken_below s x ≡ true) seq moment e
    (λ kept done. absurd (true≢false (sym is ∙ ap not (kept_left s e kept)))) (λ other. is)

marked_left : (seq moment s : ℕ) (e : Entry) → s ≤ seq → is_left s e ≡ true → is_left s (marked seq moment e) ≡ true
marked_left seq moment s e h is =
    marked_way (λ x. is_left s x ≡ true) seq moment e (λ kept done. le-leb s seq h) (λ other. is)

-- what a Purge takes, and what another took before
abbrev pub is_done : (moment : ℕ) → Entry → Bool
is_done moment e = is_kept e && is_done_before moment e.latest

taken_here : (seq moment : ℕ) (e : Entry) → is_done moment e ≡ true → is_taken_by seq (marked seq moment e) ≡ true
taken_here seq moment e done =
    ap (λ b. is_taken_by seq (cond b (record e { taken_by = Some seq }) e)) done ∙ eq-eqb seq seq refl

marked_by : (seq moment p : ℕ) (e : Entry) → is_taken_by p e ≡ true → is_taken_by p (marked seq moment e) ≡ true
marked_by seq moment p e by =
    marked_way (λ x. is_taken_by p x ≡ true) seq moment e
    (λ kept done. absurd (pick e.taken_by by kept)) (λ other. by)
  where
    pick : (o : Option ℕ) → option_map_or (eqb p) o false ≡ true → not (is_some o) ≡ true → ⊥
    pick None is none = true≢false (sym is)
    pick (Some n) is none = true≢false (sym none)

marked_right : (seq moment next : ℕ) (e : Entry) → next ≤ seq → e.seq < next → is_rightly_taken next e ≡ true
    → is_rightly_taken (seq + 1) (marked seq moment e) ≡ true
marked_right seq moment next e h l is =
    marked_way (λ x. is_rightly_taken (seq + 1) x ≡ true) seq moment e
    (λ kept done. and_both _ _ (lt-ltb e.seq seq (omega (arith, h, l)))
    (and_both _ _ (lt-ltb seq (seq + 1) (omega arith))
    (and_first (not (is_in_state Pending (state_in e.latest))) _ done)))
    (λ other. taken_later next (seq + 1) e (omega (arith, h)) is)

-- the earlier of two Purges
pub record IsEarlier (one other result : Option ℕ) : Type 0 where
  pub first : (e : Entry) → is_not_before one e ≡ true → is_not_before result e ≡ true
  pub second : (e : Entry) → is_not_before other e ≡ true → is_not_before result e ≡ true
  pub one_of : (result ≡ one) ⊎ (result ≡ other)

-- the Purge of this number, if it takes one of the entries
abbrev pub if_taking : (seq moment : ℕ) → List Entry → Option ℕ
if_taking seq moment entries = then_some (list_any (is_done moment) entries) seq

pub marks-purge : (entries : List Entry) (first later : Option ℕ) (seq moment next : ℕ) → AreMarked entries first next
    → next ≤ seq → list_all (λ e. ltb e.seq next) entries ≡ true
    → IsEarlier first (if_taking seq moment entries) later
    → AreMarked (map (marked seq moment) entries) later (seq + 1)
marks-purge entries first later seq moment next h up numbered is = record {
  apart = apart-map g entries (marked_keeps seq moment) (marked_taken seq moment) h.apart;
  taken = list_all-map (is_rightly_taken (seq + 1)) g entries
      ∙ both (λ e. ltb e.seq next) (is_rightly_taken next) (λ e. is_rightly_taken (seq + 1) (g e)) entries
      (λ e l is. marked_right seq moment next e up (ltb-true e.seq next l) is) numbered h.taken;
  first = list_all-map (is_not_before later) g entries
      ∙ each entries (λ any e late. is.second e (ap (λ b. is_not_before (then_some b seq) e) any ∙ late)) h.first;
  named = ⊎_elim
      (λ same. subst (λ o. IsNamed o (map g entries)) (sym same)
      (named-map g entries first (λ p e by. marked_by seq moment p e by) h.named))
      (λ new. subst (λ o. IsNamed o (map g entries)) (sym new) (taking (list_any (is_done moment) entries) refl))
      is.one_of;
}
  where
    g : Entry → Entry
    g = marked seq moment

    both : (p q r : Entry → Bool) (some : List Entry) → ((e : Entry) → p e ≡ true → q e ≡ true → r e ≡ true)
        → list_all p some ≡ true → list_all q some ≡ true → list_all r some ≡ true
    both p q r [] step one other = refl
    both p q r (e ∷ es) step one other =
        and_both (r e) (list_all r es) (step e (and_first (p e) _ one) (and_first (q e) _ other))
        (both p q r es step (and_second (p e) _ one) (and_second (q e) _ other))

    taking : (b : Bool) → list_any (is_done moment) entries ≡ b → IsNamed (then_some b seq) (map g entries)
    taking true any =
        any-changed (is_done moment) (is_taken_by seq) g entries (λ e done. taken_here seq moment e done) any
    taking false any = tt

    each : (some : List Entry)
        → (list_any (is_done moment) some ≡ true
        → (e : Entry) → is_not_before (Some seq) e ≡ true → is_not_before later e ≡ true)
        → list_all (is_not_before first) some ≡ true → list_all (λ e. is_not_before later (g e)) some ≡ true
    each [] took all = refl
    each (e ∷ es) took all =
        and_both _ _
        (marked_way (λ x. is_not_before later x ≡ true) seq moment e
        (λ kept done. took (or_left (is_done moment e) _ (and_both _ _ kept done)) (record e { taken_by = Some seq })
        (le-leb seq seq (omega arith)))
        (λ other. is.first e (and_first (is_not_before first e) _ all)))
        (each es (λ any. took (or_right (is_done moment e) _ any)) (and_second (is_not_before first e) _ all))

pub later-purge : (entries : List Entry) (seq moment : ℕ) (o : Unsettled) → o.seq ≤ seq
    → is_later entries o ≡ true → is_later (map (marked seq moment) entries) o ≡ true
later-purge entries seq moment o h is =
    later-map (marked seq moment) entries o (marked_keeps seq moment)
    (λ e left. marked_left seq moment o.seq e h left) is

-- a list of which the first so many are changed, and the others are as they were
abbrev pub half : {X : Type 0} (f : X → X) (count : ℕ) (xs : List X) → List X
half f count xs = map f (take count xs) ++ drop count xs

-- the first of the others is as it was
pub half_here : {X : Type 0} (f : X → X) (xs : List X) (i : ℕ) (d : X) → i < length xs
    → get_or (half f i xs) i d ≡ get_or xs i d
half_here f [] i d within = absurd (omega (arith, within))
half_here f (x ∷ xs) zero d within = refl
half_here f (x ∷ xs) (suc i) d within = half_here f xs i d (omega (arith, within))

half_then : {X : Type 0} (f : X → X) (xs : List X) (i : ℕ) (d : X) → i < length xs
    → set (half f i xs) i (f (get_or (half f i xs) i d)) ≡ half f (suc i) xs
half_then f [] i d within = absurd (omega (arith, within))
half_then f (x ∷ xs) zero d within = refl
half_then f (x ∷ xs) (suc i) d within = ap (λ rest. f x ∷ rest) (half_then f xs i d (omega (arith, within)))

pub half_more : {X : Type 0} (f : X → X) (xs ys : List X) (i : ℕ) (d : X) → i < length xs → ys ≡ half f i xs
    → set ys i (f (get_or ys i d)) ≡ half f (i + 1) xs
half_more f xs ys i d within is =
    let next : suc i ≡ i + 1 = omega arith in
    ap (λ zs. set zs i (f (get_or zs i d))) is ∙ half_then f xs i d within ∙ ap (λ n. half f n xs) next

pub half_all : {X : Type 0} (f : X → X) (xs : List X) (i : ℕ) → length xs ≤ i → half f i xs ≡ map f xs
half_all f xs i past = (λ k. map f (take_all i xs past k) ++ drop_all i xs past k) ∙ append-nil (map f xs)

-- a Purge that took the entry is none before itself
pub own_first : (e : Entry) → is_not_before e.taken_by e ≡ true
own_first e = pick e.taken_by
  where
    pick : (o : Option ℕ) → option_map_or (λ p. option_map_or (leb p) o true) o (not (is_some o)) ≡ true
    pick None = refl
    pick (Some p) = le-leb p p (omega arith)
