-- The keys of the index, as events are added and removed.
use Rattle.std.proofs.Common.{◌≡◌, ◌&&◌, ℕ, suc, ◌+◌, ◌<◌, Bool, true, false, not, List, [], ◌∷◌, ◌++◌, Option, Some}
use Rattle.std.proofs.Common.{None}
use Rattle.std.proofs.Common.{length, map, take, drop, get_or, refl, sym, ◌∙◌, ap, subst, arith, cond, true≢false}
use Rattle.std.specs.Prelude.{◌||◌, All, AllPairs, OnErr, OnOk, Result, Ok, Err, is_err, is_some, filter, find}
use Rattle.std.specs.Prelude.{option_map, bytes_eq}
use Rattle.std.specs.List.{AllByRecursion, list_any}
use Rattle.std.specs.Option.{option_or}
use Rattle.std.specs.Cmp.{first_so, second_so}
use Rattle.std.specs.Cmp.Lexicographic.{bytes_decides, slice_cmp}
use Rattle.std.specs.BTreeMap.{BTreeMap, UpdatesBy, get_by}
use Rattle.std.specs.Box.{boxed_slice_items}
use Rattle.std.specs.Map.{KeepsOthers}
use Rattle.std.specs.Ordering.{is_eq, nat_cmp}
use Rattle.std.specs.declared.alloc.Global.{Global}
use Rattle.std.specs.declared.boxed.BoxedSlice.{BoxedSlice}
use Rattle.std.proofs.lemmas.Cmp.{eq_by_cmp_equiv, nat_list_cmp_total}
use Rattle.std.proofs.lemmas.Bool.{false_from_ne_true}
use Rattle.std.proofs.lemmas.Map.Text.{is_eq-slice_cmp}
use Rattle.std.proofs.lemmas.List.{take_at, drop_at, get_or_default, get_or-take, length-take-le, take_more}
use Rattle.std.proofs.lemmas.List.Folds.{Any-from_list_any, find-append, list_any-append, list_any_none}
use Rattle.relay_types.proofs.KnownLaws.{and_both, and_first, and_second}
use Rattle.relay_types.proofs.RowLaws.{find_map}
use Rattle.delivery_book.specs.declared.entry.Entry.{Entry}
use Rattle.delivery_book.specs.declared.index.EventIndex.{EventIndex}
use Rattle.delivery_book.specs.Entries.{is_done_before, is_entry_as, is_kept, marked}
use Rattle.delivery_book.specs.Fields.{AreApart, AreNew, HasLessKeys, HasMoreKeys, HasNumber, HasSameKeys, IsIndex}
use Rattle.delivery_book.specs.Fields.{is_known_as, key_bytes, number_of}
use Rattle.delivery_book.proofs.Updates.{IsFresh}
use Rattle.delivery_book.proofs.Marks.{kept_left, marked_keeps, marked_way}

-- where the characters of two events are the same, they are one
same_event : (name id other other_id : List ℕ) → bytes_eq name other && bytes_eq id other_id ≡ true
    → (name ≡ other) × (id ≡ other_id)
same_event name id other other_id same = (
  (bytes_decides name other).0 (first_so (bytes_eq name other) (bytes_eq id other_id) same),
  (bytes_decides id other_id).0 (second_so (bytes_eq name other) (bytes_eq id other_id) same),
)

-- what a map has at any bytes, after a change at some
module _ (bs : List ℕ) (old new : BTreeMap (BoxedSlice ℕ Global) ℕ) (number : Option ℕ) where
  pub number_set : UpdatesBy (λ x y. slice_cmp nat_cmp (boxed_slice_items x) (boxed_slice_items y))
      (λ k. slice_cmp nat_cmp bs (boxed_slice_items k)) old new number
      → (cs : List ℕ) → get_by (λ k. slice_cmp nat_cmp cs (boxed_slice_items k)) new
      ≡ cond (bytes_eq bs cs) number (get_by (λ k. slice_cmp nat_cmp cs (boxed_slice_items k)) old)
  unfolding KeepsOthers
  number_set h cs = pick (bytes_eq bs cs) refl
    where
      apart : bytes_eq bs cs ≡ false → (k : BoxedSlice ℕ Global)
          → is_eq (slice_cmp nat_cmp bs (boxed_slice_items k)) ≡ true
          → is_eq (slice_cmp nat_cmp cs (boxed_slice_items k)) ≡ false
      apart other k is = false_from_ne_true _ (λ also.
          true≢false (sym ((bytes_decides bs cs).1
          ((bytes_decides bs (boxed_slice_items k)).0 (sym (is_eq-slice_cmp bs (boxed_slice_items k)) ∙ is)
          ∙ sym ((bytes_decides cs (boxed_slice_items k)).0 (sym (is_eq-slice_cmp cs (boxed_slice_items k)) ∙ also))))
          ∙ other))

      pick : (b : Bool) → bytes_eq bs cs ≡ b
          → get_by (λ k. slice_cmp nat_cmp cs (boxed_slice_items k)) new
          ≡ cond b number (get_by (λ k. slice_cmp nat_cmp cs (boxed_slice_items k)) old)
      pick true same =
          ap (λ l. get_by (λ k. slice_cmp nat_cmp l (boxed_slice_items k)) new) (sym ((bytes_decides bs cs).0 same))
          ∙ h.1
      pick false other = h.3 (λ k. is_eq (slice_cmp nat_cmp cs (boxed_slice_items k)))
          (λ x y. (eq_by_cmp_equiv nat_list_cmp_total).congr cs (boxed_slice_items x) (boxed_slice_items y))
          (apart other)

-- keys are the same exactly where the names and the ids are
same_bools : (a b : Bool) → (a ≡ true → b ≡ true) → (b ≡ true → a ≡ true) → a ≡ b
same_bools true b there back = sym (there refl)
same_bools false true there back = absurd (true≢false (sym (back refl)))
same_bools false false there back = refl

pub same_key : (name id other other_id : List ℕ)
    → bytes_eq (key_bytes name id) (key_bytes other other_id) ≡ bytes_eq name other && bytes_eq id other_id
same_key name id other other_id =
    same_bools (bytes_eq (key_bytes name id) (key_bytes other other_id)) (bytes_eq name other && bytes_eq id other_id)
    there back
  where
    there : bytes_eq (key_bytes name id) (key_bytes other other_id) ≡ true
        → bytes_eq name other && bytes_eq id other_id ≡ true
    there same =
        let is = (bytes_decides (key_bytes name id) (key_bytes other other_id)).0 same in
        let long : length name ≡ length other = ap (λ l. get_or l 0 0) is in
        let rest : name ++ id ≡ other ++ other_id = ap (drop 1) is in
        and_both _ _
        ((bytes_decides name other).1
        (sym (take_at name id (length other) long) ∙ ap (take (length other)) rest
        ∙ take_at other other_id (length other) refl))
        ((bytes_decides id other_id).1
        (sym (drop_at name id (length other) long) ∙ ap (drop (length other)) rest
        ∙ drop_at other other_id (length other) refl))

    back : bytes_eq name other && bytes_eq id other_id ≡ true
        → bytes_eq (key_bytes name id) (key_bytes other other_id) ≡ true
    back both =
        let same = same_event name id other other_id both in
        (bytes_decides (key_bytes name id) (key_bytes other other_id)).1 (λ i. key_bytes (same.0 i) (same.1 i))

-- the index after a change at the key of an event
pub number_changed : (old new : EventIndex) (key name id : List ℕ) (number : Option ℕ) → key ≡ key_bytes name id
    → UpdatesBy (λ x y. slice_cmp nat_cmp (boxed_slice_items x) (boxed_slice_items y))
    (λ k. slice_cmp nat_cmp key (boxed_slice_items k)) old.numbers new.numbers number
    → HasNumber old name id number new
number_changed old new key name id number is h other other_id =
    number_set key old.numbers new.numbers number h (key_bytes other other_id)
    ∙ ap (λ b. cond b number (number_of old other other_id))
    (ap (λ k. bytes_eq k (key_bytes other other_id)) is ∙ same_key name id other other_id)

pub none_more : {X : Type 0} (o : Option X) → option_or o None ≡ o
none_more None = refl
none_more (Some x) = refl

pub none_found : {X : Type 0} (p : X → Bool) (entries : List X) → list_any p entries ≡ false → find p entries ≡ None
none_found p [] h = refl
none_found p (x ∷ xs) h = pick (p x) h (none_found p xs)
  where
    pick : (b : Bool) → (b || list_any p xs) ≡ false → (list_any p xs ≡ false → find p xs ≡ None)
        → cond b (Some x) (find p xs) ≡ None
    pick true other later = absurd (true≢false other)
    pick false other later = later other

-- where none passes, none passes a test that asks more
pub any_fewer : {X : Type 0} (p q : X → Bool) (xs : List X) → ((x : X) → p x ≡ false → q x ≡ false)
    → list_any p xs ≡ false → list_any q xs ≡ false
any_fewer p q [] more h = refl
any_fewer p q (x ∷ xs) more h = pick (p x) (q x) (more x) h (any_fewer p q xs more)
  where
    pick : (a b : Bool) → (a ≡ false → b ≡ false) → (a || list_any p xs) ≡ false
        → (list_any p xs ≡ false → list_any q xs ≡ false) → (b || list_any q xs) ≡ false
    pick true b fewer none later = absurd (true≢false none)
    pick false true fewer none later = absurd (true≢false (fewer refl))
    pick false false fewer none later = later none

-- what a result says if it is no error, and if it is one
pub on_ok : {T E : Type 0} (r : Result T E) (P : Type 0) → OnOk r P → is_err r ≡ false → P
on_ok (Ok v) P h e = h
on_ok (Err x) P h e = absurd (true≢false e)

pub on_err : {T E : Type 0} (r : Result T E) (P : Type 0) → OnErr r P → is_err r ≡ true → P
on_err (Ok v) P h e = absurd (true≢false (sym e))
on_err (Err x) P h e = h

-- the index with the key of one more event
pub keys-push : (index now later : EventIndex) (events : List Entry) (e : Entry)
    → number_of index e.name e.id ≡ None → list_any (is_entry_as e.name e.id) events ≡ false
    → HasMoreKeys index events now → HasNumber now e.name e.id (Some e.seq) later
    → HasMoreKeys index (events ++ e ∷ []) later
keys-push index now later events e unknown apart h updated name id =
    updated name id
    ∙ pick (is_entry_as name id e) refl
    ∙ ap (λ o. option_or (number_of index name id) (option_map (λ (x : Entry). x.seq) o))
    (sym (find-append (is_entry_as name id) events (e ∷ [])))
  where
    pick : (b : Bool) → is_entry_as name id e ≡ b
        → cond b (Some e.seq) (number_of now name id)
        ≡ option_or (number_of index name id)
        (option_map (λ x. x.seq) (option_or (find (is_entry_as name id) events) (cond b (Some e) None)))
    pick true same = sym (λ i. option_or (none i) (option_map (λ (x : Entry). x.seq) (option_or (found i) (Some e))))
      where
        one : (e.name ≡ name) × (e.id ≡ id)
        one = same_event e.name e.id name id same

        none : number_of index name id ≡ None
        none = (λ t. number_of index (sym one.0 t) (sym one.1 t)) ∙ unknown

        found : find (is_entry_as name id) events ≡ None
        found =
            (λ t. find (is_entry_as (sym one.0 t) (sym one.1 t)) events)
            ∙ none_found (is_entry_as e.name e.id) events apart
    pick false other =
        h name id
        ∙ ap (λ o. option_or (number_of index name id) (option_map (λ (x : Entry). x.seq) o))
        (sym (none_more (find (is_entry_as name id) events)))

-- at a step of a loop that adds keys
pub keys-more : (index now later : EventIndex) (events : List Entry) (i : ℕ) (e : Entry) → AreNew index events
    → i < length events → e ≡ get_or events i e → HasMoreKeys index (take i events) now
    → HasNumber now e.name e.id (Some e.seq) later
    → HasMoreKeys index (take (i + 1) events) later
keys-more index now later events i e new h is more updated =
    subst (λ es. HasMoreKeys index es later)
    ((λ t. take i events ++ is t ∷ []) ∙ sym (take_more events i e h))
    (keys-push index now later (take i events) e unknown (list_any_none (is_entry_as e.name e.id) (take i events) apart)
    more updated)
  where
    unknown : number_of index e.name e.id ≡ None
    unknown = ap (λ (x : Entry). number_of index x.name x.id) is ∙ new.unknown i e h

    apart : (k : ℕ) (d : Entry) → k < length (take i events)
        → is_entry_as e.name e.id (get_or (take i events) k d) ≡ false
    apart k d l =
        let within : k < i = omega (arith, l, length-take-le i events (omega (arith, h))) in
        ap (is_entry_as e.name e.id) (get_or-take i events k d within)
        ∙ ap (λ (x : Entry). is_entry_as x.name x.id (get_or events k d)) (is ∙ get_or_default events i e d h)
        ∙ new.apart k i d within h

-- the index without the key of one more event
pub keys-drop : (index now later : EventIndex) (some : List Entry) (e : Entry) → HasLessKeys index some now
    → HasNumber now e.name e.id None later → HasLessKeys index (some ++ e ∷ []) later
keys-drop index now later some e less updated name id =
    updated name id
    ∙ (λ t. cond (is_entry_as name id e) None (less name id t))
    ∙ pick (is_entry_as name id e) (list_any (is_entry_as name id) some)
    ∙ ap (λ b. cond b None (number_of index name id)) (sym (list_any-append (is_entry_as name id) some (e ∷ [])))
  where
    pick : (a b : Bool) → cond a None (cond b None (number_of index name id))
        ≡ cond (b || (a || false)) None (number_of index name id)
    pick true true = refl
    pick true false = refl
    pick false true = refl
    pick false false = refl

-- at a step of a loop that removes them
pub keys-less : (index now later : EventIndex) (events : List Entry) (i : ℕ) (e : Entry)
    → i < length events → e ≡ get_or events i e → HasLessKeys index (take i events) now
    → HasNumber now e.name e.id None later → HasLessKeys index (take (i + 1) events) later
keys-less index now later events i e h is less updated =
    subst (λ es. HasLessKeys index es later) ((λ t. take i events ++ is t ∷ []) ∙ sym (take_more events i e h))
    (keys-drop index now later (take i events) e less updated)

-- the index without the keys of events that it had not had before
pub keys-undone : (index now later : EventIndex) (events : List Entry)
    → All (λ e. number_of index e.name e.id ≡ None) events → HasMoreKeys index events now
    → HasLessKeys now events later → HasSameKeys index later
keys-undone index now later events unknown more less name id =
    less name id ∙ pick (list_any (is_entry_as name id) events) refl
  where
    pick : (b : Bool) → list_any (is_entry_as name id) events ≡ b
        → cond b None (number_of now name id) ≡ number_of index name id
    pick true some =
        let found = Any-from_list_any (is_entry_as name id) events some in
        let one = same_event found.1.name found.1.id name id found.4 in
        sym ((λ t. number_of index (sym one.0 t) (sym one.1 t))
        ∙ ap (λ (e : Entry). number_of index e.name e.id) (sym found.3)
        ∙ unknown found.0 found.1 found.2)
    pick false none =
        more name id
        ∙ ap (λ o. option_or (number_of index name id) (option_map (λ (x : Entry). x.seq) o))
        (none_found (is_entry_as name id) events none)
        ∙ none_more (number_of index name id)

-- the index with the keys of more events is that of the longer list
pub indexed-append : (index later : EventIndex) (entries events : List Entry)
    → IsIndex index entries → AllByRecursion IsFresh events → HasMoreKeys index events later
    → IsIndex later (entries ++ events)
indexed-append index later entries events h fresh more name id =
    more name id
    ∙ (λ t. option_or (h name id t) (option_map (λ x. x.seq) (all_kept events fresh t)))
    ∙ either (find (is_known_as name id) entries) (find (is_known_as name id) events)
    ∙ ap (option_map (λ x. x.seq)) (sym (find-append (is_known_as name id) entries events))
  where
    either : (o r : Option Entry) → option_or (option_map (λ (x : Entry). x.seq) o) (option_map (λ x. x.seq) r)
        ≡ option_map (λ x. x.seq) (option_or o r)
    either None r = refl
    either (Some x) r = refl

    kept : (a : Bool) (o : Option ℕ) → o ≡ None → a ≡ a && not (is_some o)
    kept true o none = ap (λ (p : Option ℕ). not (is_some p)) (sym none)
    kept false o none = refl

    all_kept : (some : List Entry) → AllByRecursion IsFresh some
        → find (is_entry_as name id) some ≡ find (is_known_as name id) some
    all_kept [] all = refl
    all_kept (e ∷ es) all = λ t. cond (kept (is_entry_as name id e) e.taken_by all.0.2 t) (Some e)
        (all_kept es all.1 t)

-- The index after a Purge

-- a test that no two pass, and one that asks more
pub find_once : {X : Type 0} (p r : X → Bool) (xs : List X) → AllPairs (λ a b. p a ≡ true → p b ≡ false) xs
    → find (λ x. p x && not (r x)) xs ≡ cond (list_any (λ x. p x && r x) xs) None (find p xs)
find_once p r [] apart = refl
find_once p r (x ∷ xs) apart =
    pick (p x) (r x) (λ is. list_any_none p xs (λ k d h. apart 0 (suc k) d (omega arith) (omega (arith, h)) is))
    (find_once p r xs (λ i j d lt l. apart (suc i) (suc j) d (omega (arith, lt)) (omega (arith, l))))
  where
    fewer : (q : Bool → Bool → Bool) (a b : Bool) → ((c : Bool) → q false c ≡ false) → a ≡ false → q a b ≡ false
    fewer q a b none is = ap (λ c. q c b) is ∙ none b

    pick : (a b : Bool) → (a ≡ true → list_any p xs ≡ false)
        → find (λ x. p x && not (r x)) xs ≡ cond (list_any (λ x. p x && r x) xs) None (find p xs)
        → cond (a && not b) (Some x) (find (λ x. p x && not (r x)) xs)
        ≡ cond ((a && b) || list_any (λ x. p x && r x) xs) None (cond a (Some x) (find p xs))
    pick true true none later =
        none_found (λ y. p y && not (r y)) xs
        (any_fewer p (λ y. p y && not (r y)) xs (λ y. fewer (λ c d. c && not d) (p y) (r y) (λ c. refl)) (none refl))
    pick true false none later =
        ap (λ c. cond c None (Some x))
        (sym (any_fewer p (λ y. p y && r y) xs (λ y. fewer (λ c d. c && d) (p y) (r y) (λ c. refl)) (none refl)))
    pick false b none later = later

module _ (seq moment : ℕ) (name id : List ℕ) where
  -- no two entries of one event are known
  pub known_once : (entries : List Entry) → AreApart entries
      → AllPairs (λ a b. is_known_as name id a ≡ true → is_known_as name id b ≡ false) entries
  known_once entries apart i j d lt l known =
      false_from_ne_true (is_known_as name id b) (λ also.
      let one = same_event b.name b.id name id (and_first (is_entry_as name id b) _ also) in
      let same = (λ t. is_entry_as (one.0 t) (one.1 t) a) ∙ and_first (is_entry_as name id a) _ known in
      true≢false (sym (apart i j d lt l same)
      ∙ ap not (kept_left b.seq a (and_second (is_entry_as name id a) _ known))))
    where
      a : Entry
      a = get_or entries i d

      b : Entry
      b = get_or entries j d

  -- which is known after the Purge
  still_known : (e : Entry)
      → is_known_as name id (marked seq moment e) ≡ is_known_as name id e && not (is_done_before moment e.latest)
  still_known e =
      marked_way (λ x. is_known_as name id x ≡ is_known_as name id e && not (is_done_before moment e.latest)) seq moment
      e
      (λ kept done. taken (is_entry_as name id e) (is_kept e) (is_done_before moment e.latest) done)
      (other (is_entry_as name id e) (is_kept e) (is_done_before moment e.latest))
    where
      taken : (a b c : Bool) → c ≡ true → a && false ≡ (a && b) && not c
      taken true true true is = refl
      taken true false true is = refl
      taken false b true is = refl
      taken a b false is = absurd (true≢false (sym is))

      other : (a b c : Bool) → b && c ≡ false → a && b ≡ (a && b) && not c
      other true true true is = absurd (true≢false is)
      other true true false is = refl
      other true false c is = refl
      other false b c is = refl

  -- those that the Purge takes, of which there are any
  done_any : (entries : List Entry)
      → list_any (is_entry_as name id) (filter (λ e. is_kept e && is_done_before moment e.latest) entries)
      ≡ list_any (λ e. is_known_as name id e && is_done_before moment e.latest) entries
  done_any [] = refl
  done_any (x ∷ xs) =
      pick (is_entry_as name id x) (is_kept x) (is_done_before moment x.latest) refl
      ∙ ap (λ b. (is_known_as name id x && is_done_before moment x.latest) || b) (done_any xs)
    where
      rest : List Entry
      rest = filter (λ e. is_kept e && is_done_before moment e.latest) xs

      pick : (a b c : Bool) → is_entry_as name id x ≡ a
          → list_any (is_entry_as name id) (cond (b && c) (x ∷ rest) rest)
          ≡ ((a && b) && c) || list_any (is_entry_as name id) rest
      pick true true true is = ap (λ o. o || list_any (is_entry_as name id) rest) is
      pick false true true is = ap (λ o. o || list_any (is_entry_as name id) rest) is
      pick true true false is = refl
      pick false true false is = refl
      pick true false c is = refl
      pick false false c is = refl

-- the index without the keys of those that the Purge takes is that of the entries after it
pub indexed-purge : (index later : EventIndex) (entries : List Entry) (seq moment : ℕ) → IsIndex index entries
    → AreApart entries → HasLessKeys index (filter (λ e. is_kept e && is_done_before moment e.latest) entries) later
    → IsIndex later (map (marked seq moment) entries)
indexed-purge index later entries seq moment h apart less name id =
    less name id
    ∙ (λ t. cond (done_any seq moment name id entries t) None (h name id t))
    ∙ numbers (list_any (λ e. is_known_as name id e && is_done_before moment e.latest) entries)
    (find (is_known_as name id) entries)
    ∙ sym (ap (option_map (λ (e : Entry). e.seq))
    (find_map (marked seq moment) (is_known_as name id) entries
    ∙ ap (λ p. option_map (marked seq moment) (find p entries)) (λ t e. still_known seq moment name id e t)
    ∙ ap (option_map (marked seq moment))
    (find_once (is_known_as name id) (λ e. is_done_before moment e.latest) entries
    (known_once seq moment name id entries apart))))
  where
    numbers : (b : Bool) (o : Option Entry) → cond b None (option_map (λ (e : Entry). e.seq) o)
        ≡ option_map (λ e. e.seq) (option_map (marked seq moment) (cond b None o))
    numbers true o = refl
    numbers false None = refl
    numbers false (Some e) = ap Some (sym (marked_keeps seq moment e).0)
