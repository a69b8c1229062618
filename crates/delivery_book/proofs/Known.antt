-- The event that is known by an id by the settled records, where a waiting Purge may have freed the id for another.
use Rattle.std.proofs.Common.{◌≡◌, ℕ, zero, suc, ◌+◌, ◌<◌, ◌≤◌, ◌&&◌, Bool, true, false, not, List, [], ◌∷◌, Option}
use Rattle.std.proofs.Common.{Some, None, length, take, get_or, refl, sym, ◌∙◌, ap, subst, arith, cond, ltb, true≢false}
use Rattle.std.specs.Prelude.{filter, find, is_some, option_map, bytes_eq}
use Rattle.std.specs.List.{list_all}
use Rattle.std.specs.Option.{option_map_or, option_or}
use Rattle.std.proofs.lemmas.Bool.{ltb-true, lt-ltb, not-true, false_from_ne_true}
use Rattle.std.proofs.lemmas.List.{take_all, take_more}
use Rattle.std.proofs.lemmas.List.Folds.{find-append}
use Rattle.std.proofs.lemmas.Slice.Eq.{bytes_eq-Decides}
use Rattle.relay_types.proofs.KnownLaws.{and_first, and_second}
use Rattle.delivery_book.specs.declared.entry.Entry.{Entry}
use Rattle.delivery_book.specs.Entries.{BookValue, is_entry_as, is_kept, is_left, is_settled_as, known_in}
use Rattle.delivery_book.specs.Entries.{known_settled_in}
use Rattle.delivery_book.specs.Fields.{AreApart, is_not_before}
use Rattle.delivery_book.proofs.Entries.{is_below}
use Rattle.delivery_book.proofs.Histories.{both_ways, kept_left}
use Rattle.delivery_book.proofs.Purges.{find-filter, left_earlier}
use Rattle.delivery_book.proofs.Tellings.{found_one}

-- what holds of all holds of the one that is found
found_holds : {X : Type 0} (P : X → Type 0) (p : X → Bool) (xs : List X) (x : X)
    → ((k : ℕ) (d : X) → k < length xs → P (get_or xs k d)) → find p xs ≡ Some x → P x
found_holds P p [] x all h = absurd (let no = h in cc)
found_holds {X} P p (y ∷ xs) x all h = by (found_holds P p xs x (λ k d l. all (suc k) d (omega (arith, l)))) (p y) h
  where
    same : Some y ≡ Some x → y ≡ x
    same e = cc

    by : (find p xs ≡ Some x → P x) → (b : Bool) → cond b (Some y) (find p xs) ≡ Some x → P x
    by later true e = subst P (same e) (all 0 y (omega arith))
    by later false e = later e

tail_apart : (x : Entry) (xs : List Entry) → AreApart (x ∷ xs) → AreApart xs
tail_apart x xs apart = λ i j d lt l. apart (suc i) (suc j) d (omega (arith, lt)) (omega (arith, l))

module _ (name id : List ℕ) (s : ℕ) where
  abbrev is_known : Entry → Bool
  is_known e = is_entry_as name id e && is_kept e

  -- two entries of the endpoint and id are of one event
  same_event : (x e : Entry) → is_entry_as name id x ≡ true → is_entry_as name id e ≡ true
      → is_entry_as e.name e.id x ≡ true
  same_event x e here there =
      let named : e.name ≡ name = (bytes_eq-Decides e.name name).0
      (and_first (bytes_eq e.name name) (bytes_eq e.id id) there) in
      let called : e.id ≡ id = (bytes_eq-Decides e.id id).0 (and_second (bytes_eq e.name name) (bytes_eq e.id id) there)
      in
      (λ i. is_entry_as (named i) (called i) x) ∙ here

  never : (a b : Bool) → a && (b && false) ≡ false
  never a b = grind arith

  -- the event that is known, if it is settled: one before it was given up
  known_below : (entries : List Entry) (e : Entry) → AreApart entries → find is_known entries ≡ Some e → e.seq < s
      → find (is_settled_as name id s) entries ≡ Some e
  known_below [] e apart h below = absurd (let no = h in cc)
  known_below (x ∷ xs) e apart h below =
      by (known_below xs e (tail_apart x xs apart)) (is_entry_as name id x) refl (is_kept x) refl h
    where
      same : Some x ≡ Some e → x ≡ e
      same i = cc

      gone : is_entry_as name id x ≡ true → find is_known xs ≡ Some e → is_left s x ≡ false
      gone here found = false_from_ne_true (is_left s x) (λ left.
          let later : is_entry_as e.name e.id x ≡ true → not (is_left e.seq x) ≡ true = found_holds
          (λ y. is_entry_as y.name y.id x ≡ true → not (is_left y.seq x) ≡ true) is_known xs e
          (λ k d l. apart 0 (suc k) d (omega arith) (omega (arith, l))) found in
          let taken = later (same_event x e here
          (and_first (is_entry_as name id e) (is_kept e) (found_one is_known xs e found))) in
          true≢false (sym (left_earlier e.seq s x.taken_by (omega (arith, below)) left)
          ∙ not-true (is_left e.seq x) taken))

      settled : Option Entry
      settled = find (is_settled_as name id s) xs

      by : (find is_known xs ≡ Some e → e.seq < s → settled ≡ Some e) → (b : Bool) → is_entry_as name id x ≡ b
          → (c : Bool) → is_kept x ≡ c → cond (b && c) (Some x) (find is_known xs) ≡ Some e
          → find (is_settled_as name id s) (x ∷ xs) ≡ Some e
      by later false other c kept i = ap (λ t. cond (t && (ltb x.seq s && is_left s x)) (Some x) settled) other
          ∙ later i below
      by later true here true kept i =
          (λ t. cond (here t && (lt-ltb x.seq s (subst (λ (y : Entry). y.seq < s) (sym (same i)) below) t
          && kept_left s x kept t)) (Some x) settled) ∙ i
      by later true here false taken i =
          ap (λ l. cond (is_entry_as name id x && (ltb x.seq s && l)) (Some x) settled) (gone here i)
          ∙ ap (λ t. cond t (Some x) settled) (never (is_entry_as name id x) (ltb x.seq s))
          ∙ later i below

  pub known_early : (entries : List Entry) → AreApart entries
      → option_map_or (λ n. ltb n s) (option_map (λ (e : Entry). e.seq) (find is_known entries)) false ≡ true
      → option_map (λ (e : Entry). e.seq) (find is_known entries) ≡ option_map (λ (e : Entry). e.seq)
      (find (is_settled_as name id s) entries)
  known_early entries apart h = by (find is_known entries) refl h
    where
      by : (o : Option Entry) → find is_known entries ≡ o
          → option_map_or (λ n. ltb n s) (option_map (λ (e : Entry). e.seq) o) false ≡ true
          → option_map (λ (e : Entry). e.seq) (find is_known entries) ≡ option_map (λ (e : Entry). e.seq)
          (find (is_settled_as name id s) entries)
      by None is i = absurd (let no = i in cc)
      by (Some e) is i = ap (option_map (λ (x : Entry). x.seq))
          (is ∙ sym (known_below entries e apart is (ltb-true e.seq s i)))

  -- where no Purge that waits took an entry, the event that is known is the only one
  none_as : (xs : List Entry) → ((k : ℕ) (d : Entry) → k < length xs → is_entry_as name id (get_or xs k d) ≡ false)
      → find (is_settled_as name id s) xs ≡ None
  none_as [] none = refl
  none_as (x ∷ xs) none =
      ap (λ t. cond (t && (ltb x.seq s && is_left s x)) (Some x) (find (is_settled_as name id s) xs))
      (none 0 x (omega arith))
      ∙ none_as xs (λ k d l. none (suc k) d (omega (arith, l)))

  none_settled : (entries : List Entry) → AreApart entries → list_all is_kept entries ≡ true
      → option_map_or (λ n. ltb n s) (option_map (λ (e : Entry). e.seq) (find is_known entries)) false ≡ false
      → find (is_settled_as name id s) entries ≡ None
  none_settled [] apart kept h = refl
  none_settled (x ∷ xs) apart kept h =
      by (none_settled xs (tail_apart x xs apart) (and_second (is_kept x) (list_all is_kept xs) kept))
      (is_entry_as name id x) refl
      (ap (λ k. option_map_or (λ n. ltb n s)
      (option_map (λ (e : Entry). e.seq) (cond (is_entry_as name id x && k) (Some x) (find is_known xs))) false)
      (sym own) ∙ h)
    where
      own : is_kept x ≡ true
      own = and_first (is_kept x) (list_all is_kept xs) kept

      no_other : is_entry_as name id x ≡ true → (k : ℕ) (d : Entry) → k < length xs
          → is_entry_as name id (get_or xs k d) ≡ false
      no_other here k d l = false_from_ne_true (is_entry_as name id (get_or xs k d)) (λ there.
          let taken = apart 0 (suc k) d (omega arith) (omega (arith, l)) (same_event x (get_or xs k d) here there) in
          true≢false (sym (kept_left (get_or xs k d).seq x own) ∙ not-true (is_left (get_or xs k d).seq x) taken))

      by : (option_map_or (λ n. ltb n s) (option_map (λ (e : Entry). e.seq) (find is_known xs)) false ≡ false
          → find (is_settled_as name id s) xs ≡ None) → (b : Bool) → is_entry_as name id x ≡ b
          → option_map_or (λ n. ltb n s)
          (option_map (λ (e : Entry). e.seq) (cond (b && true) (Some x) (find is_known xs))) false ≡ false
          → find (is_settled_as name id s) (x ∷ xs) ≡ None
      by later false other i =
          ap (λ t. cond (t && (ltb x.seq s && is_left s x)) (Some x) (find (is_settled_as name id s) xs)) other
          ∙ later i
      by later true here i =
          (λ t. cond (here t && (i t && is_left s x)) (Some x) (find (is_settled_as name id s) xs))
          ∙ none_as xs (no_other here)

  pub known_alone : (entries : List Entry) → AreApart entries → list_all is_kept entries ≡ true
      → option_map_or (λ n. ltb n s) (option_map (λ (e : Entry). e.seq) (find is_known entries)) false ≡ false
      → None ≡ option_map (λ (e : Entry). e.seq) (find (is_settled_as name id s) entries)
  known_alone entries apart kept h = ap (option_map (λ (e : Entry). e.seq)) (sym (none_settled entries apart kept h))

  -- what a look through the settled entries finds
  abbrev pub is_left_as : Entry → Bool
  is_left_as e = is_entry_as name id e && is_left s e

  pub known_among : (entries : List Entry) (n : ℕ) → take n entries ≡ filter (is_below s) entries
      → find is_left_as (take n entries) ≡ find (is_settled_as name id s) entries
  known_among entries n first =
      ap (find is_left_as) first ∙ find-filter is_left_as (is_below s) entries
      ∙ (λ i. find (λ e. both_ways (is_entry_as name id e) (is_below s e) (is_left s e) i) entries)

-- a look that goes on, and one that ends
pub find-more : {X : Type 0} (p : X → Bool) (xs : List X) (i : ℕ) (x : X) → i < length xs → x ≡ get_or xs i x
    → find p (take i xs) ≡ None → p x ≡ false → find p (take (i + 1) xs) ≡ None
find-more p xs i x l is none fails =
    ap (find p) (take_more xs i x l) ∙ find-append p (take i xs) (get_or xs i x ∷ [])
    ∙ ap (λ o. option_or o (find p (get_or xs i x ∷ []))) none
    ∙ ap (λ b. cond b (Some (get_or xs i x)) None) (ap p (sym is) ∙ fails)

pub find-here : {X : Type 0} (p : X → Bool) (xs : List X) (i : ℕ) (x : X) → i < length xs → x ≡ get_or xs i x
    → find p (take i xs) ≡ None → p x ≡ true → find p xs ≡ Some x
find-here p [] i x l is none passes = absurd (omega (arith, l))
find-here p (y ∷ xs) zero x l is none passes = ap (λ b. cond b (Some y) (find p xs)) (ap p (sym is) ∙ passes)
    ∙ ap Some (sym is)
find-here {X} p (y ∷ xs) (suc i) x l is none passes = by (find-here p xs i x (omega (arith, l)) is) (p y) none
  where
    by : (find p (take i xs) ≡ None → p x ≡ true → find p xs ≡ Some x) → (b : Bool)
        → cond b (Some y) (find p (take i xs)) ≡ None → cond b (Some y) (find p xs) ≡ Some x
    by later true i = absurd (let no = i in cc)
    by later false i = later i passes

-- The same, by what the steps of the code give

pub settled_early : (book : BookValue) (name id : List ℕ) (known : Option ℕ) (s : ℕ) → AreApart book.entries
    → known ≡ known_in book name id → s ≡ book.settled_seq
    → option_map_or (λ n. ltb n s) known false ≡ true → known ≡ known_settled_in book name id
settled_early book name id known s apart told is below =
    told ∙ known_early name id book.settled_seq book.entries apart
    ((λ i. option_map_or (λ n. ltb n (sym is i)) (sym told i) false) ∙ below)

pub settled_alone : (book : BookValue) (name id : List ℕ) (known next_purge : Option ℕ) (s : ℕ) → AreApart book.entries
    → known ≡ known_in book name id → s ≡ book.settled_seq
    → option_map_or (λ n. ltb n s) known false ≡ false → is_some next_purge ≡ false
    → list_all (is_not_before next_purge) book.entries ≡ true → None ≡ known_settled_in book name id
settled_alone book name id known next_purge s apart told is above none first =
    known_alone name id book.settled_seq book.entries apart (kept next_purge none first)
    ((λ i. option_map_or (λ n. ltb n (sym is i)) (sym told i) false) ∙ above)
  where
    kept : (next : Option ℕ) → is_some next ≡ false → list_all (is_not_before next) book.entries ≡ true
        → list_all is_kept book.entries ≡ true
    kept None h all = all
    kept (Some p) h all = absurd (let no = h in cc)

pub taken_none : (book : BookValue) (name id : List ℕ) (n i : ℕ) (items : List Entry) → items ≡ take n book.entries
    → take n book.entries ≡ filter (is_below book.settled_seq) book.entries
    → length items ≤ i → find (is_left_as name id book.settled_seq) (take i items) ≡ None
    → None ≡ known_settled_in book name id
taken_none book name id n i items is first past none =
    ap (option_map (λ (e : Entry). e.seq))
    (sym none ∙ ap (find (is_left_as name id book.settled_seq)) (take_all i items past ∙ is)
    ∙ known_among name id book.settled_seq book.entries n first)

pub taken_here : (book : BookValue) (name id : List ℕ) (n i : ℕ) (items : List Entry) (x : Entry)
    → items ≡ take n book.entries → take n book.entries ≡ filter (is_below book.settled_seq) book.entries
    → i < length items → x ≡ get_or items i x → find (is_left_as name id book.settled_seq) (take i items) ≡ None
    → is_left_as name id book.settled_seq x ≡ true → Some x.seq ≡ known_settled_in book name id
taken_here book name id n i items x is first within own none passes =
    ap (option_map (λ (e : Entry). e.seq))
    (sym (find-here (is_left_as name id book.settled_seq) items i x within own none passes)
    ∙ ap (find (is_left_as name id book.settled_seq)) is ∙ known_among name id book.settled_seq book.entries n
    first)
