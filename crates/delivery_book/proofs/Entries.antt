-- Facts about lists of entries in the order of their numbers.
use Rattle.std.proofs.Common.{◌≡◌, ◌≢◌, ℕ, zero, suc, ◌+◌, ◌-◌, ◌<◌, ◌≤◌, Bool, true, false, List, [], ◌∷◌, Option}
use Rattle.std.proofs.Common.{Some, None, length, take, drop, get_or, refl, sym, ◌∙◌, ap, ltb, eqb, arith, cond, ⊎_elim}
use Rattle.std.specs.Prelude.{◌&&◌, filter, find, count_by, is_some, option_map}
use Rattle.std.specs.Option.{option_and_then}
use Rattle.std.specs.List.{list_all}
use Rattle.std.specs.List.Sorted.{IsPartitionedBy}
use Rattle.std.proofs.Math.Seq.{take-add}
use Rattle.std.proofs.lemmas.Bool.{cond-true, cond-false, lt-ltb, le-ltb, ne_eqb, eq-eqb, cases_eq, cases_lt, eqb-true}
use Rattle.std.proofs.lemmas.List.Folds.{find_at}
use Rattle.std.proofs.lemmas.List.Sums.{position_or_len_is, sum_by-append, sum_by-cons}
use Rattle.std.proofs.lemmas.List.Sorted.{IsPartitionedBy-ltb}
use Rattle.std.proofs.lemmas.Option.{slice_get-get_or}
use Rattle.relay_types.proofs.KnownLaws.{and_first, and_second}
use Rattle.delivery_book.specs.declared.entry.Entry.{Entry}
use Rattle.delivery_book.specs.Entries.{entry_at, is_kept, kept_at, row_in}
use Rattle.delivery_book.specs.Fields.{IsAscending}

-- the entry stands below this number
abbrev pub is_below : ℕ → Entry → Bool
is_below seq entry = ltb entry.seq seq

-- the first n are the filter, where they pass and the others don't
pub take-filter : {X : Type 0} (p : X → Bool) (xs : List X) (n : ℕ) → n ≤ length xs
    → ((k : ℕ) (d : X) → k < n → p (get_or xs k d) ≡ true)
    → ((k : ℕ) (d : X) → n ≤ k → k < length xs → p (get_or xs k d) ≡ false) → take n xs ≡ filter p xs
take-filter p [] zero h in_it out = refl
take-filter p [] (suc n) h in_it out = absurd (omega (arith, h))
take-filter p (x ∷ xs) zero h in_it out =
    take-filter p xs zero (omega arith) (λ k d l. absurd (omega (arith, l)))
    (λ k d l m. out (suc k) d (omega arith) (omega (arith, m)))
    ∙ sym (cond-false (p x) (x ∷ filter p xs) (filter p xs) (out 0 x (omega arith) (omega arith)))
take-filter p (x ∷ xs) (suc n) h in_it out =
    ap (λ ys. x ∷ ys) (take-filter p xs n (omega (arith, h)) (λ k d l. in_it (suc k) d (omega (arith, l)))
    (λ k d l m. out (suc k) d (omega (arith, l)) (omega (arith, m))))
    ∙ sym (cond-true (p x) (x ∷ filter p xs) (filter p xs) (in_it 0 x (omega arith)))

-- the first n are those below a number, where they stand below it and the others don't
pub first_below : (entries : List Entry) (seq n : ℕ) → n ≤ length entries
    → ((k : ℕ) (d : Entry) → k < n → (get_or entries k d).seq < seq)
    → ((k : ℕ) (d : Entry) → n ≤ k → k < length entries → seq ≤ (get_or entries k d).seq)
    → take n entries ≡ filter (is_below seq) entries
first_below entries seq n h below above =
    take-filter (is_below seq) entries n h (λ k d l. lt-ltb (get_or entries k d).seq seq (below k d l))
    (λ k d l m. le-ltb (get_or entries k d).seq seq (above k d l m))

-- a list in ascending order is parted by a seq
pub parted : (entries : List Entry) (seq : ℕ) → IsAscending entries → IsPartitionedBy (λ e. ltb e.seq seq) entries
parted entries seq up = grind (arith, IsPartitionedBy-ltb)

-- the entry at a seq, where the n entries before it stand below that seq
pub entry_at-found : (entries : List Entry) (seq n : ℕ) (d : Entry) → n < length entries
    → ((k : ℕ) (e : Entry) → k < n → (get_or entries k e).seq < seq)
    → (get_or entries n d).seq ≡ seq → entry_at entries seq ≡ Some (get_or entries n d)
entry_at-found entries seq n d l below e = grind (arith, find_at, position_or_len_is, slice_get-get_or)

pub entry_at-none : (entries : List Entry) (seq : ℕ)
    → ((k : ℕ) (d : Entry) → k < length entries → (get_or entries k d).seq ≢ seq) → entry_at entries seq ≡ None
entry_at-none [] seq apart = refl
entry_at-none (x ∷ xs) seq apart =
    ap (λ b. cond b (Some x) (entry_at xs seq)) (ne_eqb x.seq seq (apart 0 x (omega arith)))
    ∙ entry_at-none xs seq (λ k d h. apart (suc k) d (omega (arith, h)))

-- no entry has a seq that only an entry from n on, which stands above it, or below n could have
pub apart : (entries : List Entry) (seq n : ℕ) → ((k : ℕ) (e : Entry) → k < n → (get_or entries k e).seq < seq)
    → ((k : ℕ) (e : Entry) → n ≤ k → k < length entries → seq ≤ (get_or entries k e).seq)
    → IsAscending entries → ((d : Entry) → n < length entries → (get_or entries n d).seq ≢ seq) → (k : ℕ) (d : Entry)
    → k < length entries → (get_or entries k d).seq ≢ seq
apart entries seq n below above up other k d h same = grind arith

-- the entries between two places of the list are counted once
pub count-slice : {X : Type 0} (p : X → Bool) (xs : List X) (n m : ℕ) → n ≤ m
    → count_by p (take n xs) + count_by p (take (m - n) (drop n xs)) ≡ count_by p (take m xs)
count-slice p xs n m h = grind (arith, take-add n (m - n) xs, sum_by-append)

-- within a list a read has one value
pub get_or-any : {X : Type 0} (xs : List X) (i : ℕ) (d e : X) → i < length xs → get_or xs i d ≡ get_or xs i e
get_or-any [] i d e h = absurd (omega (arith, h))
get_or-any (x ∷ xs) zero d e h = refl
get_or-any (x ∷ xs) (suc i) d e h = get_or-any xs i d e (omega (arith, h))

-- an entry that is there stands after just those below its number
pub found_at : (entries : List Entry) (seq n : ℕ) → IsAscending entries → is_some (entry_at entries seq) ≡ true
    → n ≤ length entries → ((k : ℕ) (e : Entry) → k < n → (get_or entries k e).seq < seq)
    → ((k : ℕ) (e : Entry) → n ≤ k → k < length entries → seq ≤ (get_or entries k e).seq) → (n < length entries)
    × ((d : Entry) → (entry_at entries seq ≡ Some (get_or entries n d)) × ((get_or entries n d).seq ≡ seq))
found_at entries seq n up there within below above =
    (inside, λ d. (entry_at-found entries seq n d inside below (same d), same d))
  where
    missed : ((d : Entry) → n < length entries → (get_or entries n d).seq ≢ seq) → ⊥
    missed other = let none = entry_at-none entries seq (apart entries seq n below above up other) in let some = there
        in not_some (entry_at entries seq) none some
      where
        not_some : (o : Option Entry) → o ≡ None → is_some o ≡ true → ⊥
        not_some None e h = absurd (let g = h in cc)
        not_some (Some x) e h = absurd (let g = e in cc)

    inside : n < length entries
    inside = ⊎_elim (λ lt. lt) (λ ge. absurd (missed (λ d lt same. omega (arith, lt, ge))))
        (cases_lt n (length entries))

    same : (d : Entry) → (get_or entries n d).seq ≡ seq
    same d = ⊎_elim (λ e. e)
        (λ ne. absurd (missed (λ x lt is. ne (ap (λ (y : Entry). y.seq) (get_or-any entries n d x lt) ∙ is))))
        (cases_eq (get_or entries n d).seq seq)

-- No two entries have one number.

none_later : (entries : List Entry) (n : ℕ) → ((k : ℕ) (d : Entry) → k < length entries → n < (get_or entries k d).seq)
    → count_by (λ e. eqb e.seq n) entries ≡ 0
none_later [] n later = refl
none_later (x ∷ xs) n later =
    omega (
      arith,
      sum_by-cons (λ (e : Entry). cond (eqb e.seq n) 1 0) x xs,
      ap {B = ℕ} (λ b. cond b 1 0) (ne_eqb x.seq n (λ same. absurd (omega (arith, same, later 0 x (omega arith))))),
      none_later xs n (λ k d h. later (suc k) d (omega (arith, h))),
    )

pub one_each : (entries : List Entry) → IsAscending entries → (n : ℕ) → count_by (λ e. eqb e.seq n) entries ≤ 1
one_each [] up n = omega arith
one_each (x ∷ xs) up n =
    ⊎_elim
    (λ same. omega (
      arith,
      sum_by-cons (λ (e : Entry). cond (eqb e.seq n) 1 0) x xs,
      ap {B = ℕ} (λ b. cond b 1 0) (eq-eqb x.seq n same),
      none_later xs n (λ k d h. omega (arith, same, up 0 (suc k) d (omega arith) (omega (arith, h)))),
    ))
    (λ differs. omega (
      arith,
      sum_by-cons (λ (e : Entry). cond (eqb e.seq n) 1 0) x xs,
      ap {B = ℕ} (λ b. cond b 1 0) (ne_eqb x.seq n differs),
      one_each xs (λ i j d lt l. up (suc i) (suc j) d (omega (arith, lt)) (omega (arith, l))) n,
    ))
    (cases_eq x.seq n)

-- an entry that is found passes what all pass
pub found_passes : (p : Entry → Bool) (entries : List Entry) (seq : ℕ) (e : Entry) → list_all p entries ≡ true
    → entry_at entries seq ≡ Some e → p e ≡ true
found_passes p [] seq e all h = cc
found_passes p (x ∷ xs) seq e all h = step (eqb x.seq seq) h (found_passes p xs seq e (and_second (p x) _ all))
  where
    one : (a b : Entry) → Some a ≡ Some b → a ≡ b
    one a b q = cc

    step : (b : Bool) → cond b (Some x) (entry_at xs seq) ≡ Some e → (entry_at xs seq ≡ Some e → p e ≡ true)
        → p e ≡ true
    step true q later = ap p (sym (one x e q)) ∙ and_first (p x) _ all
    step false q later = later q

-- where nothing passes, nothing passes a test that asks more
pub find_narrow : {X : Type 0} (p q : X → Bool) (xs : List X) → find p xs ≡ None → find (λ x. p x && q x) xs ≡ None
find_narrow p q [] none = refl
find_narrow p q (x ∷ xs) none = pick (p x) (q x) none (find_narrow p q xs)
  where
    pick : (a b : Bool) → cond a (Some x) (find p xs) ≡ None
        → (find p xs ≡ None → find (λ y. p y && q y) xs ≡ None)
        → cond (a && b) (Some x) (find (λ y. p y && q y) xs) ≡ None
    pick true b is later = absurd (let f = is in cc)
    pick false b is later = later is

-- the entry of this number, if no Purge took it
pub kept_at-is : (entries : List Entry) (seq : ℕ) → IsAscending entries
    → kept_at entries seq ≡ option_and_then (λ (e : Entry). cond (is_kept e) (Some e) None) (entry_at entries seq)
kept_at-is [] seq up = refl
kept_at-is (x ∷ xs) seq up =
    pick (eqb x.seq seq) (is_kept x) refl refl
    (kept_at-is xs seq (λ i j d lt l. up (suc i) (suc j) d (omega (arith, lt)) (omega (arith, l))))
  where
    none : eqb x.seq seq ≡ true → kept_at xs seq ≡ None
    none same =
        find_narrow (λ (e : Entry). eqb e.seq seq) is_kept xs
        (entry_at-none xs seq
        (λ k d h other. omega (arith, other, eqb-true x.seq seq same, up 0 (suc k) d (omega arith) (omega (arith, h)))))

    pick : (a b : Bool) → eqb x.seq seq ≡ a → is_kept x ≡ b
        → kept_at xs seq ≡ option_and_then (λ (e : Entry). cond (is_kept e) (Some e) None) (entry_at xs seq)
        → cond (a && b) (Some x) (kept_at xs seq)
        ≡ option_and_then (λ (e : Entry). cond (is_kept e) (Some e) None) (cond a (Some x) (entry_at xs seq))
    pick true true same kept later = sym (ap (λ (c : Bool). cond c (Some x) None) kept)
    pick true false same kept later = none same ∙ sym (ap (λ (c : Bool). cond c (Some x) None) kept)
    pick false b same kept later = later

-- so is its row
pub latest_is : (entries : List Entry) (seq : ℕ) (found : Option Entry) → IsAscending entries
    → found ≡ entry_at entries seq
    → option_and_then (λ (e : Entry). cond (is_kept e) (Some (row_in e.latest e)) None) found
    ≡ option_map (λ e. row_in e.latest e) (kept_at entries seq)
latest_is entries seq found up is =
    ap (option_and_then (λ (e : Entry). cond (is_kept e) (Some (row_in e.latest e)) None)) is
    ∙ shape (entry_at entries seq)
    ∙ sym (ap (option_map (λ (e : Entry). row_in e.latest e)) (kept_at-is entries seq up))
  where
    pick : (e : Entry) (b : Bool)
        → cond b (Some (row_in e.latest e)) None ≡ option_map (λ (x : Entry). row_in x.latest x) (cond b (Some e) None)
    pick e true = refl
    pick e false = refl

    shape : (o : Option Entry)
        → option_and_then (λ (e : Entry). cond (is_kept e) (Some (row_in e.latest e)) None) o
        ≡ option_map (λ e. row_in e.latest e) (option_and_then (λ (e : Entry). cond (is_kept e) (Some e) None) o)
    shape None = refl
    shape (Some e) = pick e (is_kept e)
