-- What settling an outcome leaves to be settled.
use Rattle.std.proofs.Common.{◌≡◌, ℕ, ◌+◌, ◌<◌, true, false, List, [], ◌∷◌, Option, Some, None, length, map, refl, sym}
use Rattle.std.proofs.Common.{◌∙◌, ap, arith, cond, ltb}
use Rattle.std.specs.Prelude.{is_some, unwrap_or}
use Rattle.std.specs.List.{list_all}
use Rattle.std.specs.Option.{option_map_or}
use Rattle.std.proofs.lemmas.Bool.{lt-ltb, ltb-false}
use Rattle.delivery_book.specs.declared.entry.Entry.{Entry}
use Rattle.delivery_book.specs.declared.entry.Unsettled.{Unsettled}
use Rattle.delivery_book.specs.Entries.{BookValue, with_latest_settled, at_delivery, at_outcomes, is_left, settle_first}
use Rattle.delivery_book.specs.Entries.{settle_all}
use Rattle.delivery_book.specs.Entries.{with_events_settled, with_settled, without_taken}
use Rattle.delivery_book.specs.Fields.{is_not_before}
use Rattle.delivery_book.proofs.Histories.{kept_left}
use Rattle.delivery_book.proofs.Purges.{filter-passed, left_earlier}
use Rattle.delivery_book.proofs.Updates.{all_weaker}

pub map-same : {X : Type 0} (f : X → X) (xs : List X) → ((x : X) → f x ≡ x) → map f xs ≡ xs
map-same f [] h = refl
map-same f (x ∷ xs) h = λ i. h x i ∷ map-same f xs h i

map-after : {X : Type 0} (f g h : X → X) (xs : List X) → ((x : X) → f (g x) ≡ h x) → map f (map g xs) ≡ map h xs
map-after f g h [] same = refl
map-after f g h (x ∷ xs) same = λ i. same x i ∷ map-after f g h xs same i

one_and_others : (o : Unsettled) (others : List Unsettled) (e : Entry)
    → at_outcomes others with_latest_settled (at_delivery o.delivery with_latest_settled e) ≡ at_outcomes
    (o ∷ others) with_latest_settled e
one_and_others o others e = grind arith

some_is : {X : Type 0} (x y : X) → Some x ≡ Some y → x ≡ y
some_is x y e = cc

-- the first one is settled, and the others are left
pub settled_first : (book next : BookValue) (outcomes : List Unsettled) → settle_first book outcomes ≡ Some next
    → (length next.unsettled + 1 ≡ length outcomes) × (settle_all next next.unsettled ≡ settle_all book outcomes)
settled_first book next [] e = absurd (let h = e in cc)
settled_first book next (o ∷ rest) e = grind (arith, map-after, one_and_others)

-- where the first one isn't settled, none is
pub settled_none : (book : BookValue) (outcomes : List Unsettled) → book.unsettled ≡ outcomes
    → settle_first book outcomes ≡ None → settle_all book outcomes ≡ book
settled_none book [] e h = λ i. record book {
  entries = map-same (at_outcomes [] with_latest_settled) book.entries
      (λ x. refl) i;
  unsettled = sym e i;
}
settled_none book (o ∷ rest) e h = grind (arith, map-same)

-- the first one is settled where it is below the settled number
pub settle_first_is : (book : BookValue) (o : Unsettled) (rest : List Unsettled) → book.unsettled ≡ o ∷ rest
    → o.seq < book.settled_seq
    → settle_first book book.unsettled ≡ Some
    (record book { entries = map (at_delivery o.delivery with_latest_settled) book.entries; unsettled = rest })
settle_first_is book o rest e h =
    ap (settle_first book) e
    ∙ ap (λ b. cond b (Some
    (record book { entries = map (at_delivery o.delivery with_latest_settled) book.entries; unsettled = rest }))
    None) (lt-ltb o.seq book.settled_seq h)

-- a step of settling leaves what is settled in the end, and fewer outcomes
pub stepped_on : (book next : BookValue) → is_some (settle_first book book.unsettled) ≡ true
    → next ≡ unwrap_or (settle_first book book.unsettled) book
    → (settle_all next next.unsettled ≡ settle_all book book.unsettled)
    × (length next.unsettled < length book.unsettled)
stepped_on book next there is = pick (settle_first book book.unsettled) refl there is
  where
    pick : (o : Option BookValue) → settle_first book book.unsettled ≡ o → is_some o ≡ true → next ≡ unwrap_or o book
        → (settle_all next next.unsettled ≡ settle_all book book.unsettled)
        × (length next.unsettled < length book.unsettled)
    pick None e y i = absurd (let n = y in cc)
    pick (Some stepped) e y i =
        let done = settled_first book stepped book.unsettled e in (
          ap (λ (b : BookValue). settle_all b b.unsettled) i
              ∙ done.1,
          omega (arith, ap (λ (b : BookValue). length b.unsettled) i, done.0),
        )

-- and where there is none, all is settled
pub stopped : (book next : BookValue) → is_some (settle_first book book.unsettled) ≡ false
    → next ≡ unwrap_or (settle_first book book.unsettled) book → next ≡ settle_all book book.unsettled
stopped book next none is = grind (arith, settled_none)

-- What settled Purges took

-- nothing but outcomes is left to be settled, and none of them
pub all_settled : (book next : BookValue) → is_some (settle_first book book.unsettled) ≡ false
    → next ≡ unwrap_or (settle_first book book.unsettled) book → settle_all next next.unsettled ≡ next
all_settled book next none is = ap (λ (b : BookValue). settle_all b b.unsettled)
    (is ∙ same (settle_first book book.unsettled) none) ∙ sym (stopped book next none is)
  where
    same : (o : Option BookValue) → is_some o ≡ false → unwrap_or o book ≡ book
    same None h = refl
    same (Some b) h = absurd (let no = h in cc)

-- after the loop
pub looped : (old events l x : BookValue) (seq : ℕ) → events ≡ with_events_settled old seq
    → settle_all l l.unsettled ≡ settle_all events events.unsettled
    → is_some (settle_first l l.unsettled) ≡ false → x ≡ unwrap_or (settle_first l l.unsettled) l
    → x ≡ settle_all (with_events_settled old seq) old.unsettled
looped old events l x seq is kept none value = stopped l x none value ∙ kept
    ∙ ap (λ (b : BookValue). settle_all b b.unsettled) is

pub swept : (old book : BookValue) (seq : ℕ) → book ≡ settle_all (with_events_settled old seq) old.unsettled
    → without_taken book book.settled_seq ≡ with_settled old seq
swept old book seq is = ap (λ (b : BookValue). without_taken b b.settled_seq) is

-- where no Purge below the number took an entry, nothing is given up
pub unswept : (old book : BookValue) (seq : ℕ) (next_purge : Option ℕ)
    → book ≡ settle_all (with_events_settled old seq) old.unsettled
    → option_map_or (λ n. ltb n seq) next_purge false ≡ false → list_all (is_not_before next_purge) book.entries ≡ true
    → book ≡ with_settled old seq
unswept old book seq next_purge is above first =
    (λ i. record book {
      entries = sym
          (filter-passed (is_left seq) book.entries (all_weaker (is_not_before next_purge) (is_left seq) book.entries
          (left next_purge above) first)) i;
    })
    ∙ ap (λ n. without_taken book n) (sym (ap (λ (b : BookValue). b.settled_seq) is)) ∙ swept old book seq is
  where
    left : (next : Option ℕ) → option_map_or (λ n. ltb n seq) next false ≡ false → (e : Entry)
        → is_not_before next e ≡ true → is_left seq e ≡ true
    left None h e kept = kept_left seq e kept
    left (Some n) h e later = left_earlier seq n e.taken_by (ltb-false n seq h) later
