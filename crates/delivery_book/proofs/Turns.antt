-- The room for outcomes that wait: what is pending, and what waits, is pending by the settled records.
use Rattle.std.proofs.Common.{◌≡◌, ℕ, ◌+◌, ◌-◌, ◌<◌, ◌≤◌, Bool, true, false, List, [], ◌∷◌, length, set}
use Rattle.std.proofs.Common.{None, take, drop, get_or, refl, sym, ◌∙◌, ap, eqb, not, arith, cond, true≢false}
use Rattle.std.specs.Prelude.{◌||◌, count_by}
use Rattle.std.specs.List.{AllByRecursion, list_all}
use Rattle.std.proofs.lemmas.Bool.{eq-eqb}
use Rattle.std.proofs.lemmas.List.{length-drop, length-take-le, take-append-drop}
use Rattle.std.proofs.lemmas.List.Sums.{count_by-le-length, sum_by-append, sum_by-cons, sum_by-set}
use Rattle.relay_types.specs.declared.state.State.TheVariants.{Pending}
use Rattle.relay_types.specs.Deliveries.{is_in_state}
use Rattle.relay_types.proofs.KnownLaws.{and_first, and_second, and_both}
use Rattle.delivery_book.specs.declared.entry.Entry.{Entry}
use Rattle.delivery_book.specs.Entries.{is_open, state_in, with_attempt}
use Rattle.delivery_book.specs.declared.tally.Tally.{Tally}
use Rattle.delivery_book.specs.Fields.{IsTally, counts_for, in_state, is_in_turn, is_waiting, may_wait}
use Rattle.delivery_book.proofs.Updates.{IsFresh, all_at, all_set}

-- where both have come as far
pub alike_in_turn : (e : Entry) → e.latest ≡ e.settled → is_in_turn e ≡ true
alike_in_turn e same =
    (λ i. may_wait e || not (not (eqb (same i).attempts e.settled.attempts) || is_in_state Pending (state_in (same i))))
    ∙ (λ i. may_wait e || not (not (eq-eqb e.settled.attempts e.settled.attempts refl i) || may_wait e))
    ∙ either (may_wait e)
  where
    either : (b : Bool) → (b || not (not true || b)) ≡ true
    either true = refl
    either false = refl

pub fresh_in_turn : (events : List Entry) → AllByRecursion IsFresh events → list_all is_in_turn events ≡ true
fresh_in_turn [] fresh = refl
fresh_in_turn (e ∷ es) fresh = and_both _ _ (alike_in_turn e fresh.0.0) (fresh_in_turn es fresh.1)

pub open_may : (x : Entry) → is_in_turn x ≡ true → is_open x ≡ true → may_wait x ≡ true
open_may x h free = pick (may_wait x) (is_waiting x) (is_in_state Pending (state_in x.latest)) h (and_first _ _ free)
  where
    pick : (may waits pending : Bool) → (may || not (waits || pending)) ≡ true → pending ≡ true → may ≡ true
    pick true waits pending h is = refl
    pick false true pending h is = h
    pick false false true h is = h
    pick false false false h is = is

-- an entry that is pending by all records, once its outcomes are settled
pub pending_may : (x : Entry) → is_in_turn x ≡ true
    → cond (is_in_state Pending (state_in x.latest)) 1 0 ≤ cond (may_wait x) 1 0
pending_may x h = pick (may_wait x) (is_waiting x) (is_in_state Pending (state_in x.latest)) h
  where
    pick : (may waits pending : Bool) → (may || not (waits || pending)) ≡ true → cond pending 1 0 ≤ cond may 1 0
    pick may waits false h = omega arith
    pick true waits true h = omega arith
    pick false true true h = absurd (true≢false (sym h))
    pick false false true h = absurd (true≢false (sym h))

pub waiting_may : (entries : List Entry) → list_all is_in_turn entries ≡ true
    → count_by is_waiting entries ≤ count_by may_wait entries
waiting_may [] h = omega arith
waiting_may (e ∷ es) h =
    omega (
      arith,
      sum_by-cons (λ x. cond (is_waiting x) 1 0) e es,
      sum_by-cons (λ x. cond (may_wait x) 1 0) e es,
      pick (may_wait e) (is_waiting e) (is_in_state Pending (state_in e.latest)) (and_first _ _ h),
      waiting_may es (and_second (is_in_turn e) (list_all is_in_turn es) h),
    )
  where
    pick : (may waits pending : Bool) → (may || not (waits || pending)) ≡ true → cond waits 1 0 ≤ cond may 1 0
    pick may false pending h = omega arith
    pick true true pending h = omega arith
    pick false true pending h = absurd (true≢false (sym h))

-- The places for outcomes that wait: one of each entry that isn't settled, or pending by the settled records

module _ (tally : Tally) (entries : List Entry) (n : ℕ) (h : IsTally tally (λ e. e.settled) (take n entries))
    (within : n ≤ length entries) where
  counted : in_state Pending (counts_for tally None) ≡ count_by may_wait (take n entries)
  counted = h None Pending

  parts : count_by may_wait entries ≡ count_by may_wait (take n entries) + count_by may_wait (drop n entries)
  parts = ap (count_by may_wait) (sym (take-append-drop n entries))
      ∙ sum_by-append (λ e. cond (may_wait e) 1 0) (take n entries) (drop n entries)

  pub places_enough : count_by may_wait entries ≤ length entries - n + in_state Pending (counts_for tally None)
  places_enough = omega
      (arith, within, counted, parts, count_by-le-length may_wait (drop n entries), length-drop n entries)

  pub places_few : in_state Pending (counts_for tally None) ≤ n
  places_few = omega
      (arith, within, counted, count_by-le-length may_wait (take n entries), length-take-le n entries within)

-- One entry changed in its place

module _ (entries : List Entry) (i : ℕ) (x : Entry) (inside : i < length entries) (is : x ≡ get_or entries i x)
    (turns : list_all is_in_turn entries ≡ true) where
  pub turn_here : is_in_turn x ≡ true
  turn_here = ap is_in_turn is ∙ all_at is_in_turn entries i x inside turns

  -- by one that takes no more places
  pub places_set : (y : Entry) → cond (may_wait y) 1 0 ≤ cond (may_wait x) 1 0
      → count_by may_wait (set entries i y) ≤ count_by may_wait entries
  places_set y less =
      omega (
        arith,
        less,
        sum_by-set (λ e. cond (may_wait e) 1 0) entries i y x inside,
        ap {B = ℕ} (λ (e : Entry). cond (may_wait e) 1 0) is,
      )

  -- by one more outcome
  pub turns_outcome : (status at : ℕ) → is_open x ≡ true
      → list_all is_in_turn (set entries i (with_attempt status at x)) ≡ true
  turns_outcome status at free =
      all_set is_in_turn entries i (with_attempt status at x)
      (ap (λ b. b || not (is_waiting (with_attempt status at x)
      || is_in_state Pending (state_in (with_attempt status at x).latest))) (open_may x turn_here free))
      turns
