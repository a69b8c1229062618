-- How far a delivery has come, with one more attempt, and among the first records.
use Rattle.std.proofs.Common.{◌≡◌, ℕ, ◌+◌, List, [], ◌∷◌, ◌++◌, Some, length, take, drop}
use Rattle.std.proofs.Common.{refl, sym, ◌∙◌, ap, arith, cond, length-append, append-nil}
use Rattle.std.specs.Prelude.{option_map, ◌||◌}
use Rattle.std.specs.Option.{option_map_or}
use Rattle.std.proofs.Math.Bool.{or-false}
use Rattle.std.proofs.lemmas.List.{take-append-drop}
use Rattle.std.proofs.lemmas.List.Elements.{filter_map-append}
use Rattle.std.proofs.lemmas.List.Folds.{list_any-append}
use Rattle.std.proofs.lemmas.List.Sums.{sum_by_push}
use Rattle.relay_types.specs.declared.record.Record.{Record}
use Rattle.relay_types.specs.Lists.{last_of}
use Rattle.relay_types.specs.Records.{Attempt, attempt_by}
use Rattle.relay_types.specs.Judging.{is_delivered_status, is_failed_status}
use Rattle.relay_types.specs.Deliveries.{attempts_of, due_after}
use Rattle.delivery_book.specs.Entries.{due_by, failed_among, is_delivered_among, progress_of, progress_after}

last_of-append : {X : Type 0} (xs : List X) (x : X) → last_of (xs ++ x ∷ []) ≡ Some x
last_of-append [] x = refl
last_of-append (y ∷ []) x = refl
last_of-append (y ∷ z ∷ xs) x = last_of-append (z ∷ xs) x

pub progress_of-append : (at : ℕ) (attempts : List Attempt) (a : Attempt)
    → progress_of at (attempts ++ a ∷ []) ≡ progress_after a.status a.at (progress_of at attempts)
progress_of-append at attempts a i = record {
  attempts = length-append attempts (a ∷ []) i;
  failures = failed i;
  is_delivered = delivered i;
  due = due_by (delivered i) (failed i) (option_map_or (λ last. due_after last (failed i)) (last_of-append attempts a i)
      at);
  last_status = option_map (λ (t : Attempt). t.status) (last_of-append attempts a i);
  last_at = option_map (λ (t : Attempt). t.at) (last_of-append attempts a i);
}
  where
    failed : failed_among (attempts ++ a ∷ []) ≡ failed_among attempts + cond (is_failed_status a.status) 1 0
    failed = sum_by_push (λ (t : Attempt). cond (is_failed_status t.status) 1 0) attempts a

    delivered : is_delivered_among (attempts ++ a ∷ []) ≡ is_delivered_among attempts || is_delivered_status a.status
    delivered =
        list_any-append (λ (t : Attempt). is_delivered_status t.status) attempts (a ∷ [])
        ∙ ap (λ b. is_delivered_among attempts || b) (or-false (is_delivered_status a.status))

-- the attempts among the first records, and among those after them
pub attempts_of-append : (some more : List Record) (d : ℕ) → attempts_of (some ++ more) d ≡ attempts_of some d
    ++ attempts_of more d
attempts_of-append some more d = filter_map-append (attempt_by d) some more

pub attempts_of-split : (records : List Record) (s d : ℕ) → attempts_of records d ≡ attempts_of (take s records) d
    ++ attempts_of (drop s records) d
attempts_of-split records s d = ap (λ some. attempts_of some d) (sym (take-append-drop s records))
    ∙ attempts_of-append (take s records) (drop s records) d

pub empty_if : {X : Type 0} (xs : List X) → length xs ≡ 0 → xs ≡ []
empty_if [] e = refl
empty_if (x ∷ xs) e = absurd (omega (arith, e))

-- a delivery that has no attempts has none among the first records
pub none_earlier : (records : List Record) (s d : ℕ) → attempts_of records d ≡ [] → attempts_of (take s records) d ≡ []
none_earlier records s d none =
    empty_if (attempts_of (take s records) d)
    (omega (
      arith,
      ap length (sym none ∙ attempts_of-split records s d),
      length-append (attempts_of (take s records) d)
          (attempts_of (drop s records) d),
    ))

-- those of all records are those of the first ones where none is after them
pub all_earlier : (records : List Record) (s d : ℕ) → attempts_of (drop s records) d ≡ []
    → attempts_of records d ≡ attempts_of (take s records) d
all_earlier records s d none = attempts_of-split records s d ∙ ap (λ more. attempts_of (take s records) d ++ more) none
    ∙ append-nil (attempts_of (take s records) d)
