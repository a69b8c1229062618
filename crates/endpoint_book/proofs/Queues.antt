-- The changes that aren't settled, with one more and without those that are settled.
use Rattle.std.proofs.lemmas.Grind.{common_steps}
use Rattle.std.proofs.Common.{◌≡◌, ℕ, ◌+◌, ◌<◌, ◌≤◌, Bool, true, false, List, [], ◌∷◌, ◌++◌, length, refl, ◌∙◌, ap}
use Rattle.std.proofs.Common.{cond, arith, length-append, append-nil}
use Rattle.std.specs.Prelude.{filter, count_by, max}
use Rattle.std.proofs.lemmas.Bool.{lt-ltb, le-ltb}
use Rattle.std.proofs.lemmas.List.Elements.{filter-append}
use Rattle.std.proofs.lemmas.List.Filters.{length-filter_both, sum_by-filter_both}
use Rattle.std.proofs.lemmas.List.Sums.{count_by-le-length}
use Rattle.endpoint_book.specs.declared.entry.Change.{Change}
use Rattle.endpoint_book.specs.declared.limits.TheConstants.{MAX_FLAGS}
use Rattle.endpoint_book.specs.Entries.{is_flag, is_put, is_below, is_from}
use Rattle.endpoint_book.specs.Fields.{AreChanges}
use Rattle.endpoint_book.proofs.Filters.{filter-commutes, filter-against}

-- a change that stands below the place, or from it on
pub below_more : (place : ℕ) (cs : List Change) (c : Change) → c.seq < place
    → (filter (is_below place) (cs ++ c ∷ []) ≡ filter (is_below place) cs ++ c ∷ [])
    × (filter (is_from place) (cs ++ c ∷ []) ≡ filter (is_from place) cs)
below_more place cs c h = grind (arith, filter-append, lt-ltb, append-nil)

pub from_more : (place : ℕ) (cs : List Change) (c : Change) → place ≤ c.seq
    → (filter (is_below place) (cs ++ c ∷ []) ≡ filter (is_below place) cs)
    × (filter (is_from place) (cs ++ c ∷ []) ≡ filter (is_from place) cs ++ c ∷ [])
from_more place cs c h = grind (arith, filter-append, le-ltb, append-nil)

one_most : (b : Bool) → cond b 1 0 ≤ 1
one_most true = omega arith
one_most false = omega arith

-- what is kept has no more flags, and no more Puts
pub flags_kept : (cs : List Change) (place : ℕ) → count_by is_flag (filter (is_from place) cs) ≤ count_by is_flag cs
flags_kept cs place = omega (
  arith,
  sum_by-filter_both (is_below place) (is_from place) (λ c. refl)
      (λ c. cond (is_flag c) 1 0) cs,
)

pub puts_kept : (cs : List Change) (place : ℕ) → count_by is_put (filter (is_from place) cs) ≤ count_by is_put cs
puts_kept cs place = omega (
  arith,
  sum_by-filter_both (is_below place) (is_from place) (λ c. refl)
      (λ c. cond (is_put c) 1 0) cs,
)

pub changes-push : (cs : List Change) (c : Change) (flags puts capacity next settled more_flags more_puts room : ℕ)
    → AreChanges cs flags puts capacity next settled → next ≤ c.seq
    → more_flags ≡ flags + cond (is_flag c) 1 0 → more_puts ≡ puts + cond (is_put c) 1 0 → more_flags ≤ MAX_FLAGS
    → length cs + 1 + MAX_FLAGS ≤ room + more_flags
    → AreChanges (cs ++ c ∷ []) more_flags more_puts room (c.seq + 1) settled
changes-push cs c flags puts capacity next settled more_flags more_puts room h above f p few fits = grind
    (arith, common_steps, length-append cs (c ∷ []), one_most (is_flag c))

-- the same changes, with a later next record
pub changes-later : (cs : List Change) (flags puts capacity next settled later : ℕ)
    → AreChanges cs flags puts capacity next settled → next ≤ later → AreChanges cs flags puts capacity later settled
changes-later cs flags puts capacity next settled later h within = record {
  parted = h.parted;
  below_next = λ p le. h.below_next p (omega (arith, le, within));
  waiting = h.waiting;
  settled_next = omega (arith, h.settled_next, within);
  sparse = λ p. omega (arith, h.sparse p, within);
  flags_are = h.flags_are;
  puts_are = h.puts_are;
  few = h.few;
  room = h.room;
}

pub changes-keep : (cs : List Change) (flags puts capacity next settled place : ℕ)
    → AreChanges cs flags puts capacity next settled → settled ≤ place
    → AreChanges (filter (is_from place) cs) (count_by is_flag (filter (is_from place) cs))
    (count_by is_put (filter (is_from place) cs)) capacity (max next place) place
changes-keep cs flags puts capacity next settled place h later = record {
  parted = λ p.
      ap (filter (is_from place)) (h.parted p)
      ∙ filter-append (is_from place) (filter (is_below p) cs) (filter (is_from p) cs)
      ∙ λ i. filter-commutes (is_from place) (is_below p) cs i ++ filter-commutes (is_from place) (is_from p) cs i;
  below_next = λ p le. filter-commutes (is_from p) (is_from place) cs ∙ ap (filter (is_from place))
      (h.below_next p (omega (arith, le)));
  waiting = filter-against (is_below place) cs;
  settled_next = omega arith;
  sparse = λ p. omega (
    arith,
    ap (count_by is_flag) (filter-commutes (is_from p) (is_from place) cs),
    flags_kept
        (filter (is_from p) cs) place,
    h.sparse p,
  );
  flags_are = refl;
  puts_are = refl;
  few = omega (arith, h.few, h.flags_are, flags_split);
  room = omega (
    arith,
    h.room,
    h.flags_are,
    flags_split,
    length_split,
    count_by-le-length is_flag
        (filter (is_below place) cs),
  );
}
  where
    flags_split : count_by is_flag (filter (is_below place) cs) + count_by is_flag (filter (is_from place) cs)
        ≡ count_by is_flag cs
    flags_split = sum_by-filter_both (is_below place) (is_from place) (λ c. refl) (λ c. cond (is_flag c) 1 0) cs

    length_split : length (filter (is_below place) cs) + length (filter (is_from place) cs) ≡ length cs
    length_split = length-filter_both (is_below place) (is_from place) (λ c. refl) cs
