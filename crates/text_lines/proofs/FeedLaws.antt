-- The first line feed of a text, and what is read up to it.
use Rattle.std.proofs.Common.{◌≡◌, ◌≢◌, ℕ, ◌+◌, ◌<◌, ◌≤◌, ◌==◌, Bool, false, not, cond, ltb, List, [], ◌∷◌, ◌++◌}
use Rattle.std.proofs.Common.{length, take, drop, get_or, Option, Some, None, MatchOption, IsTrue, inl, inr, refl, sym}
use Rattle.std.proofs.Common.{ap, ◌∙◌, arith, add-one, suc, append_assoc, take-append-drop}
use Rattle.std.specs.Prelude.{slice_range}
use Rattle.std.specs.List.{position, position_or_len}
use Rattle.std.specs.Io.KnownBytes.{Consumes}
use Rattle.std.proofs.Math.Seq.{drop-cons}
use Rattle.std.proofs.lemmas.Bool.Decides.{nat_tests}
use Rattle.std.proofs.lemmas.Bool.{eqb-true}
use Rattle.std.proofs.lemmas.List.{drop-drop, length-append, get_or-take, length-take}
use Rattle.std.proofs.lemmas.List.Folds.{list_all-append}
use Rattle.std.proofs.lemmas.List.Sums.{list_all-from_AllPass, prefix_len_passes}
use Rattle.std.proofs.lemmas.List.Quantifiers.{position-Some}
use Rattle.std.proofs.lemmas.Slice.{between_is}
use Rattle.text_lines.specs.Streams.{LinesValue, left, has_no_feed, BeginsTooLong, IsTooLong, IsFeedAt, TakesPiece}
use Rattle.text_lines.specs.Streams.{PassesBound}

abbrev is_feed : ℕ → Bool
is_feed c = c == 10

abbrev is_no_feed : ℕ → Bool
is_no_feed c = not (c == 10)

-- what stands in a range behind its first elements
pub drop-slice_range : (xs : List ℕ) (from to n : ℕ) → drop n (slice_range xs from to) ≡ slice_range xs (from + n) to
drop-slice_range xs from to n = ap (drop n) (between_is xs from to) ∙ drop-drop n from (take to xs)
    ∙ sym (between_is xs (from + n) to)

-- ---- the first line feed

none_is_past : (a b : ℕ) → None ≡ cond (ltb a b) (Some a) None → b ≤ a
none_is_past a b e = grind (arith, nat_tests)

no_feed : (bytes : List ℕ) → None ≡ position is_feed bytes → IsTrue (has_no_feed bytes)
no_feed bytes e =
    let past : length bytes ≤ position_or_len is_feed bytes = none_is_past _ _ e in
    list_all-from_AllPass is_no_feed bytes (λ k d h. prefix_len_passes is_no_feed bytes k d (omega arith))

no_feed_before : (bytes : List ℕ) (n : ℕ) → ((k : ℕ) (d : ℕ) → k < n → is_feed (get_or bytes k d) ≡ false)
    → IsTrue (has_no_feed (take n bytes))
no_feed_before bytes n h = list_all-from_AllPass is_no_feed (take n bytes)
    (λ k d lt. let below : k < n = omega (arith, simp length-take at lt) in rw get_or-take (ap not (h k d below)))

feed_at : (bytes : List ℕ) (place : ℕ) → Some place ≡ position is_feed bytes → IsFeedAt bytes place
feed_at bytes place e =
    let at = position-Some is_feed bytes place 0 (sym e) in
    let lt = at.0 in
    let here : get_or bytes place 0 ≡ 10 = eqb-true (get_or bytes place 0) 10 at.1 in
    let rest : drop place bytes ≡ 10 ∷ drop (place + 1) bytes = rw add-one
    (drop-cons bytes place 0 lt ∙ ap (λ x. x ∷ drop (suc place) bytes) here) in (
      at.0,
      sym (ap (λ xs. take place bytes ++ xs) (sym rest) ∙ take-append-drop place bytes),
      no_feed_before bytes place
          (λ k d lt. (position-Some is_feed bytes place d (sym e)).2 k lt),
    )

pub IsFeedAt-from_position : (bytes : List ℕ) (o : Option ℕ) → o ≡ position is_feed bytes
    → MatchOption o (IsTrue (has_no_feed bytes)) (λ place. IsFeedAt bytes place)
IsFeedAt-from_position bytes None e = no_feed bytes e
IsFeedAt-from_position bytes (Some place) e = feed_at bytes place e

-- a piece up to the first line feed of a range
pub TakesPiece-from_range : (old new : LinesValue) (bytes : List ℕ) (from to place : ℕ)
    → old.pending ≡ slice_range bytes from to → IsFeedAt (slice_range bytes from to) place
    → new.pending ≡ slice_range bytes (from + (place + 1)) to
    → new.line ≡ old.line ++ take place (slice_range bytes from to) → TakesPiece old new
TakesPiece-from_range old new bytes from to place is at behind grown =
    let range = slice_range bytes from to in (
      take place range,
      is ∙ at.1 ∙ ap (λ xs. take place range ++ 10 ∷ xs) (drop-slice_range bytes from to (place + 1) ∙ sym behind),
      grown,
      at.2,
    )

-- The bytes that were taken into the line, and the piece with which it would be too long, stand before the first line
-- feed.
pub BeginsTooLong-from_piece : (old : Option (List ℕ)) (reading : LinesValue) (remaining : Option (List ℕ))
    → Consumes old (left reading remaining) reading.line
    → IsTrue (has_no_feed reading.line) → PassesBound reading → BeginsTooLong old
BeginsTooLong-from_piece None reading remaining taken clean long = tt
BeginsTooLong-from_piece (Some bytes) reading None taken clean long = absurd taken
BeginsTooLong-from_piece (Some bytes) reading (Some xs) taken clean (piece, rest, is, clean_piece, over) =
    let whole : bytes ≡ (reading.line ++ piece) ++ (rest ++ xs) =
    taken ∙ ap (λ ys. reading.line ++ (ys ++ xs)) is ∙ ap (λ ys. reading.line ++ ys) (append_assoc piece rest xs)
    ∙ sym (append_assoc reading.line piece (rest ++ xs)) in
    let both : IsTrue (has_no_feed (reading.line ++ piece)) = rw (list_all-append, clean, clean_piece) in
    (reading.line ++ piece, rest ++ xs, whole, both, omega (arith, length-append reading.line piece))

not_empty : (line : List ℕ) (c : ℕ) (rest : List ℕ) → line ++ c ∷ rest ≢ []
not_empty [] c rest e = cc
not_empty (d ∷ line) c rest e = cc

-- where a line is too long, or one too many, something is left
pub IsTooLong-none : (count : ℕ) → IsTooLong count (Some []) → ⊥
IsTooLong-none count (inl (many, some)) = some refl
IsTooLong-none count (inr ([], rest, is, clean, over)) = omega (arith, over)
IsTooLong-none count (inr (c ∷ front, rest, is, clean, over)) = not_empty [] c (front ++ rest) (sym is)
