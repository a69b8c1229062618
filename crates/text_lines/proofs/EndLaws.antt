-- The lines of a text, read and answered one after another.
use Rattle.std.proofs.Common.{◌≡◌, ℕ, ◌+◌, ◌≤◌, ◌==◌, Bool, true, false, ◌⊎◌, inl, inr, List, [], ◌∷◌, ◌++◌, length}
use Rattle.std.proofs.Common.{Option, Some, None, Result, Ok, Err, IsTrue, refl, sym, ap, subst, ◌∙◌, arith, le-leb}
use Rattle.std.proofs.Common.{append_assoc, append-nil, length-append}
use Rattle.std.specs.Prelude.{OnOk, OnErr, IfErr, nat_le}
use Rattle.std.specs.List.{list_all}
use Rattle.std.specs.Io.KnownBytes.{Appends, Keeps, IsAtEnd}
use Rattle.std.proofs.lemmas.List.Folds.{list_all-append}
use Rattle.std.proofs.lemmas.Bool.{eqb-true, and_parts}
use Rattle.text_lines.specs.declared.fault.StreamFault.{StreamFault}
use Rattle.text_lines.specs.declared.fault.StreamFault.TheVariants.{BadLine, TooLong, Read, Write, Lost, OutOfMemory}
use Rattle.text_lines.specs.Streams.{LinesValue, left, has_no_feed, TakesLine, IsTooLong, AppendsFront}
use Rattle.text_lines.specs.Ends.{fed, HasLines, AreWithinBounds, IsWhole, IsUpToBad, IsUpToTooLong, IsUpToLine, IsCut}
use Rattle.text_lines.specs.Ends.{IsWrittenAtEnd, IsBetweenLines, CutsLine, EndsLine}
use Rattle.text_lines.proofs.FeedLaws.{IsTooLong-none}
use Rattle.text_lines.proofs.StreamLaws.{Appends-known}
use Rattle.text_lines.specs.declared.limits.TheConstants.{MAX_LINE_BYTES, MAX_LINES}

-- ---- the lines of a text

fed-append : (front back : List (List ℕ)) → fed (front ++ back) ≡ fed front ++ fed back
fed-append [] back = refl
fed-append (text ∷ front) back = ap (λ xs. text ++ 10 ∷ xs) (fed-append front back)
    ∙ sym (append_assoc text (10 ∷ fed front) (fed back))

-- How far a text is read: these lines are, and the last of them lacked its line feed only where nothing is left.
abbrev HasLinesBefore : List ℕ → List (List ℕ) → List ℕ → Type 0
HasLinesBefore text lines rest = ((text ≡ fed lines ++ rest) × IsTrue (list_all has_no_feed lines))
    ⊎ ((rest ≡ []) × HasLines text lines)

-- where nothing is left, they are the lines of the text
HasLines-from_all : (text : List ℕ) (lines : List (List ℕ)) → HasLinesBefore text lines [] → HasLines text lines
HasLines-from_all text lines (inl (is, clean)) = (clean, inl (is ∙ append-nil (fed lines)))
HasLines-from_all text lines (inr (_, all)) = all

both_clean : (xs ys : List (List ℕ)) → IsTrue (list_all has_no_feed xs) → IsTrue (list_all has_no_feed ys)
    → IsTrue (list_all has_no_feed (xs ++ ys))
both_clean xs ys h i = rw (list_all-append, h, i)

alone : (line : List ℕ) → IsTrue (has_no_feed line) → IsTrue (list_all has_no_feed (line ∷ []))
alone line h = rw h refl

no_line_left : (line new : List ℕ) → [] ≡ line ++ 10 ∷ new → ⊥
no_line_left [] new e = cc
no_line_left (c ∷ line) new e = cc

-- one line more is read
HasLinesBefore-more : (text : List ℕ) (lines : List (List ℕ)) (old new line : List ℕ) → HasLinesBefore text lines old
    → TakesLine (Some old) (Some new) line
    → IsTrue (has_no_feed line) → HasLinesBefore text (lines ++ line ∷ []) new
HasLinesBefore-more text lines old new line (inl (is, clean)) (inl e) clean_line =
    let whole : text ≡ fed (lines ++ line ∷ []) ++ new =
    is ∙ ap (λ xs. fed lines ++ xs) (e ∙ sym (append_assoc line (10 ∷ []) new))
    ∙ sym (append_assoc (fed lines) (line ++ 10 ∷ []) new)
    ∙ ap (λ xs. xs ++ new) (sym (fed-append lines (line ∷ []))) in
    inl (whole, both_clean lines (line ∷ []) clean (alone line clean_line))
HasLinesBefore-more text lines old new line (inl (is, clean)) (inr (e, some, none)) clean_line =
    inr (
      none,
      (
        both_clean lines (line ∷ []) clean (alone line clean_line),
        inr
            (lines, line, some, refl, is ∙ ap (λ xs. fed lines ++ xs) e),
      ),
    )
HasLinesBefore-more text lines old new line (inr (gone, all)) (inl e) clean_line = absurd
    (no_line_left line new (sym gone ∙ e))
HasLinesBefore-more text lines old new line (inr (gone, all)) (inr (e, some, none)) clean_line = absurd
    (some (sym e ∙ gone))

-- each text has lines, of which the last may be open
record Split (text : List ℕ) : Type 0 where
  first : List (List ℕ)
  last : List ℕ
  is : text ≡ fed first ++ last
  clean : IsTrue (list_all has_no_feed first)
  clean_last : IsTrue (has_no_feed last)

split : (text : List ℕ) → Split text
split [] = record { first = []; last = []; is = refl; clean = refl; clean_last = refl }
split (c ∷ text) = at (c == 10) refl (split text)
  where
    onto : (first : List (List ℕ)) (last : List ℕ) → text ≡ fed first ++ last → IsTrue (list_all has_no_feed first)
        → IsTrue (has_no_feed last) → c == 10 ≡ false → Split (c ∷ text)
    onto [] last is clean clean_last other = record {
      first = [];
      last = c ∷ last;
      is = ap (λ xs. c ∷ xs) is;
      clean =
          refl;
      clean_last = rw other clean_last;
    }
    onto (line ∷ first) last is clean clean_last other =
        record {
          first = (c ∷ line) ∷ first;
          last = last;
          is = ap (λ xs. c ∷ xs) is;
          clean =
              rw other clean;
          clean_last = clean_last;
        }

    at : (b : Bool) → c == 10 ≡ b → Split text → Split (c ∷ text)
    at true e s = record {
      first = [] ∷ s.first;
      last = s.last;
      is = λ i. eqb-true c 10 e i ∷ s.is i;
      clean =
          s.clean;
      clean_last = s.clean_last;
    }
    at false e s = onto s.first s.last s.is s.clean s.clean_last e

-- the lines of a text that are read, and the others
goes_on : (text : List ℕ) (lines : List (List ℕ)) (rest : List ℕ) → HasLinesBefore text lines rest
    → (more : List (List ℕ)) × HasLines text (lines ++ more)
goes_on text lines rest (inr all) = ([], subst (HasLines text) (sym (append-nil lines)) all.1)
goes_on text lines rest (inl before) = at s.last refl
  where
    s : Split rest
    s = split rest

    at : (last : List ℕ) → s.last ≡ last → (more : List (List ℕ)) × HasLines text (lines ++ more)
    at [] e = (
      s.first,
      (
        both_clean lines s.first before.1 s.clean,
        inl (before.0 ∙ ap (λ xs. fed lines ++ xs) (s.is ∙ ap (λ xs. fed s.first ++ xs) e ∙ append-nil (fed s.first))
            ∙ sym (fed-append lines s.first)),
      ),
    )
    at (c ∷ last) e = (
      s.first ++ (c ∷ last) ∷ [],
      (
        both_clean lines (s.first ++ (c ∷ last) ∷ []) before.1
            (both_clean s.first ((c ∷ last) ∷ []) s.clean
            (alone (c ∷ last) (subst (λ l. IsTrue (has_no_feed l)) e s.clean_last))),
        inr (
          lines ++ s.first,
          c ∷ last,
          (λ h. cc),
          sym (append_assoc lines s.first ((c ∷ last) ∷ [])),
          before.0 ∙ ap (λ xs. fed lines ++ xs) (s.is ∙ ap (λ xs. fed s.first ++ xs) e)
              ∙ sym (append_assoc (fed lines) (fed s.first) (c ∷ last))
              ∙ ap (λ xs. xs ++ c ∷ last) (sym (fed-append lines s.first)),
        ),
      ),
    )

-- ---- known bytes

kept : (before after : Option (List ℕ)) (old : List ℕ) → before ≡ Some old → Keeps before after → after ≡ Some old
kept before after old is h = at after (subst (λ o. Keeps o after) is h)
  where
    at : (o : Option (List ℕ)) → Keeps (Some old) o → o ≡ Some old
    at None h = absurd h
    at (Some new) h = ap Some h

-- ---- how far a text is answered

-- These lines are read and this is written for them. `Holds lines written` is what lasts from line to line.
pub record Progress (Holds : List (List ℕ) → List ℕ → Type 0) (text had : List ℕ) (reading : LinesValue)
    (remaining contents : Option (List ℕ)) : Type 0 where
  pub lines : List (List ℕ)
  pub rest : List ℕ
  pub written : List ℕ
  pub is_left : left reading remaining ≡ Some rest
  pub taken : HasLinesBefore text lines rest
  pub within : AreWithinBounds lines
  pub count : reading.count ≡ length lines
  pub holds : Holds lines written
  pub is_written : contents ≡ Some (had ++ written)

-- and the next line is read, but not answered yet
pub record Taken (Holds : List (List ℕ) → List ℕ → Type 0) (text had : List ℕ) (reading : LinesValue)
    (remaining contents : Option (List ℕ)) : Type 0 where
  pub lines : List (List ℕ)
  pub rest : List ℕ
  pub written : List ℕ
  pub is_left : left reading remaining ≡ Some rest
  pub taken : HasLinesBefore text (lines ++ reading.line ∷ []) rest
  pub within : AreWithinBounds (lines ++ reading.line ∷ [])
  pub count : reading.count ≡ length lines + 1
  pub holds : Holds lines written
  pub is_written : contents ≡ Some (had ++ written)

-- what an end writes
abbrev pub Written : (List ℕ → Type 0) → List ℕ → Option (List ℕ) → Type 0
Written Is had contents = (written : List ℕ) × (contents ≡ Some (had ++ written)) × Is written

pub begins : (Holds : List (List ℕ) → List ℕ → Type 0) (text had : List ℕ) (reading : LinesValue)
    (remaining contents : Option (List ℕ)) → Holds [] [] → remaining ≡ Some text → contents ≡ Some had
    → reading ≡ record { pending = []; line = []; count = 0; failed = false }
    → Progress Holds text had reading remaining contents
begins Holds text had reading remaining contents holds input output new = record {
  lines = [];
  rest = text;
  written = [];
  is_left = (λ i. left (new i) (input i));
  taken = inl (refl, refl);
  within = (omega arith, refl);
  count = ap (λ r. r.count) new;
  holds = holds;
  is_written = output ∙ ap Some (sym (append-nil had));
}

within_more : (lines : List (List ℕ)) (line : List ℕ) → AreWithinBounds lines → length lines + 1 ≤ MAX_LINES
    → length line ≤ MAX_LINE_BYTES → AreWithinBounds (lines ++ line ∷ [])
within_more lines line within few short = (
  omega (arith, length-append lines (line ∷ []), few),
  rw (list_all-append, within.1, le-leb (length line) MAX_LINE_BYTES short) refl,
)

none_within : AreWithinBounds []
none_within = (omega arith, refl)

within_front : (lines : List (List ℕ)) (line : List ℕ) → AreWithinBounds (lines ++ line ∷ []) → AreWithinBounds lines
within_front lines line within = (
  omega (arith, length-append lines (line ∷ []), within.0),
  (and_parts (list_all (λ l. nat_le (length l) MAX_LINE_BYTES) lines) _ (rw list_all-append at within.1)).0,
)

pub takes : {Holds : List (List ℕ) → List ℕ → Type 0} (text had : List ℕ) (old new : LinesValue)
    (before after contents : Option (List ℕ)) → Progress Holds text had old before contents
    → TakesLine (left old before) (left new after) new.line → IsTrue (has_no_feed new.line) → new.count ≡ old.count + 1
    → length new.line ≤ MAX_LINE_BYTES → new.count ≤ MAX_LINES
    → Taken Holds text had new after contents
takes {Holds} text had old new before after contents p line clean number short few = at (left new after) refl
  where
    at : (o : Option (List ℕ)) → left new after ≡ o → Taken Holds text had new after contents
    at None e = absurd (let h : TakesLine (Some p.rest) None new.line = subst (λ o. TakesLine (Some p.rest) o new.line)
        e (subst (λ o. TakesLine o (left new after) new.line) p.is_left line) in h)
    at (Some rest) e =
        let h : TakesLine (Some p.rest) (Some rest) new.line = subst (λ o. TakesLine (Some p.rest) o new.line) e
        (subst (λ o. TakesLine o (left new after) new.line) p.is_left line) in
        record {
          lines = p.lines;
          rest = rest;
          written = p.written;
          is_left = e;
          taken =
              HasLinesBefore-more text p.lines p.rest rest new.line p.taken h clean;
          within =
              within_more p.lines new.line p.within (omega (arith, number, p.count, few)) short;
          count = number
              ∙ ap (λ n. n + 1) p.count;
          holds = p.holds;
          is_written = p.is_written;
        }

-- the line is answered
pub answered : {Before After : List (List ℕ) → List ℕ → Type 0} (text had : List ℕ) (reading : LinesValue)
    (remaining old new : Option (List ℕ)) (answer : List ℕ) (t : Taken Before text had reading remaining old)
    → After (t.lines ++ reading.line ∷ []) (t.written ++ answer) → Appends old new answer
    → Progress After text had reading remaining new
answered text had reading remaining old new answer t holds grows = record {
  lines = t.lines ++ reading.line ∷ [];
  rest = t.rest;
  written = t.written ++ answer;
  is_left = t.is_left;
  taken = t.taken;
  within = t.within;
  count = omega (arith, t.count, length-append t.lines (reading.line ∷ []));
  holds = holds;
  is_written = Appends-known old new (had ++ t.written) answer t.is_written grows
      ∙ ap Some (append_assoc had t.written answer);
}

-- ---- the ends

-- the reader's end
pub whole : {Holds : List (List ℕ) → List ℕ → Type 0} (Says : List (List ℕ) → List ℕ → Type 0) (text had : List ℕ)
    (reading : LinesValue) (remaining contents : Option (List ℕ))
    (p : Progress Holds text had reading remaining contents)
    → Says p.lines p.written → IsAtEnd (left reading remaining) → Written (IsWhole Says text) had contents
whole Says text had reading remaining contents p says end =
    let none : p.rest ≡ [] = subst IsAtEnd p.is_left end in (
      p.written,
      p.is_written,
      (p.lines, HasLines-from_all text p.lines (subst (HasLinesBefore text p.lines) none p.taken), p.within, says),
    )

up_to_line : (Says : List (List ℕ) → List ℕ → Type 0) (text : List ℕ) (lines : List (List ℕ)) (rest written : List ℕ)
    → HasLinesBefore text lines rest → AreWithinBounds lines → Says lines written → IsUpToLine Says text written
up_to_line Says text lines rest written taken within says =
    let all = goes_on text lines rest taken in
    (lines, all.0, all.1, within, says)

too_long_at : (Says : List (List ℕ) → List ℕ → Type 0) (text : List ℕ) (lines : List (List ℕ)) (rest written : List ℕ)
    → HasLinesBefore text lines rest → AreWithinBounds lines → IsTooLong (length lines) (Some rest) → Says lines written
    → IsUpToTooLong Says text written
too_long_at Says text lines rest written (inl (is, clean)) within long says =
    (lines, rest, is, clean, within, long, says)
too_long_at Says text lines rest written (inr (none, all)) within long says = absurd
    (IsTooLong-none (length lines) (subst (λ bytes. IsTooLong (length lines) (Some bytes)) none long))

-- a fault before the next line is read
pub ends_between : {Holds : List (List ℕ) → List ℕ → Type 0} (Says : List (List ℕ) → List ℕ → Type 0) (IsBad : List ℕ
    → Type 0) (text had : List ℕ) (reading : LinesValue) (remaining contents : Option (List ℕ)) (fault : StreamFault)
    (p : Progress Holds text had reading remaining contents) → Says p.lines p.written → (fault ≡ TooLong)
    ⊎ ((fault ≡ Read) ⊎ (fault ≡ OutOfMemory))
    → (fault ≡ TooLong → IsTooLong reading.count (left reading remaining))
    → Written (IsWrittenAtEnd Says IsBad (Err fault) text) had contents
ends_between Says IsBad text had reading remaining contents fault p says why long = (p.written, p.is_written, at why)
  where
    at : (fault ≡ TooLong) ⊎ ((fault ≡ Read) ⊎ (fault ≡ OutOfMemory))
        → IsWrittenAtEnd Says IsBad (Err fault) text p.written
    at (inl e) =
        let behind : IsTooLong (length p.lines) (Some p.rest) = subst (λ n. IsTooLong n (Some p.rest)) p.count
        (subst (IsTooLong reading.count) p.is_left (long e)) in
        subst (λ f. IsWrittenAtEnd Says IsBad (Err f) text p.written) (sym e)
        (too_long_at Says text p.lines p.rest p.written p.taken p.within behind says)
    at (inr (inl e)) = subst (λ f. IsWrittenAtEnd Says IsBad (Err f) text p.written) (sym e)
        (up_to_line Says text p.lines p.rest p.written p.taken p.within says)
    at (inr (inr e)) = subst (λ f. IsWrittenAtEnd Says IsBad (Err f) text p.written) (sym e)
        (up_to_line Says text p.lines p.rest p.written p.taken p.within says)

-- a fault before the first line is read
pub ends_at_once : (Says : List (List ℕ) → List ℕ → Type 0) (IsBad : List ℕ → Type 0) (text had : List ℕ)
    (contents : Option (List ℕ)) (fault : StreamFault) → Says [] [] → contents ≡ Some had
    → (fault ≡ Lost) ⊎ (fault ≡ OutOfMemory) → Written (IsWrittenAtEnd Says IsBad (Err fault) text) had contents
ends_at_once Says IsBad text had contents fault says output why = ([], output ∙ ap Some (sym (append-nil had)), at why)
  where
    at : (fault ≡ Lost) ⊎ (fault ≡ OutOfMemory) → IsWrittenAtEnd Says IsBad (Err fault) text []
    at (inl e) = subst (λ f. IsWrittenAtEnd Says IsBad (Err f) text []) (sym e)
        (up_to_line Says text [] text [] (inl (refl, refl)) none_within says)
    at (inr e) = subst (λ f. IsWrittenAtEnd Says IsBad (Err f) text []) (sym e)
        (up_to_line Says text [] text [] (inl (refl, refl)) none_within says)

-- the line that was read stays unanswered
before_line : {Holds : List (List ℕ) → List ℕ → Type 0} (Says : List (List ℕ) → List ℕ → Type 0) (text had : List ℕ)
    (reading : LinesValue) (remaining old new : Option (List ℕ))
    (t : Taken Holds text had reading remaining old) → Says t.lines t.written → Keeps old new
    → Written (IsUpToLine Says text) had new
before_line Says text had reading remaining old new t says same =
    let all = goes_on text (t.lines ++ reading.line ∷ []) t.rest t.taken in (
      t.written,
      kept old new (had ++ t.written) t.is_written same,
      (
        t.lines,
        reading.line ∷ all.0,
        subst (HasLines text) (append_assoc t.lines (reading.line ∷ []) all.0) all.1,
        within_front t.lines reading.line t.within,
        says,
      ),
    )

cut_line : {Holds : List (List ℕ) → List ℕ → Type 0} (Says : List (List ℕ) → List ℕ → Type 0) (Gives : List ℕ → Type 0)
    (text had : List ℕ) (reading : LinesValue) (remaining old new : Option (List ℕ))
    (t : Taken Holds text had reading remaining old) → Says t.lines t.written
    → ((answer : List ℕ) → Gives answer → Says (t.lines ++ reading.line ∷ []) (t.written ++ answer))
    → CutsLine Gives old new
    → Written (IsCut Says text) had new
cut_line Says Gives text had reading remaining old new t says more (inl same) =
    let stays = before_line Says text had reading remaining old new t says same in
    (stays.0, stays.1, ([], subst (IsUpToLine Says text) (sym (append-nil stays.0)) stays.2))
cut_line Says Gives text had reading remaining old new t says more (inr (answer, gives, (rest, (front, is, grows)))) =
    let all = goes_on text (t.lines ++ reading.line ∷ []) t.rest t.taken in (
      t.written ++ front,
      Appends-known old new (had ++ t.written) front t.is_written grows ∙ ap Some (append_assoc had t.written front),
      (
        rest,
        (
          t.lines ++ reading.line ∷ [],
          all.0,
          all.1,
          t.within,
          subst (Says (t.lines ++ reading.line ∷ []))
              (ap (λ xs. t.written ++ xs) is ∙ sym (append_assoc t.written front rest)) (more answer gives),
        ),
      ),
    )

bad_line : {Holds : List (List ℕ) → List ℕ → Type 0} (Says : List (List ℕ) → List ℕ → Type 0) (IsBad : List ℕ → Type 0)
    (text had : List ℕ) (reading : LinesValue) (remaining old new : Option (List ℕ)) (number : ℕ)
    (t : Taken Holds text had reading remaining old) → Says t.lines t.written → (number ≡ reading.count)
    × IsBad reading.line × Keeps old new → Written (IsUpToBad Says IsBad number text) had new
bad_line Says IsBad text had reading remaining old new number t says (is, bad, same) =
    let all = goes_on text (t.lines ++ reading.line ∷ []) t.rest t.taken in (
      t.written,
      kept old new (had ++ t.written) t.is_written same,
      (
        t.lines,
        reading.line,
        all.0,
        subst (HasLines text) (append_assoc t.lines (reading.line ∷ []) all.0) all.1,
        t.within,
        is ∙ t.count,
        bad,
        says,
      ),
    )

-- a fault of the line
pub ends_at_line : {Holds : List (List ℕ) → List ℕ → Type 0} (Says : List (List ℕ) → List ℕ → Type 0)
    (IsBad Gives : List ℕ → Type 0) (text had : List ℕ) (reading : LinesValue) (remaining old new : Option (List ℕ))
    (fault : StreamFault)
    (t : Taken Holds text had reading remaining old) → Says t.lines t.written
    → ((answer : List ℕ) → Gives answer → Says (t.lines ++ reading.line ∷ []) (t.written ++ answer))
    → EndsLine Gives IsBad reading old new (Err fault)
    → Written (IsWrittenAtEnd Says IsBad (Err fault) text) had new
ends_at_line Says IsBad Gives text had reading remaining old new (BadLine number) t says more h =
    bad_line Says IsBad text had reading remaining old new number t says h
ends_at_line Says IsBad Gives text had reading remaining old new TooLong t says more h = absurd h
ends_at_line Says IsBad Gives text had reading remaining old new Read t says more h = absurd h
ends_at_line Says IsBad Gives text had reading remaining old new Write t says more h = cut_line Says Gives text had
    reading remaining old new t says more h
ends_at_line Says IsBad Gives text had reading remaining old new Lost t says more h = before_line Says text had reading
    remaining old new t says h
ends_at_line Says IsBad Gives text had reading remaining old new OutOfMemory t says more h = before_line Says text had
    reading remaining old new t says h

-- a bad line is the one fault of a line that comes between two lines
pub ends_between_lines : {Holds : List (List ℕ) → List ℕ → Type 0} (Says : List (List ℕ) → List ℕ → Type 0)
    (IsBad Gives : List ℕ → Type 0) (text had : List ℕ) (reading : LinesValue) (remaining old new : Option (List ℕ))
    (fault : StreamFault)
    (t : Taken Holds text had reading remaining old) → ((number : ℕ) → fault ≡ BadLine number → Says t.lines t.written)
    → IsBetweenLines (Err fault) → EndsLine Gives IsBad reading old new (Err fault)
    → Written (IsWrittenAtEnd Says IsBad (Err fault) text) had new
ends_between_lines Says IsBad Gives text had reading remaining old new (BadLine number) t says between h =
    bad_line Says IsBad text had reading remaining old new number t (says number refl) h
ends_between_lines Says IsBad Gives text had reading remaining old new TooLong t says between h = absurd h
ends_between_lines Says IsBad Gives text had reading remaining old new Read t says between h = absurd h
ends_between_lines Says IsBad Gives text had reading remaining old new Write t says between h = absurd between
ends_between_lines Says IsBad Gives text had reading remaining old new Lost t says between h = absurd between
ends_between_lines Says IsBad Gives text had reading remaining old new OutOfMemory t says between h = absurd between

-- what a written answer comes to
pub written_line : (Gives IsBad : List ℕ → Type 0) (lines : LinesValue) (old new : Option (List ℕ)) (answer : List ℕ)
    (end : Result (Unit {0}) StreamFault) → Gives answer → OnOk end (Appends old new answer)
    → OnErr end (AppendsFront old new answer) → (end ≡ Err OutOfMemory → Keeps old new)
    → IfErr end (λ fault. (fault ≡ Write) ⊎ (fault ≡ OutOfMemory)) → EndsLine Gives IsBad lines old new end
written_line Gives IsBad lines old new answer (Ok done) gives all front lacked why = (answer, gives, all)
written_line Gives IsBad lines old new answer (Err fault) gives all front lacked (inl e) = subst
    (λ f. EndsLine Gives IsBad lines old new (Err f)) (sym e) (inr (answer, gives, front))
written_line Gives IsBad lines old new answer (Err fault) gives all front lacked (inr e) = subst
    (λ f. EndsLine Gives IsBad lines old new (Err f)) (sym e) (lacked (ap Err e))

-- a fault that is handed on
pub exits : (Says : List (List ℕ) → List ℕ → Type 0) (IsBad : List ℕ → Type 0) (end : Result (Unit {0}) StreamFault)
    (text had : List ℕ) (contents : Option (List ℕ)) (fault : StreamFault) → end ≡ Err fault
    → Written (IsWrittenAtEnd Says IsBad (Err fault) text) had contents
    → Written (IsWrittenAtEnd Says IsBad end text) had contents
exits Says IsBad end text had contents fault is h =
    (h.0, h.1, subst (λ e. IsWrittenAtEnd Says IsBad e text h.0) (sym is) h.2)
