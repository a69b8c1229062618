-- Lines that are answered one after another.
use Rattle.std.proofs.Common.{ℕ, List, [], ◌∷◌, ◌++◌, Option, Result, Ok, Err, refl, sym, ap, subst, ◌∙◌, append_assoc}
use Rattle.text_lines.specs.declared.fault.StreamFault.{StreamFault}
use Rattle.text_lines.specs.declared.fault.StreamFault.TheVariants.{BadLine, TooLong, Read, Write, Lost, OutOfMemory}
use Rattle.text_lines.specs.Answers.{AnswersEach, Gives}
use Rattle.text_lines.specs.Ends.{IsWrittenAtEnd, Ends}

-- one line more is answered
pub AnswersEach-more : {A : Type 0} (Answers : A → List ℕ → List ℕ → A → Type 0) (old mid new : A)
    (lines : List (List ℕ)) (written line answer : List ℕ) → AnswersEach Answers old lines written mid
    → Gives Answers mid line new answer → AnswersEach Answers old (lines ++ line ∷ []) (written ++ answer) new
AnswersEach-more Answers old mid new [] written line answer (none, same) (text, answers, is) = (
  new,
  text,
  [],
  subst (λ state. Answers state line text new) (sym same) answers,
  ap (λ xs. xs ++ answer) none
      ∙ is,
  (refl, refl),
)
AnswersEach-more Answers old mid new (first ∷ lines) written line answer (next, text, rest, answers, is, each) gives = (
  next,
  text,
  rest ++ answer,
  answers,
  ap (λ xs. xs ++ answer) is ∙ append_assoc text (10 ∷ rest) answer,
  AnswersEach-more Answers next mid new lines rest line answer each gives,
)

-- What follows of what is written for some lines follows at every end.
module _ (Says More : List (List ℕ) → List ℕ → Type 0) (IsBad : List ℕ → Type 0)
    (more : (lines : List (List ℕ)) (written : List ℕ) → Says lines written → More lines written) where
  at_end : (end : Result (Unit {0}) StreamFault) (text written : List ℕ) → IsWrittenAtEnd Says IsBad end text written
      → IsWrittenAtEnd More IsBad end text written
  at_end (Ok done) text written (lines, is, within, says) = (lines, is, within, more lines written says)
  at_end (Err (BadLine number)) text written (before, bad, rest, is, within, place, refused, says) =
      (before, bad, rest, is, within, place, refused, more before written says)
  at_end (Err TooLong) text written (before, rest, is, clean, within, long, says) =
      (before, rest, is, clean, within, long, more before written says)
  at_end (Err Read) text written (before, rest, is, within, says) = (before, rest, is, within, more before written says)
  at_end (Err Write) text written (left, (before, rest, is, within, says)) =
      (left, (before, rest, is, within, more before (written ++ left) says))
  at_end (Err Lost) text written (before, rest, is, within, says) = (before, rest, is, within, more before written says)
  at_end (Err OutOfMemory) text written (before, rest, is, within, says) =
      (before, rest, is, within, more before written says)

  pub Ends-more : (input old new : Option (List ℕ)) (end : Result (Unit {0}) StreamFault)
      → Ends Says IsBad input old new end → Ends More IsBad input old new end
  Ends-more input old new end ends text had known had_is =
      let (written, is, so) = ends text had known had_is in
      (written, is, at_end end text written so)
