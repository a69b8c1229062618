-- The lines of samples, taken one after another.
use Rattle.std.proofs.Common.{◌≡◌, ℕ, Bool, zero, suc, ◌≤◌, List, [], ◌∷◌, ◌++◌, length, take, refl, sym, ap, ◌∙◌}
use Rattle.std.proofs.Common.{arith, length-append, append_assoc, append-nil}
use Rattle.vegas.specs.declared.sample.Sample.{Sample}
use Rattle.vegas.specs.declared.state.State.{State}
use Rattle.vegas.specs.Estimators.{EstimatorValue, Explains, HasNumbers, StandsFor, before_last}
use Rattle.text_lines.specs.Parts.{line}
use Rattle.text_lines.specs.Answers.{AnswersEach, AnswersFrom}
use Rattle.text_lines.specs.Streams.{with_feed}
use Rattle.tool_commands.specs.declared.vegas_command.Follower.{Follower}
use Rattle.tool_commands.specs.Traces.{ReadSamples, estimator_words, numbers_of, sampled_text, told_words, trace_text}
use Rattle.tool_commands.specs.Traces.{Traced, AnswersSample}

-- the first samples are those of a longer list
take_front : (k : ℕ) (xs : List Sample) (x : Sample) → k ≤ length xs → take k (xs ++ x ∷ []) ≡ take k xs
take_front zero xs x h = refl
take_front (suc k) [] x h = absurd (omega (arith, h))
take_front (suc k) (y ∷ xs) x h = ap (λ ys. y ∷ ys) (take_front k xs x (omega (arith, h)))

take_all : (xs : List Sample) (x : Sample) → take (suc (length xs)) (xs ++ x ∷ []) ≡ xs ++ x ∷ []
take_all [] x = refl
take_all (y ∷ xs) x = ap (λ ys. y ∷ ys) (take_all xs x)

text_front : (explains : Bool) (maximum : ℕ) (xs : List Sample) (x : Sample) (k : ℕ) → k ≤ length xs
    → trace_text explains maximum (xs ++ x ∷ []) k ≡ trace_text explains maximum xs k
text_front explains maximum xs x zero h = refl
text_front explains maximum xs x (suc k) h = λ i. text_front explains maximum xs x k (omega (arith, h)) i
    ++ sampled_text explains maximum (take_front (suc k) xs x h i)

text_more : (explains : Bool) (maximum : ℕ) (xs : List Sample) (x : Sample)
    → trace_text explains maximum (xs ++ x ∷ []) (length (xs ++ x ∷ [])) ≡ trace_text explains maximum xs (length xs)
    ++ sampled_text explains maximum (xs ++ x ∷ [])
text_more explains maximum xs x =
    let len : length (xs ++ x ∷ []) ≡ suc (length xs) = omega (arith, length-append xs (x ∷ [])) in
    ap (trace_text explains maximum (xs ++ x ∷ [])) len
    ∙ (λ i. text_front explains maximum xs x (length xs) (omega arith) i ++ sampled_text explains maximum
    (take_all xs x i))

numbers_are : (most maximum : ℕ) (state : State) (xs : List Sample) → most ≡ maximum → HasNumbers most state xs
    → state ≡ numbers_of maximum xs
numbers_are most maximum state xs is has =
    (λ i. record { limit = has.limit i; noload = has.noload i; probes = has.probes i }) ∙ ap (λ m. numbers_of m xs) is

-- what is told of an estimator is what is told after its samples
told : (explains : Bool) (maximum : ℕ) (e : EstimatorValue) (xs : List Sample) → e.maximum ≡ maximum → StandsFor e xs
    → Explains e xs
    → with_feed (line (estimator_words explains e)) ≡ sampled_text explains maximum xs
told explains maximum e xs is stands whys =
    λ i. with_feed
    (line (told_words explains (numbers_are e.maximum maximum e.state xs is stands i)
    (numbers_are e.maximum maximum e.base (before_last xs) is whys.base i) (length (whys.last i))))

-- the samples of further lines, and what is told after each of them
traced_after : (explains : Bool) (maximum : ℕ) (old new : Follower) (before : List Sample) (lines : List (List ℕ))
    (written : List ℕ) → old.explains ≡ explains → old.estimator.maximum ≡ maximum
    → StandsFor old.estimator before → Explains old.estimator before → AnswersEach AnswersSample old lines written new
    → (xs : List Sample) × ReadSamples lines xs
    × (trace_text explains maximum before (length before) ++ written ≡ trace_text explains maximum (before ++ xs)
    (length (before ++ xs)))
traced_after explains maximum old new before [] written so is stands whys (none, same) =
    let so_far = trace_text explains maximum before (length before) in (
      [],
      tt,
      ap (λ ys. so_far ++ ys) none ∙ append-nil so_far ∙ ap (λ ys. trace_text explains maximum ys (length ys))
          (sym (append-nil before)),
    )
traced_after explains maximum old new before (text ∷ texts) written so is stands whys
    (next, said, rest, (x, reads, still, same, follows, goes_on, answer), grows, each) =
    let so_far = trace_text explains maximum before (length before) in
    let longer = before ++ x ∷ [] in
    let (xs, more, e) = traced_after explains maximum next new longer texts rest (still ∙ so) (same ∙ is)
    (follows before stands) (goes_on before whys) each in
    let one : so_far ++ with_feed said ≡ trace_text explains maximum longer (length longer) =
    ap (λ ys. so_far ++ ys) (ap with_feed answer ∙ ap (λ b. with_feed (line (estimator_words b next.estimator))) (still
    ∙ so) ∙ told explains maximum next.estimator longer (same ∙ is) (follows before stands) (goes_on before whys))
    ∙ sym (text_more explains maximum before x) in (
      x ∷ xs,
      (reads, more),
      ap (λ ys. so_far ++ ys) (grows ∙ sym (append_assoc said (10 ∷ []) rest))
          ∙ sym (append_assoc so_far (with_feed said) rest) ∙ ap (λ ys. ys ++ rest) one ∙ e
          ∙ ap (λ ys. trace_text explains maximum ys (length ys)) (append_assoc before (x ∷ []) xs),
    )

pub Traced-none : (explains : Bool) (maximum : ℕ) → Traced explains maximum [] []
Traced-none explains maximum = ([], tt, refl)

-- what is written for lines that are answered from no sample on
pub Traced-from_answers : (maximum : ℕ) (first : Follower) → first.estimator.maximum ≡ maximum
    → StandsFor first.estimator [] → Explains first.estimator [] → (lines : List (List ℕ)) (written : List ℕ)
    → AnswersFrom AnswersSample first lines written → Traced first.explains maximum lines written
Traced-from_answers maximum first is stands whys lines written (last, each) = traced_after first.explains maximum first
    last [] lines written refl is stands whys each
