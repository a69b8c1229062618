-- What is written for lines that are answered one after another. `Answers old line text new` is that from the one state
-- to the other the line is answered by this text.
use Rattle.std.specs.Prelude.{◌≡◌, ℕ, List, [], ◌∷◌, ◌++◌}
use Rattle.text_lines.specs.Streams.{with_feed}

-- the answers to the lines, each a line, which lead from one state to another
abbrev pub AnswersEach : {A : Type 0} → (A → List ℕ → List ℕ → A → Type 0) → A → List (List ℕ) → List ℕ → A → Type 0
AnswersEach {A} Answers old [] written new = (written ≡ []) × (old ≡ new)
AnswersEach {A} Answers old (line ∷ lines) written new =
    (next : A) × (text rest : List ℕ) × Answers old line text next × (written ≡ text ++ 10 ∷ rest)
    × AnswersEach Answers next lines rest new

-- the answers to the lines, which lead from this state to that one
abbrev pub AnswersTo : {A : Type 0} → (A → List ℕ → List ℕ → A → Type 0) → A → A → List (List ℕ) → List ℕ → Type 0
AnswersTo {A} Answers old new lines written = AnswersEach Answers old lines written new

-- the answers to the lines from this state on
abbrev pub AnswersFrom : {A : Type 0} → (A → List ℕ → List ℕ → A → Type 0) → A → List (List ℕ) → List ℕ → Type 0
AnswersFrom {A} Answers old lines written = (new : A) × AnswersEach Answers old lines written new

-- the line is answered by this line, which leads from one state to another
abbrev pub Gives : {A : Type 0} → (A → List ℕ → List ℕ → A → Type 0) → A → List ℕ → A → List ℕ → Type 0
Gives Answers old line new answer = (text : List ℕ) × Answers old line text new × (answer ≡ with_feed text)
