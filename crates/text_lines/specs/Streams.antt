-- What is read from a reader and written to a writer, whose bytes are known.
use Rattle.std.specs.Prelude.{◌≡◌, ◌≢◌, ℕ, ◌+◌, ◌≤◌, ◌<◌, Bool, List, [], ◌∷◌, ◌++◌, length, take, drop, Option, Some}
use Rattle.std.specs.Prelude.{None, IsTrue, IfSome, ◌⊎◌}
use Rattle.text_lines.specs.Parts.{has_no}
use Rattle.std.specs.Io.KnownBytes.{Appends, prepend_known}
use Rattle.text_lines.specs.declared.limits.TheConstants.{MAX_LINE_BYTES, MAX_LINES}

-- a text and its line feed
abbrev pub with_feed : List ℕ → List ℕ
with_feed text = text ++ 10 ∷ []

abbrev pub has_no_feed : List ℕ → Bool
has_no_feed text = has_no 10 text

-- known bytes grew by what stands before the rest
abbrev pub AppendsBefore : List ℕ → Option (List ℕ) → Option (List ℕ) → List ℕ → Type 0
AppendsBefore rest old new bytes = (front : List ℕ) × (bytes ≡ front ++ rest) × Appends old new front

-- known bytes grew by a front of these: by all of them, some or none
abbrev pub AppendsFront : Option (List ℕ) → Option (List ℕ) → List ℕ → Type 0
AppendsFront old new bytes = (rest : List ℕ) × AppendsBefore rest old new bytes

-- Where the reading of lines stands: the bytes that are read but in no line yet, the line, its number, and whether it
-- ended in a fault.
pub record LinesValue : Type 0 where
  pub pending : List ℕ
  pub line : List ℕ
  pub count : ℕ
  pub failed : Bool

-- what is left: the pending bytes, and then those of the reader
abbrev pub left : LinesValue → Option (List ℕ) → Option (List ℕ)
left reading remaining = prepend_known reading.pending remaining

-- Known bytes begin with the line and its feed, and lose them. The last line may lack the feed, unless it is empty.
abbrev pub TakesLine : Option (List ℕ) → Option (List ℕ) → List ℕ → Type 0
TakesLine None new line = Unit {0}
TakesLine (Some old) None line = ⊥
TakesLine (Some old) (Some new) line = (old ≡ line ++ 10 ∷ new) ⊎ ((old ≡ line) × (line ≢ []) × (new ≡ []))

-- more known bytes than a line may have stand before the first line feed
abbrev pub BeginsTooLong : Option (List ℕ) → Type 0
BeginsTooLong known = IfSome known (λ bytes. (front : List ℕ) × (rest : List ℕ) × (bytes ≡ front ++ rest)
    × IsTrue (has_no_feed front) × (MAX_LINE_BYTES < length front))

-- The line after this many is too long, or one too many.
abbrev pub IsTooLong : ℕ → Option (List ℕ) → Type 0
IsTooLong count known = ((MAX_LINES ≤ count) × IfSome known (λ bytes. bytes ≢ [])) ⊎ BeginsTooLong known

-- the first line feed stands at the place
abbrev pub IsFeedAt : List ℕ → ℕ → Type 0
IsFeedAt bytes place = (place < length bytes) × (bytes ≡ take place bytes ++ 10 ∷ drop (place + 1) bytes)
    × IsTrue (has_no_feed (take place bytes))

-- the line grew by the pending bytes before the first line feed, and those behind it are pending
abbrev pub TakesPiece : LinesValue → LinesValue → Type 0
TakesPiece old new = (piece : List ℕ) × (old.pending ≡ piece ++ 10 ∷ new.pending) × (new.line ≡ old.line ++ piece)
    × IsTrue (has_no_feed piece)

-- with the pending bytes before the first line feed, the line is too long
abbrev pub PassesBound : LinesValue → Type 0
PassesBound old = (piece : List ℕ) × (rest : List ℕ) × (old.pending ≡ piece ++ rest) × IsTrue (has_no_feed piece)
    × (MAX_LINE_BYTES < length old.line + length piece)
