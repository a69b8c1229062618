-- How a command that answers each line of a reader ends, and what it has written then.
use Rattle.std.specs.Prelude.{◌≡◌, ◌≢◌, ℕ, ◌+◌, ◌≤◌, ◌⊎◌, nat_le, List, [], ◌∷◌, ◌++◌, length, Option, Some, Result, Ok}
use Rattle.std.specs.Prelude.{Err, IsTrue, codes, decimal}
use Rattle.std.specs.List.{list_all}
use Rattle.std.specs.Io.KnownBytes.{Appends, Keeps}
use Rattle.text_lines.specs.declared.fault.StreamFault.{StreamFault}
use Rattle.text_lines.specs.declared.fault.StreamFault.TheVariants.{BadLine, TooLong, Read, Write, Lost, OutOfMemory}
use Rattle.text_lines.specs.Streams.{LinesValue, AppendsFront, IsTooLong, has_no_feed}
use Rattle.text_lines.specs.declared.limits.TheConstants.{MAX_LINE_BYTES, MAX_LINES}

-- the lines, each with its line feed
abbrev pub fed : List (List ℕ) → List ℕ
fed [] = []
fed (text ∷ texts) = text ++ 10 ∷ fed texts

-- A text and its lines: no line has a line feed in it, each ends in one, and the last may lack it unless it is empty.
abbrev pub HasLines : List ℕ → List (List ℕ) → Type 0
HasLines text lines = IsTrue (list_all has_no_feed lines)
    × ((text ≡ fed lines) ⊎ ((first : List (List ℕ)) × (last : List ℕ) × (last ≢ []) × (lines ≡ first ++ last ∷ [])
    × (text ≡ fed first ++ last)))

-- as many lines as a reader may have, and of as many bytes as a line may have
abbrev pub AreWithinBounds : List (List ℕ) → Type 0
AreWithinBounds lines = (length lines ≤ MAX_LINES)
    × IsTrue (list_all (λ line. nat_le (length line) MAX_LINE_BYTES) lines)

-- Below, `Says lines written` is that this is written for these lines, and `IsBad line` that the text is no line of the
-- command.

-- the answers to all lines
abbrev pub IsWhole : (List (List ℕ) → List ℕ → Type 0) → List ℕ → List ℕ → Type 0
IsWhole Says text written = (lines : List (List ℕ)) × HasLines text lines × AreWithinBounds lines × Says lines written

-- the answers to the lines before the one of this number, which is a bad line within the bounds
abbrev pub IsUpToBad : (List (List ℕ) → List ℕ → Type 0) → (List ℕ → Type 0) → ℕ → List ℕ → List ℕ → Type 0
IsUpToBad Says IsBad number text written =
    (before : List (List ℕ)) × (bad : List ℕ) × (rest : List (List ℕ)) × HasLines text (before ++ bad ∷ rest)
    × AreWithinBounds (before ++ bad ∷ []) × (number ≡ length before + 1) × IsBad bad × Says before written

-- the answers to the lines before one that is too long, or one too many
abbrev pub IsUpToTooLong : (List (List ℕ) → List ℕ → Type 0) → List ℕ → List ℕ → Type 0
IsUpToTooLong Says text written =
    (before : List (List ℕ)) × (rest : List ℕ) × (text ≡ fed before ++ rest) × IsTrue (list_all has_no_feed before)
    × AreWithinBounds before × IsTooLong (length before) (Some rest) × Says before written

-- the answers to the first lines
abbrev pub IsUpToLine : (List (List ℕ) → List ℕ → Type 0) → List ℕ → List ℕ → Type 0
IsUpToLine Says text written = (before rest : List (List ℕ)) × HasLines text (before ++ rest) × AreWithinBounds before
    × Says before written

-- a front of the answers to the first lines
abbrev pub IsCut : (List (List ℕ) → List ℕ → Type 0) → List ℕ → List ℕ → Type 0
IsCut Says text written = (more : List ℕ) × IsUpToLine Says text (written ++ more)

-- What was written at this end: only a writer's fault cuts an answer.
abbrev pub IsWrittenAtEnd : (List (List ℕ) → List ℕ → Type 0) → (List ℕ → Type 0) → Result (Unit {0}) StreamFault
    → List ℕ → List ℕ → Type 0
IsWrittenAtEnd Says IsBad (Ok done) text written = IsWhole Says text written
IsWrittenAtEnd Says IsBad (Err (BadLine number)) text written = IsUpToBad Says IsBad number text written
IsWrittenAtEnd Says IsBad (Err TooLong) text written = IsUpToTooLong Says text written
IsWrittenAtEnd Says IsBad (Err Read) text written = IsUpToLine Says text written
IsWrittenAtEnd Says IsBad (Err Write) text written = IsCut Says text written
IsWrittenAtEnd Says IsBad (Err Lost) text written = IsUpToLine Says text written
IsWrittenAtEnd Says IsBad (Err OutOfMemory) text written = IsUpToLine Says text written

-- Known bytes of a reader are the text, and those of a writer grew by what this end says.
abbrev pub Ends : (List (List ℕ) → List ℕ → Type 0) → (List ℕ → Type 0) → Option (List ℕ) → Option (List ℕ)
    → Option (List ℕ) → Result (Unit {0}) StreamFault → Type 0
Ends Says IsBad input old new end =
    (text had : List ℕ) → input ≡ Some text → old ≡ Some had → (written : List ℕ) × (new ≡ Some (had ++ written))
    × IsWrittenAtEnd Says IsBad end text written

-- The end came between two lines: each line that was taken in is answered.
abbrev pub IsBetweenLines : Result (Unit {0}) StreamFault → Type 0
IsBetweenLines (Err Write) = ⊥
IsBetweenLines (Err Lost) = ⊥
IsBetweenLines (Err OutOfMemory) = ⊥
IsBetweenLines _ = Unit {0}

-- the exit status of an end: 2 for what was read, 3 for the rest
abbrev pub status_of : Result (Unit {0}) StreamFault → ℕ
status_of (Ok done) = 0
status_of (Err (BadLine number)) = 2
status_of (Err TooLong) = 2
status_of _ = 3

-- how a fault is told
abbrev pub fault_text : StreamFault → List ℕ
fault_text (BadLine number) = codes "line " ++ decimal number ++ codes ": bad line"
fault_text TooLong = codes "TooLong"
fault_text Read = codes "Read"
fault_text Write = codes "Write"
fault_text Lost = codes "Lost"
fault_text OutOfMemory = codes "OutOfMemory"

-- Below, `Gives answer` is that the line that was read is answered by these bytes.

-- nothing was written, or a front of the line's answer
abbrev pub CutsLine : (List ℕ → Type 0) → Option (List ℕ) → Option (List ℕ) → Type 0
CutsLine Gives old new = Keeps old new ⊎ ((answer : List ℕ) × Gives answer × AppendsFront old new answer)

-- how the answering of one line ends
abbrev pub EndsLine : (List ℕ → Type 0) → (List ℕ → Type 0) → LinesValue → Option (List ℕ) → Option (List ℕ)
    → Result (Unit {0}) StreamFault → Type 0
EndsLine Gives IsBad lines old new (Ok done) = (answer : List ℕ) × Gives answer × Appends old new answer
EndsLine Gives IsBad lines old new (Err (BadLine number)) = (number ≡ lines.count) × IsBad lines.line × Keeps old new
EndsLine Gives IsBad lines old new (Err TooLong) = ⊥
EndsLine Gives IsBad lines old new (Err Read) = ⊥
EndsLine Gives IsBad lines old new (Err Write) = CutsLine Gives old new
EndsLine Gives IsBad lines old new (Err Lost) = Keeps old new
EndsLine Gives IsBad lines old new (Err OutOfMemory) = Keeps old new
