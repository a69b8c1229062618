-- The parts of a text, between which a mark stands.
use Rattle.std.specs.Prelude.{◌≡◌, ◌≢◌, ℕ, ◌==◌, Bool, not, List, [], map, IsTrue}
use Rattle.std.specs.List.{list_all, join_with_byte}
use Rattle.std.specs.Borrow.{Bor}

-- words and numbers, with one space between
abbrev pub line : List (List ℕ) → List ℕ
line words = join_with_byte 32 words

-- what the references point to
abbrev pub texts : List (Bor (List ℕ)) → List (List ℕ)
texts words = map (λ word. word.now) words

abbrev pub has_no : ℕ → List ℕ → Bool
has_no mark text = list_all (λ c. not (c == mark)) text

-- These are the parts of the text: it is them with one mark between, and no mark stands in them.
abbrev pub HasParts : ℕ → List ℕ → List (List ℕ) → Type 0
HasParts mark text parts = (text ≡ join_with_byte mark parts) × (parts ≢ []) × IsTrue (list_all (has_no mark) parts)
