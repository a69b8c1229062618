-- Visible characters are ASCII.
use Rattle.std.proofs.Common.{◌<◌, ℕ, List, [], ◌∷◌, IsTrue, arith}
use Rattle.std.specs.Prelude.{IsAscii}
use Rattle.std.proofs.lemmas.Bool.{and_parts}
use Rattle.std.proofs.lemmas.Bool.Decides.{nat_tests}
use Rattle.std.proofs.lemmas.Str.Ascii.{IsAscii-nil, IsAscii-cons}
use Rattle.relay_types.specs.Values.{is_visible_character, is_visible}

ascii_character : (c : ℕ) → IsTrue (is_visible_character c) → c < 128
ascii_character c h = grind (arith, nat_tests)

pub ascii_visible : (text : List ℕ) → IsTrue (is_visible text) → IsAscii text
ascii_visible [] h = IsAscii-nil
ascii_visible (c ∷ text) h =
    let both = and_parts (is_visible_character c) (is_visible text) h in
    IsAscii-cons c text (ascii_character c both.0) (ascii_visible text both.1)
