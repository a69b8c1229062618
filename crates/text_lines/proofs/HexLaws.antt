-- Hexadecimal text as it is defined here, and as its reader answers.
use Rattle.std.proofs.Common.{◌≡◌, ℕ, ◌+◌, ◌*◌, false, ◌==◌, List, [], ◌∷◌, length, codes, Option, Some, None, Result}
use Rattle.std.proofs.Common.{Ok, Err, inl, inr, refl, sym, ap, ◌∙◌, arith}
use Rattle.hex.specs.Hex.{decode_of, decode_pairs, digit_or_error, ◌>>=◌}
use Rattle.hex.specs.declared.error.FromHexError.{FromHexError}
use Rattle.hex.proofs.HexLemmas.{decode_of-even, decode_of-ok}
use Rattle.text_lines.specs.Words.{hex_digit, HasBodyLength, HexOf, IsBodyWord}

abbrev pair : Option ℕ → Option ℕ → ℕ → ℕ → ℕ → Result (List ℕ) FromHexError → Result (List ℕ) FromHexError
pair high low h l i rest =
    ((digit_or_error h i high) >>= (λ x. (digit_or_error l (i + 1) low) >>= (λ y. Ok (x * 16 + y)))) >>=
    (λ byte. rest >>= (λ bytes. Ok (byte ∷ bytes)))

abbrev IsPair : Option ℕ → Option ℕ → Result (List ℕ) FromHexError → List ℕ → Type 0
IsPair high low rest bytes = (x : ℕ) × (y : ℕ) × (more : List ℕ) × (high ≡ Some x) × (low ≡ Some y) × (rest ≡ Ok more)
    × (bytes ≡ (16 * x + y) ∷ more)

from_pair : (high low : Option ℕ) (h l i : ℕ) (rest : Result (List ℕ) FromHexError) (bytes : List ℕ)
    → pair high low h l i rest ≡ Ok bytes → IsPair high low rest bytes
from_pair None low h l i rest bytes e = cc
from_pair (Some x) None h l i rest bytes e = cc
from_pair (Some x) (Some y) h l i (Err fault) bytes e = cc
from_pair (Some x) (Some y) h l i (Ok more) bytes e =
    let same : (x * 16 + y) ∷ more ≡ bytes = cc in
    let byte : x * 16 + y ≡ 16 * x + y = omega arith in
    (x, y, more, refl, refl, refl, sym same ∙ ap (λ b. b ∷ more) byte)

to_pair : (high low : Option ℕ) (h l i : ℕ) (rest : Result (List ℕ) FromHexError) (x y b : ℕ) (more : List ℕ)
    → high ≡ Some x → low ≡ Some y → rest ≡ Ok more
    → b ≡ 16 * x + y → pair high low h l i rest ≡ Ok (b ∷ more)
to_pair high low h l i rest x y b more eh el er eb =
    let byte : x * 16 + y ≡ b = omega (arith, eb) in
    rw (eh, el, er) (ap (λ (n : ℕ). Ok (n ∷ more)) byte)

-- what is decoded is the meaning of the word, and the other way round
pub HexOf-from_decoded : (i : ℕ) (word bytes : List ℕ) → decode_pairs i word ≡ Ok bytes → HexOf word bytes
unfolding decode_pairs
HexOf-from_decoded i [] [] e = tt
HexOf-from_decoded i [] (b ∷ bytes) e = cc
HexOf-from_decoded i (c ∷ []) bytes e = cc
HexOf-from_decoded i (high ∷ low ∷ word) [] e =
    let parts = from_pair (hex_digit high) (hex_digit low) high low i (decode_pairs (i + 2) word) [] e in
    let no = parts.6 in cc
HexOf-from_decoded i (high ∷ low ∷ word) (b ∷ bytes) e =
    let parts = from_pair (hex_digit high) (hex_digit low) high low i (decode_pairs (i + 2) word) (b ∷ bytes) e in
    let is = parts.6 in
    let byte : b ≡ 16 * parts.0 + parts.1 = cc in
    let more : parts.2 ≡ bytes = cc in (
      (parts.0, parts.1, parts.3, parts.4, byte),
      HexOf-from_decoded (i + 2) word bytes
          (parts.5 ∙ ap (λ (xs : List ℕ). Ok xs) more),
    )

pub decoded-from_HexOf : (i : ℕ) (word bytes : List ℕ) → HexOf word bytes → decode_pairs i word ≡ Ok bytes
unfolding decode_pairs
decoded-from_HexOf i [] [] h = refl
decoded-from_HexOf i [] (b ∷ bytes) h = absurd h
decoded-from_HexOf i (c ∷ []) [] h = absurd h
decoded-from_HexOf i (c ∷ []) (b ∷ bytes) h = absurd h
decoded-from_HexOf i (high ∷ low ∷ word) [] h = absurd h
decoded-from_HexOf i (high ∷ low ∷ word) (b ∷ bytes) h =
    let digits = h.0 in
    to_pair (hex_digit high) (hex_digit low) high low i (decode_pairs (i + 2) word) digits.0 digits.1 b bytes digits.2
    digits.3 (decoded-from_HexOf (i + 2) word bytes h.1) digits.4

even : (word bytes : List ℕ) → HexOf word bytes → length word ≡ 2 * length bytes
even [] [] h = refl
even [] (b ∷ bytes) h = absurd h
even (c ∷ []) [] h = absurd h
even (c ∷ []) (b ∷ bytes) h = absurd h
even (high ∷ low ∷ word) [] h = absurd h
even (high ∷ low ∷ word) (b ∷ bytes) h = let same = even word bytes h.1 in omega (arith, same)

decode_is : (word bytes : List ℕ) → HexOf word bytes → decode_of word ≡ Ok bytes
decode_is word bytes h = let same = even word bytes h in decode_of-even word (omega (arith, same))
    ∙ decoded-from_HexOf 0 word bytes h

-- ---- the word of a body

body_word : (word bytes : List ℕ) → (length word == 0) ≡ false → HexOf word bytes → IsBodyWord word bytes
body_word [] [] some h = cc
body_word (c ∷ []) [] some h = absurd h
body_word (c ∷ d ∷ word) [] some h = absurd h
body_word word (b ∷ bytes) some h = h

pub IsBodyWord-decoded : (word bytes : List ℕ) → (length word == 0) ≡ false → decode_of word ≡ Ok bytes
    → IsBodyWord word bytes
IsBodyWord-decoded word bytes some e =
    let parts = decode_of-ok word bytes e in
    body_word word bytes some (HexOf-from_decoded 0 word bytes (sym (decode_of-even word parts.0) ∙ e))

pub no_body : (word bytes : List ℕ) (fault : FromHexError) → (word ≡ codes "-" → ⊥) → decode_of word ≡ Err fault
    → IsBodyWord word bytes → ⊥
no_body word [] fault other e h = other h
no_body word (b ∷ bytes) fault other e h = let is = decode_is word (b ∷ bytes) h in cc

no_digit : (word bytes : List ℕ) → word ≡ codes "-" → HexOf word bytes → ⊥
no_digit word bytes e h = let len = even word bytes h in let one = ap length e in omega (arith, len, one)

pub one_body : (word a b : List ℕ) → IsBodyWord word a → IsBodyWord word b → a ≡ b
one_body word [] [] h k = refl
one_body word [] (b ∷ bs) h k = absurd (no_digit word (b ∷ bs) h k)
one_body word (a ∷ more) [] h k = absurd (no_digit word (a ∷ more) k h)
one_body word (a ∷ more) (b ∷ bs) h k =
    let first = decode_is word (a ∷ more) h in
    let second = decode_is word (b ∷ bs) k in
    cc

-- the word of a body is long enough for it
pub long_enough : (word bytes : List ℕ) → IsBodyWord word bytes → HasBodyLength word
long_enough word [] h = inl h
long_enough word (b ∷ bytes) h =
    let twice = even word (b ∷ bytes) h in
    inr (λ none. let empty = ap length none in omega (arith, empty, twice), omega (arith, twice))
