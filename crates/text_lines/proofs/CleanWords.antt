-- No space stands in a word that is read.
use Rattle.std.proofs.Common.{◌≡◌, ℕ, ◌<◌, ◌^◌, ◌==◌, true, not, List, [], ◌∷◌, decimal, Some, IsTrue, refl, sym, ap}
use Rattle.std.proofs.Common.{subst, arith, leb-true}
use Rattle.std.specs.Prelude.{nat_le, is_some}
use Rattle.std.specs.Char.{is_ascii_digit}
use Rattle.std.specs.Str.{all_ascii_digits}
use Rattle.std.proofs.lemmas.Bool.{and_parts}
use Rattle.std.proofs.lemmas.Fmt.{digits_decimal}
use Rattle.std.proofs.lemmas.Str.Parse.{numerals_by_value, tells_all_ascii_digits}
use Rattle.relay_types.specs.Values.{is_name, is_msg_id, is_target, is_visible, is_visible_character}
use Rattle.relay_types.proofs.VisibleLaws.{visible_name, visible_id, visible_target}
use Rattle.text_lines.specs.Parts.{has_no}
use Rattle.text_lines.specs.Words.{hex_digit, HexOf, IsBodyWord, IsSecretsWord}
use Rattle.text_lines.proofs.MarkLaws.{clean-cons, clean-from_all, clean-join, clean-secrets, passes}

-- what is visible is no space
clean-visible : (text : List ℕ) → IsTrue (is_visible text) → IsTrue (has_no 32 text)
clean-visible = clean-from_all is_visible_character 32 refl

pub clean-name : (text : List ℕ) → IsTrue (is_name text) → IsTrue (has_no 32 text)
clean-name text h = clean-visible text (visible_name text h)

pub clean-id : (text : List ℕ) → IsTrue (is_msg_id text) → IsTrue (has_no 32 text)
clean-id text h = clean-visible text (visible_id text h)

pub clean-target : (text : List ℕ) → IsTrue (is_target text) → IsTrue (has_no 32 text)
clean-target text h = clean-visible text (visible_target text h)

clean-digits : (text : List ℕ) → all_ascii_digits text ≡ true → IsTrue (has_no 32 text)
clean-digits [] h = refl
clean-digits (c ∷ text) h =
    let both = and_parts (is_ascii_digit c) (all_ascii_digits text) h in
    clean-cons 32 c text (passes is_ascii_digit 32 c refl both.0) (clean-digits text both.1)

pub clean-decimal : (n : ℕ) → n < 2 ^ 64 → IsTrue (has_no 32 (decimal n))
clean-decimal n h = clean-digits (decimal n)
    (digits_decimal (numerals_by_value (λ ds. all_ascii_digits ds ≡ true) tells_all_ascii_digits) n h)

pub at_most : (n k : ℕ) → nat_le n k ≡ true → k < 2 ^ 64 → n < 2 ^ 64
at_most n k h small = let le = leb-true n k h in omega (arith, le)

-- a hexadecimal digit is no space
clean-hex : (c h : ℕ) → hex_digit c ≡ Some h → not (c == 32) ≡ true
clean-hex c h e = passes (λ d. is_some (hex_digit d)) 32 c refl (ap is_some e)

clean-bytes : (word bytes : List ℕ) → HexOf word bytes → IsTrue (has_no 32 word)
clean-bytes [] [] h = refl
clean-bytes [] (b ∷ bytes) h = absurd h
clean-bytes (c ∷ []) [] h = absurd h
clean-bytes (c ∷ []) (b ∷ bytes) h = absurd h
clean-bytes (high ∷ low ∷ word) [] h = absurd h
clean-bytes (high ∷ low ∷ word) (b ∷ bytes) h =
    clean-cons 32 high (low ∷ word) (clean-hex high h.0.0 h.0.2)
    (clean-cons 32 low word (clean-hex low h.0.1 h.0.3) (clean-bytes word bytes h.1))

pub clean-body : (word bytes : List ℕ) → IsBodyWord word bytes → IsTrue (has_no 32 word)
clean-body word [] h = subst (λ xs. IsTrue (has_no 32 xs)) (sym h) refl
clean-body word (b ∷ bytes) h = clean-bytes word (b ∷ bytes) h

pub clean-secrets_word : (word : List ℕ) (secrets : List (List ℕ)) → IsSecretsWord word secrets
    → IsTrue (has_no 32 word)
clean-secrets_word word secrets (words, e, (reads, many)) =
    subst (λ xs. IsTrue (has_no 32 xs)) (sym e)
    (clean-join 32 44 words refl (clean-secrets 32 words secrets refl reads))
