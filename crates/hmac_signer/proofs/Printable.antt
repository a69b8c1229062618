-- A header of signatures has printable ASCII alone.
use Rattle.std.proofs.Common.{◌≡◌, ℕ, zero, suc, ◌+◌, ◌*◌, ◌<◌, ◌/◌, ◌%◌, Bool, true, List, [], ◌∷◌, ◌++◌, codes}
use Rattle.std.proofs.Common.{replicate, length, get_or, flat_map, refl, arith, lit<}
use Rattle.std.specs.List.{list_all}
use Rattle.std.specs.Int.{w32, to_be_bytes, byte_at, bytes_high_first}
use Rattle.std.proofs.lemmas.List.Folds.{list_all-append}
use Rattle.std.proofs.lemmas.List.Sums.{AllPass-from_list_all}
use Rattle.base64.specs.Rfc4648.{encode_symbols, padding_len}
use Rattle.sha2.specs.Sha256.{sha256, digest_bytes}
use Rattle.relay_types.specs.Values.{is_between}
use Rattle.hmac_signer.specs.Hmac.{hmac}
use Rattle.hmac_signer.specs.Signature.{base64_text, signature, signatures}

-- each number of the list is a byte
abbrev AreBytes : List ℕ → Type 0
AreBytes xs = (i : ℕ) → get_or xs i 0 < 256

AreBytes-append : (xs ys : List ℕ) → AreBytes xs → AreBytes ys → AreBytes (xs ++ ys)
AreBytes-append [] ys hx hy i = hy i
AreBytes-append (x ∷ xs) ys hx hy zero = hx 0
AreBytes-append (x ∷ xs) ys hx hy (suc i) = AreBytes-append xs ys (λ j. hx (suc j)) hy i

byte_at_below : (k n : ℕ) → byte_at k n < 256
byte_at_below zero n = omega arith
byte_at_below (suc k) n = omega arith

AreBytes-high_first : (k n : ℕ) → AreBytes (bytes_high_first k n)
AreBytes-high_first zero n i = lit< tt
AreBytes-high_first (suc k) n zero = byte_at_below k n
AreBytes-high_first (suc k) n (suc i) = AreBytes-high_first k n i

AreBytes-digest : (h : List ℕ) (n : ℕ) → AreBytes (digest_bytes h n)
unfolding digest_bytes
AreBytes-digest h zero i = lit< tt
AreBytes-digest h (suc n) i = AreBytes-append (digest_bytes h n) (to_be_bytes w32 (get_or h n 0)) (AreBytes-digest h n)
    (AreBytes-high_first 4 (get_or h n 0)) i

AreBytes-hmac : (key text : List ℕ) → AreBytes (hmac key text)
unfolding hmac sha256
AreBytes-hmac key text i = AreBytes-digest _ 8 i

symbols_pass : (p : ℕ → Bool) (t : List ℕ) → ((i : ℕ) → i < 64 → p (get_or t i 0) ≡ true) → (m : List ℕ) → AreBytes m
    → list_all p (encode_symbols t m) ≡ true
unfolding encode_symbols
symbols_pass p t h [] bytes = refl
symbols_pass p t h (a ∷ []) bytes =
    let a_low : a < 256 = bytes 0 in
    rw (h (a / 4) (omega arith), h (a % 4 * 16) (omega arith)) refl
symbols_pass p t h (a ∷ b ∷ []) bytes =
    let a_low : a < 256 = bytes 0 in
    let b_low : b < 256 = bytes 1 in
    rw (h (a / 4) (omega arith), h (a % 4 * 16 + b / 16) (omega arith), h (b % 16 * 4) (omega arith)) refl
symbols_pass p t h (a ∷ b ∷ c ∷ rest) bytes =
    let a_low : a < 256 = bytes 0 in
    let b_low : b < 256 = bytes 1 in
    let c_low : c < 256 = bytes 2 in
    rw (
      h (a / 4) (omega arith),
      h (a % 4 * 16 + b / 16) (omega arith),
      h (b % 16 * 4 + c / 64) (omega arith),
      h
          (c % 64) (omega arith),
    )
    (symbols_pass p t h rest (λ i. bytes (suc (suc (suc i)))))

repeats_pass : (p : ℕ → Bool) (n c : ℕ) → p c ≡ true → list_all p (replicate n c) ≡ true
repeats_pass p zero c h = refl
repeats_pass p (suc n) c h = rw h (repeats_pass p n c h)

abbrev alphabet : List ℕ
alphabet = codes "ABCDEFGHIJKLMNOPQRSTUVWXYZabcdefghijklmnopqrstuvwxyz0123456789+/"

symbol_printable : (i : ℕ) → i < 64 → is_between 32 126 (get_or alphabet i 0) ≡ true
symbol_printable i h = AllPass-from_list_all (is_between 32 126) alphabet refl i 0 h

base64_printable : (m : List ℕ) → AreBytes m → list_all (is_between 32 126) (base64_text m) ≡ true
base64_printable m bytes =
    rw (list_all-append, symbols_pass (is_between 32 126) alphabet symbol_printable m bytes)
    (repeats_pass (is_between 32 126) (padding_len (length m)) 61 refl)

signature_printable : (content secret : List ℕ) → list_all (is_between 32 126) (signature content secret) ≡ true
unfolding signature
signature_printable content secret = base64_printable (hmac secret content) (AreBytes-hmac secret content)

behind_printable : (content : List ℕ) (secrets : List (List ℕ))
    → list_all (is_between 32 126) (flat_map (λ secret. codes " " ++ signature content secret) secrets) ≡ true
behind_printable content [] = refl
behind_printable content (secret ∷ rest) =
    rw (list_all-append, signature_printable content secret) (behind_printable content rest)

pub signatures_printable : (content : List ℕ) (secrets : List (List ℕ))
    → list_all (is_between 32 126) (signatures content secrets) ≡ true
signatures_printable content [] = refl
signatures_printable content (secret ∷ rest) =
    rw (list_all-append, signature_printable content secret) (behind_printable content rest)
