-- The forms in which a secret is written don't overlap: a text is in one of them for one secret at most.
use Rattle.std.proofs.Common.{◌≡◌, ℕ, ◌+◌, ◌*◌, ◌/◌, ◌%◌, ◌==◌, ◌<◌, ◌≤◌, ◌∙◌, Bool, true, false, not, List, [], ◌∷◌}
use Rattle.std.proofs.Common.{◌++◌, length, replicate, slice_index, codes, refl, sym, ap, arith, IsTrue, inl, inr, ◌⊎◌}
use Rattle.std.proofs.Common.{◌≢◌, Option, Bor, unwrap_or, MatchOption, eqb, take, drop, bytes_eq}
use Rattle.std.proofs.lemmas.Slice.Eq.{strip_prefix_is, bytes_eq-Decides}
use Rattle.std.specs.Cmp.Lexicographic.{pointwise}
use Rattle.std.proofs.lemmas.Bool.Decides.{Decides-eqb}
use Rattle.std.proofs.lemmas.Bool.{or_left, or_right, or_cases, eqb-false, not-true, leb-true, and_parts}
use Rattle.std.proofs.lemmas.List.{length-append, length-replicate}
use Rattle.base64.specs.GeneralPurpose.{IsBytes}
use Rattle.base64.specs.Rfc4648.{encode, encode_symbols, padding_len}
use Rattle.base64.proofs.RoundTrip.{length-encode_symbols}
use Rattle.base64.proofs.Tables.{all_below_at}
use Rattle.relay_types.specs.SecretText.{IsPaddedOrNot, ReadsSecret, base64_symbols, padded, unpadded, is_secret_text}
use Rattle.relay_types.specs.Values.{is_secret}
use Rattle.relay_types.proofs.ByteLaws.{IsBytes-from_all}

-- how long a secret is, and that it is of bytes
pub least_secret : (secret : List ℕ) → IsTrue (is_secret secret) → 24 ≤ length secret
least_secret secret h = leb-true 24 (length secret) (and_parts _ _ (and_parts _ _ h).0).0

pub most_secret : (secret : List ℕ) → IsTrue (is_secret secret) → length secret ≤ 64
most_secret secret h = leb-true (length secret) 64 (and_parts _ _ (and_parts _ _ h).0).1

pub secret_bytes : (secret : List ℕ) → IsTrue (is_secret secret) → IsBytes secret
secret_bytes secret h = IsBytes-from_all secret (and_parts _ _ h).1

-- base64 that is as long as padded base64 needs no padding
pub no_padding : (a b : List ℕ) → padded a ≡ unpadded b → unpadded b ≡ padded b
no_padding a b e =
    grind (
      arith,
      length-append (encode_symbols base64_symbols a) (replicate (padding_len (length a)) 61),
      length-append (encode_symbols base64_symbols b) [],
      length-encode_symbols base64_symbols a,
      length-encode_symbols base64_symbols b,
      length-replicate,
    )

-- `_` is no symbol
no_underscore : (k : ℕ) → k < 64 → slice_index base64_symbols k ≡ 95 → ⊥
no_underscore k h = eqb-false (slice_index base64_symbols k) 95
    (not-true _ (all_below_at (λ k. not (slice_index base64_symbols k == 95)) 64 k refl h))

-- so the base64 of a secret doesn't begin with the prefix
pub no_prefix : (padding : Bool) (b rest : List ℕ) → IsBytes b → 24 ≤ length b
    → encode base64_symbols 61 padding b ≡ codes "whsec_" ++ rest → ⊥
unfolding encode_symbols
no_prefix padding [] rest bytes long e = absurd (omega arith)
no_prefix padding (a ∷ []) rest bytes long e = absurd (omega arith)
no_prefix padding (a ∷ b ∷ []) rest bytes long e = absurd (omega arith)
no_prefix padding (a ∷ b ∷ c ∷ []) rest bytes long e = absurd (omega arith)
no_prefix padding (a ∷ b ∷ c ∷ d ∷ []) rest bytes long e = absurd (omega arith)
no_prefix padding (a ∷ b ∷ c ∷ d ∷ f ∷ []) rest bytes long e = absurd (omega arith)
no_prefix padding (a ∷ b ∷ c ∷ d ∷ f ∷ g ∷ more) rest bytes long e =
    let small : f < 256 = bytes 4 in
    no_underscore (d % 4 * 16 + f / 16) (omega arith) (ap (λ l. slice_index l 5) e)

-- the base64 of the text is what stands behind the prefix, or the whole text where it doesn't begin with that
abbrev pub IsBase64Part : List ℕ → List ℕ → Type 0
IsBase64Part text encoded = (text ≡ codes "whsec_" ++ encoded)
    ⊎ ((text ≡ encoded) × ((rest : List ℕ) → text ≢ codes "whsec_" ++ rest))

pub base64_part : (r : Option (Bor (List ℕ))) (text encoded : Bor (List ℕ))
    → MatchOption r (pointwise eqb (take 6 text.now) (codes "whsec_") ≡ false)
    (λ x. (pointwise eqb (take 6 text.now) (codes "whsec_") ≡ true) × (x.now ≡ drop 6 text.now)
    × (length x.now + 6 ≡ length text.now))
    → encoded ≡ unwrap_or r text → IsBase64Part text.now encoded.now
base64_part r text encoded m e = grind (arith, strip_prefix_is, Decides-eqb)

same : (a b : List ℕ) → a ≡ b → bytes_eq a b ≡ true
same a b = (bytes_eq-Decides a b).1

told : (a b : List ℕ) → bytes_eq a b ≡ true → a ≡ b
told a b = (bytes_eq-Decides a b).0

in_some_form : (text encoded secret : List ℕ) → IsBase64Part text encoded → (encoded ≡ padded secret)
    ⊎ (encoded ≡ unpadded secret) → is_secret_text text secret ≡ true
in_some_form text encoded secret h1 h2 = grind (arith, or_left, same, or_right)

-- a text is a secret's where its base64 is
pub reads_secret : (text encoded secret : List ℕ) → IsBase64Part text encoded → IsPaddedOrNot encoded secret
    → ReadsSecret text secret
reads_secret text encoded secret part h = (h.0, in_some_form text encoded secret part h.1)

pub base64_reads : (text encoded secret : List ℕ) → IsBase64Part text encoded → ReadsSecret text secret
    → IsPaddedOrNot encoded secret
base64_reads text encoded secret part h = (
  h.0,
  elim (or_cases _ _ h.1) [
    | inl a ↦ inl (behind (padded secret) part (told _ _ a))
    | inr r ↦ elim (or_cases _ _ r) [
      | inl b ↦ inr (behind (unpadded secret) part (told _ _ b))
      | inr q ↦ elim (or_cases _ _ q) [
        | inl c ↦ inl (whole true part (told _ _ c))
        | inr d ↦ inr (whole false part (told _ _ d))
      ]
    ]
  ],
)
  where
    behind : (x : List ℕ) → IsBase64Part text encoded → text ≡ codes "whsec_" ++ x → encoded ≡ x
    behind x (inl p) e = ap (drop 6) (sym p ∙ e)
    behind x (inr p) e = absurd (p.1 x e)

    whole : (padding : Bool) → IsBase64Part text encoded → text ≡ encode base64_symbols 61 padding secret
        → encoded ≡ encode base64_symbols 61 padding secret
    whole padding (inl p) e = absurd (no_prefix padding secret encoded (secret_bytes secret h.0)
        (least_secret secret h.0) (sym e ∙ p))
    whole padding (inr p) e = sym p.0 ∙ e
