-- A word stands for one list of secrets at most.
use Rattle.std.proofs.Common.{◌≡◌, ◌∙◌, inl, inr, Bool, true, false, List, ℕ, [], ◌∷◌, ◌++◌, take, drop, codes, refl}
use Rattle.std.proofs.Common.{sym, ap, bytes_eq}
use Rattle.std.proofs.lemmas.Bool.{cases_Bool, false≢true}
use Rattle.std.proofs.lemmas.List.{take-append-drop}
use Rattle.std.proofs.lemmas.Slice.Eq.{bytes_eq-Decides}
use Rattle.base64.specs.Decode.{decoded_bytes}
use Rattle.base64.specs.Engines.{standard}
use Rattle.base64.specs.GeneralPurpose.{IsBytes}
use Rattle.base64.specs.Rfc4648.{encode}
use Rattle.base64.specs.declared.engine.DecodePaddingMode.TheVariants.{Indifferent}
use Rattle.base64.proofs.RoundTrip.{decode-encode}
use Rattle.relay_types.specs.SecretText.{ReadsSecret, IsPaddedOrNot, base64_symbols}
use Rattle.relay_types.proofs.SecretLaws.{IsBase64Part, base64_reads, no_padding, secret_bytes}
use Rattle.text_lines.specs.Words.{ReadSecrets, IsSecretsWord}
use Rattle.text_lines.proofs.PartLaws.{HasParts-split}
use Rattle.text_lines.proofs.SecretWords.{the_words}

-- bytes of one encoding are the same
same_encoding : (padding : Bool) (a b : List ℕ) → IsBytes a → IsBytes b
    → encode base64_symbols 61 padding a ≡ encode base64_symbols 61 padding b → a ≡ b
same_encoding padding a b bytes_a bytes_b e =
    sym (decoded a bytes_a) ∙ ap (decoded_bytes standard.decode_table 61) e ∙ decoded b bytes_b
  where
    decoded : (bytes : List ℕ) → IsBytes bytes
        → decoded_bytes standard.decode_table 61 (encode base64_symbols 61 padding bytes) ≡ bytes
    decoded bytes are = (decode-encode base64_symbols standard.decode_table bytes 61 false Indifferent padding
        standard.tables are tt).1

one_padded : (encoded a b : List ℕ) → IsPaddedOrNot encoded a → IsPaddedOrNot encoded b → a ≡ b
one_padded encoded a b (secret_a, inl e) (secret_b, inl f) = same_encoding true a b (secret_bytes a secret_a)
    (secret_bytes b secret_b) (sym e ∙ f)
one_padded encoded a b (secret_a, inl e) (secret_b, inr f) = same_encoding true a b (secret_bytes a secret_a)
    (secret_bytes b secret_b) (sym e ∙ f ∙ no_padding a b (sym e ∙ f))
one_padded encoded a b (secret_a, inr e) (secret_b, inl f) = same_encoding true a b (secret_bytes a secret_a)
    (secret_bytes b secret_b) (sym (sym f ∙ e ∙ no_padding b a (sym f ∙ e)))
one_padded encoded a b (secret_a, inr e) (secret_b, inr f) = same_encoding false a b (secret_bytes a secret_a)
    (secret_bytes b secret_b) (sym e ∙ f)

-- the base64 of a text
base64_part_of : (text : List ℕ) → (encoded : List ℕ) × IsBase64Part text encoded
base64_part_of text = elim (cases_Bool (bytes_eq (take 6 text) (codes "whsec_"))) [
  | inl e ↦ (
    drop 6 text,
    inl (sym (take-append-drop 6 text) ∙ ap (λ front. front ++ drop 6 text)
        ((bytes_eq-Decides (take 6 text) (codes "whsec_")).0 e)),
  )
  | inr e ↦ (
    text,
    inr (
      refl,
      λ rest is. absurd
          (false≢true (sym e ∙ (bytes_eq-Decides (take 6 text) (codes "whsec_")).1 (ap (take 6) is))),
    ),
  )
]

one_secret : (text a b : List ℕ) → ReadsSecret text a → ReadsSecret text b → a ≡ b
one_secret text a b h k =
    let part = base64_part_of text in
    one_padded part.0 a b (base64_reads text part.0 a part.1 h) (base64_reads text part.0 b part.1 k)

one_each : (words a b : List (List ℕ)) → ReadSecrets words a → ReadSecrets words b → a ≡ b
one_each [] [] [] h k = refl
one_each [] [] (s ∷ b) h k = absurd k
one_each [] (s ∷ a) b h k = absurd h
one_each (word ∷ words) [] b h k = absurd h
one_each (word ∷ words) (s ∷ a) [] h k = absurd k
one_each (word ∷ words) (s ∷ a) (t ∷ b) h k = λ i. one_secret word s t h.0 k.0 i ∷ one_each words a b h.1 k.1 i

pub one_secrets : (word : List ℕ) (a b : List (List ℕ)) → IsSecretsWord word a → IsSecretsWord word b → a ≡ b
one_secrets word a b h k = one_each _ a b (the_words word _ a (HasParts-split 44 word) h).0
    (the_words word _ b (HasParts-split 44 word) k).0
