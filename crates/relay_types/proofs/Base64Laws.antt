-- What decoding into a slice says of a text: under a strict engine, a text that decodes is the encoding of what it
-- decodes to, and the encoding of bytes for which there is room decodes to them.
use Rattle.std.proofs.Common.{◌≡◌, ℕ, ◌≤◌, ◌/◌, ◌∙◌, nat_lt, Bool, List, length, cond, ap, arith}
use Rattle.std.specs.declared.option.Option.{Option}
use Rattle.std.specs.declared.option.Option.TheVariants.{None}
use Rattle.std.specs.declared.result.Result.{Result}
use Rattle.std.specs.declared.result.Result.TheVariants.{Ok, Err}
use Rattle.std.proofs.lemmas.List.{length-append, length-replicate}
use Rattle.base64.specs.Decode.{Accepts, IsExact, or_else, or_error, bytes_fit, groups_before_last, decode_outcome}
use Rattle.base64.specs.Rfc4648.{encode}
use Rattle.base64.specs.GeneralPurpose.{IsBytes, IsStrict, decode_slice_of, decoded_bytes_of, encode_of}
use Rattle.base64.specs.declared.decode.DecodeError.{DecodeError}
use Rattle.base64.specs.declared.decode.DecodeSliceError.{DecodeSliceError}
use Rattle.base64.specs.declared.decode.DecodeSliceError.TheVariants.{OutputSliceTooSmall}
use Rattle.base64.specs.declared.engine.DecodePaddingMode.{DecodePaddingMode}
use Rattle.base64.specs.declared.engine.DecodePaddingMode.TheVariants.{Indifferent, RequireCanonical, RequireNone}
use Rattle.base64.specs.declared.engine.general_purpose.GeneralPurpose.{GeneralPurpose}
use Rattle.base64.proofs.EngineFacts.{decode_of_strict}
use Rattle.base64.proofs.RoundTrip.{decode-encode, length-encode_symbols}

-- what decoding answers into room bytes, of a text of q groups before the last, with these errors or n bytes
abbrev answer : Option DecodeError → Option DecodeError → ℕ → ℕ → ℕ → Result ℕ DecodeSliceError
answer lone rest q n room = or_error lone
    (cond (nat_lt (room / 3) q) (Err OutputSliceTooSmall) (or_error rest (bytes_fit n room)))

answer_ok : (lone rest : Option DecodeError) (q n room : ℕ) → or_else lone rest ≡ None → q ≤ room / 3 → n ≤ room
    → answer lone rest q n room ≡ Ok n
answer_ok lone rest q n room e groups fits = grind arith

fitted : (n room k : ℕ) → bytes_fit n room ≡ Ok k → (n ≡ k) × (k ≤ room)
fitted n room k e = grind arith

answered : (lone rest : Option DecodeError) (q n room k : ℕ) → answer lone rest q n room ≡ Ok k
    → (or_else lone rest ≡ None) × (n ≡ k) × (k ≤ room)
answered lone rest q n room k e = grind (arith, fitted)

-- the encoding of few bytes has few groups
groups_fit : (t b : List ℕ) (pad : ℕ) (padding : Bool) (room : ℕ) → length b ≤ room
    → groups_before_last (length (encode t pad padding b)) ≤ room / 3
groups_fit t b pad padding room h = grind (arith, length-append, length-replicate, length-encode_symbols)

accepted : (mode : DecodePaddingMode) (padding : Bool) → IsExact mode padding → Accepts mode padding
accepted Indifferent padding h = absurd h
accepted RequireCanonical padding h = h
accepted RequireNone padding h = h

-- the encoding of bytes decodes to them, where there is room
pub encoding_decodes : (e : GeneralPurpose) (b : List ℕ) (room : ℕ) → IsStrict e → IsBytes b → length b ≤ room
    → (decode_slice_of e (encode_of e b) room ≡ Ok (length b)) × (decoded_bytes_of e (encode_of e b) ≡ b)
encoding_decodes e b room strict bytes fits =
    let both = decode-encode e.encode_table e.decode_table b e.padding.value e.config.decode_allow_trailing_bits
    e.config.decode_padding_mode e.config.encode_padding e.tables bytes
    (accepted e.config.decode_padding_mode e.config.encode_padding strict.1) in
    let same : length (decoded_bytes_of e (encode_of e b)) ≡ length b = ap length both.1 in (
      answer_ok _ _ _ _ room both.0 (groups_fit e.encode_table b e.padding.value e.config.encode_padding room fits)
          (omega arith) ∙ ap Ok same,
      both.1,
    )

-- what decodes is the encoding of what it decodes to
pub decodes_encoding : (e : GeneralPurpose) (s : List ℕ) (room k : ℕ) → IsStrict e → IsBytes s
    → decode_slice_of e s room ≡ Ok k
    → (s ≡ encode_of e (decoded_bytes_of e s)) × (length (decoded_bytes_of e s) ≡ k) × (k ≤ room)
decodes_encoding e s room k strict bytes ok =
    let parts = answered _ _ _ _ room k ok in (
      decode_of_strict e s (decoded_bytes_of e s) strict bytes
          (ap (λ x. decode_outcome x (decoded_bytes_of e s)) parts.0),
      parts.1,
      parts.2,
    )
