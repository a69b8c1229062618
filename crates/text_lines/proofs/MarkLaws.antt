-- Marks that stand in no word: a word's characters pass a test that the mark fails.
use Rattle.std.proofs.Common.{◌+◌, ◌*◌, ◌/◌, ◌%◌, ◌≡◌, ℕ, zero, suc, ◌==◌, Bool, true, false, not, List, [], ◌∷◌, ◌++◌}
use Rattle.std.proofs.Common.{length, replicate, codes, IsTrue, eqb-true, refl, sym, ap, ◌∙◌, subst, inl, inr, ◌⊎◌}
use Rattle.std.specs.Prelude.{◌&&◌, ◌||◌, bytes_eq, slice_index}
use Rattle.std.specs.List.{list_all, join_with_byte}
use Rattle.std.proofs.lemmas.Bool.{and_parts}
use Rattle.std.proofs.lemmas.List.Folds.{list_all-append}
use Rattle.std.proofs.lemmas.Slice.Eq.{bytes_eq-Decides}
use Rattle.base64.specs.Rfc4648.{encode_symbols, padding_len}
use Rattle.relay_types.specs.SecretText.{ReadsSecret, base64_symbols, padded, unpadded}
use Rattle.text_lines.specs.Parts.{has_no}
use Rattle.text_lines.specs.Words.{ReadSecrets}
use Rattle.text_lines.proofs.NumberLaws.{true_not_false}

not_equal : (c mark : ℕ) (b : Bool) → (c == mark) ≡ b → (c ≡ mark → ⊥) → not (c == mark) ≡ true
not_equal c mark true e apart = absurd (apart (eqb-true c mark e))
not_equal c mark false e apart = ap not e

-- a character that passes a test which the mark fails
pub passes : (test : ℕ → Bool) (mark c : ℕ) → test mark ≡ false → test c ≡ true → not (c == mark) ≡ true
passes test mark c fails h = not_equal c mark (c == mark) refl (λ e. true_not_false (sym h ∙ ap test e ∙ fails))

pub clean-cons : (mark c : ℕ) (text : List ℕ) → not (c == mark) ≡ true → IsTrue (has_no mark text)
    → IsTrue (has_no mark (c ∷ text))
clean-cons mark c text h clean = rw h clean

pub clean-append : (mark : ℕ) (front back : List ℕ) → IsTrue (has_no mark front) → IsTrue (has_no mark back)
    → IsTrue (has_no mark (front ++ back))
clean-append mark front back h k = rw (list_all-append, h) k

pub clean-from_all : (test : ℕ → Bool) (mark : ℕ) → test mark ≡ false → (text : List ℕ) → IsTrue (list_all test text)
    → IsTrue (has_no mark text)
clean-from_all test mark fails [] h = refl
clean-from_all test mark fails (c ∷ text) h =
    let both = and_parts (test c) (list_all test text) h in
    clean-cons mark c text (passes test mark c fails both.0) (clean-from_all test mark fails text both.1)

-- parts with another mark between
pub clean-join : (mark between : ℕ) (parts : List (List ℕ)) → not (between == mark) ≡ true
    → IsTrue (list_all (has_no mark) parts) → IsTrue (has_no mark (join_with_byte between parts))
clean-join mark between [] h clean = refl
clean-join mark between (part ∷ []) h clean = (and_parts _ _ clean).0
clean-join mark between (part ∷ next ∷ parts) h clean =
    let both = and_parts (has_no mark part) (list_all (has_no mark) (next ∷ parts)) clean in
    clean-append mark part (between ∷ join_with_byte between (next ∷ parts)) both.0
    (clean-cons mark between (join_with_byte between (next ∷ parts)) h
    (clean-join mark between (next ∷ parts) h both.1))

-- ---- base64

clean-at : (mark : ℕ) (table : List ℕ) (i : ℕ) → IsTrue (has_no mark (0 ∷ table))
    → not (slice_index table i == mark) ≡ true
clean-at mark [] i h = (and_parts _ _ h).0
clean-at mark (c ∷ table) zero h = (and_parts _ _ (and_parts _ _ h).1).0
clean-at mark (c ∷ table) (suc i) h =
    let both = and_parts (not (0 == mark)) (has_no mark (c ∷ table)) h in
    clean-at mark table i (clean-cons mark 0 table both.0 (and_parts (not (c == mark)) (has_no mark table) both.1).1)

clean-symbols : (mark : ℕ) (table bytes : List ℕ) → IsTrue (has_no mark (0 ∷ table))
    → IsTrue (has_no mark (encode_symbols table bytes))
unfolding encode_symbols
clean-symbols mark table [] h = refl
clean-symbols mark table (a ∷ []) h = rw (clean-at mark table (a / 4) h, clean-at mark table (a % 4 * 16) h) refl
clean-symbols mark table (a ∷ b ∷ []) h =
    rw (clean-at mark table (a / 4) h, clean-at mark table (a % 4 * 16 + b / 16) h, clean-at mark table (b % 16 * 4) h)
    refl
clean-symbols mark table (a ∷ b ∷ c ∷ rest) h =
    rw (
      clean-at mark table (a / 4) h,
      clean-at mark table (a % 4 * 16 + b / 16) h,
      clean-at mark table
          (b % 16 * 4 + c / 64) h,
      clean-at mark table (c % 64) h,
    )
    (clean-symbols mark table rest h)

clean-replicate : (mark c n : ℕ) → not (c == mark) ≡ true → IsTrue (has_no mark (replicate n c))
clean-replicate mark c zero h = refl
clean-replicate mark c (suc n) h = clean-cons mark c (replicate n c) h (clean-replicate mark c n h)

-- a mark that stands in no secret's text
abbrev pub is_outside : ℕ → Bool
is_outside mark = not (61 == mark) && (has_no mark (0 ∷ base64_symbols) && has_no mark (codes "whsec_"))

clean-padded : (mark : ℕ) (secret : List ℕ) → IsTrue (is_outside mark) → IsTrue (has_no mark (padded secret))
clean-padded mark secret h =
    let pad = (and_parts (not (61 == mark)) _ h).0 in
    let table = (and_parts (has_no mark (0 ∷ base64_symbols)) _ (and_parts (not (61 == mark)) _ h).1).0 in
    clean-append mark (encode_symbols base64_symbols secret) (replicate (padding_len (length secret)) 61)
    (clean-symbols mark base64_symbols secret table) (clean-replicate mark 61 _ pad)

clean-unpadded : (mark : ℕ) (secret : List ℕ) → IsTrue (is_outside mark) → IsTrue (has_no mark (unpadded secret))
clean-unpadded mark secret h =
    let table = (and_parts (has_no mark (0 ∷ base64_symbols)) _ (and_parts (not (61 == mark)) _ h).1).0 in
    clean-append mark (encode_symbols base64_symbols secret) [] (clean-symbols mark base64_symbols secret table) refl

one_of_four : (a b c d : Bool) → (a || (b || (c || d))) ≡ true → (a ≡ true) ⊎ ((b ≡ true) ⊎ ((c ≡ true) ⊎ (d ≡ true)))
one_of_four true b c d h = inl refl
one_of_four false true c d h = inr (inl refl)
one_of_four false false true d h = inr (inr (inl refl))
one_of_four false false false d h = inr (inr (inr h))

clean-equal : (mark : ℕ) (text form : List ℕ) → bytes_eq text form ≡ true → IsTrue (has_no mark form)
    → IsTrue (has_no mark text)
clean-equal mark text form e clean = subst (λ xs. IsTrue (has_no mark xs)) (sym ((bytes_eq-Decides text form).0 e))
    clean

pub clean-secret : (mark : ℕ) (text secret : List ℕ) → IsTrue (is_outside mark) → ReadsSecret text secret
    → IsTrue (has_no mark text)
clean-secret mark text secret h reads =
    let prefix = (and_parts (has_no mark (0 ∷ base64_symbols)) _ (and_parts (not (61 == mark)) _ h).1).1 in
    let whole = clean-padded mark secret h in
    let bare = clean-unpadded mark secret h in
    elim (one_of_four (bytes_eq text (codes "whsec_" ++ padded secret))
    (bytes_eq text (codes "whsec_" ++ unpadded secret)) (bytes_eq text (padded secret))
    (bytes_eq text (unpadded secret)) reads.1) [
      | inl e ↦ clean-equal mark text _ e (clean-append mark (codes "whsec_") _ prefix whole)
      | inr (inl e) ↦ clean-equal mark text _ e (clean-append mark (codes "whsec_") _ prefix bare)
      | inr (inr (inl e)) ↦ clean-equal mark text _ e whole
      | inr (inr (inr e)) ↦ clean-equal mark text _ e bare
    ]

pub clean-secrets : (mark : ℕ) (words secrets : List (List ℕ)) → IsTrue (is_outside mark) → ReadSecrets words secrets
    → IsTrue (list_all (has_no mark) words)
clean-secrets mark [] [] h reads = refl
clean-secrets mark [] (s ∷ secrets) h reads = absurd reads
clean-secrets mark (w ∷ words) [] h reads = absurd reads
clean-secrets mark (w ∷ words) (s ∷ secrets) h reads = rw (clean-secret mark w s h reads.0)
    (clean-secrets mark words secrets h reads.1)
