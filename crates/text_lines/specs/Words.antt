-- What the words of a line stand for. It is told by printing: a word stands for what is written so.
use Rattle.std.specs.Prelude.{◌≡◌, ◌≢◌, ◌⊎◌, ℕ, ◌+◌, ◌*◌, ◌-◌, ◌%◌, List, [], ◌∷◌, Option, Some, None, IsTrue, codes}
use Rattle.std.specs.Prelude.{length, if◌then◌else◌}
use Rattle.std.specs.List.{join_with_byte}
use Rattle.relay_types.specs.Values.{is_between}
use Rattle.relay_types.specs.SecretText.{ReadsSecret}

-- the texts stand for the secrets
abbrev pub ReadSecrets : List (List ℕ) → List (List ℕ) → Type 0
ReadSecrets [] [] = Unit {0}
ReadSecrets (text ∷ texts) (secret ∷ secrets) = ReadsSecret text secret × ReadSecrets texts secrets
ReadSecrets [] (secret ∷ secrets) = ⊥
ReadSecrets (text ∷ texts) [] = ⊥

-- the texts of one to four secrets
abbrev pub AreSecretTexts : List (List ℕ) → List (List ℕ) → Type 0
AreSecretTexts texts secrets = ReadSecrets texts secrets × IsTrue (is_between 1 4 (length secrets))

-- the texts of one to four secrets, with commas between
abbrev pub IsSecretsWord : List ℕ → List (List ℕ) → Type 0
IsSecretsWord word secrets = (texts : List (List ℕ)) × (word ≡ join_with_byte 44 texts) × AreSecretTexts texts secrets

-- a hexadecimal digit, in either case
abbrev pub hex_digit : ℕ → Option ℕ
hex_digit c = if is_between 65 70 c then Some (c - 55) else
    (if is_between 97 102 c then Some (c - 87) else (if is_between 48 57 c then Some (c - 48) else None))

abbrev pub HexOf : List ℕ → List ℕ → Type 0
HexOf [] [] = Unit {0}
HexOf (high ∷ low ∷ word) (byte ∷ bytes) = ((h : ℕ) × (l : ℕ) × (hex_digit high ≡ Some h) × (hex_digit low ≡ Some l)
    × (byte ≡ 16 * h + l)) × HexOf word bytes
HexOf word bytes = ⊥

-- a word is long enough for a body: it is `-`, or has two digits for each of some bytes
abbrev pub HasBodyLength : List ℕ → Type 0
HasBodyLength word = (word ≡ codes "-") ⊎ ((word ≢ []) × (length word % 2 ≡ 0))

-- the empty body is written `-`
abbrev pub IsBodyWord : List ℕ → List ℕ → Type 0
IsBodyWord word [] = word ≡ codes "-"
IsBodyWord word (byte ∷ bytes) = HexOf word (byte ∷ bytes)
