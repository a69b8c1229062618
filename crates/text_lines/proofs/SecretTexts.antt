-- Which texts are those of secrets.
use Rattle.std.proofs.Common.{◌≡◌, ℕ, suc, ◌≤◌, ◌<◌, Bool, true, false, List, [], ◌∷◌, length}
use Rattle.std.proofs.Common.{refl, subst, arith, le-leb, leb-true}
use Rattle.std.specs.Prelude.{MatchBool, nat_le, ◌&&◌}
use Rattle.std.specs.List.{AllWithin, HoldsAt}
use Rattle.std.proofs.lemmas.Bool.{and_parts}
use Rattle.relay_types.specs.SecretText.{ReadsSecret}
use Rattle.text_lines.specs.Parts.{HasParts}
use Rattle.text_lines.specs.Words.{ReadSecrets, IsSecretsWord}
use Rattle.text_lines.proofs.PartLaws.{parts_equal}
use Rattle.text_lines.proofs.SecretWords.{ReadSecrets-at, length-ReadSecrets, parts_of_secrets}

-- the text is that of a secret
abbrev pub IsRead : List ℕ → Type 0
IsRead text = (secret : List ℕ) × ReadsSecret text secret

abbrev pub IsUnread : List ℕ → Type 0
IsUnread text = (secret : List ℕ) → ReadsSecret text secret → ⊥

each_read : (words : List (List ℕ)) → AllWithin IsRead words 0 (length words) → (secrets : List (List ℕ))
    × ReadSecrets words secrets
each_read [] h = ([], tt)
each_read (word ∷ words) h =
    let first = h 0 [] (omega arith) (omega arith) in
    let rest = each_read words (λ k d low high. h (suc k) d (omega arith) (omega arith)) in
    (first.0 ∷ rest.0, (first.1, rest.1))

-- the parts of the word, when each of them was read or one wasn't
pub parts_read : (r : Bool) (word : List ℕ) (parts : List (List ℕ)) → HasParts 44 word parts
    → MatchBool r (AllWithin IsRead parts 0 (length parts)) ((k : ℕ) × (k < length parts) × HoldsAt IsUnread parts k)
    → MatchBool r ((texts secrets : List (List ℕ)) × HasParts 44 word texts × ReadSecrets texts secrets)
    ((texts secrets : List (List ℕ)) → HasParts 44 word texts → ReadSecrets texts secrets → ⊥)
parts_read true word parts is h = let all = each_read parts h in (parts, all.0, is, all.1)
parts_read false word parts is (k, low, unread) = λ texts secrets same reads.
    let at = ReadSecrets-at parts secrets k
    (subst (λ xs. ReadSecrets xs secrets) (parts_equal 44 word texts parts same is) reads) low in
    unread [] at.0 at.1

some_part : (parts : List (List ℕ)) → (parts ≡ [] → ⊥) → 1 ≤ length parts
some_part [] some = absurd (some refl)
some_part (part ∷ parts) some = omega arith

one_to_four : (n : ℕ) → 1 ≤ n → n ≤ 4 → nat_le 1 n && nat_le n 4 ≡ true
one_to_four n low high = rw (le-leb 1 n low, le-leb n 4 high) refl

at_most_four : (n : ℕ) → nat_le 1 n && nat_le n 4 ≡ true → n ≤ 4
at_most_four n h = leb-true n 4 (and_parts (nat_le 1 n) (nat_le n 4) h).1

-- at most four parts, each of which was read
few_secrets : (word : List ℕ) (texts secrets : List (List ℕ)) (count : ℕ)
    → ((parts : List (List ℕ)) → HasParts 44 word parts → count ≡ length parts) → count ≤ 4
    → HasParts 44 word texts → ReadSecrets texts secrets → (all : List (List ℕ)) × IsSecretsWord word all
few_secrets word texts secrets count counts few is reads =
    let same = counts texts is in
    let long = length-ReadSecrets texts secrets reads in
    let least = some_part texts is.1 in (
      secrets,
      (
        texts,
        is.0,
        (
          reads,
          one_to_four (length secrets) (omega (arith, long, least))
              (omega (arith, long, same, few)),
        ),
      ),
    )

-- more than four parts
pub many_parts : (word : List ℕ) (secrets : List (List ℕ)) (count : ℕ)
    → ((parts : List (List ℕ)) → HasParts 44 word parts → count ≡ length parts) → 4 < count
    → IsSecretsWord word secrets → ⊥
many_parts word secrets count counts many h =
    let (texts, is, (reads, few)) = parts_of_secrets word secrets h in
    let same = counts texts is in
    let long = length-ReadSecrets texts secrets reads in
    let most = at_most_four (length secrets) few in
    omega (arith, same, long, many, most)

-- the word of at most four parts, when each of them was read or one wasn't
pub word_read : (r : Bool) (word : List ℕ) (count : ℕ)
    → ((parts : List (List ℕ)) → HasParts 44 word parts → count ≡ length parts) → count ≤ 4
    → MatchBool r ((texts secrets : List (List ℕ)) × HasParts 44 word texts × ReadSecrets texts secrets)
    ((texts secrets : List (List ℕ)) → HasParts 44 word texts → ReadSecrets texts secrets → ⊥)
    → MatchBool r ((secrets : List (List ℕ)) × IsSecretsWord word secrets) ((secrets : List (List ℕ))
    → IsSecretsWord word secrets → ⊥)
word_read true word count counts few (texts, secrets, is, reads) = few_secrets word texts secrets count counts few
    is reads
word_read false word count counts few none = λ secrets h.
    let (texts, is, are) = parts_of_secrets word secrets h in
    none texts secrets is are.0
