-- The texts of secrets, one after another.
use Rattle.std.proofs.Common.{◌≡◌, ◌≢◌, IsTrue, ℕ, zero, suc, ◌+◌, ◌<◌, List, [], ◌∷◌, ◌++◌, length, take, get_or, map}
use Rattle.std.proofs.Common.{refl, sym, ap, ◌∙◌, subst, arith, ◌⊎◌, inl, inr, Result, Ok, Err}
use Rattle.std.proofs.lemmas.List.{take_more, map-append, get_or-map, length-map}
use Rattle.relay_types.specs.SecretText.{ReadsSecret}
use Rattle.relay_types.specs.Values.{is_between, is_secret, are_secrets}
use Rattle.std.specs.List.{list_all}
use Rattle.relay_types.specs.declared.fault.ReadFault.{ReadFault}
use Rattle.relay_types.specs.declared.fault.ReadFault.TheVariants as reader
use Rattle.std.specs.Prelude.{IsErrAnd}
use Rattle.text_lines.specs.declared.words.WordFault.{WordFault}
use Rattle.text_lines.specs.declared.words.WordFault.TheVariants.{Bad, OutOfMemory}
use Rattle.text_lines.specs.WordFaults.{word_fault}
use Rattle.text_lines.specs.Parts.{HasParts}
use Rattle.text_lines.specs.Words.{ReadSecrets, AreSecretTexts, IsSecretsWord}
use Rattle.text_lines.proofs.MarkLaws.{clean-secrets}
use Rattle.text_lines.proofs.PartLaws.{parts_equal}

pub ReadSecrets-at : (words secrets : List (List ℕ)) (i : ℕ) → ReadSecrets words secrets → i < length words
    → (secret : List ℕ) × ReadsSecret (get_or words i []) secret
ReadSecrets-at [] secrets i h lt = absurd (omega arith)
ReadSecrets-at (word ∷ words) [] i h lt = absurd h
ReadSecrets-at (word ∷ words) (secret ∷ secrets) zero h lt = (secret, h.0)
ReadSecrets-at (word ∷ words) (secret ∷ secrets) (suc i) h lt = ReadSecrets-at words secrets i h.1 (omega arith)

-- the secret of the word at a place
pub secret_at : {A : Type 0} (text : A → List ℕ) (words : List A) (d : A) (i : ℕ) (secrets : List (List ℕ))
    → ReadSecrets (map text words) secrets → i < length words
    → (secret : List ℕ) × ReadsSecret (text (get_or words i d)) secret
secret_at text words d i secrets h lt =
    let long : i < length (map text words) = simp length-map lt in
    let at = ReadSecrets-at (map text words) secrets i h long in
    (at.0, rw (get_or-map text words i d [] lt) at at.1)

ReadSecrets-push : (words secrets : List (List ℕ)) (word secret : List ℕ) → ReadSecrets words secrets
    → ReadsSecret word secret → ReadSecrets (words ++ word ∷ []) (secrets ++ secret ∷ [])
ReadSecrets-push [] [] word secret h one = (one, tt)
ReadSecrets-push [] (s ∷ secrets) word secret h one = absurd h
ReadSecrets-push (w ∷ words) [] word secret h one = absurd h
ReadSecrets-push (w ∷ words) (s ∷ secrets) word secret h one = (h.0, ReadSecrets-push words secrets word secret h.1 one)

-- one word more
pub ReadSecrets-more : {A : Type 0} (text : A → List ℕ) (words : List A) (d : A) (i : ℕ) (secrets new : List (List ℕ))
    (secret : List ℕ) → i < length words
    → ReadSecrets (map text (take i words)) secrets → ReadsSecret (text (get_or words i d)) secret
    → new ≡ secrets ++ secret ∷ []
    → ReadSecrets (map text (take (i + 1) words)) new
ReadSecrets-more text words d i secrets new secret lt h one e =
    let longer : map text (take (i + 1) words) ≡ map text (take i words) ++ text (get_or words i d) ∷ [] =
    ap (map text) (take_more words i d lt) ∙ map-append text (take i words) (get_or words i d ∷ []) in
    rw (longer, e) (ReadSecrets-push (map text (take i words)) secrets (text (get_or words i d)) secret h one)

pub length-ReadSecrets : (words secrets : List (List ℕ)) → ReadSecrets words secrets → length words ≡ length secrets
length-ReadSecrets [] [] h = refl
length-ReadSecrets [] (s ∷ secrets) h = absurd h
length-ReadSecrets (w ∷ words) [] h = absurd h
length-ReadSecrets (w ∷ words) (s ∷ secrets) h = ap suc (length-ReadSecrets words secrets h.1)

-- as many words as secrets
pub as_many : {A : Type 0} (text : A → List ℕ) (words : List A) (secrets : List (List ℕ))
    → ReadSecrets (map text words) secrets → length words ≡ length secrets
as_many text words secrets reads =
    let same : length (map text words) ≡ length words = simp length-map in
    sym same ∙ length-ReadSecrets (map text words) secrets reads

some_word : (words secrets : List (List ℕ)) → ReadSecrets words secrets → IsTrue (is_between 1 4 (length secrets))
    → words ≢ []
some_word [] [] h many none = cc
some_word [] (s ∷ secrets) h many none = h
some_word (w ∷ words) secrets h many none = cc

pub parts_of_secrets : (word : List ℕ) (secrets : List (List ℕ)) → IsSecretsWord word secrets → (texts : List (List ℕ))
    × HasParts 44 word texts × AreSecretTexts texts secrets
parts_of_secrets word secrets (words, e, (reads, many)) =
    (words, (e, some_word words secrets reads many, clean-secrets 44 words secrets refl reads), (reads, many))

-- the texts of the secrets are the parts of the word
pub the_words : (word : List ℕ) (parts secrets : List (List ℕ)) → HasParts 44 word parts → IsSecretsWord word secrets
    → AreSecretTexts parts secrets
the_words word parts secrets h (words, e, (reads, many)) =
    let same = parts_equal 44 word words parts
    (e, some_word words secrets reads many, clean-secrets 44 words secrets refl reads) h in
    (subst (λ xs. ReadSecrets xs secrets) same reads, many)

all_secrets : (words secrets : List (List ℕ)) → ReadSecrets words secrets → IsTrue (list_all is_secret secrets)
all_secrets [] [] h = refl
all_secrets [] (s ∷ secrets) h = absurd h
all_secrets (w ∷ words) [] h = absurd h
all_secrets (w ∷ words) (s ∷ secrets) h = rw h.0.0 (all_secrets words secrets h.1)

-- as many secrets as an endpoint may have
pub are_secrets-read : (words read secrets : List (List ℕ)) → ReadSecrets words read → ReadSecrets words secrets
    → IsTrue (is_between 1 4 (length secrets)) → IsTrue (are_secrets read)
are_secrets-read words read secrets h k many =
    let same = sym (length-ReadSecrets words secrets k) ∙ length-ReadSecrets words read h in
    rw (← same, many) (all_secrets words read h)

-- of the refusals of secrets only that of a bad secret makes a bad word
pub bad_secret : {T : Type 0} (r : Result T WordFault) (fault : ReadFault)
    → IsErrAnd r (λ told. told ≡ word_fault fault) → r ≡ Err Bad
    → (fault ≡ reader.BadSecret) ⊎ (fault ≡ reader.OutOfMemory) → fault ≡ reader.BadSecret
bad_secret (Ok x) fault told e why = absurd told
bad_secret (Err f) fault told e (inl bad) = bad
bad_secret (Err f) fault told e (inr lacked) = let same : f ≡ OutOfMemory = told ∙ ap word_fault lacked in cc
