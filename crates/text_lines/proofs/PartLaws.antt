-- A text has one list of parts, which `slice_split` gives.
use Rattle.std.proofs.Common.{◌≡◌, ◌≢◌, ℕ, ◌+◌, ◌==◌, Bool, true, false, not, cond, List, [], ◌∷◌, length, IsTrue, refl}
use Rattle.std.proofs.Common.{sym, ap, ◌∙◌, subst, arith, eq-eqb, Result, Ok, Err, IfOk}
use Rattle.std.specs.List.{list_all, join_with_byte, slice_split, onto_first, All}
use Rattle.std.proofs.lemmas.List.Sums.{AllPass-from_list_all}
use Rattle.std.proofs.lemmas.List.Splits.{join_with_byte-slice_split, length-slice_split, slice_split_none}
use Rattle.std.proofs.lemmas.List.Splits.{slice_split_at}
use Rattle.std.proofs.lemmas.Bool.{and_parts}
use Rattle.text_lines.specs.Parts.{has_no, HasParts}

not_true : (b : Bool) → not b ≡ true → b ≡ false
not_true true h = sym h
not_true false h = refl

onto_first-clean : (mark x : ℕ) (parts : List (List ℕ)) → not (x == mark) ≡ true → IsTrue (list_all (has_no mark) parts)
    → IsTrue (list_all (has_no mark) (onto_first x parts))
onto_first-clean mark x [] h clean = rw h refl
onto_first-clean mark x (part ∷ parts) h clean = rw h clean

-- the front of a split
split-more : (mark x : ℕ) (parts : List (List ℕ)) (b : Bool) → (x == mark) ≡ b → IsTrue (list_all (has_no mark) parts)
    → IsTrue (list_all (has_no mark) (cond b ([] ∷ parts) (onto_first x parts)))
split-more mark x parts true e clean = clean
split-more mark x parts false e clean = onto_first-clean mark x parts (ap not e) clean

split-clean : (mark : ℕ) (text : List ℕ) → IsTrue (list_all (has_no mark) (slice_split (λ c. c == mark) text))
split-clean mark [] = refl
split-clean mark (x ∷ text) = split-more mark x (slice_split (λ c. c == mark) text) (x == mark) refl
    (split-clean mark text)

some_part : (parts : List (List ℕ)) (n : ℕ) → length parts ≡ n + 1 → parts ≢ []
some_part parts n e none = let len = ap length none in omega (arith, e, len)

pub HasParts-split : (mark : ℕ) (text : List ℕ) → HasParts mark text (slice_split (λ c. c == mark) text)
HasParts-split mark text = (
  sym (join_with_byte-slice_split mark text),
  some_part (slice_split (λ c. c == mark) text) _ (length-slice_split (λ c. c == mark) text),
  split-clean mark text,
)

fails_in : (mark : ℕ) (part : List ℕ) → IsTrue (has_no mark part) → All (λ c. (c == mark) ≡ false) part
fails_in mark part clean = λ k d h. not_true _ (AllPass-from_list_all (λ c. not (c == mark)) part clean k d h)

join-split : (mark : ℕ) (parts : List (List ℕ)) → parts ≢ [] → IsTrue (list_all (has_no mark) parts)
    → slice_split (λ c. c == mark) (join_with_byte mark parts) ≡ parts
join-split mark [] some clean = absurd (some refl)
join-split mark (part ∷ []) some clean = slice_split_none (λ c. c == mark) part
    (fails_in mark part (and_parts _ _ clean).0)
join-split mark (part ∷ next ∷ parts) some clean =
    let both = and_parts (has_no mark part) (list_all (has_no mark) (next ∷ parts)) clean in
    slice_split_at (λ c. c == mark) part mark (join_with_byte mark (next ∷ parts)) (fails_in mark part both.0)
    (eq-eqb mark mark refl)
    ∙ ap (λ xs. part ∷ xs) (join-split mark (next ∷ parts) (λ e. cc) both.1)

-- the parts of a text are those of its split, and so they are the only ones
pub split-from_parts : (mark : ℕ) (text : List ℕ) (parts : List (List ℕ)) → HasParts mark text parts
    → slice_split (λ c. c == mark) text ≡ parts
split-from_parts mark text parts (e, some, clean) = ap (slice_split (λ c. c == mark)) e
    ∙ join-split mark parts some clean

pub parts_equal : (mark : ℕ) (text : List ℕ) (a b : List (List ℕ)) → HasParts mark text a → HasParts mark text b → a ≡ b
parts_equal mark text a b h k = sym (split-from_parts mark text a h) ∙ split-from_parts mark text b k

-- a result that is the split has the parts
pub HasParts-result : {T E : Type 0} (r : Result T E) (f : T → List (List ℕ)) (mark : ℕ) (text : List ℕ)
    → IfOk r (λ x. f x ≡ slice_split (λ c. c == mark) text) → IfOk r (λ x. HasParts mark text (f x))
HasParts-result (Ok x) f mark text e = subst (HasParts mark text) (sym e) (HasParts-split mark text)
HasParts-result (Err e) f mark text h = tt
