-- What the parser's getters give, by the rows that it found.
use Rattle.std.proofs.Common.{◌≡◌, ◌∙◌, ◌<◌, ◌^◌, sym, subst, ℕ, List, Option, Some, None, refl}
use Rattle.std.specs.Prelude.{Ok, Err, IfSome, Result}
use Rattle.std.specs.Str.Parse.{ParsesUnsigned}
use Rattle.clap.specs.Words.{ReadsOne, first_of, first_value, one_text, rows_of}
use Rattle.clap.specs.declared.parser.matches.Found.{Found}
use Rattle.clap.proofs.WalkLemmas.{first_value-rows, one_text-rows}
use Rattle.command_interface.specs.Asked.{HasNumber}

-- a text that was found is the first of its rows
pub text_found : (found : Found) (name text : List ℕ) → Some text ≡ first_value found name
    → first_of name (rows_of found) ≡ Some text
text_found found name text is = sym (first_value-rows found name) ∙ sym is

-- a number that was found is its text's
pub number_found : {E : Type 0} (gives : List ℕ → Result ℕ E → Type 0) (found : Found) (name : List ℕ)
    (result : Option ℕ)
    → ((text : List ℕ) (read : Result ℕ E) → gives text read → ParsesUnsigned 64 10 text read)
    → (one_text found name ≡ None → result ≡ None)
    → ((text : List ℕ) → one_text found name ≡ Some text → ReadsOne gives text result)
    → IfSome result (HasNumber (rows_of found) name)
number_found gives found name None parses none reads = tt
number_found {E} gives found name (Some number) parses none reads = go (one_text found name) refl
  where
    go : (text : Option (List ℕ)) → one_text found name ≡ text → HasNumber (rows_of found) name number
    go None is =
        let bad : Some number ≡ None = none is in
        cc
    go (Some text) is =
        let parsed = parses text (Ok number) (reads text is) in
        (text, sym (one_text-rows found name) ∙ is, parsed.0.0, parsed.1)

-- a text that wasn't found is in no row
pub text_missing : (found : Found) (name text : List ℕ) → None ≡ first_value found name
    → first_of name (rows_of found) ≡ Some text → ⊥
text_missing found name text is there =
    let bad : None ≡ Some text = is ∙ first_value-rows found name ∙ there in
    cc

-- a number that wasn't found is in no row, or has more than 64 bits
pub number_missing : {E : Type 0} (gives : List ℕ → Result ℕ E → Type 0) (found : Found) (name : List ℕ)
    (result : Option ℕ) (number : ℕ)
    → ((text : List ℕ) (read : Result ℕ E) → gives text read → ParsesUnsigned 64 10 text read)
    → ((text : List ℕ) → one_text found name ≡ Some text → ReadsOne gives text result)
    → result ≡ None → number < 2 ^ 64 → HasNumber (rows_of found) name number → ⊥
number_missing {E} gives found name result number parses reads none small (text, there, numeral, is) =
    let read : ReadsOne gives text None = subst (λ (r : Option ℕ). ReadsOne gives text r) none
    (reads text (one_text-rows found name ∙ there)) in
    parses text (Err read.0) read.1 (numeral, subst (λ (n : ℕ). n < 2 ^ 64) is small)
