-- Names, ids and targets are visible ASCII.
use Rattle.std.proofs.Common.{◌≡◌, ℕ, ◌==◌, ◌∙◌, Bool, true, false, not, List, [], ◌∷◌, ◌++◌, length, take, drop}
use Rattle.std.proofs.Common.{get_or, codes, IsTrue, refl, ap, subst, take-append-drop, inl, inr, arith, eqb-true}
use Rattle.std.specs.Prelude.{◌&&◌, ◌||◌, nat_le}
use Rattle.std.specs.Char.{to_ascii_lowercase}
use Rattle.std.specs.List.{list_all, before_first, position_or_len}
use Rattle.std.proofs.Math.Seq.{drop-cons}
use Rattle.std.proofs.Math.ListN.{drop_of_length-le}
use Rattle.std.proofs.lemmas.Bool.{and_from, and_parts, or_cases, cases_lt, false≢true}
use Rattle.std.proofs.lemmas.Bool.Decides.{nat_tests}
use Rattle.std.proofs.lemmas.List.Folds.{list_all-append, list_all-map, length-prefix_len}
use Rattle.std.proofs.lemmas.List.Sums.{prefix_len_stops}
use Rattle.std.proofs.lemmas.Slice.Eq.{bytes_eq-Decides}
use Rattle.relay_types.specs.declared.limits.TheConstants.{MAX_NAME_LEN, MAX_ID_LEN, MAX_HOST_LEN, MAX_TARGET_BYTES}
use Rattle.relay_types.specs.Values.{is_visible_character, is_visible, is_between, is_text, is_lower, is_letter}
use Rattle.relay_types.specs.Values.{is_digit, is_one_of, is_name, is_name_character, is_msg_id, is_msg_id_character}
use Rattle.relay_types.specs.Values.{is_host_character, is_path_character, is_port_part, is_host, has_scheme}
use Rattle.relay_types.specs.Values.{authority_of, path_part_of, host_of, port_part_of, is_target, path_of}
use Rattle.relay_types.specs.Values.{path_of_part}

-- ---- the tests of characters

-- visible characters alone pass the test
abbrev TakesVisible : (ℕ → Bool) → Type 0
TakesVisible test = (c : ℕ) → IsTrue (test c) → IsTrue (is_visible_character c)

takes_either : (f g : ℕ → Bool) → TakesVisible f → TakesVisible g → TakesVisible (λ c. f c || g c)
takes_either f g left right c e = elim (or_cases (f c) (g c) e) [
  | inl h ↦ left c h
  | inr h ↦ right c h
]

takes_lower : TakesVisible is_lower
takes_lower c h = grind (arith, nat_tests)

takes_upper : TakesVisible (is_between 65 90)
takes_upper c h = grind (arith, nat_tests)

takes_digit : TakesVisible is_digit
takes_digit c h = grind (arith, nat_tests)

takes_letter : TakesVisible is_letter
takes_letter = takes_either is_lower (is_between 65 90) takes_lower takes_upper

takes_one_of : (marks : List ℕ) → IsTrue (is_visible marks) → TakesVisible (is_one_of marks)
takes_one_of [] h c e = absurd (false≢true e)
takes_one_of (d ∷ marks) h c e =
    let both = and_parts (is_visible_character d) (is_visible marks) h in
    elim (or_cases (d == c) (is_one_of marks c) e) [
      | inl same ↦ subst (λ x. IsTrue (is_visible_character x)) (eqb-true d c same) both.0
      | inr rest ↦ takes_one_of marks both.1 c rest
    ]

-- letters that pass a test, digits, and marks
takes_word : (letters : ℕ → Bool) (marks : List ℕ) → TakesVisible letters → IsTrue (is_visible marks)
    → TakesVisible (λ c. letters c || (is_digit c || is_one_of marks c))
takes_word letters marks h k = takes_either letters (λ c. is_digit c || is_one_of marks c) h
    (takes_either is_digit (is_one_of marks) takes_digit (takes_one_of marks k))

takes_host : TakesVisible is_host_character
takes_host = takes_word is_letter (codes "._-") takes_letter refl

takes_path : TakesVisible is_path_character
takes_path = takes_word is_letter (codes "-._~!$&'()*+,;=:@/%?") takes_letter refl

all_taken : (test : ℕ → Bool) → TakesVisible test → (text : List ℕ) → IsTrue (list_all test text)
    → IsTrue (is_visible text)
all_taken test takes [] h = refl
all_taken test takes (c ∷ text) h =
    let both = and_parts (test c) (list_all test text) h in
    and_from _ _ (takes c both.0) (all_taken test takes text both.1)

text_taken : (low high : ℕ) (test : ℕ → Bool) → TakesVisible test → (text : List ℕ)
    → IsTrue (is_text low high test text) → IsTrue (is_visible text)
text_taken low high test takes text h = all_taken test takes text
    (and_parts (is_between low high (length text)) (list_all test text) h).1

pub visible_name : (text : List ℕ) → IsTrue (is_name text) → IsTrue (is_visible text)
visible_name text h = text_taken 1 MAX_NAME_LEN is_name_character (takes_word is_lower (codes "-") takes_lower refl)
    text h

pub visible_id : (text : List ℕ) → IsTrue (is_msg_id text) → IsTrue (is_visible text)
visible_id text h = text_taken 1 MAX_ID_LEN is_msg_id_character (takes_word is_letter (codes "_-") takes_letter refl)
    text h

-- ---- targets

joined : (front back : List ℕ) → IsTrue (is_visible front) → IsTrue (is_visible back)
    → IsTrue (is_visible (front ++ back))
joined front back h k = rw (list_all-append, h) k

takes_lowered : TakesVisible (λ c. is_visible_character (to_ascii_lowercase c))
takes_lowered c e = grind (arith, nat_tests)

-- in lower case or not
scheme_taken : (text : List ℕ) → IsTrue (has_scheme text) → IsTrue (is_visible (take 7 text))
scheme_taken text h = grind (arith, bytes_eq-Decides, all_taken, takes_lowered, list_all-map)

not_false : (b : Bool) → not b ≡ false → b ≡ true
not_false b h = grind arith

-- what stands behind the front up to a mark is nothing, or begins with it
begins_passed : (test : ℕ → Bool) (text : List ℕ) (c : ℕ) (rest : List ℕ)
    → c ∷ rest ≡ drop (length (before_first test text)) text → test c ≡ true
begins_passed test text c rest e =
    let n = position_or_len test text in
    let at : c ∷ rest ≡ drop n text = e ∙ ap (λ k. drop k text) (length-prefix_len (λ x. not (test x)) text) in
    elim (cases_lt n (length text)) [
      | inl lt ↦
          let head : c ≡ get_or text n 0 = let whole = at ∙ drop-cons text n 0 lt in cc in
          ap test head ∙ not_false _ (prefix_len_stops (λ x. not (test x)) text 0 lt)
      | inr past ↦ let none = at ∙ drop_of_length-le text past in cc
    ]

abbrev is_colon : ℕ → Bool
is_colon c = c == 58

port_taken : (authority part : List ℕ) → part ≡ drop (length (before_first is_colon authority)) authority
    → IsTrue (is_port_part part) → IsTrue (is_visible part)
port_taken authority part e h = grind (arith, begins_passed, text_taken, takes_digit)

-- a text and its front up to a mark
front_taken : (test : ℕ → Bool) (text : List ℕ) → IsTrue (is_visible (before_first test text))
    → IsTrue (is_visible (drop (length (before_first test text)) text)) → IsTrue (is_visible text)
front_taken test text front back =
    let n = position_or_len test text in
    let same : before_first test text ++ drop (length (before_first test text)) text ≡ text =
    ap (λ k. before_first test text ++ drop k text) (length-prefix_len (λ x. not (test x)) text)
    ∙ take-append-drop n text in
    subst (λ xs. IsTrue (is_visible xs)) same
    (joined (before_first test text) (drop (length (before_first test text)) text) front back)

-- the scheme, the authority and the path part
pub record AreVisible (text : List ℕ) : Type 0 where
  pub scheme : IsTrue (is_visible (take 7 text))
  pub authority : IsTrue (is_visible (authority_of text))
  pub path : IsTrue (is_visible (path_part_of text))

visible_parts : (text : List ℕ) → IsTrue (is_target text) → AreVisible text
visible_parts text h =
    let one = and_parts (nat_le (length text) MAX_TARGET_BYTES) _ h in
    let two = and_parts (has_scheme text)
    (is_host (host_of text) && (is_port_part (port_part_of text) && list_all is_path_character (path_part_of text)))
    one.1 in
    let three = and_parts (is_host (host_of text)) (is_port_part (port_part_of text) && list_all is_path_character
    (path_part_of text)) two.1 in
    let four = and_parts (is_port_part (port_part_of text)) (list_all is_path_character (path_part_of text)) three.1 in
    let host = text_taken 1 MAX_HOST_LEN is_host_character takes_host (host_of text) three.0 in
    let port = port_taken (authority_of text) (port_part_of text) refl four.0 in
    record {
      scheme = scheme_taken text two.0;
      authority = front_taken is_colon (authority_of text) host port;
      path = all_taken is_path_character takes_path (path_part_of text) four.1;
    }

pub visible_target : (text : List ℕ) → IsTrue (is_target text) → IsTrue (is_visible text)
visible_target text h = grind (arith, visible_parts, front_taken, joined)

pub visible_authority : (text : List ℕ) → IsTrue (is_target text) → IsTrue (is_visible (authority_of text))
visible_authority text h = (visible_parts text h).authority

visible_part : (part : List ℕ) → IsTrue (is_visible part) → IsTrue (is_visible (path_of_part part))
visible_part part h = grind arith

pub visible_path : (text : List ℕ) → IsTrue (is_target text) → IsTrue (is_visible (path_of text))
visible_path text h = visible_part (path_part_of text) (visible_parts text h).path
