-- The rules that the small values keep.
use Rattle.std.specs.Prelude.{◌≡◌, ℕ, ◌+◌, ◌-◌, ◌*◌, Bool, true, false, ◌&&◌, ◌||◌, ◌==◌, nat_le, nat_lt, List, [], ◌∷◌}
use Rattle.std.specs.Prelude.{length, take, drop, fold, Option, Some, None, slice_get, codes, nat_eq, not, refl}
use Rattle.std.specs.List.{list_all, list_any, before_first, starts_with}
use Rattle.std.specs.Str.{str_eq_ignore_ascii_case}
use Rattle.std.proofs.Common.{sym}
use Rattle.relay_types.specs.declared.limits.TheConstants.{MAX_NAME_LEN, MAX_ID_LEN, MIN_SECRET_BYTES, MAX_SECRET_BYTES}
use Rattle.relay_types.specs.declared.limits.TheConstants.{MAX_SECRETS, MAX_TARGET_BYTES, MAX_HOST_LEN, MAX_LIMIT}
use Rattle.relay_types.specs.declared.limits.TheConstants.{MAX_BODY_BYTES, MAX_MOMENT}

-- What values are seen as: a text, an id or a body as the list of its bytes, a record by its number, a moment in
-- seconds since the Unix epoch, a span of time in microseconds.
abbrev pub Text : Type 0
Text = List ℕ

abbrev pub Seq : Type 0
Seq = ℕ

abbrev pub Seconds : Type 0
Seconds = ℕ

abbrev pub Micros : Type 0
Micros = ℕ

abbrev pub is_between : ℕ → ℕ → ℕ → Bool
is_between low high n = nat_le low n && nat_le n high

-- `a-z`, `A-Z`, `0-9`
abbrev pub is_lower : ℕ → Bool
is_lower c = is_between 97 122 c

abbrev pub is_letter : ℕ → Bool
is_letter c = is_lower c || is_between 65 90 c

abbrev pub is_digit : ℕ → Bool
is_digit c = is_between 48 57 c

-- whether the character is one of these
abbrev pub is_one_of : List ℕ → ℕ → Bool
is_one_of these c = list_any (λ d. d == c) these

-- a text of some length in these characters
abbrev pub is_text : ℕ → ℕ → (ℕ → Bool) → List ℕ → Bool
is_text low high test text = is_between low high (length text) && list_all test text

-- printable characters of ASCII, spaces aside
abbrev pub is_visible_character : ℕ → Bool
is_visible_character c = is_between 33 126 c

abbrev pub is_visible : Text → Bool
is_visible text = list_all is_visible_character text

-- 1 to 32 characters of `a-z 0-9 -`
abbrev pub is_name_character : ℕ → Bool
is_name_character c = is_lower c || (is_digit c || is_one_of (codes "-") c)

abbrev pub is_name : Text → Bool
is_name text = is_text 1 MAX_NAME_LEN is_name_character text

-- 1 to 64 characters of `A-Z a-z 0-9 _ -`
abbrev pub is_msg_id_character : ℕ → Bool
is_msg_id_character c = is_letter c || (is_digit c || is_one_of (codes "_-") c)

abbrev pub is_msg_id : Text → Bool
is_msg_id text = is_text 1 MAX_ID_LEN is_msg_id_character text

abbrev pub is_byte : ℕ → Bool
is_byte n = nat_lt n 256

-- 24 to 64 bytes
abbrev pub is_secret : Text → Bool
is_secret bytes = is_text MIN_SECRET_BYTES MAX_SECRET_BYTES is_byte bytes

-- 1 to 4 of them
abbrev pub are_secrets : List Text → Bool
are_secrets secrets = is_between 1 MAX_SECRETS (length secrets) && list_all is_secret secrets

-- A target is `http://` in any letter case, a host, perhaps `:` and a port, and perhaps a path from its `/` on.
abbrev pub has_scheme : Text → Bool
has_scheme text = str_eq_ignore_ascii_case (take 7 text) (codes "http://")

abbrev pub behind_scheme : Text → List ℕ
behind_scheme text = drop 7 text

-- up to the first `/` behind the scheme; from that `/` on
abbrev pub authority_of : List ℕ → List ℕ
authority_of text = before_first (λ c. c == 47) (behind_scheme text)

abbrev pub path_part_of : List ℕ → List ℕ
path_part_of text = drop (length (authority_of text)) (behind_scheme text)

-- up to the first `:` of the authority; from that `:` on
abbrev pub host_of : List ℕ → List ℕ
host_of text = before_first (λ c. c == 58) (authority_of text)

abbrev pub port_part_of : List ℕ → List ℕ
port_part_of text = drop (length (host_of text)) (authority_of text)

abbrev pub is_host_character : ℕ → Bool
is_host_character c = is_letter c || (is_digit c || is_one_of (codes "._-") c)

abbrev pub is_host : List ℕ → Bool
is_host text = is_text 1 MAX_HOST_LEN is_host_character text

abbrev pub number_of : List ℕ → ℕ
number_of digits = fold (λ n c. 10 * n + (c - 48)) 0 digits

-- a number from 1 to 65535 in decimal, without leading zeros
abbrev pub is_port : List ℕ → Bool
is_port digits =
    is_text 1 5 is_digit digits && (not (starts_with nat_eq digits (codes "0")) && nat_le (number_of digits) 65535)

-- nothing, or `:` and a port
abbrev pub is_port_part : List ℕ → Bool
is_port_part [] = true
is_port_part (colon ∷ digits) = is_port digits

abbrev pub is_path_mark : ℕ → Bool
is_path_mark c = is_one_of (codes "-._~!$&'()*+,;=:@/%?") c

abbrev pub is_path_character : ℕ → Bool
is_path_character c = is_letter c || (is_digit c || is_path_mark c)

abbrev pub is_target : List ℕ → Bool
is_target text =
    nat_le (length text) MAX_TARGET_BYTES
    && (has_scheme text
    && (is_host (host_of text) && (is_port_part (port_part_of text) && list_all is_path_character (path_part_of text))))

-- the port, 80 where none is written
abbrev pub number_of_part : List ℕ → ℕ
number_of_part [] = 80
number_of_part (colon ∷ digits) = number_of digits

abbrev pub port_of : List ℕ → ℕ
port_of text = number_of_part (port_part_of text)

-- the path, `/` where none is written
abbrev pub path_of_part : List ℕ → List ℕ
path_of_part [] = codes "/"
path_of_part (slash ∷ rest) = slash ∷ rest

abbrev pub path_of : List ℕ → List ℕ
path_of text = path_of_part (path_part_of text)

-- what a request asks for: `/` and characters of a path, of which `?` is one
abbrev pub is_request_target : List ℕ → Bool
is_request_target [] = false
is_request_target (c ∷ rest) = c == 47 && list_all is_path_character (c ∷ rest)

abbrev pub is_max_limit : ℕ → Bool
is_max_limit n = is_between 1 MAX_LIMIT n

-- at most 65,536 bytes
abbrev pub is_body : List ℕ → Bool
is_body bytes = nat_le (length bytes) MAX_BODY_BYTES && list_all is_byte bytes

abbrev pub is_moment : ℕ → Bool
is_moment seconds = nat_le seconds MAX_MOMENT

-- The secrets of an endpoint stand in four places, the filled ones first.
abbrev pub cons_some : Option (List ℕ) → List (List ℕ) → List (List ℕ)
cons_some None rest = []
cons_some (Some secret) rest = secret ∷ rest

-- the secrets of four places of which the filled ones stand first
abbrev pub the_secrets : List ℕ → Option (List ℕ) → Option (List ℕ) → Option (List ℕ) → List (List ℕ)
the_secrets first second third fourth = first ∷ cons_some second (cons_some third (cons_some fourth []))

-- no filled place stands behind an empty one
abbrev pub AreFilledInOrder : Option (List ℕ) → Option (List ℕ) → Option (List ℕ) → Type 0
AreFilledInOrder (Some a) (Some b) fourth = Unit {0}
AreFilledInOrder (Some a) None fourth = fourth ≡ None
AreFilledInOrder None third fourth = (third ≡ None) × (fourth ≡ None)

abbrev pub nth_secret : List (List ℕ) → ℕ → Option (List ℕ)
nth_secret secrets k = slice_get secrets k

abbrev pub first_secret : List (List ℕ) → List ℕ
first_secret [] = []
first_secret (first ∷ rest) = first

-- the four places are read back from the list
pub second_back : (a : List ℕ) (b c d : Option (List ℕ)) → AreFilledInOrder b c d
    → slice_get (the_secrets a b c d) 1 ≡ b
second_back a None c d h = refl
second_back a (Some b) c d h = refl

pub third_back : (a : List ℕ) (b c d : Option (List ℕ)) → AreFilledInOrder b c d → slice_get (the_secrets a b c d) 2 ≡ c
third_back a None c d h = sym h.0
third_back a (Some b) None d h = refl
third_back a (Some b) (Some c) d h = refl

pub fourth_back : (a : List ℕ) (b c d : Option (List ℕ)) → AreFilledInOrder b c d
    → slice_get (the_secrets a b c d) 3 ≡ d
fourth_back a None c d h = sym h.1
fourth_back a (Some b) None d h = sym h
fourth_back a (Some b) (Some c) None h = refl
fourth_back a (Some b) (Some c) (Some d) h = refl
