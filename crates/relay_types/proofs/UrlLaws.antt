-- The host and the path of a target.
use Rattle.std.proofs.Common.{◌≡◌, ◌≤◌, ℕ, suc, ◌+◌, ◌==◌, Bool, true, false, not, cond, [], ◌∷◌, length, take, drop}
use Rattle.std.proofs.Common.{length-drop, IsTrue, refl, subst, arith, nat_le, ◌&&◌}
use Rattle.std.specs.List.{list_all, before_first, position_or_len}
use Rattle.std.proofs.lemmas.Bool.{and_parts, and_from}
use Rattle.relay_types.specs.declared.limits.TheConstants.{MAX_TARGET_BYTES}
use Rattle.relay_types.specs.Values.{Text, is_target, has_scheme, is_host, host_of, is_port_part, port_part_of}
use Rattle.relay_types.specs.Values.{behind_scheme, authority_of, path_part_of, path_of_part, path_of}
use Rattle.relay_types.specs.Values.{is_path_character, is_request_target}

parts : (a b c d e : Bool) → IsTrue (a && (b && (c && (d && e)))) → IsTrue c × IsTrue e
parts a b c d e h =
    let rest = and_parts c (d && e) (and_parts b (c && (d && e)) (and_parts a (b && (c && (d && e))) h).1).1 in
    (rest.0, (and_parts d e rest.1).1)

target_parts : (text : Text) → IsTrue (is_target text)
    → IsTrue (is_host (host_of text)) × IsTrue (list_all is_path_character (path_part_of text))
target_parts text =
    parts (nat_le (length text) MAX_TARGET_BYTES) (has_scheme text) (is_host (host_of text))
    (is_port_part (port_part_of text)) (list_all is_path_character (path_part_of text))

pub target_host : (text : Text) → IsTrue (is_target text) → IsTrue (is_host (host_of text))
target_host text h = (target_parts text h).0

-- nothing, or it begins with `/`
abbrev begins : Text → Bool
begins [] = true
begins (c ∷ rest) = c == 47

from-more : (c : ℕ) (text : Text) (b : Bool) → (c == 47) ≡ b
    → IsTrue (begins (drop (length (before_first (λ x. x == 47) text)) text))
    → IsTrue (begins (drop (length (take (cond (not b) (1 + position_or_len (λ x. x == 47) text) 0) (c ∷ text)))
    (c ∷ text)))
from-more c text true e h = e
from-more c text false e h =
    let next : suc (position_or_len (λ x. x == 47) text) ≡ 1 + position_or_len (λ x. x == 47) text = omega arith in
    subst (λ n. IsTrue (begins (drop (length (take n (c ∷ text))) (c ∷ text)))) next h

from-begins : (text : Text) → IsTrue (begins (drop (length (before_first (λ x. x == 47) text)) text))
from-begins [] = refl
from-begins (c ∷ text) = from-more c text (c == 47) refl (from-begins text)

part_asks : (part : Text) → IsTrue (begins part) → IsTrue (list_all is_path_character part)
    → IsTrue (is_request_target (path_of_part part))
part_asks [] starts all = refl
part_asks (c ∷ rest) starts all = and_from (c == 47) (list_all is_path_character (c ∷ rest)) starts all

pub asks_for_path : (text : Text) → IsTrue (is_target text) → IsTrue (is_request_target (path_of text))
asks_for_path text h = part_asks (path_part_of text) (from-begins (behind_scheme text)) (target_parts text h).1

short_part : (part : Text) → length part ≤ MAX_TARGET_BYTES → length (path_of_part part) ≤ MAX_TARGET_BYTES
short_part [] h = omega arith
short_part (c ∷ rest) h = h

shorter : (k : ℕ) (text : Text) → length (drop k text) ≤ length text
shorter k text = omega (arith, length-drop k text)

pub short_path : (text : Text) → length text ≤ MAX_TARGET_BYTES → length (path_of text) ≤ MAX_TARGET_BYTES
short_path text h =
    let behind : length (behind_scheme text) ≤ length text = shorter 7 text in
    let part : length (path_part_of text) ≤ length (behind_scheme text) = shorter (length (authority_of text))
    (behind_scheme text) in
    short_part (path_part_of text) (omega (arith, h, behind, part))
