-- What a request asks for has no fragment.
use Rattle.std.proofs.Common.{◌≡◌, ℕ, ◌==◌, Bool, true, false, [], ◌∷◌, IsTrue, refl, subst, arith}
use Rattle.std.proofs.lemmas.Bool.{and_parts, eqb-true}
use Rattle.std.proofs.lemmas.Bool.Decides.{nat_tests}
use Rattle.std.specs.List.{list_all}
use Rattle.http_uri.specs.Grammar.{without_fragment}
use Rattle.relay_types.specs.Values.{Text, is_path_character, is_request_target}

not_hash_by : (c : ℕ) (b : Bool) → (c == 35) ≡ b → IsTrue (is_path_character c) → b ≡ false
not_hash_by c false e h = refl
not_hash_by c true e h = let wrong : false ≡ true = subst (λ n. IsTrue (is_path_character n)) (eqb-true c 35 e) h in cc

-- after a first character that is no `#`
behind : (c : ℕ) (rest : Text) (b : Bool) → (c == 35) ≡ b → b ≡ false → without_fragment rest ≡ rest
    → without_fragment (c ∷ rest) ≡ c ∷ rest
behind c rest b e is whole = grind (arith, nat_tests)

path_whole : (text : Text) → IsTrue (list_all is_path_character text) → without_fragment text ≡ text
path_whole [] all = refl
path_whole (c ∷ rest) all =
    let parts = and_parts (is_path_character c) (list_all is_path_character rest) all in
    behind c rest (c == 35) refl (not_hash_by c (c == 35) refl parts.0) (path_whole rest parts.1)

pub target_whole : (text : Text) → IsTrue (is_request_target text) → without_fragment text ≡ text
target_whole [] asks = refl
target_whole (c ∷ rest) asks =
    path_whole (c ∷ rest) (and_parts (c == 47) (list_all is_path_character (c ∷ rest)) asks).1
