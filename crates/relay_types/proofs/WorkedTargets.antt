-- Worked targets, computed from the rules.
use Rattle.std.specs.Prelude.{◌≡◌, true, false, [], ◌∷◌, ◌++◌, replicate, map, codes, refl}
use Rattle.relay_types.specs.Values.{is_target, authority_of, host_of, port_of, path_of}

refused : map is_target (codes "http://h:0/" ∷ codes "http://h:65536/" ∷ codes "https://h/" ∷ codes "http:///x" ∷ codes
    "http://h:/" ∷ [])
    ≡ false ∷ false ∷ false ∷ false ∷ false ∷ []
refused = refl

refused_too : map is_target (codes "http://h:080/" ∷ codes "http://u@h/" ∷ codes "http://[::1]/" ∷ codes "http://h/a b"
    ∷ codes "http://h?x" ∷ [] ∷ [])
    ≡ false ∷ false ∷ false ∷ false ∷ false ∷ false ∷ []
refused_too = refl

read : map is_target (codes "HTTP://h" ∷ codes "http://h:1" ∷ codes "http://h:65535/" ∷ codes
    "http://127.0.0.1:9000/hook" ∷ codes "http://h/a?b=c" ∷ [])
    ≡ true ∷ true ∷ true ∷ true ∷ true ∷ []
read = refl

-- 253 characters of a host, and 2,048 bytes, are the most
host_limit : map (λ n. is_target (codes "http://" ++ replicate n 104)) (253 ∷ 254 ∷ []) ≡ true ∷ false ∷ []
host_limit = refl

length_limit : map (λ n. is_target (codes "http://h/" ++ replicate n 97)) (2039 ∷ 2040 ∷ []) ≡ true ∷ false ∷ []
length_limit = refl

parts : authority_of (codes "http://127.0.0.1:9000/hook") ∷ host_of (codes "http://127.0.0.1:9000/hook") ∷ path_of
    (codes "http://127.0.0.1:9000/hook") ∷ path_of (codes "HTTP://h") ∷ []
    ≡ codes "127.0.0.1:9000" ∷ codes "127.0.0.1" ∷ codes "/hook" ∷ codes "/" ∷ []
parts = refl

ports : map port_of (codes "http://127.0.0.1:9000/hook" ∷ codes "HTTP://h" ∷ codes "http://h:65535" ∷ []) ≡ 9000 ∷ 80
    ∷ 65535 ∷ []
ports = refl
