-- Worked texts, computed from the rules of the small values.
use Rattle.std.specs.Prelude.{◌≡◌, ◌+◌, ◌^◌, true, false, [], ◌∷◌, replicate, map, codes, refl}
use Rattle.base64.specs.Rfc4648.{encode_symbols}
use Rattle.relay_types.specs.Judging.{is_delivered_status, is_gone_status, is_failed_status, is_overload_status}
use Rattle.relay_types.specs.Judging.{delay_after}
use Rattle.relay_types.specs.SecretText.{secret_text, is_secret_text}
use Rattle.relay_types.specs.Values.{is_name, is_msg_id, is_secret, are_secrets, is_max_limit, is_moment}

names : map is_name (replicate 32 97 ∷ codes "a-9" ∷ replicate 33 97 ∷ [] ∷ codes "A" ∷ codes "a_b" ∷ []) ≡ true ∷ true
    ∷ false ∷ false ∷ false ∷ false ∷ []
names = refl

ids : map is_msg_id (replicate 64 65 ∷ codes "msg_1-Z" ∷ replicate 65 65 ∷ [] ∷ codes "a.b" ∷ []) ≡ true ∷ true ∷ false
    ∷ false ∷ false ∷ []
ids = refl

limits : map is_max_limit (0 ∷ 1 ∷ 1000 ∷ 1001 ∷ []) ≡ false ∷ true ∷ true ∷ false ∷ []
limits = refl

moments : map is_moment (2 ^ 40 ∷ (2 ^ 40 + 1) ∷ []) ≡ true ∷ false ∷ []
moments = refl

secrets : map is_secret (replicate 23 0 ∷ replicate 24 0 ∷ replicate 64 0 ∷ replicate 65 0 ∷ []) ≡ false ∷ true ∷ true
    ∷ false ∷ []
secrets = refl

counts : map are_secrets ([] ∷ replicate 1 (replicate 24 0) ∷ replicate 4 (replicate 24 0) ∷ replicate 5
    (replicate 24 0) ∷ []) ≡ false ∷ true ∷ true ∷ false ∷ []
counts = refl

-- the four forms of a secret of 25 bytes, which has two characters of padding, and how it is written
long_secret : secret_text (codes "0123456789012345678901234") ≡ codes "whsec_MDEyMzQ1Njc4OTAxMjM0NTY3ODkwMTIzNA=="
unfolding encode_symbols
long_secret = refl

four_forms : map (λ text. is_secret_text text (codes "0123456789012345678901234"))
    (codes "whsec_MDEyMzQ1Njc4OTAxMjM0NTY3ODkwMTIzNA==" ∷ codes "whsec_MDEyMzQ1Njc4OTAxMjM0NTY3ODkwMTIzNA" ∷ codes
    "MDEyMzQ1Njc4OTAxMjM0NTY3ODkwMTIzNA==" ∷ codes "MDEyMzQ1Njc4OTAxMjM0NTY3ODkwMTIzNA" ∷ [])
    ≡ true ∷ true ∷ true ∷ true ∷ []
unfolding encode_symbols
four_forms = refl

-- other last bits, half of the padding, another prefix, and the prefix twice
no_forms : map (λ text. is_secret_text text (codes "0123456789012345678901234"))
    (codes "MDEyMzQ1Njc4OTAxMjM0NTY3ODkwMTIzNB" ∷ codes "MDEyMzQ1Njc4OTAxMjM0NTY3ODkwMTIzNA=" ∷ codes
    "WHSEC_MDEyMzQ1Njc4OTAxMjM0NTY3ODkwMTIzNA" ∷ codes "whsec_whsec_MDEyMzQ1Njc4OTAxMjM0NTY3ODkwMTIzNA" ∷ [])
    ≡ false ∷ false ∷ false ∷ false ∷ []
unfolding encode_symbols
no_forms = refl

-- the secret of the Standard Webhooks libraries' tests
known_secret : secret_text (49 ∷ 242 ∷ 144 ∷ 246 ∷ 191 ∷ 6 ∷ 41 ∷ 138 ∷ 171 ∷ 79 ∷ 8 ∷ 212 ∷ 60 ∷ 63 ∷ 8 ∷ 44 ∷ 246 ∷ 72
    ∷ 163 ∷ 98 ∷ 218 ∷ 45 ∷ 164 ∷ 176 ∷ [])
    ≡ codes "whsec_MfKQ9r8GKYqrTwjUPD8ILPZIo2LaLaSw"
unfolding encode_symbols
known_secret = refl

-- what statuses mean
delivered : map is_delivered_status (199 ∷ 200 ∷ 299 ∷ 300 ∷ []) ≡ false ∷ true ∷ true ∷ false ∷ []
delivered = refl

gone : map is_gone_status (404 ∷ 409 ∷ 410 ∷ 411 ∷ []) ≡ false ∷ false ∷ true ∷ false ∷ []
gone = refl

failed : map is_failed_status (0 ∷ 204 ∷ 302 ∷ 410 ∷ 500 ∷ []) ≡ true ∷ false ∷ true ∷ false ∷ true ∷ []
failed = refl

overloaded : map is_overload_status (429 ∷ 500 ∷ 502 ∷ 503 ∷ 504 ∷ 505 ∷ []) ≡ true ∷ false ∷ true ∷ true ∷ true ∷ false
    ∷ []
overloaded = refl

delays_of_failures : map delay_after (1 ∷ 2 ∷ 3 ∷ 4 ∷ 5 ∷ 6 ∷ 7 ∷ 8 ∷ 9 ∷ []) ≡ 5 ∷ 300 ∷ 1800 ∷ 7200 ∷ 18000 ∷ 36000
    ∷ 50400 ∷ 72000 ∷ 86400 ∷ []
delays_of_failures = refl
