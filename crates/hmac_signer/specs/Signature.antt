-- The symmetric signatures of Standard Webhooks 1.0.0, as functions on lists of bytes.
use Rattle.std.specs.Prelude.{ℕ, true, List, ◌++◌, codes, decimal}
use Rattle.std.specs.List.{join_by}
use Rattle.base64.specs.Rfc4648.{encode}
use Rattle.hmac_signer.specs.Hmac.{hmac}

-- the standard alphabet, with the padding `=` (RFC 4648, section 4)
abbrev pub base64_text : List ℕ → List ℕ
base64_text bytes = encode (codes "ABCDEFGHIJKLMNOPQRSTUVWXYZabcdefghijklmnopqrstuvwxyz0123456789+/") 61 true bytes

-- `id.timestamp.body`, the moment in whole seconds, in decimal
abbrev pub signed_content : List ℕ → ℕ → List ℕ → List ℕ
signed_content id at body = id ++ codes "." ++ decimal at ++ codes "." ++ body

-- what one secret says of a content
unfoldable pub signature : List ℕ → List ℕ → List ℕ
signature content secret = codes "v1," ++ base64_text (hmac secret content)

-- one signature for each secret, in their order, with a space between each two
abbrev pub signatures : List ℕ → List (List ℕ) → List ℕ
signatures content secrets = join_by (signature content) (codes " ") secrets

-- the value of the header `webhook-signature`; the newest secret stands first
abbrev pub signature_header : List (List ℕ) → List ℕ → ℕ → List ℕ → List ℕ
signature_header secrets id at body = signatures (signed_content id at body) secrets
