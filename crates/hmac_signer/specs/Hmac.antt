-- HMAC over SHA-256, as RFC 2104 defines it, as functions on lists of bytes. Section numbers are that document's.
use Rattle.std.specs.Prelude.{ℕ, ◌-◌, nat_lt, List, ◌++◌, length, map, replicate, bit_xor, if◌then◌else◌}
use Rattle.sha2.specs.Sha256.{sha256}

-- a key longer than the hash function's block of 64 bytes is hashed first (2)
abbrev pub fitted_key : List ℕ → List ℕ
fitted_key key = if nat_lt 64 (length key) then sha256 key else key

-- K0: zeros are appended up to the block's length
abbrev pub with_zeros : List ℕ → List ℕ
with_zeros key = key ++ replicate (64 - length key) 0

abbrev pub block_key : List ℕ → List ℕ
block_key key = with_zeros (fitted_key key)

-- the block with each of its bytes xor the pad's byte; ipad repeats 0x36, and opad 0x5C
abbrev pub xor_pad : ℕ → List ℕ → List ℕ
xor_pad pad block = map (λ byte. bit_xor byte pad) block

-- H((block xor pad) ++ text)
abbrev pub pad_digest : ℕ → List ℕ → List ℕ → List ℕ
pad_digest pad block text = sha256 (xor_pad pad block ++ text)

-- H((K0 xor opad) ++ H((K0 xor ipad) ++ text))
unfoldable pub hmac : List ℕ → List ℕ → List ℕ
hmac key text = pad_digest 0x5C (block_key key) (pad_digest 0x36 (block_key key) text)
