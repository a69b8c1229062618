-- Lists of bytes.
use Rattle.std.proofs.Common.{ℕ, zero, suc, List, [], ◌∷◌, refl, slice_index, IsTrue, Fits, w8, arith}
use Rattle.std.specs.List.{list_all}
use Rattle.std.proofs.lemmas.Bool.{and_from, and_parts, lt-ltb, ltb-true}
use Rattle.base64.specs.GeneralPurpose.{IsBytes}
use Rattle.relay_types.specs.Values.{is_byte}

-- each number of a slice of bytes is one
pub are_bytes : (xs : List ℕ) → ((k : ℕ) → Fits w8 (slice_index xs k)) → IsTrue (list_all is_byte xs)
are_bytes [] h = refl
are_bytes (x ∷ xs) h = and_from _ _ (lt-ltb x 256 (let f = h 0 in omega arith)) (are_bytes xs (λ k. h (suc k)))

pub IsBytes-from_all : (xs : List ℕ) → IsTrue (list_all is_byte xs) → IsBytes xs
IsBytes-from_all [] h k = omega arith
IsBytes-from_all (x ∷ xs) h zero = ltb-true x 256 (and_parts (is_byte x) (list_all is_byte xs) h).0
IsBytes-from_all (x ∷ xs) h (suc k) = IsBytes-from_all xs (and_parts (is_byte x) (list_all is_byte xs) h).1 k
